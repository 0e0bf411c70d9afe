-- A list on a sound index: each reading starts at the bit of a rank not above its own, and not before its mark; so it ends
-- at its own bit, and reads no more words than the single jump.
use mathlib.Core.Bool.{Bool, true, false}
use mathlib.Core.List.{List, [], ◌∷◌, ◌++◌, map, append_assoc, append-nil, map-map}
use mathlib.Core.Option.{Option, none, some}
use mathlib.Core.Path.{◌≡◌, refl, sym, ap, ap₂, ◌∙◌}
use Prim.Native.Nat.{ℕ, zero, suc, ◌+◌, ◌-◌, ◌≤◌, ◌<◌}
use native.Mathlib.Omega.{arith}
use lib.Dec.{ltb}
use lib.ListN.{length, get_or}
use borrow.Author.Tests.{ltb-true}
use Rattle.rank_sel.specs.Outcome.{answer}
use Rattle.rank_sel.specs.Rank.{rank}
use Rattle.rank_sel.specs.Seek.{seek, select}
use Rattle.rank_sel.proofs.Select.{select-seek}
use Rattle.bit_record.specs.Record.{selected, sample_at}
use Rattle.spacing.specs.Spacing.{N}
use Rattle.inventory.specs.declared.summary.Summary.{Summary}
use Rattle.read_inventory.specs.Read.{Mark, mark_of_rank, position_of}
use Rattle.select_list.specs.List.{Walk, start, after, walk, falls_from, falls, any_too_large, Listed, listed, walk_of, sum_over}
use Rattle.select_list.specs.Step.{Reached, Start, from_mark, start_of, words_to, words_read, Step, reached_by, read_from, step_at_mark, step_from, step_of, jump_words, single_words}
use Rattle.select_list.proofs.Ranks.{falls-cons, large_cons}

pub mapped : (v : ℕ → ℕ) (rs : List ℕ) (i : ℕ) → i < length rs → get_or (map v rs) i 0 ≡ v (get_or rs i 0)
mapped v [] i h = absurd (omega arith)
mapped v (r ∷ rs) zero h = refl
mapped v (r ∷ rs) (suc i) h = mapped v rs i (omega arith)

-- ---- one rank
-- a reading that starts at or after the mark reads no more words than one from there
words_le : (last : Option Reached) (m from p : ℕ) → m ≤ from → words_read last from p ≤ words_to m p
unfolding words_read
words_le last m from p h = omega arith

module _ (f : ℕ → Bool) (len : ℕ) where
  -- a reading for rank r starts at the bit of a rank, its own, and passes as many as r exceeds that
  pub record Starts (r : ℕ) (s : Start) : Type 0 where
    pub own : ℕ
    pub from : s.from ≡ select f len own
    pub passes : own + s.passes ≡ r

  -- rank r's mark is such a start; an exact one is the bit itself
  pub record Leads (r : ℕ) (m : Mark) : Type 0 where
    pub start : Starts r (from_mark m)
    pub exact : m.exact ≡ true → m.residual ≡ 0

  -- the last bit reached is the bit of its rank, which is not above q
  abbrev Known : ℕ → Option Reached → Type 0
  Known q none = Unit {0}
  Known q (some b) = (b.at ≡ select f len b.rank) × (b.rank ≤ q)

  known_up : (q r : ℕ) (last : Option Reached) → q ≤ r → Known q last → Known r last
  known_up q r none h k = tt
  known_up q r (some b) h k = (k.0, omega (arith, k.1))

  record StepRight (last : Option Reached) (r : ℕ) (m : Mark) (y : Step) : Type 0 where
    found : step_from f len last r m ≡ answer y
    position : y.position ≡ select f len r
    fewer : y.words ≤ jump_words (answer m) (answer (select f len r))
    known : Known r y.last

  read_right : (last : Option Reached) (r : ℕ) (s : Start) → r < rank f len → Starts r s
      → read_from f len last r s ≡ answer (reached_by last r s.from (select f len r))
  unfolding read_from
  read_right last r s h a =
      let q : seek f (len - s.from) s.from s.passes ≡ some (select f len r) =
      ap (λ (i : ℕ). seek f (len - i) i s.passes) a.from
      ∙ select-seek f len a.own s.passes (rw a.passes h)
      ∙ ap (λ (i : ℕ). some (select f len i)) a.passes in
      rw q

  module _ (r : ℕ) (m : Mark) (h : r < rank f len) (w : Leads r m) where
    step_exact : (last : Option Reached) → Known r last → m.exact ≡ true → StepRight last r m (step_at_mark last m)
    unfolding step_from
    step_exact last k e = record {
      found = rw e;
      position = w.start.from ∙ ap (select f len) (omega (arith, w.start.passes, w.exact e));
      fewer = omega arith;
      known = k;
    }

    step_by_lem : (last : Option Reached) (s : Start) → m.exact ≡ false → start_of last r m ≡ s → Starts r s → m.at ≤ s.from
        → StepRight last r m (reached_by last r s.from (select f len r))
    unfolding step_from
    step_by_lem last s e q a l = record {
      found = rw (q, e) (read_right last r s h a);
      position = refl;
      fewer = rw e (words_le last m.at s.from (select f len r) l);
      known = (refl, omega arith);
    }

    step_read : (last : Option Reached) → Known r last → m.exact ≡ false → (y : Step) × StepRight last r m y
    step_read none k e = (_, step_by_lem none (from_mark m) e refl w.start (omega arith))
    step_read (some b) k e = later (ltb m.at b.at) refl
      where
        later : (c : Bool) → ltb m.at b.at ≡ c → (y : Step) × StepRight (some b) r m y
        later true q =
            let s : Start = record { from = b.at; passes = r - b.rank } in
            let a : Starts r s = record { own = b.rank; from = k.0; passes = omega (arith, k.1) } in
            (_, step_by_lem (some b) s e (rw q) a (omega (arith, ltb-true m.at b.at q)))
        later false q = (_, step_by_lem (some b) (from_mark m) e (rw q) w.start (omega arith))

    step_right : (last : Option Reached) → Known r last → (y : Step) × StepRight last r m y
    step_right last k = go m.exact refl
      where
        go : (b : Bool) → m.exact ≡ b → (y : Step) × StepRight last r m y
        go true e = (_, step_exact last k e)
        go false e = step_read last k e

-- ---- the list
-- what the walk needs of an index: f says which of len positions are selected, each rank's mark leads to its bit, and the
-- single jump finds it
pub record Leading (ws : List ℕ) (t : Summary) (inv sp : List ℕ) (f : ℕ → Bool) (len : ℕ) : Type 0 where
  pub bits : selected t.plan.polarity ws t.plan.len ≡ f
  pub length : t.plan.len ≡ len
  pub below : (r : ℕ) → r < N t.plan → r < rank f len
  pub mark : (r : ℕ) → r < N t.plan → (m : Mark) × (mark_of_rank t inv sp r ≡ answer m) × Leads f len r m
  pub single : (r : ℕ) → r < N t.plan → position_of ws t inv sp r ≡ answer (select f len r)

module _ {ws : List ℕ} {t : Summary} {inv sp : List ℕ} {f : ℕ → Bool} {len : ℕ} (g : Leading ws t inv sp f len) where
  -- the bits of the ranks, and no more words than single jumps read
  record Walks (w : Walk) (rs : List ℕ) (v : Walk) : Type 0 where
    found : walk ws t inv sp w rs ≡ answer v
    positions : v.positions ≡ w.positions ++ map (select f len) rs
    fewer : v.total ≤ w.total + sum_over (single_words ws t inv sp) rs

  step_of_lem : (last : Option Reached) (r : ℕ) (m : Mark) → mark_of_rank t inv sp r ≡ answer m
      → step_of ws t inv sp last r ≡ step_from f len last r m
  unfolding step_of
  step_of_lem last r m e = rw e (ap₂ (λ (o : ℕ → Bool) (n : ℕ). step_from o n last r m) g.bits g.length)

  single_words_lem : (r : ℕ) (m : Mark) → r < N t.plan → mark_of_rank t inv sp r ≡ answer m
      → single_words ws t inv sp r ≡ jump_words (answer m) (answer (select f len r))
  unfolding single_words
  single_words_lem r m h e = rw (e, g.single r h)

  walk_right : (rs : List ℕ) (w : Walk) (q : ℕ) → Known f len q w.last → falls_from q rs ≡ false → any_too_large (N t.plan) rs ≡ false
      → (v : Walk) × Walks w rs v
  unfolding walk sum_over
  walk_right [] w q k a b = (w, record { found = refl; positions = sym (append-nil w.positions); fewer = omega arith })
  walk_right (r ∷ rs) w q k a b =
      let c = falls-cons q r rs a in
      let d = large_cons (N t.plan) r rs b in
      let m = g.mark r d.0 in
      let x = step_right f len r m.0 (g.below r d.0) m.2 w.last (known_up f len q r w.last c.0 k) in
      let y : Step = x.0 in
      let i = walk_right rs (after w y) r x.1.known c.1 d.1 in (
        i.0,
        record {
          found = rw (step_of_lem w.last r m.0 m.1 ∙ x.1.found) i.1.found;
          positions = i.1.positions
              ∙ append_assoc w.positions (y.position ∷ []) (map (select f len) rs)
              ∙ ap (λ (j : ℕ). w.positions ++ (j ∷ map (select f len) rs)) x.1.position;
          fewer = omega (arith, i.1.fewer, x.1.fewer, single_words_lem r m.0 d.0 m.1);
        },
      )

  -- all ranks of a list, from the start
  pub record Lists (ranks : List ℕ) (x : Listed) : Type 0 where
    pub found : walk_of ws t inv sp ranks ≡ answer x
    pub samples : x.samples ≡ map (λ r. sample_at t.origin (select f len r)) ranks
    pub fewer : x.total ≤ sum_over (single_words ws t inv sp) ranks

  pub walk-lists : (ranks : List ℕ) → falls ranks ≡ false → any_too_large (N t.plan) ranks ≡ false → (x : Listed) × Lists ranks x
  unfolding walk_of
  walk-lists ranks a b =
      let v = walk_right ranks start 0 tt a b in (
        listed t.origin v.0,
        record {
          found = rw v.1.found;
          samples = ap (map (sample_at t.origin)) v.1.positions ∙ map-map _ _ ranks;
          fewer = omega (arith, v.1.fewer);
        },
      )
