-- The loop over a list. A reading never starts before the last bit, so no word is counted twice and the total stays at most the
-- number of the last bit's word and one; after i ranks the defined walk goes on from what is in hand.
use mathlib.Core.Bool.{Bool, true, false, cond}
use mathlib.Core.List.{List, [], ◌∷◌, ◌++◌, map, map-append}
use mathlib.Core.Option.{Option, none, some}
use mathlib.Core.Path.{◌≡◌, refl, sym, ap, subst, ◌∙◌}
use Prim.Native.Nat.{ℕ, suc, ◌+◌, ◌-◌, ◌/◌, ◌^◌, ◌≤◌, ◌<◌}
use native.Mathlib.Nat.{add-zero}
use native.Mathlib.Numerals.{add-one}
use native.Mathlib.Omega.{arith}
use lib.Dec.{eqb, ltb}
use lib.ListN.{length, get_or, drop, set, length-append, length-map}
use lib.Seq.{drop-cons, drop-length}
use borrow.Author.Tests.{ltb-false, eqb-true, eqb-false}
use Rattle.std.specs.Prelude as std
use Rattle.std.specs.Prelude.{Result, Ok, Err, IsErr, IsErrAnd}
use Rattle.rank_sel.specs.Outcome.{Outcome, answer, refused, number_of, or_refuse, and_then}
use Rattle.rank_sel.specs.Seek.{seek}
use Rattle.rank_sel.specs.declared.Refusal.{Refusal}
use Rattle.rank_sel.proofs.Outcome.{answer_is, then_answer}
use Rattle.rank_sel.proofs.Seek.{answer_sought}
use Rattle.bit_record.specs.Record.{selected, sample_at}
use Rattle.spacing.specs.Spacing.{N}
use Rattle.inventory.specs.declared.summary.Summary.{Summary}
use Rattle.read_inventory.specs.Read.{Mark, mark_of_rank}
use Rattle.read_inventory.proofs.Answers.{mark_low}
use Rattle.select_list.specs.Hand.{last_of, HandIn, step_by, Advances, Walkable, written, Wrote}
use Rattle.select_list.specs.List.{Walk, start, after, walk, samples_from}
use Rattle.select_list.specs.Step.{Reached, Start, from_mark, start_of, words_read, Step, reached_by, read_from, step_at_mark, step_from, step_of}
use Rattle.select_list.specs.declared.step.Advance.{Advance}
use Rattle.select_list.specs.declared.step.Hand.{Hand}
use Rattle.select_list.proofs.Written.{written_none, written_more}

-- ---- the total: so many words are read, none past the last bit's
abbrev pub Total : ℕ → Option Reached → ℕ → Type 0
Total len none total = total ≡ 0
Total len (some b) total = (total ≤ b.at / 64 + 1) × (b.at < len)

total_small : (len : ℕ) (last : Option Reached) (total : ℕ) → Total len last total → len < 2 ^ 62 → total < 2 ^ 62
total_small len none total h l = omega arith
total_small len (some b) total h l = omega arith

-- a reading starts at or after the last bit
NotBefore : Option Reached → ℕ → Type 0
NotBefore none from = Unit {0}
NotBefore (some b) from = b.at ≤ from

start-after : (last : Option Reached) (r : ℕ) (m : Mark) → NotBefore last (start_of last r m).from
unfolding NotBefore
start-after none r m = tt
start-after (some b) r m = go (ltb m.at b.at) refl
  where
    go : (c : Bool) → ltb m.at b.at ≡ c → b.at ≤ (cond c (record { from = b.at; passes = r - b.rank }) (from_mark m)).from
    go true e = omega arith
    go false e = ltb-false m.at b.at e

words_total : (len : ℕ) (last : Option Reached) (total from p : ℕ) → Total len last total → NotBefore last from → from ≤ p
    → total + words_read last from p ≤ p / 64 + 1
unfolding words_read NotBefore
words_total len none total from p h l le = omega arith
words_total len (some b) total from p h l le = go (eqb (from / 64) (b.at / 64)) refl
  where
    go : (c : Bool) → eqb (from / 64) (b.at / 64) ≡ c → total + words_read (some b) from p ≤ p / 64 + 1
    go true e =
        let i = eqb-true (from / 64) (b.at / 64) e in
        rw e (omega arith)
    go false e =
        let i : (from / 64 ≡ b.at / 64) → ⊥ = eqb-false (from / 64) (b.at / 64) e in
        rw e (omega arith)

-- a step's words are counted so, and its position lies in the record
abbrev Kept : ℕ → ℕ → Step → Type 0
Kept len total y = Total len y.last (total + y.words) × (y.position < len)

module _ (f : ℕ → Bool) (len : ℕ) (last : Option Reached) (r total : ℕ) (h : Total len last total) (x : Step) where
  read_kept : (s : Start) → NotBefore last s.from → read_from f len last r s ≡ answer x → Kept len total x
  unfolding read_from
  read_kept s l e =
      let a = then_answer (or_refuse 10 (seek f (len - s.from) s.from s.passes)) (λ p. answer (reached_by last r s.from p)) x e in
      let b = answer_sought f (len - s.from) s.from s.passes a.0 10 a.1 in
      let p : a.0 < len = omega (arith, b.low, b.high) in
      subst (Kept len total) (answer_is a.2) ((words_total len last total s.from a.0 h l b.low, p), p)

  from_kept : (b : Bool) (m : Mark) → m.at < len
      → cond b (answer (step_at_mark last m)) (read_from f len last r (start_of last r m)) ≡ answer x → Kept len total x
  from_kept true m l e = subst (Kept len total) (answer_is e) (subst (Total len last) (sym (add-zero total)) h, l)
  from_kept false m l e = read_kept (start_of last r m) (start-after last r m) e

step_kept : (ws : List ℕ) (t : Summary) (inv sp : List ℕ) (last : Option Reached) (r total : ℕ) (x : Step)
    → Total t.plan.len last total → answer x ≡ step_of ws t inv sp last r → Kept t.plan.len total x
unfolding step_of step_from
step_kept ws t inv sp last r total x h e =
    let f = selected t.plan.polarity ws t.plan.len in
    let a = then_answer (mark_of_rank t inv sp r) (step_from f t.plan.len last r) x (sym e) in
    from_kept f t.plan.len last r total h x a.0.exact a.0 (mark_low t inv sp r a.0 a.1) a.2

-- what is in hand for a rank is so for any later one
hand_later : (f : ℕ → Bool) (r q : ℕ) (h : std.Option Hand) → HandIn f r h → r ≤ q → HandIn f q h
hand_later f r q std.None i l = tt
hand_later f r q (std.Some h) i l = record { before = omega (arith, i.before, l); bit = i.bit }

-- ---- after i ranks
module _ (ws : List ℕ) (t : Summary) (inv sp ranks : List ℕ) where
  abbrev whole : Outcome Walk
  whole = walk ws t inv sp start ranks

  abbrev f : ℕ → Bool
  f = selected t.plan.polarity ws t.plan.len

  abbrev sample : ℕ → ℕ
  sample p = sample_at t.origin p

  module _ (l₀ : List ℕ) where
    -- so many positions are found and their samples written, and the walk goes on with the other ranks
    pub record Stands (l : List ℕ) (h : std.Option Hand) (total i : ℕ) : Type 0 where
      pub positions : List ℕ
      pub found : length positions ≡ i
      pub within : i ≤ length ranks
      pub goes : whole ≡ walk ws t inv sp (record { positions = positions; total = total; last = last_of h }) (drop i ranks)
      pub counted : Total t.plan.len (last_of h) total
      pub hand : i < length ranks → HandIn f (get_or ranks i 0) h
      pub places : l ≡ written (map sample positions) l₀

    pub stands_first : Stands l₀ std.None 0 0
    stands_first = record {
      positions = [];
      found = refl;
      within = omega arith;
      goes = refl;
      counted = refl;
      hand = λ a. tt;
      places = written_none l₀;
    }

    module _ {l : List ℕ} {h : std.Option Hand} {total i : ℕ} (s : Stands l h total i) where
      abbrev samples : List ℕ
      samples = map sample s.positions

      abbrev here : Walk
      here = record { positions = s.positions; total = total; last = last_of h }

      pub stands_all : length ranks ≤ i → Wrote t.origin whole l₀ l (Ok total)
      unfolding walk
      stands_all g =
          let n : i ≡ length ranks = omega (arith, s.within) in
          let e : whole ≡ answer here = s.goes ∙ ap (walk ws t inv sp here) (ap (λ (j : ℕ). drop j ranks) n ∙ drop-length ranks) in
          record { told = rw e; places = λ w d. s.places ∙ ap (λ (u : Walk). written (samples_from t.origin u) l₀) (answer_is (sym e ∙ d)) }

      module _ (g : i < length ranks) where
        abbrev step : Outcome Step
        step = step_of ws t inv sp (last_of h) (get_or ranks i 0)

        walk_next : (o : Outcome Step) → o ≡ step → whole ≡ and_then o (λ y. walk ws t inv sp (after here y) (drop (suc i) ranks))
        unfolding walk
        walk_next o told =
            s.goes
            ∙ ap (walk ws t inv sp here) (drop-cons ranks i 0 g)
            ∙ ap (λ (p : Outcome Step). and_then p (λ y. walk ws t inv sp (after here y) (drop (suc i) ranks))) (sym told)

        pub stands_refused : (e : Refusal) → Advances f (get_or ranks i 0) step (Err e) → (x : Result ℕ Refusal)
            → IsErr x × IsErrAnd x (λ z. z ≡ e) → Wrote t.origin whole l₀ l x
        stands_refused e a (Err z) k =
            let q : whole ≡ refused (number_of e) = walk_next (refused (number_of e)) a.told in
            record { told = ap (λ (y : Refusal). refused (number_of y)) k.1 ∙ rw q; places = λ w d. cc }
        stands_refused e a (Ok z) k = absurd k.1

        module _ (y : Advance) (taken : Advances f (get_or ranks i 0) step (Ok y)) where
          kept : Kept t.plan.len total (step_by y)
          kept = step_kept ws t inv sp (last_of h) (get_or ranks i 0) total (step_by y) s.counted taken.told

          pub stands_small : t.plan.len < 2 ^ 62 → total + y.words < 2 ^ 62
          stands_small k = total_small t.plan.len (last_of y.hand) (total + y.words) kept.0 k

          pub stands_low : y.position < t.plan.len
          stands_low = kept.1

          pub stands_more : Walkable (N t.plan) ranks → (l' : List ℕ) → l' ≡ set l i (sample y.position)
              → Stands l' y.hand (total + y.words) (i + 1)
          stands_more k l' el = record {
            positions = s.positions ++ (y.position ∷ []);
            found = length-append s.positions (y.position ∷ []) ∙ omega (arith, s.found);
            within = omega arith;
            goes = rw (add-one i) (walk_next (answer (step_by y)) taken.told);
            counted = kept.0;
            hand = λ j. hand_later f (get_or ranks i 0) (get_or ranks (i + 1) 0) y.hand taken.hand (k.rising i j);
            places =
                el
                ∙ ap (λ (z : List ℕ). set z i (sample y.position)) s.places
                ∙ ap (λ (j : ℕ). set (written samples l₀) j (sample y.position)) (sym (length-map s.positions sample ∙ s.found))
                ∙ written_more samples l₀ (sample y.position)
                ∙ ap (λ (z : List ℕ). written z l₀) (sym (map-append sample s.positions (y.position ∷ [])));
          }
