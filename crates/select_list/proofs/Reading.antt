-- One rank: a reading that starts at the last bit or at the mark is the defined one, and it hands on its own last bit.
use mathlib.Core.Bool.{Bool, true, false, not}
use mathlib.Core.List.{List}
use mathlib.Core.Option.{Option}
use mathlib.Core.Path.{◌≡◌, refl, sym, ap, ◌∙◌}
use Prim.Native.Nat.{ℕ, ◌+◌, ◌-◌, ◌/◌, ◌^◌, ◌≤◌, ◌<◌}
use native.Mathlib.Omega.{arith}
use lib.Dec.{ltb}
use borrow.Author.Tests.{lt-ltb, le-ltb, eq-eqb}
use Rattle.std.specs.Prelude as std
use Rattle.std.specs.Prelude.{Result, Ok, Err}
use Rattle.std.specs.Int.{from_bool}
use Rattle.std.proofs.lemmas.Bool.{cond-true, cond-false}
use Rattle.rank_sel.specs.Outcome.{Outcome, refused, and_then}
use Rattle.rank_sel.specs.Rank.{ind}
use Rattle.rank_sel.specs.Seek.{Sought}
use Rattle.rank_sel.specs.declared.Refusal.{Refusal}
use Rattle.rank_sel.specs.declared.Refusal.TheVariants.{CellsUnlawful}
use Rattle.rank_sel.proofs.Seek.{seek_found}
use Rattle.bit_record.specs.Record.{selected, Finds}
use Rattle.bit_record.specs.Selects.{selects, RecordOf}
use Rattle.bit_record.specs.declared.record.Record.{Record}
use Rattle.bit_record.specs.declared.seeks.Found.{Found}
use Rattle.inventory.specs.declared.summary.Summary.{Summary}
use Rattle.read_inventory.specs.Read.{Mark, mark_of_rank}
use Rattle.read_inventory.proofs.Answers.{MarkRead}
use Rattle.select_list.specs.Hand.{last_of, BitIn, HandIn, from_last, Reachable, reached_as, Advances}
use Rattle.select_list.specs.Step.{Reached, Start, from_mark, start_of, in_hand, words_read, read_from, step_from, step_of}
use Rattle.select_list.specs.declared.step.Advance.{Advance}
use Rattle.select_list.specs.declared.step.Hand.{Hand}

-- ---- a reading
-- a start's word is counted where it was not in hand
words_by : (last : Option Reached) (from p i : ℕ) (fresh : Bool) → fresh ≡ not (in_hand last from) → i ≡ p / 64 → from ≤ p
    → i - from / 64 + from_bool fresh ≡ words_read last from p
unfolding words_read
words_by last from p i fresh d e l = rw (d, e) (go (in_hand last from))
  where
    go : (b : Bool) → p / 64 - from / 64 + from_bool (not b) ≡ p / 64 - from / 64 + 1 - ind b
    go true = omega arith
    go false = omega arith

module _ (f : ℕ → Bool) (len : ℕ) (s : Start) where
  sought : (q : Found) → Finds f (len - s.from) s.from s.passes (std.Some q) → Sought f (len - s.from) s.from s.passes q.position
  sought q at = seek_found f (len - s.from) s.from s.passes q.position (sym at.position)

  pub read_reachable : (q : std.Option Found) → Finds f (len - s.from) s.from s.passes q → len < 2 ^ 62 → Reachable s.from q
  read_reachable std.None at l = tt
  read_reachable (std.Some q) at l =
      let b = sought q at in
      (omega (arith, b.low, at.bit.index), omega (arith, b.low, b.high, at.bit.index))

  pub read_as : (last : Option Reached) (r : ℕ) (fresh : Bool) → fresh ≡ not (in_hand last s.from)
      → (q : std.Option Found) → Finds f (len - s.from) s.from s.passes q
      → Advances f r (read_from f len last r s) (reached_as q r s.from fresh)
  unfolding read_from
  read_as last r fresh d std.None at = record { told = rw (← at.position); hand = tt }
  read_as last r fresh d (std.Some q) at = record {
    told = rw (← at.position, words_by last s.from q.position q.index fresh d at.bit.index (sought q at).low);
    hand = record { before = omega arith; bit = at.bit };
  }

-- ---- where it starts
pub start_on : (b : Hand) (r : ℕ) (m : Mark) → m.at < b.bit.position → from_last b r ≡ start_of (last_of (std.Some b)) r m
start_on b r m l = sym (cond-true (ltb m.at b.bit.position) _ _ (lt-ltb m.at b.bit.position l))

pub start_at : (b : Hand) (r : ℕ) (m : Mark) → b.bit.position ≤ m.at → from_mark m ≡ start_of (last_of (std.Some b)) r m
start_at b r m l = sym (cond-false (ltb m.at b.bit.position) _ _ (le-ltb m.at b.bit.position l))

-- the last bit's own word is in hand
pub word_held : (b : Hand) → false ≡ not (in_hand (last_of (std.Some b)) b.bit.position)
word_held b = sym (ap not (eq-eqb (b.bit.position / 64) _ refl))

-- ---- one rank
pub hand_bit : (f : ℕ → Bool) (r : ℕ) (h : std.Option Hand) → HandIn f r h → BitIn f h
hand_bit f r std.None i = tt
hand_bit f r (std.Some h) i = i.bit

module _ (ws : List ℕ) (t : Summary) (inv sp : List ℕ) (r : ℕ) (h : std.Option Hand) where
  abbrev f : ℕ → Bool
  f = selected t.plan.polarity ws t.plan.len

  -- a refused mark
  pub step_none : refused 10 ≡ mark_of_rank t inv sp r → Advances f r (step_of ws t inv sp (last_of h) r) (Err CellsUnlawful)
  unfolding step_of
  step_none n = record { told = ap (λ (o : Outcome Mark). and_then o (step_from f t.plan.len (last_of h) r)) n; hand = tt }

  module _ (m : Mark) (w : MarkRead t inv sp r m) where
    pub step_exact : m.exact ≡ true → HandIn f r h
        → Advances f r (step_of ws t inv sp (last_of h) r) (Ok (record { position = m.at; words = 0; hand = h }))
    unfolding step_of step_from
    step_exact d i = record { told = rw (← w.told, d); hand = i }

    pub step_read : m.exact ≡ false → (rec : Record) → RecordOf ws t.plan.len t.plan.polarity rec
        → (s : Start) → s ≡ start_of (last_of h) r m → (x : Result Advance Refusal)
        → Advances (selects rec) r (read_from (selects rec) rec.len (last_of h) r s) x → Advances f r (step_of ws t inv sp (last_of h) r) x
    unfolding step_of step_from
    step_read d rec e s b x a =
        let y : Advances f r (read_from f t.plan.len (last_of h) r s) x = rw (← e.words, ← e.len, ← e.polarity) a in
        record {
          told = y.told ∙ ap (read_from f t.plan.len (last_of h) r) b ∙ sym (cond-false m.exact _ _ d)
              ∙ ap (λ (o : Outcome Mark). and_then o (step_from f t.plan.len (last_of h) r)) w.told;
          hand = y.hand;
        }
