-- What the values that the list's code hands on stand for, in the words of Step and List.
use Rattle.std.specs.Prelude as std
use Rattle.std.specs.Int.{from_bool}
use Rattle.std.specs.Prelude.{Bool, not, List, [], ◌∷◌, ◌≡◌, ℕ, ◌+◌, ◌-◌, ◌*◌, ◌/◌, ◌^◌, ◌≤◌, ◌<◌, length, get_or, Result, Ok, Err, IfSome}
use Rattle.std.proofs.Math.Option.{Option, none, some}
use Rattle.rank_sel.specs.Outcome.{Outcome, answer, and_then, outcome}
use Rattle.rank_sel.specs.declared.Refusal.{Refusal}
use Rattle.rank_sel.specs.declared.Refusal.TheVariants.{CellsUnlawful}
use Rattle.select_in_word.specs.Holds.{Holds}
use Rattle.bit_record.specs.Record.{FoundIn}
use Rattle.bit_record.specs.declared.seeks.Found.{Found}
use Rattle.select_list.specs.List.{Walk, NeverFalls, Listed, samples_from, total_of, places_after}
use Rattle.select_list.specs.Step.{Reached, Start, in_hand, Step}
use Rattle.select_list.specs.declared.step.Advance.{Advance}
use Rattle.select_list.specs.declared.step.Hand.{Hand}
use Rattle.select_list.specs.declared.step.MarkWord.{MarkWord}

-- ---- one rank
abbrev pub last_of : std.Option Hand → Option Reached
last_of (std.Some h) = some (record { at = h.bit.position; rank = h.rank })
last_of std.None = none

-- the last bit is the record's
abbrev pub BitIn : (ℕ → Bool) → std.Option Hand → Type 0
BitIn f hand = IfSome hand (λ h. FoundIn f h.bit)

-- and a rank up to r reached it
pub record Held (f : ℕ → Bool) (r : ℕ) (h : Hand) : Type 0 where
  pub before : h.rank ≤ r
  pub bit : FoundIn f h.bit

abbrev pub HandIn : (ℕ → Bool) → ℕ → std.Option Hand → Type 0
HandIn f r hand = IfSome hand (Held f r)

-- a place's word, which was read where it was not in hand
pub record StartWord (f : ℕ → Bool) (last : Option Reached) (at : ℕ) (w : MarkWord) : Type 0 where
  pub word : Holds 64 f (64 * (at / 64)) w.word
  pub fresh : w.fresh ≡ not (in_hand last at)

-- from the last bit on
abbrev pub from_last : Hand → ℕ → Start
from_last h r = record { from = h.bit.position; passes = r - h.rank }

-- a bit in from's word or after it
abbrev pub Reachable : ℕ → std.Option Found → Type 0
Reachable from found = IfSome found (λ b. (from / 64 ≤ b.index) × (b.index < 2 ^ 62))

-- rank r's reading from there on, by the bit it found
abbrev pub reached_as : std.Option Found → ℕ → ℕ → Bool → Result Advance Refusal
reached_as (std.Some b) r from fresh =
    Ok (record { position = b.position; words = b.index - from / 64 + from_bool fresh; hand = std.Some (record { bit = b; rank = r }) })
reached_as std.None r from fresh = Err CellsUnlawful

abbrev pub step_by : Advance → Step
step_by x = record { position = x.position; words = x.words; last = last_of x.hand }

abbrev pub stepped : Result Advance Refusal → Outcome Step
stepped x = and_then (outcome x) (λ y. answer (step_by y))

abbrev pub HandAfter : (ℕ → Bool) → ℕ → Result Advance Refusal → Type 0
HandAfter f r (Ok x) = HandIn f r x.hand
HandAfter f r (Err e) = Unit {0}

-- rank r's step is told, and what is in hand after it is so too
pub record Advances (f : ℕ → Bool) (r : ℕ) (o : Outcome Step) (x : Result Advance Refusal) : Type 0 where
  pub told : stepped x ≡ o
  pub hand : HandAfter f r x

-- ---- the walk
-- each rank is below N, and none below the one before it
pub record Walkable (num : ℕ) (ranks : List ℕ) : Type 0 where
  pub below : (i : ℕ) → i < length ranks → get_or ranks i 0 < num
  pub rising : NeverFalls ranks

-- samples written over what was there, as far as there is room
unfoldable pub written : List ℕ → List ℕ → List ℕ
written ps [] = []
written [] (y ∷ l) = y ∷ l
written (p ∷ ps) (y ∷ l) = p ∷ written ps l

-- a walk tells its total, and its samples are written where it is answered
pub record Wrote (origin : ℕ) (o : Outcome Walk) (l₀ l : List ℕ) (r : Result ℕ Refusal) : Type 0 where
  pub told : outcome r ≡ and_then o (λ w. answer w.total)
  pub places : (w : Walk) → o ≡ answer w → l ≡ written (samples_from origin w) l₀

-- ---- the list: all samples are written, or none
pub record Placed (o : Outcome Listed) (l₀ l : List ℕ) (r : Result ℕ Refusal) : Type 0 where
  pub told : outcome r ≡ total_of o
  pub places : l ≡ places_after o l₀
