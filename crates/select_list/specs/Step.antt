-- One rank of a list: where its reading starts, what it finds and how many words it reads. Document 02, W-201.
use Rattle.std.specs.Prelude.{Bool, false, cond, List, ℕ, ◌+◌, ◌-◌, ◌/◌, eqb, ltb}
use Rattle.std.proofs.Math.Option.{Option, none, some}
use Rattle.rank_sel.specs.Outcome.{Outcome, answer, refused, or_refuse, and_then}
use Rattle.rank_sel.specs.Rank.{ind}
use Rattle.rank_sel.specs.Seek.{seek}
use Rattle.bit_record.specs.Record.{selected}
use Rattle.inventory.specs.declared.summary.Summary.{Summary}
use Rattle.read_inventory.specs.Read.{Mark, mark_of_rank, position_of}

-- the last bit reached by reading, and the list's rank that reached it
pub record Reached : Type 0 where
  pub at : ℕ
  pub rank : ℕ

-- where a reading starts, and how many selected bits it passes
pub record Start : Type 0 where
  pub from : ℕ
  pub passes : ℕ

abbrev pub from_mark : Mark → Start
from_mark m = record { from = m.at; passes = m.residual }

-- rank r's reading starts at the later of its mark and the last bit; where both are one, as from the mark
abbrev pub start_of : Option Reached → ℕ → Mark → Start
start_of none r m = from_mark m
start_of (some b) r m = cond (ltb m.at b.at) (record { from = b.at; passes = r - b.rank }) (from_mark m)

-- there is a last bit, and it is so
abbrev pub of_last : (Reached → Bool) → Option Reached → Bool
of_last is none = false
of_last is (some b) = is b

-- the word in hand is the last bit's
abbrev pub in_hand : Option Reached → ℕ → Bool
in_hand last p = of_last (λ b. eqb (p / 64) (b.at / 64)) last

-- the words from one position's to another's, both counted
abbrev pub words_to : ℕ → ℕ → ℕ
words_to from p = p / 64 - from / 64 + 1

-- less the first where it is in hand
unfoldable pub words_read : Option Reached → ℕ → ℕ → ℕ
words_read last from p = words_to from p - ind (in_hand last from)

-- a rank's position, the words read for it, and the last bit reached then
pub record Step : Type 0 where
  pub position : ℕ
  pub words : ℕ
  pub last : Option Reached

-- rank r's bit is reached, at p, by a reading
abbrev pub reached_by : Option Reached → ℕ → ℕ → ℕ → Step
reached_by last r from p = record { position = p; words = words_read last from p; last = some (record { at = p; rank = r }) }

unfoldable pub read_from : (ℕ → Bool) → ℕ → Option Reached → ℕ → Start → Outcome Step
read_from f len last r s =
    and_then (or_refuse 10 (seek f (len - s.from) s.from s.passes)) (λ p. answer (reached_by last r s.from p))

-- a U64 mark is the answer: no word is read, and neither the last bit nor the word in hand moves
abbrev pub step_at_mark : Option Reached → Mark → Step
step_at_mark last m = record { position = m.at; words = 0; last = last }

unfoldable pub step_from : (ℕ → Bool) → ℕ → Option Reached → ℕ → Mark → Outcome Step
step_from f len last r m = cond m.exact (answer (step_at_mark last m)) (read_from f len last r (start_of last r m))

unfoldable pub step_of : List ℕ → Summary → List ℕ → List ℕ → Option Reached → ℕ → Outcome Step
step_of ws t inv sp last r =
    and_then (mark_of_rank t inv sp r) (step_from (selected t.plan.polarity ws t.plan.len) t.plan.len last r)

-- ---- a single jump's words: from the mark's to the answer's; none for a U64 rank, nor where there is no answer
abbrev pub jump_words : Outcome Mark → Outcome ℕ → ℕ
jump_words (answer m) (answer p) = cond m.exact 0 (words_to m.at p)
jump_words (answer m) (refused n) = 0
jump_words (refused n) o = 0

unfoldable pub single_words : List ℕ → Summary → List ℕ → List ℕ → ℕ → ℕ
single_words ws t inv sp r = jump_words (mark_of_rank t inv sp r) (position_of ws t inv sp r)
