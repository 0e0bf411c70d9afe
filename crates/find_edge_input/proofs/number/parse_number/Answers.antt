-- An empty text and one with another byte are no number; else the digits' value is the number, where it fits.
use Rattle.std.proofs.Common.{sym, ◌∙◌}
use Rattle.find_edge_input.specs.Number.{parsed}
use Rattle.find_edge_input.proofs.number.parse_number.Goals.{then-is_empty-via-then-is_empty, then-is_empty-via-else-is_empty+then-not-all_digits}
use Rattle.find_edge_input.proofs.number.parse_number.Goals as goal

pub returns-then-is_empty : goal.returns-then-is_empty
unfolding parsed
returns-then-is_empty c =
    elim c.then-is_empty.branch [
      | then-is_empty-via-then-is_empty w ↦ simp (sym c.is_empty.ensures ∙ w.if-is_empty.true)
      | then-is_empty-via-else-is_empty+then-not-all_digits w ↦ simp (sym c.is_empty.ensures ∙ w.if-is_empty.false, sym w.all_digits.ensures ∙ w.if-not-all_digits.true)
    ]

pub returns : goal.returns
unfolding parsed
returns c =
    simp (sym c.is_empty.ensures ∙ c.if-is_empty.false, sym c.all_digits.ensures ∙ c.if-not-all_digits.false, c.value.ensures)
