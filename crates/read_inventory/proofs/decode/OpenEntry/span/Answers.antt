-- What the next entry's first cell says less this entry's start is the span.
use mathlib.Core.Path.{ap, ◌∙◌}
use Prim.Native.Nat.{ℕ, ◌-◌}
use borrow.Author.Rules.{rules}
use Rattle.read_inventory.proofs.Reading.{next_in, span_read}
use Rattle.read_inventory.proofs.decode.OpenEntry.span.Goals as goal

pub overflow_add-next : goal.overflow_add-next
overflow_add-next c =
    let l = next_in _ _ _ c.args.self.read in search rules

pub offset_bounds-cells-next : goal.offset_bounds-cells-next
offset_bounds-cells-next c =
    let l = next_in _ _ _ c.args.self.read in search rules

pub returns : goal.returns
returns c =
    let a = c.args.self in
    span_read a.cells.summary a.cells.inventory.now a.head.entry a.head c.entry_len.result c.saturating_sub.result
    a.read.read c.entry_len.ensures
    (c.saturating_sub.ensures ∙ ap (λ (z : ℕ). z - a.head.start) c.low_bits.ensures)
