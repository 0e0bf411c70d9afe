-- The kind told is the entry's (`kind_as`), and for each return a law `spacing-..` says that it is what is defined.
use mathlib.Core.Path.{◌≡◌, ap, ◌∙◌}
use Prim.Native.Nat.{ℕ}
use native.Mathlib.Omega.{arith}
use Rattle.rank_sel.specs.Outcome.{answer}
use Rattle.inventory.specs.Shape.{log2_ones_per_sub32}
use Rattle.inventory.specs.declared.shape.SpanType.{SpanType}
use Rattle.read_inventory.specs.Read.{kind_at}
use Rattle.read_inventory.proofs.Reading.{kind_as, spacing_16, spacing_64, spacing_small, spacing_32}
use Rattle.read_inventory.proofs.decode.OpenEntry.log2_quantum.Goals.{Start}
use Rattle.read_inventory.proofs.decode.OpenEntry.log2_quantum.Goals as goal

module _ (c : Start) where
  kind : let e = c.args.self in (k : SpanType) → e.head.kind ≡ k → kind_at e.cells.summary e.cells.inventory.now e.head.entry ≡ k
  kind k = kind_as _ _ _ c.args.self.head k c.args.self.read.read

pub returns-then-span-lt65537 : goal.returns-then-span-lt65537
returns-then-span-lt65537 c =
    spacing_small _ _ _ (kind (goal.at.returns-then-span-lt65537 c).Start _ c.in-U32.is)
    (omega (arith, c.span-span.ensures, c.if-span-lt65537.true))

pub returns-in-U16 : goal.returns-in-U16
returns-in-U16 c =
    spacing_16 _ _ _ (kind (goal.at.returns-in-U16 c).Start _ c.in-U16.is)

pub returns-else-span-lt65537 : goal.returns-else-span-lt65537
returns-else-span-lt65537 c =
    ap answer
    (c.log2_ones_per_sub32.ensures.0 ∙ ap (λ (z : ℕ). log2_ones_per_sub32 z c.args.self.cells.summary.plan.log2_ones_per_sub16)
    c.span-span.ensures)
    ∙ spacing_32 _ _ _ (kind (goal.at.returns-else-span-lt65537 c).Start _ c.in-U32.is)
    (omega (arith, c.span-span.ensures, c.if-span-lt65537.false))

pub returns-in-U64 : goal.returns-in-U64
returns-in-U64 c =
    spacing_64 _ _ _ (kind (goal.at.returns-in-U64 c).Start _ c.in-U64.is)
