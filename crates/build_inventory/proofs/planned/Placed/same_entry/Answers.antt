-- The spilled cells are compared, from where the own cells leave the stream, where these agree.
use mathlib.Core.Bool.{true}
use mathlib.Core.Path.{refl, ◌∙◌}
use native.Mathlib.Omega.{arith}
use lib.Seq.{length-take-le}
use Rattle.spacing.specs.Spacing.{M}
use Rattle.inventory.specs.Index.{spill_cells}
use Rattle.build_inventory.proofs.Comparing.{both_yes}
use Rattle.build_inventory.proofs.Positions.{streams}
use Rattle.build_inventory.proofs.Cells.{cursor_small}
use Rattle.build_inventory.proofs.planned.Placed.same_entry.Goals as goal

pub same_cells-requires : goal.same_cells-requires
same_cells-requires c =
    let r = c.args.self.now in
    let e = c.requires.1 in
    rw (length-take-le r.entry.spilled c.args.spill.now e)
    (cursor_small (streams r).shaped (M r.planned.plan) c.in-Some.stream.k r.entry.spilled r.planned.of.small_m (omega (arith, c.in-Some.ensures.number))
    (omega (arith, e, c.well_formed.1.1.1)))

pub returns-in-Some : goal.returns-in-Some
unfolding spill_cells
returns-in-Some c =
    let w = c.in-Some.ensures in
    both_yes true _ _ _ w.same refl
    (c.is_some.ensures ∙ rw (w.entry, w.number, length-take-le c.args.self.now.entry.spilled c.args.spill.now c.requires.1) at c.same_cells.ensures.same)
