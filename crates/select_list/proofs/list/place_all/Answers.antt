-- The first walk's refusal leaves the places; else they are written by a second walk, or from what the first held aside.
use Rattle.select_list.proofs.Placed.{placed_refused, placed_again, placed_aside}
use Rattle.select_list.proofs.list.place_all.Goals as goal

pub returns-in_err-total : goal.returns-in_err-total
returns-in_err-total c =
    let a = c.args in
    placed_refused a.index.words.now a.index.cells.summary a.index.cells.inventory.now a.index.cells.spill.now a.ranks.now _ _ a.places.now _ c.in_err-total.ensures _
    c.from_residual.ensures

pub returns-then-n-gt-HELD : goal.returns-then-n-gt-HELD
returns-then-n-gt-HELD c =
    let a = c.args in
    placed_again a.index.words.now a.index.cells.summary a.index.cells.inventory.now a.index.cells.spill.now a.ranks.now _ _ _ c.in_ok-total.ensures a.places.now _
    c.walk_into-then-n-gt-HELD.result c.walk_into-then-n-gt-HELD.ensures c.requires.1

pub returns : goal.returns
returns c =
    let a = c.args in
    placed_aside a.index.words.now a.index.cells.summary a.index.cells.inventory.now a.index.cells.spill.now a.ranks.now _ _ _ c.in_ok-total.ensures a.places.now _
    c.if-n-gt-HELD.false c.requires.1 c.put_first.ensures
