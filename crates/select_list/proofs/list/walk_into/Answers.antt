use mathlib.Core.Path.{ap, ◌∙◌}
use lib.ListN.{set}
use native.Mathlib.Omega.{arith}
use Rattle.select_list.proofs.Walk.{stands_first, stands_all, stands_refused, stands_small, stands_low, stands_more}
use Rattle.select_list.proofs.list.walk_into.Goals as goal

pub loop-i-init : goal.loop-i-init
loop-i-init c =
    let a = c.args in
    stands_first a.index.words.now a.index.cells.summary a.index.cells.inventory.now a.index.cells.spill.now a.ranks.now a.places.now

pub returns-in_err-step : goal.returns-in_err-step
returns-in_err-step c =
    let a = c.args in
    stands_refused a.index.words.now a.index.cells.summary a.index.cells.inventory.now a.index.cells.spill.now a.ranks.now a.places.now c.loop-i.invariant
    c.loop-i-test.true _ c.in_err-step.ensures _ c.from_residual.ensures

pub sample_at-requires : goal.sample_at-requires
sample_at-requires c =
    let a = c.args in
    omega (
      arith,
      stands_low a.index.words.now a.index.cells.summary a.index.cells.inventory.now a.index.cells.spill.now a.ranks.now a.places.now c.loop-i.invariant
          c.loop-i-test.true c.in_ok-step.step c.in_ok-step.ensures,
      a.index.from.numbered,
    )

pub overflow_add-total : goal.overflow_add-total
overflow_add-total c =
    let a = c.args in
    omega (
      arith,
      stands_small a.index.words.now a.index.cells.summary a.index.cells.inventory.now a.index.cells.spill.now a.ranks.now a.places.now c.loop-i.invariant
          c.loop-i-test.true c.in_ok-step.step c.in_ok-step.ensures
          a.index.from.admitted.short,
    )

pub loop-i-preserved : goal.loop-i-preserved
loop-i-preserved c =
    let a = c.args in
    let l = c.loop-i in
    stands_more a.index.words.now a.index.cells.summary a.index.cells.inventory.now a.index.cells.spill.now a.ranks.now a.places.now l.invariant
    c.loop-i-test.true c.in_ok-step.step c.in_ok-step.ensures
    c.requires _ (c.put.ensures ∙ ap (set l.places l.i) c.sample_at.ensures)

pub returns : goal.returns
returns c =
    let a = c.args in
    stands_all a.index.words.now a.index.cells.summary a.index.cells.inventory.now a.index.cells.spill.now a.ranks.now a.places.now c.loop-i.invariant
    c.loop-i-test.false
