-- An edge is below 2^62: there is room for one past it. What the edge and the walker are says the rest.
use Rattle.std.proofs.Common.{rules}
use native.Mathlib.Omega.{arith}
use Rattle.step_knob.proofs.Walk.{turn_below, turned_first, turned_on}
use Rattle.step_knob.proofs.walker.Walker.turn.Goals as goal

pub overflow_add-place : goal.overflow_add-place
overflow_add-place c =
    let w = c.args.self in
    let told = rw (rw c.in-Ok-Some.is at c.in-Ok-Some.field-0-is) at (rw c.in-Ok-Some.is at c.edge-edge.ensures) in
    record { fits = omega (arith, turn_below w.words.now w.len w.polarity w.origin w.place _ told) }

pub returns-clause-walker : goal.returns-clause-walker
returns-clause-walker c = search rules

pub returns-clause-first : goal.returns-clause-first
returns-clause-first c = turned_first c.args.self _ c.edge-edge.ensures

pub returns-clause-goes_on : goal.returns-clause-goes_on
returns-clause-goes_on c = turned_on c.args.self _ _ c.edge-edge.ensures (returns-clause-walker c)
