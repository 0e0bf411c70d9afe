-- A summary that `admit` answers is that of the record and the choice, and its index has room; `fill` leaves it. A refusal leaves all.
use mathlib.Core.Path.{sym}
use lib.ListN.{length}
use Rattle.build_inventory.proofs.Outcomes.{Admission, admission, built_as}
use Rattle.build_inventory.proofs.build.Goals.{In_ok-summary}
use Rattle.build_inventory.proofs.build.Goals as goal

admits : (c : In_ok-summary) →
    let a = c.args in
    Admission a.words.now a.len a.origin a.polarity a.choice (length a.inventory.now) (length a.spill.now) c.in_ok-summary.summary
admits c = let a = c.args in admission a.words.now a.len a.origin a.polarity a.choice _ _ _ (sym c.in_ok-summary.ensures)

pub invariant_of-planned : goal.invariant_of-planned
invariant_of-planned c =
    record { of = (admits (goal.at.invariant_of-planned c).In_ok-summary).plans }

pub fill-requires : goal.fill-requires
fill-requires c =
    let m = admits (goal.at.fill-requires c).In_ok-summary in
    record { cells = m.room; spills = m.spill_room }

pub returns : goal.returns
returns c =
    let a = c.args in
    let f = c.fill in
    built_as a.words.now a.inventory.now a.spill.now _ a.origin c.in_ok-summary.summary f.new.inventory f.new.spill
    c.in_ok-summary.ensures (admits (goal.at.returns c).In_ok-summary).is f.ensures
