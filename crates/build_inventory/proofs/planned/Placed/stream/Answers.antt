-- Mark 0 is the entry's start; a U64 entry's stream begins one lane on, which `next_lane` passes.
use native.Mathlib.Omega.{arith}
use mathlib.Core.Path.{◌∙◌}
use Rattle.inventory.proofs.Marks.{mark_first}
use Rattle.build_inventory.specs.Placed.{AtMark, pos_at}
use Rattle.build_inventory.proofs.Positions.{start_here, streams}
use Rattle.build_inventory.proofs.planned.Placed.stream.Goals.{After-found_at}
use Rattle.build_inventory.proofs.planned.Placed.stream.Goals as goal

pub found_at-requires : goal.found_at-requires
found_at-requires c =
    let e = c.record-record.ensures in
    rw (e.words, e.len, e.polarity) (start_here c.args.self.now)

begins : (c : After-found_at) → AtMark c.args.self.now c.found_at.result 0
begins c l =
    let r = c.args.self.now in
    let e = c.record-record.ensures in
    record {
      place = c.found_at.ensures.1 ∙ mark_first (pos_at r) r.entry (streams r).begins;
      bit = rw (← e.words, ← e.len, ← e.polarity) c.found_at.ensures.0;
    }

pub invariant_of-stream : goal.invariant_of-stream
invariant_of-stream c =
    record { stands = begins (goal.at.invariant_of-stream c).After-found_at }

pub invariant_of-stream-2 : goal.invariant_of-stream-2
invariant_of-stream-2 c =
    record { stands = begins (goal.at.invariant_of-stream-2 c).After-found_at }

pub returns : goal.returns
returns c =
    let e = c.next_lane.ensures in
    (e.entry, omega (arith, e.number, c.if-self-eq0.false, (streams c.args.self.now).shaped.from))
