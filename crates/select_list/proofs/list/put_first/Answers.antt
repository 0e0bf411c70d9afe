use Rattle.select_list.proofs.Written.{written_none, written_next}
use Rattle.select_list.proofs.list.put_first.Goals as goal

pub loop-i-init : goal.loop-i-init
loop-i-init c = written_none c.args.places.now

pub loop-i-preserved : goal.loop-i-preserved
loop-i-preserved c =
    let l = c.loop-i in
    written_next c.args.held.now c.args.places.now l.places _ l.i c.loop-i-test.true l.invariant c.put.ensures
