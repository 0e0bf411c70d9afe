-- What is sought from the mark on is the defined reading from there.
use Rattle.select_list.specs.Step.{from_mark}
use Rattle.select_list.proofs.Reading.{read_reachable, read_as}
use Rattle.select_list.proofs.step.read_from.Goals as goal

pub reached-requires : goal.reached-requires
reached-requires c =
    read_reachable _ _ (from_mark c.args.mark) _ c.seek_with-found.ensures c.args.bits.now.admitted.short

pub returns : goal.returns
returns c =
    rw c.reached.ensures (read_as _ _ (from_mark c.args.mark) _ _ _ c.word_of-start.ensures.fresh _ c.seek_with-found.ensures)
