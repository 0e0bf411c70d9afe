-- What is sought from the last bit on is the defined reading from there, with its word in hand.
use Rattle.select_list.specs.Hand.{from_last}
use Rattle.select_list.proofs.Reading.{read_reachable, read_as, word_held}
use Rattle.select_list.proofs.step.read_on.Goals as goal

pub reached-requires : goal.reached-requires
reached-requires c =
    read_reachable _ _ (from_last c.args.last c.args.rank) _ c.seek_on-found.ensures c.args.bits.now.admitted.short

pub returns : goal.returns
returns c =
    rw c.reached.ensures (read_as _ _ (from_last c.args.last c.args.rank) _ _ _ (word_held c.args.last) _ c.seek_on-found.ensures)
