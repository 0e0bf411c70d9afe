-- The shift brings the lane down and the mask keeps its bits, as `lane_masked` says.
use Rattle.read_inventory.proofs.Reading.{lane_masked}
use Rattle.read_inventory.proofs.decode.lane_of.Goals as goal

pub returns : goal.returns
returns c =
    lane_masked c.args.width c.args.cell c.args.lane c.requires.0 c.requires.1
