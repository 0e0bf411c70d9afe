-- The mark as read leads to the position (`position_by`); one that is refused is refused by 10, and so is the position.
use mathlib.Core.Path.{◌∙◌}
use Rattle.read_inventory.proofs.Answers.{MarkRead, mark_below, position_by, position_none}
use Rattle.read_inventory.proofs.Ten.{ten_err, ten_rank}
use Rattle.read_inventory.proofs.index.Index.position.Goals.{In-Ok}
use Rattle.read_inventory.proofs.index.Index.position.Goals as goal

-- the mark is read
module _ (c : In-Ok) where
  read : let a = c.args in MarkRead a.self.cells.summary a.self.cells.inventory.now a.self.cells.spill.now a.rank c.in-Ok.mark
  read = record { told = c.in-Ok.ensures }

pub returns-in_default : goal.returns-in_default
returns-in_default c =
    position_none _ _ _ _ _ (ten_err (ten_rank _ _ _ _) _ _ c.in_default.is c.mark_of.ensures) c.args.self.words.now

pub finish-requires : goal.finish-requires
finish-requires c =
    mark_below (read c)

pub returns : goal.returns
returns c =
    c.finish.ensures ∙ position_by (read (goal.at.returns c).In-Ok) c.args.self.words.now
