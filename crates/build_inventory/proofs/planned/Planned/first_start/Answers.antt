-- A seek from the record's begin finds the bit of rank 0, or the end where nothing is selected (`bound_first`).
use mathlib.Core.Path.{ap, ◌∙◌}
use Rattle.bit_record.proofs.Seek.{finds_of}
use Rattle.build_inventory.specs.Positions.{or_end}
use Rattle.build_inventory.proofs.Positions.{bound_first}
use Rattle.build_inventory.proofs.planned.Planned.first_start.Goals as goal

pub returns : goal.returns
returns c =
    let a = c.args in
    c.or_end.ensures
    ∙ ap (or_end a.self.now.plan) (finds_of _ _ _ _ c.record-record.ensures _ _ _ c.seek_far.ensures).position
    ∙ bound_first a.self.now.words.now a.self.now.plan a.self.now.of
