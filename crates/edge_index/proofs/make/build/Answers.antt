-- A sound index is left, since a build leaves one.
use borrow.Author.Rules.{rules}
use Rattle.edge_index.proofs.Entries.{build_readable, build_right, build_sound}
use Rattle.edge_index.proofs.make.build.Goals as goal

pub returns-clause-sound : goal.returns-clause-sound
returns-clause-sound c =
    let a = c.args in build_sound a.words.now a.len a.origin a.polarity a.choice a.inventory.now _ a.spill.now _ _ (search rules)

pub returns-clause-right : goal.returns-clause-right
returns-clause-right c =
    let a = c.args in build_right a.words.now a.len a.origin a.polarity a.choice a.inventory.now _ a.spill.now _ _ (search rules)

pub returns-clause-readable : goal.returns-clause-readable
returns-clause-readable c =
    let a = c.args in build_readable a.words.now a.len a.origin a.polarity a.choice a.inventory.now _ a.spill.now _ _ (search rules)
