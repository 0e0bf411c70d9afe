-- What a sound index leaves in the places, and by what it refuses.
use lib.ListN.{length}
use borrow.Author.Rules.{rules}
use Rattle.edge_index.proofs.Entries.{list_jumps, list_right, list_rest, list_fewer, list_falls, list_few, list_past}
use Rattle.edge_index.proofs.read.select_list.Goals as goal

pub returns-clause-right : goal.returns-clause-right
returns-clause-right c =
    let a = c.args in list_right a.words.now a.summary a.inventory.now a.spill.now a.ranks.now a.places.now _ (search rules)

pub returns-clause-rest : goal.returns-clause-rest
returns-clause-rest c =
    let a = c.args in list_rest a.words.now a.summary a.inventory.now a.spill.now a.ranks.now a.places.now _ (search rules)

pub returns-clause-fewer : goal.returns-clause-fewer
returns-clause-fewer c =
    let a = c.args in list_fewer a.words.now a.summary a.inventory.now a.spill.now a.ranks.now a.places.now _ (search rules)

pub returns-clause-falls : goal.returns-clause-falls
returns-clause-falls c =
    let a = c.args in list_falls a.words.now a.summary a.inventory.now a.spill.now a.ranks.now (length a.places.now) _ (search rules)

pub returns-clause-few : goal.returns-clause-few
returns-clause-few c =
    let a = c.args in list_few a.words.now a.summary a.inventory.now a.spill.now a.ranks.now (length a.places.now) _ (search rules)

pub returns-clause-past : goal.returns-clause-past
returns-clause-past c =
    let a = c.args in list_past a.words.now a.summary a.inventory.now a.spill.now a.ranks.now (length a.places.now) _ (search rules)

pub returns-clause-jumps : goal.returns-clause-jumps
returns-clause-jumps c =
    let a = c.args in list_jumps a.words.now a.summary a.inventory.now a.spill.now a.ranks.now a.places.now _ (search rules)
