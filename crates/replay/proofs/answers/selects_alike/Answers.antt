-- `position` is std's, of the pairs.
use Rattle.std.proofs.Common.{refl, ap, ◌∙◌, rules, tests}
use Rattle.std.specs.List.{position_or_len}
use Rattle.std.proofs.lemmas.Iterator.{YieldsList-from_slice}
use Rattle.std.proofs.lemmas.Iterator.Search.{position_from_yields_List}
use Rattle.read_inventory.specs.Jump.{select_of}
use Rattle.replay.proofs.Alike.{found_or_len}
use Rattle.replay.proofs.Selects.{otherwise, selects_by_position}
use Rattle.replay.proofs.answers.selects_alike.Goals as goal

pub returns : goal.returns
returns c =
    let a = c.args in
    let select = select_of a.words.now a.summary a.inventory.now a.spill.now in
    let pairs = c.as_chunks.result.0.now in
    let found = position_from_yields_List (otherwise select) _ _ c.position.result c.position.ensures.ran (YieldsList-from_slice pairs cc) (λ x b q k. search (rules, tests)) in
    c.unwrap_or.ensures ∙ found_or_len (otherwise select) pairs _ _ refl found ∙ ap (position_or_len (otherwise select)) c.as_chunks.ensures.front ∙ selects_by_position select _ a.selects.now refl
