-- The library tells whether the list is sorted; then it falls nowhere.
use Rattle.std.proofs.lemmas.List.Sorted.{non_decreasing_from_is_sorted}
use Rattle.select_list.proofs.Ranks.{sorted_rises}
use Rattle.select_list.proofs.tests.falls_somewhere.Goals as goal

pub returns : goal.returns
returns c =
    let a = c.args in
    sorted_rises a.ranks.now c.is_sorted.result (non_decreasing_from_is_sorted a.ranks.now c.is_sorted.result c.is_sorted.ensures.cases)
