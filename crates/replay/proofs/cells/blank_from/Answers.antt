-- `position` is std's, of the cells from `from` on.
use Rattle.std.proofs.Common.{◌+◌, sym, ap, ◌∙◌, rules, tests}
use Rattle.std.proofs.lemmas.List.{length-drop}
use Rattle.std.proofs.lemmas.Iterator.{YieldsList-from_slice}
use Rattle.std.proofs.lemmas.Iterator.Adapters.{YieldsList-from_skip}
use Rattle.std.proofs.lemmas.Iterator.Search.{position_from_yields_List}
use Rattle.replay.proofs.Alike.{written, found_or_len, blank_from_by_position}
use Rattle.replay.proofs.cells.blank_from.Goals as goal

pub returns : goal.returns
returns c =
    let xs = c.args.cells.now in
    let found = position_from_yields_List written _ _ c.position-blank.result c.position-blank.ensures.ran (YieldsList-from_skip c.args.from (YieldsList-from_slice xs cc) cc) (λ x b q k. search (rules, tests)) in
    let long = found_or_len written _ _ _ (length-drop c.args.from xs ∙ sym c.saturating_sub.ensures) found in
    ap (λ n. c.args.from + n) (c.unwrap_or.ensures ∙ long) ∙ blank_from_by_position c.args.from xs
