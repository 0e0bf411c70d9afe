-- `position` is std's, of the pairs.
use Rattle.std.proofs.Common.{sym, ◌∙◌, rules, tests}
use Rattle.std.proofs.lemmas.Iterator.{YieldsList-from_slice, YieldsList-from_zip}
use Rattle.std.proofs.lemmas.Iterator.Search.{position_from_yields_List}
use Rattle.std.proofs.lemmas.Slice.Zip.{length-zip}
use Rattle.replay.proofs.Alike.{differ, found_or_len, alike_by_position}
use Rattle.replay.proofs.cells.alike.Goals as goal

pub returns : goal.returns
returns c =
    let xs = c.args.a.now in
    let ys = c.args.b.now in
    let found = position_from_yields_List differ c.position.new.self _ c.position.result c.position.ensures.ran (YieldsList-from_zip (YieldsList-from_slice xs cc) (YieldsList-from_slice ys cc)) (λ x b q k. search (rules, tests)) in
    c.unwrap_or.ensures ∙ found_or_len differ _ _ _ (length-zip xs ys ∙ sym c.min.ensures) found ∙ alike_by_position xs ys
