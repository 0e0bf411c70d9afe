-- `decimal_is` says the percentage by its point and the whole part as parsed; each return is then the case that was told.
use Rattle.std.proofs.Common.{◌≡◌, ◌∙◌, length, sym, ap, arith}
use Rattle.std.specs.Prelude.{Ok}
use Rattle.find_edge_input.specs.Number.{decimal_of, after_whole, whole_first, joined}
use Rattle.find_edge_input.proofs.Digits.{decimals as the_decimals, decimal_is, no_point, too_fine, with_decimals}
use Rattle.find_edge_input.proofs.Steps.{handed_on}
use Rattle.find_edge_input.proofs.number.parse_decimal.Goals.{In_ok-whole}
use Rattle.find_edge_input.proofs.number.parse_decimal.Goals as goal

-- the whole part was a number
by_whole : (c : In_ok-whole) → decimal_of c.args.text.now ≡ after_whole c.args.text.now c.find-point.result c.in_ok-whole.whole
by_whole c =
    decimal_is c.args.text.now c.find-point.result c.parse_part.result c.find-point.ensures.value c.parse_part.ensures
    ∙ ap (whole_first c.args.text.now c.find-point.result) c.in_ok-whole.was

pub returns-in_err-whole : goal.returns-in_err-whole
returns-in_err-whole c =
    handed_on _ _ c.from_residual.ensures
    ∙ sym (decimal_is c.args.text.now c.find-point.result c.parse_part.result c.find-point.ensures.value c.parse_part.ensures
    ∙ ap (whole_first c.args.text.now c.find-point.result) c.in_err-whole.was)

pub returns-then-point-text : goal.returns-then-point-text
returns-then-point-text c =
    ap Ok c.ratio.ensures ∙ sym (by_whole (goal.at.returns-then-point-text c).In_ok-whole ∙ no_point c.args.text.now c.find-point.result c.in_ok-whole.whole (omega arith))

pub returns-then-decimals-gt-MOST_DECIMALS : goal.returns-then-decimals-gt-MOST_DECIMALS
returns-then-decimals-gt-MOST_DECIMALS c =
    sym (by_whole (goal.at.returns-then-decimals-gt-MOST_DECIMALS c).In_ok-whole ∙ too_fine c.args.text.now c.find-point.result c.in_ok-whole.whole (omega arith) c.if-decimals-gt-MOST_DECIMALS.true)

pub returns-in_err-fraction : goal.returns-in_err-fraction
returns-in_err-fraction c =
    let w = c.in_ok-whole.whole in
    let decimals = length (the_decimals c.args.text.now c.find-point.result) in
    handed_on _ _ c.from_residual-in_err-fraction.ensures
    ∙ sym (by_whole (goal.at.returns-in_err-fraction c).In_ok-whole ∙ with_decimals c.args.text.now c.find-point.result w (omega arith) c.if-decimals-gt-MOST_DECIMALS.false ∙ ap (λ r. joined w r decimals) (sym c.parse_part-2.ensures ∙ c.in_err-fraction.was))

pub returns : goal.returns
returns c =
    let w = c.in_ok-whole.whole in
    let decimals = length (the_decimals c.args.text.now c.find-point.result) in
    ap Ok c.ratio-2.ensures
    ∙ sym (by_whole (goal.at.returns c).In_ok-whole ∙ with_decimals c.args.text.now c.find-point.result w (omega arith) c.if-decimals-gt-MOST_DECIMALS.false ∙ ap (λ r. joined w r decimals) (sym c.parse_part-2.ensures ∙ c.in_ok-fraction.was))
