-- A NaN's bits stand for the one NaN (`nan_bits_lem`), as 0 / 0 does (`zero_by_zero`).
use Rattle.std.proofs.Common.{sym, ◌∙◌}
use Rattle.replay.proofs.Nan.{nan_bits_lem, zero_by_zero}
use Rattle.replay.proofs.list.percentage_of.Goals as goal

pub returns-then-is_nan : goal.returns-then-is_nan
returns-then-is_nan c = zero_by_zero ∙ sym (nan_bits_lem _ (sym c.is_nan.ensures ∙ c.if-is_nan.true))
