-- The fields of x's bits say what x is: the sign and the exponent tell what is cut to an end of the range, and in between the
-- digits are shifted to their place.
use Rattle.std.proofs.Common.{sym, ap, ◌∙◌, arith}
use lib.Ieee.{to_unsigned}
use Rattle.spacing.proofs.Floats.{cut_nan, is_number, sign_set, sign_clear, cut_negative, cut_normal, cut_below_one, cut_top}
use Rattle.spacing.proofs.overhead.saturating_f64_to_u64.Goals as goal

pub returns-then-is_nan : goal.returns-then-is_nan
returns-then-is_nan c =
    cut_nan _ (sym c.is_nan.ensures.value ∙ c.if-is_nan.true)

pub float_to_bits-bits : goal.float_to_bits-bits
float_to_bits-bits c =
    is_number _ (sym c.is_nan.ensures.value ∙ c.if-is_nan.false)

pub returns-then-bits-ge-SIGN : goal.returns-then-bits-ge-SIGN
returns-then-bits-ge-SIGN c =
    cut_negative _ _ ∙ ap (to_unsigned 64) (sign_set _ c.well_formed.0.1 (omega arith))

pub returns-then-exponent-lt1023 : goal.returns-then-exponent-lt1023
returns-then-exponent-lt1023 c =
    cut_below_one _ _ (omega arith) (omega arith) ∙ ap (to_unsigned 64) (sign_clear _ c.well_formed.0.1 (omega arith))

pub returns-then-exponent-gt1086 : goal.returns-then-exponent-gt1086
returns-then-exponent-gt1086 c =
    let f = sign_clear _ c.well_formed.0.1 (omega arith) in
    cut_top _ _ (omega arith) (rw f (is_number _ (sym c.is_nan.ensures.value ∙ c.if-is_nan.false))) ∙ ap (to_unsigned 64) f

pub returns : goal.returns
returns c =
    cut_normal _ _ (omega arith) (omega arith) (omega arith) ∙ ap (to_unsigned 64) (sign_clear _ c.well_formed.0.1 (omega arith))
