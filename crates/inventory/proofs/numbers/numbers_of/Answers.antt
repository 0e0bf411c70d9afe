-- A polarity's discriminant is its code, and the other eight numbers are the summary's own.
use Rattle.std.proofs.Common.{◌≡◌, refl}
use denote.Enum.Declared.{tag_of}
use Rattle.bit_record.specs.contracts.Polarity.{the_type}
use Rattle.bit_record.specs.declared.Polarity.{Polarity}
use Rattle.bit_record.specs.declared.Polarity.TheVariants.{Ones, Zeros}
use Rattle.inventory.specs.Numbers.{polarity_code, numbers_of}
use Rattle.inventory.proofs.numbers.numbers_of.Goals as goal

discriminant : (p : Polarity) → tag_of the_type p ≡ polarity_code p
discriminant Ones = refl
discriminant Zeros = refl

pub returns : goal.returns
unfolding numbers_of
returns c =
    rw (discriminant c.args.summary.plan.polarity)
