-- What a refused number says of itself.
use Rattle.std.specs.Prelude.{ℕ, List, codes}
use Rattle.find_edge_input.specs.declared.number.NumberError.{NumberError}
use Rattle.find_edge_input.specs.declared.number.NumberError.TheVariants.{NotANumber, TooLarge}

abbrev pub error_text : NumberError → List ℕ
error_text NotANumber = codes "not a number"
error_text TooLarge = codes "too large"
