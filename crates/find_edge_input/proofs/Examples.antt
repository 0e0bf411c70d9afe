-- What the definitions say of a few texts and bytes.
use Rattle.std.proofs.Common.{◌≡◌, false, [], ◌∷◌, negsuc, refl}
use lib.Ieee.{fin, div, of_int}
use Rattle.inventory.specs.Lanes.{pack, tabulate}
use Rattle.find_edge_input.specs.Number.{value_from, parsed, ratio_of, after_whole, decimal_of}
use Rattle.find_edge_input.specs.Words.{packed, word_of}
use Rattle.std.specs.Prelude.{Ok, Err}
use Rattle.find_edge_input.specs.declared.number.NumberError.TheVariants.{NotANumber, TooLarge}

-- 40000
number : parsed (52 ∷ 48 ∷ 48 ∷ 48 ∷ 48 ∷ []) ≡ Ok 40000
unfolding parsed value_from
number = refl

-- nothing
empty : parsed [] ≡ Err NotANumber
unfolding parsed value_from
empty = refl

-- 4x
letter : parsed (52 ∷ 120 ∷ []) ≡ Err NotANumber
unfolding parsed value_from
letter = refl

-- 18446744073709551615, and one more
largest : parsed (49 ∷ 56 ∷ 52 ∷ 52 ∷ 54 ∷ 55 ∷ 52 ∷ 52 ∷ 48 ∷ 55 ∷ 51 ∷ 55 ∷ 48 ∷ 57 ∷ 53 ∷ 53 ∷ 49 ∷ 54 ∷ 49 ∷ 53 ∷ []) ≡ Ok 18446744073709551615
unfolding parsed value_from
largest = refl

too_large : parsed (49 ∷ 56 ∷ 52 ∷ 52 ∷ 54 ∷ 55 ∷ 52 ∷ 52 ∷ 48 ∷ 55 ∷ 51 ∷ 55 ∷ 48 ∷ 57 ∷ 53 ∷ 53 ∷ 49 ∷ 54 ∷ 49 ∷ 54 ∷ []) ≡ Err TooLarge
unfolding parsed value_from
too_large = refl

-- 12.5 is 25 / 2
decimal : decimal_of (49 ∷ 50 ∷ 46 ∷ 53 ∷ []) ≡ Ok (fin false 25 (negsuc 0))
unfolding parsed value_from decimal_of after_whole ratio_of div of_int
decimal = refl

-- 1.2345
too_fine : decimal_of (49 ∷ 46 ∷ 50 ∷ 51 ∷ 52 ∷ 53 ∷ []) ≡ Err NotANumber
unfolding parsed value_from decimal_of after_whole ratio_of
too_fine = refl

-- nine bytes fill one word and begin the next
nine : packed (1 ∷ 2 ∷ 0 ∷ 0 ∷ 0 ∷ 0 ∷ 0 ∷ 128 ∷ 7 ∷ []) (5 ∷ 5 ∷ 5 ∷ []) ≡ 9223372036854776321 ∷ 7 ∷ 5 ∷ []
unfolding packed word_of tabulate pack
nine = refl
