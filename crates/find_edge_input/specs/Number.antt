-- What a text says as a number.
use Rattle.std.specs.Prelude.{ℕ, ◌+◌, ◌-◌, ◌*◌, ◌^◌, Bool, cond, ◌&&◌, List, [], ◌∷◌, length, take, drop, ◌==◌, nat_le, nat_lt, Float, Result, Ok, Err}
use Rattle.std.specs.List.{list_all}
use Rattle.std.specs.Float.{binary64}
use Rattle.std.specs.Float.Ieee.{div}
use Rattle.spacing.specs.Spacing.{as_f64}
use Rattle.find_edge_input.specs.Scan.{index_of}
use Rattle.find_edge_input.specs.declared.number.NumberError.{NumberError}
use Rattle.find_edge_input.specs.declared.number.NumberError.TheVariants.{NotANumber, TooLarge}

-- 0 to 9 in ASCII
abbrev pub digit : ℕ → Bool
digit b = nat_le 48 b && nat_le b 57

abbrev pub all_digits : List ℕ → Bool
all_digits text = list_all digit text

-- the number that n and the digits after it make in base ten
unfoldable pub value_from : ℕ → List ℕ → ℕ
value_from n [] = n
value_from n (b ∷ rest) = value_from (n * 10 + (b - 48)) rest

-- a number, where a u64 holds it
abbrev pub fitting : ℕ → Result ℕ NumberError
fitting n = cond (nat_lt n 18446744073709551616) (Ok n) (Err TooLarge)

-- some digits and nothing else
unfoldable pub parsed : List ℕ → Result ℕ NumberError
parsed text = cond (length text == 0) (Err NotANumber) (cond (all_digits text) (fitting (value_from 0 text)) (Err NotANumber))

-- whole.fraction, with so many decimals: all its digits by a power of ten, rounded once
unfoldable pub ratio_of : ℕ → ℕ → ℕ → Float
ratio_of whole fraction decimals = div binary64 (as_f64 (whole * 10 ^ decimals + fraction)) (as_f64 (10 ^ decimals))

-- a number as one side of the point, where it is at most 999,999,999
abbrev pub as_part : Result ℕ NumberError → Result ℕ NumberError
as_part (Err e) = Err e
as_part (Ok n) = cond (nat_lt 999999999 n) (Err TooLarge) (Ok n)

abbrev pub joined : ℕ → Result ℕ NumberError → ℕ → Result Float NumberError
joined whole (Err e) decimals = Err e
joined whole (Ok n) decimals = Ok (ratio_of whole n decimals)

-- what stands after the whole part: nothing, or a point and at most three decimals
unfoldable pub after_whole : List ℕ → ℕ → ℕ → Result Float NumberError
after_whole text point whole =
    cond (nat_le (length text) point) (Ok (ratio_of whole 0 0))
    (cond (nat_lt 3 (length text - (point + 1))) (Err NotANumber)
    (joined whole (as_part (parsed (drop (point + 1) text))) (length text - (point + 1))))

abbrev pub whole_first : List ℕ → ℕ → Result ℕ NumberError → Result Float NumberError
whole_first text point (Err e) = Err e
whole_first text point (Ok whole) = after_whole text point whole

-- digits, and after them nothing, or a point (46) and at most three more; 999,999,999 at most before the point
unfoldable pub decimal_of : List ℕ → Result Float NumberError
decimal_of text = whole_first text (index_of 46 text) (as_part (parsed (take (index_of 46 text) text)))
