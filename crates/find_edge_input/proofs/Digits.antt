-- Laws of the digits of a text, one digit on and at the end.
use Rattle.std.proofs.Common.{◌≡◌, ℕ, ◌+◌, ◌-◌, ◌*◌, ◌<◌, ◌≤◌, List, [], ◌∷◌, length, get_or, take, drop, sym, ap, ◌∙◌, add-one, arith, length-drop, drop-cons, le-leb, lt-ltb, le-ltb}
use borrow.Author.Tests.{lt-leb}
use lib.Seq.{drop-length}
use Rattle.std.proofs.lemmas.List.{take_rest}
use Rattle.std.specs.Prelude.{Result, Ok, Err}
use Rattle.find_edge_input.specs.declared.number.NumberError.{NumberError}
use Rattle.find_edge_input.specs.declared.number.NumberError.TheVariants.{NotANumber}
use Rattle.find_edge_input.specs.Scan.{index_of}
use Rattle.find_edge_input.specs.Number.{value_from, parsed, as_part, ratio_of, joined, after_whole, decimal_of, whole_first}

pub value_step : (n : ℕ) (text : List ℕ) (i : ℕ) → i < length text → value_from n (drop i text) ≡ value_from (n * 10 + (get_or text i 0 - 48)) (drop (i + 1) text)
unfolding value_from
value_step n text i h = rw (add-one i, drop-cons text i 0 h)

pub value_end : (n : ℕ) (text : List ℕ) (i : ℕ) → i ≡ length text → value_from n (drop i text) ≡ n
unfolding value_from
value_end n text i e = rw (e, drop-length text)

-- more digits make no smaller number
pub value_grows : (n : ℕ) (text : List ℕ) → n ≤ value_from n text
unfolding value_from
value_grows n [] = omega arith
value_grows n (b ∷ rest) = omega (arith, value_grows (n * 10 + (b - 48)) rest)

-- a turn of the loop over the value: one digit on, and where that no longer fits a bound
module _ (n : ℕ) (text : List ℕ) (i d : ℕ) (h : i < length text) (e : d ≡ get_or text i 0 - 48) (v : value_from 0 text ≡ value_from n (drop i text)) where
  pub value_go : value_from 0 text ≡ value_from (n * 10 + d) (drop (i + 1) text)
  value_go = v ∙ value_step n text i h ∙ ap (λ (z : ℕ). value_from (n * 10 + z) (drop (i + 1) text)) (sym e)

  pub value_over : (m : ℕ) → m ≤ n * 10 + d → m ≤ value_from 0 text
  value_over m o = omega (arith, value_go, value_grows (n * 10 + d) (drop (i + 1) text))

-- a percentage by where its point stands and what stands before it
pub decimal_is : (text : List ℕ) (p : ℕ) (whole : Result ℕ NumberError) → p ≡ index_of 46 text → whole ≡ as_part (parsed (take p text)) → decimal_of text ≡ whole_first text p whole
unfolding decimal_of
decimal_is text p whole e f = rw (f, e)

-- what comes after the whole part: no point, or a point and the decimals behind it, too many or not
pub no_point : (text : List ℕ) (p whole : ℕ) → length text ≤ p → after_whole text p whole ≡ Ok (ratio_of whole 0 0)
unfolding after_whole
no_point text p whole h = simp (le-leb _ _ h)

-- the decimals, all that stands behind the point
abbrev pub decimals : List ℕ → ℕ → List ℕ
decimals text p = take (length text - (p + 1)) (drop (p + 1) text)

module _ (text : List ℕ) (p whole : ℕ) (h : p < length text) where
  count : length (decimals text p) ≡ length text - (p + 1)
  count = rw take_rest (simp length-drop)

  pub too_fine : 3 < length (decimals text p) → after_whole text p whole ≡ Err NotANumber
  unfolding after_whole
  too_fine m = let k : 3 < length text - (p + 1) = omega (arith, count) in simp (lt-leb _ _ h, lt-ltb _ _ k)

  pub with_decimals : length (decimals text p) ≤ 3 → after_whole text p whole ≡ joined whole (as_part (parsed (decimals text p))) (length (decimals text p))
  unfolding after_whole
  with_decimals m = let k : length text - (p + 1) ≤ 3 = omega (arith, count) in rw (count, take_rest) (simp (lt-leb _ _ h, le-ltb _ _ k))
