-- The first place that differs is how many are alike.
use mathlib.Core.Bool.{Bool, cond, not}
use mathlib.Core.List.{List, [], ◌∷◌}
use mathlib.Core.Path.{◌≡◌, refl, ap, sym}
use Prim.Native.Nat.{ℕ, ◌+◌, ◌≤◌}
use native.Mathlib.Omega.{arith}
use borrow.Author.Tests.{tests}
use lib.Dec.{ltb, eqb}
use lib.ListN.{length, drop, length-drop}
use Rattle.std.specs.Prelude.{Option, Some, None, unwrap_or}
use Rattle.std.specs.List.{position_or_len, zip}
use Rattle.std.proofs.lemmas.List.{drop-replicate}
use Rattle.std.proofs.lemmas.List.Sums.{prefix_len-le-length}
use Rattle.replay.specs.Cells.{alike, alike_from, blank, blanks}

or_len : (p n : ℕ) → p ≤ n → unwrap_or (cond (ltb p n) (Some p) None) n ≡ p
or_len p n h = grind (arith, tests)

-- what `position` gives, and the length where it finds none
pub found_or_len : {X : Type 0} (p : X → Bool) (xs : List X) (n : ℕ) (r : Option ℕ) → length xs ≡ n → r ≡ cond (ltb (position_or_len p xs) (length xs)) (Some (position_or_len p xs)) None → unwrap_or r n ≡ position_or_len p xs
found_or_len p xs n r e f = rw (sym e, f) (or_len _ _ (prefix_len-le-length (λ x. not (p x)) xs))

abbrev pub differ : ℕ × ℕ → Bool
differ p = not (eqb p.0 p.1)

abbrev pub written : ℕ → Bool
written x = not (eqb x blank)

zip_by_position : (xs ys : List ℕ) → position_or_len differ (zip xs ys) ≡ alike xs ys
unfolding alike
zip_by_position [] ys = refl
zip_by_position (x ∷ xs) [] = refl
zip_by_position (x ∷ xs) (y ∷ ys) = grind (arith, tests, zip_by_position xs ys)

pub alike_by_position : (xs ys : List ℕ) → position_or_len differ (zip xs ys) ≡ alike_from 0 xs ys
alike_by_position xs ys = omega (arith, zip_by_position xs ys)

blank_by_position : (xs : List ℕ) → position_or_len written xs ≡ alike xs (blanks (length xs))
unfolding alike
blank_by_position [] = refl
blank_by_position (x ∷ xs) = grind (arith, tests, blank_by_position xs)

pub blank_from_by_position : (from : ℕ) (xs : List ℕ) → from + position_or_len written (drop from xs) ≡ alike_from from xs (blanks (length xs))
blank_from_by_position from xs = rw (drop-replicate from (length xs) blank, sym (length-drop from xs)) (ap (λ n. from + n) (blank_by_position (drop from xs)))
