-- Every pattern of a NaN stands for the one NaN.
use mathlib.Core.Bool.{Bool, true, false, not, ◌&&◌}
use mathlib.Core.Path.{◌≡◌, refl}
use Prim.Native.Nat.{ℕ, ◌/◌, ◌%◌}
use borrow.Author.Tests.{eqb-true}
use lib.Dec.{eqb, leb}
use lib.Ieee.{binary64, nan, div, nan_bits, of_bits, of_fields, hid, top}

of_fields_lem : (s : Bool) (x t : ℕ) (p q : Bool) → eqb x 2047 ≡ p → eqb t 0 ≡ q → (p && not q) ≡ true → of_fields binary64 s x t ≡ nan
unfolding of_fields
of_fields_lem s x t true false hx ht h = rw (eqb-true x 2047 hx, ht)
of_fields_lem s x t true true hx ht h = cc
of_fields_lem s x t false q hx ht h = cc

pub nan_bits_lem : (b : ℕ) → nan_bits binary64 b ≡ true → of_bits binary64 b ≡ nan
unfolding nan_bits of_bits
nan_bits_lem b h = of_fields_lem (leb (top binary64) b) (b % top binary64 / hid binary64) (b % hid binary64) _ _ refl refl h

-- the code's NaN
pub zero_by_zero : div binary64 (of_bits binary64 0) (of_bits binary64 0) ≡ nan
unfolding div of_bits
zero_by_zero = refl
