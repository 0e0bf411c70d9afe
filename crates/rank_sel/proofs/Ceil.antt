-- Laws of quotients rounded up.
use Prim.Native.Nat.{ℕ, suc, ◌+◌, ◌-◌, ◌*◌, ◌≤◌, ◌<◌}
use native.Mathlib.Nat.{le-div_iff_mul-le, div-lt_iff_lt-mul, le-mul_of_pos_right}
use native.Mathlib.Omega.{arith}
use Rattle.rank_sel.specs.Numbers.{ceil_div}

pub ceil_lt : (e n b : ℕ) → 0 < b → e < ceil_div n b → e * b < n
ceil_lt e n b h l =
    let r = (le-div_iff_mul-le {k = b} {x = suc e} {y = n + (b - 1)} h).0 l in
    omega arith

pub below_ceil : (k a b : ℕ) → 0 < b → k * b < a → k < ceil_div a b
below_ceil k a b h l = (le-div_iff_mul-le h).1 (omega arith)

pub ceil_within : (k a b : ℕ) → 0 < b → a ≤ k * b → ceil_div a b ≤ k
ceil_within k a b h l =
    let g = (div-lt_iff_lt-mul {k = b} {x = a + (b - 1)} {y = suc k} h).1 (omega arith) in
    omega arith

pub ceil_le : (n b : ℕ) → 0 < b → ceil_div n b ≤ n
ceil_le n b h = ceil_within n n b h (le-mul_of_pos_right n h)
