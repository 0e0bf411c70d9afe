-- Tests of a float, and its cut to a u64, by the fields of its bits: the sign, the exponent e, the digits t.
use Rattle.std.proofs.Common.{◌≡◌, ℕ, zero, suc, ◌+◌, ◌-◌, ◌*◌, ◌/◌, ◌%◌, ◌^◌, ◌<◌, ◌≤◌, min, Bool, true, false, cond, not, T, eqb, leb, pos, sym, refl, ◌∙◌, subst, le_trans, lt_of_lt_of_le, le-add_right, mod-lt, mod-eq_of_lt, mul_assoc, mul-le-mul, mul-pos, le-div_iff_mul-le, sub-le, arith, pow_pos, pow_mono, pow-add, shl_exact, ltb-false, ltb-true, lt-ltb, ne_eqb, le-leb}
use Rattle.std.specs.Float.{float_is_finite}
use native.Mathlib.Nat.{zero-lt-suc, div-eq_of_lt, min-eq_left, min-eq_right}
use lib.Pow.{shr_le}
use lib.Ieee.{Float, nan, inf, fin, binary64, lt, fits, is_nan, odd, of_fields, of_bits, to_bits, to_unsigned, up, down}
use lib.Ieee.Bits.{of_bits-to_bits}
use lib.Ieee.Exact.{HasValue, odd_sign}
use lib.Ieee.Fits.{up_pos, down_pos}
use lib.Ieee.Nearest.{div_same}
use lib.Ieee.Positive.{positive}
use borrow.Author.Tests.{lt-leb}

-- a NaN is cut to 0
pub cut_nan : (x : Float) → is_nan x ≡ true → 0 ≡ to_unsigned 64 x
unfolding is_nan to_unsigned
cut_nan nan h = refl
cut_nan (inf s) h = cc
cut_nan (fin s m e) h = cc

pub is_number : (x : Float) → is_nan x ≡ false → T (not (is_nan x))
is_number x h = rw h tt

-- x is what the fields of its bits stand for
module _ (x : Float) (fit : fits binary64 x ≡ true) where
  abbrev b : ℕ
  b = to_bits binary64 x

  fields : of_fields binary64 (leb (2 ^ 63) b) (b % 2 ^ 63 / 2 ^ 52) (b % 2 ^ 52) ≡ x
  unfolding of_bits
  fields = of_bits-to_bits binary64 x (subst T (sym fit) tt)

  pub sign_set : 2 ^ 63 ≤ b → of_fields binary64 true (b % 2 ^ 63 / 2 ^ 52) (b % 2 ^ 52) ≡ x
  sign_set h = rw (le-leb (2 ^ 63) b h) at fields

  pub sign_clear : b < 2 ^ 63 → of_fields binary64 false (b / 2 ^ 52) (b % 2 ^ 52) ≡ x
  sign_clear h = rw (lt-leb (2 ^ 63) b h, mod-eq_of_lt h) at fields

-- the cut of a / c, with the sign s
cut_value : (x : Float) (s : Bool) (a c : ℕ) → 0 < c → HasValue x s a c → to_unsigned 64 x ≡ cond s 0 (min (a / c) (2 ^ 64 - 1))
unfolding to_unsigned
cut_value nan s a c p h = absurd h
cut_value (inf t) s a c p h = absurd h
cut_value (fin t m e) s a c p h = rw (h.0, div_same (m * up e) (down e) a c (down_pos e) p h.1)

-- the cut of q * 2 ^ j units of 2 ^ -1074, the least of an f64
cut_units : (s : Bool) (q j : ℕ) → to_unsigned 64 (odd 53 s q j 1074) ≡ cond s 0 (min (q * 2 ^ j / 2 ^ 1074) (2 ^ 64 - 1))
cut_units s q j = cut_value _ s (q * 2 ^ j) (2 ^ 1074) (pow_pos 1074) (odd_sign 53 s q j 1074)

-- up by j and down by l is up by i and down by k, where the difference is the same
same_shift : (q i j k l : ℕ) → j + k ≡ i + l → q * 2 ^ j / 2 ^ l ≡ q * 2 ^ i / 2 ^ k
same_shift q i j k l h =
    div_same (q * 2 ^ j) (2 ^ l) (q * 2 ^ i) (2 ^ k) (pow_pos l) (pow_pos k) (rw (mul_assoc, ← pow-add, h, pow-add, ← mul_assoc))

-- below 2 ^ 64 the cut is a shift down of the digits with 11 zeros behind them
cut_shift : (q j k : ℕ) → q < 2 ^ 53 → j + k ≡ 1085 → q * 2 ^ 11 % 2 ^ 64 / 2 ^ k ≡ to_unsigned 64 (odd 53 false q j 1074)
cut_shift q j k hq h =
    let g : q * 2 ^ 11 / 2 ^ k ≤ 2 ^ 64 - 1 = omega (arith, shr_le (q * 2 ^ 11) k) in
    rw (shl_exact 53 11 64 hq (omega arith)) (sym (cut_units false q j ∙ rw (same_shift q 11 j k 1074 h) (min-eq_left g)))

-- a shift by 64 or more leaves nothing
shifted_out : (n k : ℕ) → 64 ≤ k → 0 ≡ n % 2 ^ 64 / 2 ^ k
shifted_out n k h = sym (div-eq_of_lt (lt_of_lt_of_le (mod-lt n (pow_pos 64)) (pow_mono h)))

-- an exponent that is not 0 is an infinity's, a NaN's, or one of digits below a leading one
by_exponent : (P : Float → Type 0) (s : Bool) (j t : ℕ) → P (inf s) → P nan → P (odd 53 s (2 ^ 52 + t) j 1074)
    → P (of_fields binary64 s (suc j) t)
unfolding of_fields
by_exponent P s j t i n o = go (eqb (suc j) 2047) (eqb t 0)
  where
    go : (a b : Bool) → P (cond a (cond b (inf s) nan) (odd 53 s (2 ^ 52 + t) j 1074))
    go true true = i
    go true false = n
    go false b = o

-- with the sign set: 0
pub cut_negative : (e t : ℕ) → 0 ≡ to_unsigned 64 (of_fields binary64 true e t)
unfolding of_fields to_unsigned
cut_negative zero t = sym (cut_units true t 0)
cut_negative (suc j) t = by_exponent (λ x. 0 ≡ to_unsigned 64 x) true j t refl refl (sym (cut_units true (2 ^ 52 + t) j))

-- below 2 ^ 64, with a leading one: the shift
pub cut_normal : (e t : ℕ) → t < 2 ^ 52 → 0 < e → e ≤ 1086
    → (2 ^ 52 + t) * 2 ^ 11 % 2 ^ 64 / 2 ^ (1086 - e) ≡ to_unsigned 64 (of_fields binary64 false e t)
unfolding of_fields
cut_normal zero t ht l h = absurd (omega arith)
cut_normal (suc j) t ht l h =
    rw (ne_eqb (suc j) 2047 (λ e. omega arith)) (cut_shift (2 ^ 52 + t) j (1086 - suc j) (omega arith) (omega arith))

-- below 1: 0
pub cut_below_one : (e t : ℕ) → t < 2 ^ 52 → e < 1023 → 0 ≡ to_unsigned 64 (of_fields binary64 false e t)
unfolding of_fields
cut_below_one zero t ht h = shifted_out (t * 2 ^ 11) 1085 (omega arith) ∙ cut_shift t 0 1085 (omega arith) refl
cut_below_one (suc j) t ht h =
    shifted_out ((2 ^ 52 + t) * 2 ^ 11) (1086 - suc j) (omega arith) ∙ cut_normal (suc j) t ht (omega arith) (omega arith)

-- 2 ^ 64 and above, and no NaN: the last u64
pub cut_top : (e t : ℕ) → 1086 < e → T (not (is_nan (of_fields binary64 false e t)))
    → 2 ^ 64 - 1 ≡ to_unsigned 64 (of_fields binary64 false e t)
unfolding to_unsigned is_nan
cut_top zero t h = absurd (omega arith)
cut_top (suc j) t h =
    let g : 1086 ≤ j = omega arith in
    let l : 2 ^ 64 ≤ (2 ^ 52 + t) * 2 ^ j / 2 ^ 1074 = (le-div_iff_mul-le (pow_pos 1074)).1
    (mul-le-mul (le-add_right (2 ^ 52) t) (pow_mono g)) in
    by_exponent (λ x. T (not (is_nan x)) → 2 ^ 64 - 1 ≡ to_unsigned 64 x) false j t (λ n. refl) (λ n. absurd n)
    (λ n. sym (cut_units false (2 ^ 52 + t) j ∙ min-eq_right (le_trans (sub-le (2 ^ 64) 1) l)))

-- above 0: then what is finite is positive
pub above_zero : (x : Float) → lt (fin false 0 (pos 0)) x ≡ true → float_is_finite x ≡ positive x
unfolding lt float_is_finite
above_zero nan a = cc
above_zero (inf true) a = cc
above_zero (inf false) a = refl
above_zero (fin true m e) a = cc
above_zero (fin false zero e) a = absurd (let h = ltb-true (0 * 1 * down e) (0 * up e * 1) a in omega arith)
above_zero (fin false (suc m) e) a = sym (lt-ltb 0 (suc m) (omega arith))

pub not_above_zero : (x : Float) → lt (fin false 0 (pos 0)) x ≡ false → false ≡ positive x
unfolding lt
not_above_zero nan a = refl
not_above_zero (inf s) a = refl
not_above_zero (fin true m e) a = refl
not_above_zero (fin false zero e) a = refl
not_above_zero (fin false (suc m) e) a =
    absurd (let h = ltb-false (0 * 1 * down e) (suc m * up e * 1) a in omega (arith, mul-pos (zero-lt-suc m) (up_pos e)))
