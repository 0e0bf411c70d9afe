-- Laws of bits: what shifts, remainders, complements and counts do to them.
use mathlib.Core.Path.{◌≡◌, sym, ap, ◌∙◌}
use mathlib.Core.Logic.{◌⊎◌, inl, inr, ⊎_elim}
use mathlib.Core.Bool.{false, not}
use Prim.Native.Nat.{ℕ, zero, suc, ◌+◌, ◌-◌, ◌/◌, ◌%◌, ◌^◌, ◌≤◌, ◌<◌}
use native.Mathlib.Nat.{div-one, div-eq_of_lt, lt_of_lt_of_le}
use native.Mathlib.Numerals.{add-one, one-add}
use native.Mathlib.Omega.{arith}
use lib.Dec.{eqb}
use lib.Pow.{pow_mono, shr-shr, field, mod-mod-pow}
use lib.Count.{ones, ones_step, ones-le}
use Rattle.std.proofs.lemmas.Bool.{cases_lt}
use Rattle.rank_sel.specs.Rank.{ind, rank}
use Rattle.rank_sel.proofs.Rank.{rank-zero, rank-suc, rank_add, rank_ext}
use Rattle.select_in_word.specs.Bit.{odd, bit}

pub two_cases : (n : ℕ) → (n % 2 ≡ 0) ⊎ (n % 2 ≡ 1)
two_cases n = ⊎_elim (λ (h : n % 2 < 1). inl (omega arith)) (λ (h : 1 ≤ n % 2). inr (omega arith)) (cases_lt (n % 2) 1)

pub ind-odd : (n : ℕ) → ind (odd n) ≡ n % 2
ind-odd n = ⊎_elim (λ (e : n % 2 ≡ 0). simp e) (λ (e : n % 2 ≡ 1). simp e) (two_cases n)

odd_flip : (m n : ℕ) → m % 2 + n % 2 ≡ 1 → odd m ≡ not (odd n)
odd_flip m n h =
    ⊎_elim (λ (e : n % 2 ≡ 0). let d : m % 2 ≡ 1 = omega arith in simp (e, d)) (λ (e : n % 2 ≡ 1). let d : m % 2 ≡ 0 = omega arith in simp (e, d)) (two_cases n)

pub bit-zero : (w : ℕ) → bit w 0 ≡ odd w
unfolding bit
bit-zero w = simp div-one

pub bit_shr : (w k j : ℕ) → bit (w / 2 ^ k) j ≡ bit w (k + j)
unfolding bit
bit_shr w k j = simp shr-shr

pub bit-suc : (w j : ℕ) → bit w (suc j) ≡ bit (w / 2) j
bit-suc w j = sym (bit_shr w 1 j ∙ ap (bit w) (one-add j))

-- past the number's own bits
pub bit_past : (w k j : ℕ) → w < 2 ^ k → k ≤ j → bit w j ≡ false
unfolding bit
bit_past w k j h l = simp (div-eq_of_lt (lt_of_lt_of_le h (pow_mono l)))

-- the k low bits: w & (2 ^ k - 1)
low_of : (w i j : ℕ) → w % 2 ^ (suc i + j) / 2 ^ j % 2 ≡ w / 2 ^ j % 2
low_of w i j = simp (field w (suc i) j, ← add-one i) (mod-mod-pow (w / 2 ^ j) i 1)

pub bit_low : (w k j : ℕ) → j < k → bit (w % 2 ^ k) j ≡ bit w j
unfolding bit
bit_low w k j h =
    let e : k ≡ suc (k - j - 1) + j = omega arith in
    ap (λ (n : ℕ). eqb (w % 2 ^ n / 2 ^ j % 2) 1) e ∙ ap (λ (x : ℕ). eqb x 1) (low_of w (k - j - 1) j)

-- !w at k bits
pub bit_not : (k w j : ℕ) → w < 2 ^ k → j < k → bit ((2 ^ k - 1) - w) j ≡ not (bit w j)
bit_not zero w j h l = absurd (omega arith)
bit_not (suc k) w zero h l = simp bit-zero (odd_flip ((2 ^ suc k - 1) - w) w (omega arith))
bit_not (suc k) w (suc j) h l =
    let e : ((2 ^ suc k - 1) - w) / 2 ≡ (2 ^ k - 1) - w / 2 = omega arith in
    simp (bit-suc, e) (bit_not k (w / 2) j (omega arith) (omega arith))

-- a count of set bits is the rank at the width
pub ones_rank : (k w : ℕ) → w < 2 ^ k → ones w ≡ rank (bit w) k
ones_rank zero w h = omega (arith, ones-le 0 w h, rank-zero (bit w))
ones_rank (suc k) w h =
    let e : ones (w / 2) ≡ rank (bit (w / 2)) k = ones_rank k (w / 2) (omega arith) in
    let r : rank (bit w) (1 + k) ≡ rank (bit w) 1 + rank (λ j. bit w (1 + j)) k = rank_add (bit w) 1 k in
    let x : rank (λ j. bit w (1 + j)) k ≡ rank (bit (w / 2)) k = rank_ext (λ j. bit w (1 + j)) (bit (w / 2)) k (λ q l. sym (bit_shr w 1 q)) in
    let o : rank (bit w) 1 ≡ w % 2 = rank-suc (bit w) 0 ∙ simp (rank-zero, bit-zero, ind-odd) (omega arith) in
    ones_step w ∙ sym (ap (rank (bit w)) (sym (one-add k)) ∙ omega arith)
