-- Laws of a word's bytes: masks, shifts, sums and differences go byte by byte where nothing is carried.
use mathlib.Core.Path.{◌≡◌, refl, sym, ap, ap₂, ◌∙◌}
use Prim.Native.Nat.{ℕ, zero, suc, ◌+◌, ◌-◌, ◌*◌, ◌/◌, ◌%◌, ◌^◌, ◌≤◌, ◌<◌}
use native.Mathlib.Nat.{div-one, mod-lt, mod-eq_of_lt, lt_of_le_of_lt, mul_assoc, add_comm}
use native.Mathlib.Omega.{arith}
use lib.Bits.{bit_and, bit_or, and_shr, and_mod, and_le_r, or_shr, or_mod}
use lib.Pow.{pow-add, shl-shr, shr-shr, field, mod-mod-pow}
use Rattle.select_in_word.specs.Bytes.{byte_of}
use Rattle.select_in_word.proofs.Table.{list, same_table}

pub byte_zero : (w : ℕ) → byte_of w 0 ≡ w % 256
unfolding byte_of
byte_zero w = simp div-one

pub byte_suc : (w j : ℕ) → byte_of w (suc j) ≡ byte_of (w / 256) j
unfolding byte_of
byte_suc w j =
    let e : 8 * suc j ≡ 8 + 8 * j = omega arith in
    ap (λ (n : ℕ). w / 2 ^ n % 256) e ∙ ap (λ (x : ℕ). x % 256) (sym (shr-shr w 8 (8 * j)))

pub byte_lt : (w j : ℕ) → byte_of w j < 256
unfolding byte_of
byte_lt w j = mod-lt (w / 2 ^ (8 * j)) (omega arith)

-- a byte in all places, by computation: the masks are such
pub every_byte : (x j : ℕ) → x < 256 → j < 8 → byte_of (x * 0x0101_0101_0101_0101) j ≡ x
unfolding list byte_of
every_byte = same_table (λ x. byte_of (x * 0x0101_0101_0101_0101)) (λ x j. x) refl

pub byte_and : (a b j : ℕ) → byte_of (bit_and a b) j ≡ bit_and (byte_of a j) (byte_of b j)
unfolding byte_of
byte_and a b j = ap (λ (x : ℕ). x % 256) (and_shr a b (8 * j)) ∙ and_mod (a / 2 ^ (8 * j)) (b / 2 ^ (8 * j)) 8

pub byte_or : (a b j : ℕ) → byte_of (bit_or a b) j ≡ bit_or (byte_of a j) (byte_of b j)
unfolding byte_of
byte_or a b j = ap (λ (x : ℕ). x % 256) (or_shr a b (8 * j)) ∙ or_mod (a / 2 ^ (8 * j)) (b / 2 ^ (8 * j)) 8

pub byte_add : (a b j : ℕ) → ((i : ℕ) → i < j → byte_of a i + byte_of b i < 256) → byte_of (a + b) j ≡ (byte_of a j + byte_of b j) % 256
byte_add a b zero h = simp byte_zero (omega arith)
byte_add a b (suc j) h =
    let e : (a + b) / 256 ≡ a / 256 + b / 256 = omega (arith, byte_zero a, byte_zero b, h 0 (omega arith)) in
    simp (byte_suc, e) (byte_add (a / 256) (b / 256) j (λ i l. simp byte_suc at (h (suc i) (omega arith))))

pub byte_sub : (a b j : ℕ) → b ≤ a → ((i : ℕ) → i ≤ j → byte_of b i ≤ byte_of a i) → byte_of (a - b) j ≡ byte_of a j - byte_of b j
byte_sub a b zero l h = omega (arith, byte_zero (a - b), byte_zero a, byte_zero b, h 0 (omega arith))
byte_sub a b (suc j) l h =
    let e : (a - b) / 256 ≡ a / 256 - b / 256 = omega (arith, byte_zero a, byte_zero b, h 0 (omega arith)) in
    simp (byte_suc, e) (byte_sub (a / 256) (b / 256) j (omega arith) (λ i m. simp byte_suc at (h (suc i) (omega arith))))

-- a sum that carries nothing out of a byte fits where its summands do
pub add_fits : (n a b : ℕ) → a < 2 ^ (8 * n) → b < 2 ^ (8 * n) → ((i : ℕ) → i < n → byte_of a i + byte_of b i < 256) → a + b < 2 ^ (8 * n)
add_fits zero a b ha hb h = omega arith
add_fits (suc n) a b ha hb h =
    let e : 2 ^ (8 * suc n) ≡ 256 * 2 ^ (8 * n) = ap (λ (x : ℕ). 2 ^ x) (omega arith) ∙ pow-add 2 8 (8 * n) in
    let r = add_fits n (a / 256) (b / 256) (omega arith) (omega arith) (λ i l. simp byte_suc at (h (suc i) (omega arith))) in
    omega (arith, byte_zero a, byte_zero b, h 0 (omega arith))

and_low : (a m k : ℕ) → m < 2 ^ k → bit_and a m ≡ bit_and (a % 2 ^ k) m
and_low a m k h =
    sym (mod-eq_of_lt (lt_of_le_of_lt (and_le_r a m) h)) ∙ and_mod a m k ∙ ap (bit_and (a % 2 ^ k)) (mod-eq_of_lt h)

shr_swap : (w j k : ℕ) → w / 2 ^ k / 2 ^ j ≡ w / 2 ^ j / 2 ^ k
shr_swap w j k = shr-shr w k j ∙ ap (λ (n : ℕ). w / 2 ^ n) (add_comm k j) ∙ sym (shr-shr w j k)

-- the low i bits of a byte of w >> k
pub byte_shr : (w i k j : ℕ) → i + k ≡ 8 → byte_of (w / 2 ^ k) j % 2 ^ i ≡ byte_of w j / 2 ^ k
unfolding byte_of
byte_shr w i k j h =
    ap₂ (λ (x n : ℕ). x % 2 ^ n % 2 ^ i) (shr_swap w (8 * j) k) (sym (add_comm k i ∙ h)) ∙ mod-mod-pow (w / 2 ^ (8 * j) / 2 ^ k) k i ∙ sym (field (w / 2 ^ (8 * j)) i k)
    ∙ ap (λ (n : ℕ). w / 2 ^ (8 * j) % 2 ^ n / 2 ^ k) h

-- its high nibble, for k = 4
pub byte_shr_next : (w j : ℕ) → byte_of (w / 16) j / 16 ≡ byte_of w (suc j) % 16
unfolding byte_of
byte_shr_next w j = omega (arith, shr_swap w (8 * j) 4, byte_suc w j, shr_swap w (8 * j) 8)

-- (w >> k) & m, where m clears what comes from the next byte
pub byte_shr_and : (w i k m j : ℕ) → i + k ≡ 8 → byte_of m j < 2 ^ i → byte_of (bit_and (w / 2 ^ k) m) j ≡ bit_and (byte_of w j / 2 ^ k) (byte_of m j)
byte_shr_and w i k m j h l =
    byte_and (w / 2 ^ k) m j ∙ and_low (byte_of (w / 2 ^ k) j) (byte_of m j) i l ∙ ap (λ (x : ℕ). bit_and x (byte_of m j)) (byte_shr w i k j h)

byte_low : (w j : ℕ) → j < 8 → byte_of (w % 2 ^ 64) j ≡ byte_of w j
unfolding byte_of
byte_low w j h =
    let e : 64 ≡ (56 - 8 * j + 8) + 8 * j = omega arith in
    ap (λ (n : ℕ). w % 2 ^ n / 2 ^ (8 * j) % 256) e ∙ ap (λ (x : ℕ). x % 256) (field w (56 - 8 * j + 8) (8 * j)) ∙ mod-mod-pow (w / 2 ^ (8 * j)) (56 - 8 * j) 8

-- w << 8k: byte j is byte j - k of w, and 0 where there is none
pub byte_shl : (w k j : ℕ) → j < 8 → k ≤ j → byte_of ((w * 2 ^ (8 * k)) % 2 ^ 64) j ≡ byte_of w (j - k)
unfolding byte_of
byte_shl w k j h l =
    let e : 8 * j ≡ 8 * k + 8 * (j - k) = omega arith in
    byte_low (w * 2 ^ (8 * k)) j h ∙ ap (λ (n : ℕ). w * 2 ^ (8 * k) / 2 ^ n % 256) e ∙ ap (λ (x : ℕ). x % 256) (sym (shr-shr (w * 2 ^ (8 * k)) (8 * k) (8 * (j - k))))
    ∙ ap (λ (x : ℕ). x / 2 ^ (8 * (j - k)) % 256) (shl-shr w (8 * k))

shl_add : (w a b : ℕ) → w * 2 ^ (a + b) ≡ w * 2 ^ a * 2 ^ b
shl_add w a b = ap (λ (x : ℕ). w * x) (pow-add 2 a b) ∙ sym (mul_assoc w (2 ^ a) (2 ^ b))

pub byte_shl_none : (w k j : ℕ) → j < 8 → j < k → byte_of ((w * 2 ^ (8 * k)) % 2 ^ 64) j ≡ 0
unfolding byte_of
byte_shl_none w k j h l =
    let i = 8 * (k - j - 1) in
    let e : 8 * k ≡ (i + 8) + 8 * j = omega arith in
    byte_low (w * 2 ^ (8 * k)) j h
    ∙ ap (λ (x : ℕ). x / 2 ^ (8 * j) % 256) (ap (λ (n : ℕ). w * 2 ^ n) e ∙ shl_add w (i + 8) (8 * j))
    ∙ ap (λ (x : ℕ). x % 256) (shl-shr (w * 2 ^ (i + 8)) (8 * j) ∙ shl_add w i 8)
    ∙ omega arith
