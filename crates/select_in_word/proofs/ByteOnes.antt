-- Each byte's ones: pairs of bits, nibbles and bytes are added in place.
use mathlib.Core.Path.{◌≡◌, refl, ap, ap₂, ◌∙◌}
use Prim.Native.Nat.{ℕ, suc, ◌+◌, ◌-◌, ◌/◌, ◌%◌, ◌^◌, ◌≤◌, ◌<◌}
use native.Mathlib.Nat.{mod-eq_of_lt}
use native.Mathlib.Omega.{arith}
use lib.Bits.{bit_and, and_mask, and_le_l, and_le_r}
use lib.Count.{ones_in, ones}
use Rattle.select_in_word.specs.Bytes.{byte_of, Bytes}
use Rattle.select_in_word.proofs.Bytes.{byte_lt, every_byte, byte_and, byte_add, byte_sub, byte_shr, byte_shr_next, byte_shr_and}
use Rattle.select_in_word.proofs.Table.{list, same_list_lem}

-- the steps for a mask
abbrev pairs_by : ℕ → ℕ → ℕ
pairs_by m w = w - bit_and (w / 2 ^ 1) m

abbrev nibbles_by : ℕ → ℕ → ℕ
nibbles_by m w = bit_and w m + bit_and (w / 2 ^ 2) m

abbrev pub pairs : ℕ → ℕ
pairs = pairs_by 0x5555_5555_5555_5555

abbrev nibbles : ℕ → ℕ
nibbles w = nibbles_by 0x3333_3333_3333_3333 (pairs w)

abbrev byte_nibbles : ℕ → ℕ
byte_nibbles b = nibbles_by 0x33 (pairs_by 0x55 b)

pub pairs_fits : (w : ℕ) → bit_and (w / 2 ^ 1) 0x5555_5555_5555_5555 ≤ w
pairs_fits w = omega (arith, and_le_l (w / 2 ^ 1) 0x5555_5555_5555_5555)

pub nibbles_le : (m w : ℕ) → nibbles_by m w ≤ m + m
nibbles_le m w = omega (arith, and_le_r w m, and_le_r (w / 2 ^ 2) m)

-- of one byte, by computation: a nibble's count is small, and the two make the byte's
nibble_small : (b : ℕ) → b < 256 → byte_nibbles b % 16 / 8 ≡ 0
unfolding list
nibble_small b h = same_list_lem (λ b. byte_nibbles b % 16 / 8) (λ b. 0) 256 b refl h

nibble_ones : (b : ℕ) → b < 256 → (byte_nibbles b + byte_nibbles b / 16) % 16 ≡ ones b
unfolding list ones_in ones
nibble_ones b h = same_list_lem (λ b. (byte_nibbles b + byte_nibbles b / 16) % 16) ones 256 b refl h

low_nibble : (n h r : ℕ) → r ≡ (n + h) % 256 → h % 16 ≡ n / 16 → r % 16 ≡ (n + n / 16) % 16
low_nibble n h r e l = omega arith

module _ (w : ℕ) where
  pairs_bytes : Bytes (λ j. pairs_by 0x55 (byte_of w j)) (pairs w)
  pairs_bytes j l =
      let e : Bytes (λ j. bit_and (byte_of w j / 2 ^ 1) 0x55) (bit_and (w / 2 ^ 1) 0x5555_5555_5555_5555) =
      λ i a. byte_shr_and w 7 1 0x5555_5555_5555_5555 i refl (omega (arith, every_byte 0x55 i (omega arith) a)) ∙ ap (bit_and (byte_of w i / 2 ^ 1)) (every_byte 0x55 i (omega arith) a) in
      byte_sub w (bit_and (w / 2 ^ 1) 0x5555_5555_5555_5555) j (pairs_fits w) (λ i a. omega (arith, e i (omega arith), and_le_l (byte_of w i / 2 ^ 1) 0x55))
      ∙ ap (λ (x : ℕ). byte_of w j - x) (e j l)

  nibbles_bytes : Bytes (λ j. byte_nibbles (byte_of w j)) (nibbles w)
  nibbles_bytes j l =
      let p = pairs w in
      let a : Bytes (λ j. bit_and (byte_of p j) 0x33) (bit_and p 0x3333_3333_3333_3333) =
      λ i h. byte_and p 0x3333_3333_3333_3333 i ∙ ap (bit_and (byte_of p i)) (every_byte 0x33 i (omega arith) h) in
      let b : Bytes (λ j. bit_and (byte_of p j / 2 ^ 2) 0x33) (bit_and (p / 2 ^ 2) 0x3333_3333_3333_3333) =
      λ i h. byte_shr_and p 6 2 0x3333_3333_3333_3333 i refl (omega (arith, every_byte 0x33 i (omega arith) h)) ∙ ap (bit_and (byte_of p i / 2 ^ 2)) (every_byte 0x33 i (omega arith) h) in
      byte_add (bit_and p 0x3333_3333_3333_3333) (bit_and (p / 2 ^ 2) 0x3333_3333_3333_3333) j
      (λ i h. omega (arith, a i (omega arith), b i (omega arith), nibbles_le 0x33 (byte_of p i)))
      ∙ ap₂ (λ (x y : ℕ). (x + y) % 256) (a j l) (b j l) ∙ mod-eq_of_lt (omega (arith, nibbles_le 0x33 (byte_of p j))) ∙ ap (nibbles_by 0x33) (pairs_bytes j l)

  byte_nibbles_lem : (j : ℕ) → j < 7 → byte_of (nibbles w) j + byte_of (nibbles w / 2 ^ 4) j < 256
  byte_nibbles_lem j l =
      omega (
        arith,
        nibbles_bytes j (omega arith),
        nibbles_le 0x33 (pairs_by 0x55 (byte_of w j)),
        byte_shr_next (nibbles w) j,
        nibbles_bytes (suc j) (omega arith),
        nibble_small (byte_of w (suc j)) (byte_lt w (suc j)),
      )

  pub byte_ones : Bytes (λ j. ones (byte_of w j)) (bit_and (nibbles w + nibbles w / 2 ^ 4) 0x0f0f_0f0f_0f0f_0f0f)
  byte_ones j l =
      let n = nibbles w in
      byte_and (n + n / 2 ^ 4) 0x0f0f_0f0f_0f0f_0f0f j ∙ ap (bit_and (byte_of (n + n / 2 ^ 4) j)) (every_byte 0x0f j (omega arith) l) ∙ and_mask (byte_of (n + n / 2 ^ 4) j) 4
      ∙ low_nibble (byte_of n j) (byte_of (n / 2 ^ 4) j) (byte_of (n + n / 2 ^ 4) j) (byte_add n (n / 2 ^ 4) j (λ i h. byte_nibbles_lem i (omega arith))) (byte_shr n 4 4 j refl)
      ∙ ap (λ (x : ℕ). (x + x / 16) % 16) (nibbles_bytes j l) ∙ nibble_ones (byte_of w j) (byte_lt w j)
