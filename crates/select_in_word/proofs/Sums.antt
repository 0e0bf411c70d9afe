-- Running sums of a word's bytes, by doubling: w + (w << 8u) has in each byte the sum of twice as many.
use mathlib.Core.Path.{◌≡◌, sym, ap, ◌∙◌}
use mathlib.Core.Logic.{⊎_elim}
use Prim.Native.Nat.{ℕ, zero, suc, ◌+◌, ◌-◌, ◌*◌, ◌%◌, ◌^◌, ◌<◌}
use native.Mathlib.Nat.{mod-lt, mod-eq_of_lt}
use native.Mathlib.Omega.{arith}
use Rattle.rank_sel.specs.Numbers.{sum}
use Rattle.rank_sel.proofs.Numbers.{sum-zero, sum-suc, sum_mono}
use Rattle.std.proofs.lemmas.Bool.{cases_lt}
use Rattle.select_in_word.specs.Bytes.{byte_of, Bytes}
use Rattle.select_in_word.proofs.Bytes.{byte_add, add_fits, byte_shl, byte_shl_none}

-- what grows by g from 0 on is its sum
pub sum_steps : (f g : ℕ → ℕ) (n : ℕ) → f 0 ≡ 0 → ((j : ℕ) → j < n → f (suc j) ≡ f j + g j) → sum g n ≡ f n
sum_steps f g zero z h = sum-zero g ∙ sym z
sum_steps f g (suc n) z h = omega (arith, sum-suc g n, sum_steps f g n z (λ j l. h j (omega arith)), h n (omega arith))

-- the sum of the u values up to place j
unfoldable last : (ℕ → ℕ) → ℕ → ℕ → ℕ
last g u j = sum g (suc j) - sum g (suc j - u)

abbrev doubled : ℕ → ℕ → ℕ
doubled u w = w + (w * 2 ^ (8 * u)) % 2 ^ 64

module _ (g : ℕ → ℕ) (u w : ℕ) (most : sum g 8 < 256) (fits : w < 2 ^ 64) (h : Bytes (last g u) w) where
  parts : (j : ℕ) → j < 8 → byte_of w j + byte_of ((w * 2 ^ (8 * u)) % 2 ^ 64) j ≡ last g (u + u) j
  unfolding last
  parts j l =
      ⊎_elim
      (λ a.
      let p : sum g (suc j - u) ≡ sum g (suc j - (u + u)) = ap (sum g) (omega arith) in
      omega (arith, h j l, byte_shl_none w u j l a))
      (λ a.
      let p : sum g (suc (j - u)) ≡ sum g (suc j - u) = ap (sum g) (omega arith) in
      let q : sum g (suc (j - u) - u) ≡ sum g (suc j - (u + u)) = ap (sum g) (omega arith) in
      omega (arith, h j l, byte_shl w u j l a, h (j - u) (omega arith), sum_mono g (suc j - (u + u)) (suc j - u) (omega arith), sum_mono g (suc j - u) (suc j) (omega arith)))
      (cases_lt j u)

  small : (j : ℕ) → j < 8 → byte_of w j + byte_of ((w * 2 ^ (8 * u)) % 2 ^ 64) j < 256
  unfolding last
  small j l = omega (arith, parts j l, sum_mono g (suc j) 8 (omega arith))

  doubled_fits : doubled u w < 2 ^ 64
  doubled_fits = add_fits 8 w ((w * 2 ^ (8 * u)) % 2 ^ 64) fits (mod-lt (w * 2 ^ (8 * u)) (omega arith)) small

  doubled_last : Bytes (last g (u + u)) (doubled u w)
  doubled_last j l = byte_add w ((w * 2 ^ (8 * u)) % 2 ^ 64) j (λ i m. small i (omega arith)) ∙ mod-eq_of_lt (small j l) ∙ parts j l

module _ (w : ℕ) (most : sum (byte_of w) 8 < 256) (fits : w < 2 ^ 64) where
  singles : Bytes (last (byte_of w) 1) w
  unfolding last
  singles j l = let e : sum (byte_of w) (suc j - 1) ≡ sum (byte_of w) j = ap (sum (byte_of w)) (omega arith) in omega (arith, sum-suc (byte_of w) j)

  pub pairs_fits : doubled 1 w < 2 ^ 64
  pairs_fits = doubled_fits (byte_of w) 1 w most fits singles

  pairs : Bytes (last (byte_of w) 2) (doubled 1 w)
  pairs = doubled_last (byte_of w) 1 w most fits singles

  pub quads_fits : doubled 2 (doubled 1 w) < 2 ^ 64
  quads_fits = doubled_fits (byte_of w) 2 (doubled 1 w) most pairs_fits pairs

  quads : Bytes (last (byte_of w) 4) (doubled 2 (doubled 1 w))
  quads = doubled_last (byte_of w) 2 (doubled 1 w) most pairs_fits pairs

  pub sums_fits : doubled 4 (doubled 2 (doubled 1 w)) < 2 ^ 64
  sums_fits = doubled_fits (byte_of w) 4 (doubled 2 (doubled 1 w)) most quads_fits quads

  pub sums : Bytes (λ j. sum (byte_of w) (suc j)) (doubled 4 (doubled 2 (doubled 1 w)))
  unfolding last
  sums j l =
      let e : sum (byte_of w) (suc j - 8) ≡ sum (byte_of w) 0 = ap (sum (byte_of w)) (omega arith) in
      omega (arith, doubled_last (byte_of w) 4 (doubled 2 (doubled 1 w)) most quads_fits quads j l, sum-zero (byte_of w))
