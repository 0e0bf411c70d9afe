-- Lanes read back from the cell that was packed from them, and a cell packed from its lanes.
use mathlib.Core.Logic.{⊎_elim}
use mathlib.Core.Path.{◌≡◌, sym, ap, ◌∙◌}
use Prim.Native.Nat.{ℕ, zero, suc, ◌+◌, ◌-◌, ◌*◌, ◌/◌, ◌%◌, ◌^◌, ◌≤◌, ◌<◌}
use native.Mathlib.Nat.{mul-zero, mul_assoc, mod-one, mod-lt, mod-eq_of_lt, mul-add-mod_self_right}
use native.Mathlib.Omega.{arith}
use lib.Arith.{digits_div}
use lib.Pow.{pow-add, pow_pos, mod-pow-add, field}
use Rattle.std.proofs.lemmas.Bool.{cases_lt}
use Rattle.inventory.specs.Lanes.{lane_of, pack}
use Rattle.inventory.proofs.Lanes.{pack_lt, pack_ext}

-- what lies above a lane does not alter it
lane_below : (a v w t n : ℕ) → t < n → (a + v * 2 ^ (w * n)) / 2 ^ (w * t) % 2 ^ w ≡ a / 2 ^ (w * t) % 2 ^ w
lane_below a v w t n h =
    let c : n ≡ n - suc t + suc t = omega arith in
    let e : w * n ≡ w * (n - suc t) + (w + w * t) = ap (λ (k : ℕ). w * k) c ∙ omega arith in
    let f : v * 2 ^ (w * n) ≡ v * 2 ^ (w * (n - suc t)) * 2 ^ (w + w * t) =
    ap (λ (k : ℕ). v * 2 ^ k) e ∙ ap (λ (k : ℕ). v * k) (pow-add 2 (w * (n - suc t)) (w + w * t)) ∙ sym (mul_assoc v _ _) in
    let g : a + v * 2 ^ (w * n) ≡ v * 2 ^ (w * (n - suc t)) * 2 ^ (w + w * t) + a = omega arith in
    sym (field (a + v * 2 ^ (w * n)) w (w * t))
    ∙ ap (λ (k : ℕ). k % 2 ^ (w + w * t) / 2 ^ (w * t)) g
    ∙ ap (λ (k : ℕ). k / 2 ^ (w * t)) (mul-add-mod_self_right (v * 2 ^ (w * (n - suc t))) (2 ^ (w + w * t)) a)
    ∙ field a w (w * t)

pub pack-lane : (w : ℕ) (v : ℕ → ℕ) → ((i : ℕ) → v i < 2 ^ w) → (n t : ℕ) → t < n → lane_of w (pack w v n) t ≡ v t
unfolding lane_of pack
pack-lane w v h zero t l = absurd (omega arith)
pack-lane w v h (suc n) t l =
    ⊎_elim
    (λ (k : t < n). lane_below (pack w v n) (v n) w t n k ∙ pack-lane w v h n t k)
    (λ (k : n ≤ t).
    let e : t ≡ n = omega arith in
    let c : pack w v n + v n * 2 ^ (w * n) ≡ v n * 2 ^ (w * n) + pack w v n = omega arith in
    rw (e, c) (ap (λ (k : ℕ). k % 2 ^ w) (digits_div (v n) (pack_lt w v h n)) ∙ mod-eq_of_lt (h n)))
    (cases_lt t n)

pub lane_lt : (w c t : ℕ) → lane_of w c t < 2 ^ w
unfolding lane_of
lane_lt w c t = mod-lt (c / 2 ^ (w * t)) (pow_pos w)

-- the lanes below number n, and one more
lane_more : (w c n : ℕ) → c % 2 ^ (w * n) + lane_of w c n * 2 ^ (w * n) ≡ c % 2 ^ (w * suc n)
unfolding lane_of
lane_more w c n = let e : w * suc n ≡ w + w * n = omega arith in rw (e, mod-pow-add c w (w * n)) (omega arith)

pub lanes_pack : (w c n : ℕ) → pack w (lane_of w c) n ≡ c % 2 ^ (w * n)
unfolding pack
lanes_pack w c zero = sym (ap (λ (z : ℕ). c % 2 ^ z) (mul-zero w) ∙ mod-one c)
lanes_pack w c (suc n) = rw (lanes_pack w c n) (lane_more w c n)

-- a cell is told by its lanes
pub cell_by_lanes : (w n c : ℕ) (v : ℕ → ℕ) → w * n ≡ 64 → c < 2 ^ 64 → ((t : ℕ) → t < n → lane_of w c t ≡ v t) → c ≡ pack w v n
cell_by_lanes w n c v e l h =
    sym (mod-eq_of_lt l) ∙ ap (λ (z : ℕ). c % 2 ^ z) (sym e) ∙ sym (lanes_pack w c n) ∙ pack_ext w (lane_of w c) v n h
