-- Parts of sizes v 0, v 1, .. tile their sum.
use mathlib.Core.Logic.{◌⊎◌, inl, inr, ⊎_elim}
use mathlib.Core.Path.{◌≡◌}
use Prim.Native.Nat.{ℕ, zero, suc, ◌+◌, ◌≤◌, ◌<◌}
use native.Mathlib.Omega.{arith}
use Rattle.rank_sel.specs.Numbers.{sum}
use Rattle.rank_sel.proofs.Numbers.{sum-suc, sum_mono}
use Rattle.std.proofs.lemmas.Bool.{cases_lt}

-- a part lies before the end
pub sum_part : (v : ℕ → ℕ) (e n : ℕ) → e < n → sum v e + v e ≤ sum v n
sum_part v e n h = omega (arith, sum-suc v e, sum_mono v (suc e) n h)

-- each place below the sum is in one part
pub tile : (v : ℕ → ℕ) (n c : ℕ) → c < sum v n → (e : ℕ) × (e < n) × (sum v e ≤ c) × (c < sum v e + v e)
unfolding sum
tile v zero c h = absurd (omega arith)
tile v (suc n) c h = go (tile v n c) (cases_lt c (sum v n))
  where
    go : (c < sum v n → (e : ℕ) × (e < n) × (sum v e ≤ c) × (c < sum v e + v e)) → (c < sum v n) ⊎ (sum v n ≤ c)
        → (e : ℕ) × (e < suc n) × (sum v e ≤ c) × (c < sum v e + v e)
    go ih (inl l) = let i = ih l in (i.0, omega arith, i.2, i.3)
    go ih (inr l) = (n, omega arith, l, h)

pub tile_one : (v : ℕ → ℕ) (c d e : ℕ) → sum v d ≤ c → c < sum v d + v d → sum v e ≤ c → c < sum v e + v e → d ≡ e
tile_one v c d e p q r s = ⊎_elim
    (λ (h : d < e). absurd (omega (arith, sum_part v d e h)))
    (λ (h : e ≤ d). ⊎_elim (λ (k : e < d). absurd (omega (arith, sum_part v e d k))) (λ (k : d ≤ e). omega arith) (cases_lt e d))
    (cases_lt d e)
