-- Laws of the tail mask.
use mathlib.Core.Path.{◌≡◌, ap, ◌∙◌}
use Prim.Native.Nat.{ℕ, zero, suc, ◌-◌, ◌/◌, ◌%◌, ◌^◌, ◌≤◌, ◌<◌}
use native.Mathlib.Omega.{arith}
use lib.Bits.{bit_and, and_mask}
use Rattle.std.proofs.lemmas.Nat.Bits.{ones_shr}
use Rattle.select_in_word.specs.Tail.{tail_mask}

pub mask_shr : (r : ℕ) → 0 < r → r ≤ 64 → (2 ^ 64 - 1) / 2 ^ (64 - r) ≡ tail_mask r
mask_shr zero h l = absurd (omega arith)
mask_shr (suc r) h l = ones_shr 64 (64 - suc r) (omega arith) ∙ ap (λ (n : ℕ). 2 ^ n - 1) (omega arith)

pub and_tail : (w r : ℕ) → 0 < r → bit_and w (tail_mask r) ≡ w % 2 ^ r
and_tail w zero h = absurd (omega arith)
and_tail w (suc r) h = and_mask w (suc r)
