-- Low bits, as a mask keeps them.
use mathlib.Core.Path.{◌≡◌}
use Prim.Native.Nat.{ℕ, ◌-◌, ◌*◌, ◌%◌, ◌^◌, ◌<◌}
use lib.Bits.{bit_and, and_mask}
use Rattle.std.proofs.lemmas.Nat.{one_shl}

pub low_mask : (w k : ℕ) → k < 64 → bit_and w (1 * 2 ^ k % 2 ^ 64 - 1) ≡ w % 2 ^ k
low_mask w k h = rw (one_shl k 64 h) (and_mask w k)
