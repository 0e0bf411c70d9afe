-- The facts of a shape, for every kind alike: 1, 2 or 4 lanes fill a cell, and the rest follows from that.
use mathlib.Core.Path.{refl}
use Prim.Native.Nat.{ℕ, ◌<◌}
use native.Mathlib.Omega.{arith}
use lib.Pow.{pow_pos}
use Rattle.rank_sel.proofs.Numbers.{lt_pow}
use Rattle.inventory.specs.Shape.{shape_of, Shaped}
use Rattle.inventory.specs.declared.shape.Shape.{Shape}
use Rattle.inventory.specs.declared.shape.SpanType.{SpanType}
use Rattle.inventory.specs.declared.shape.SpanType.TheVariants.{U16, U32, U64}

pub shaped : (k : SpanType) (start : ℕ) → Shaped (shape_of k start)
shaped U16 start = record { cell = refl; lanes = refl; few = omega arith; heads = omega arith; from = omega arith }
shaped U32 start = record { cell = refl; lanes = refl; few = omega arith; heads = omega arith; from = omega arith }
shaped U64 start = record { cell = refl; lanes = refl; few = omega arith; heads = omega arith; from = omega arith }

module _ {s : Shape} (h : Shaped s) where
  pub lanes_pos : 0 < s.lanes
  lanes_pos = omega (arith, h.lanes, pow_pos s.log2_lanes)

  pub lanes_log : s.log2_lanes < 64
  lanes_log = omega (arith, lt_pow s.log2_lanes, h.lanes, h.few)
