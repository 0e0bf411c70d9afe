-- The lanes are a power of two, so that shift and low bits are the quotient and the rest by them.
use native.Mathlib.Omega.{arith}
use Rattle.inventory.proofs.Shapes.{lanes_log}
use Rattle.read_inventory.proofs.decode.place_of.Goals as goal

pub overflow_shr-result : goal.overflow_shr-result
overflow_shr-result c =
    omega (arith, lanes_log c.requires.0)

pub low_bits-requires : goal.low_bits-requires
low_bits-requires c =
    omega (arith, lanes_log c.requires.0)

pub overflow_shr-result-2 : goal.overflow_shr-result-2
overflow_shr-result-2 c =
    omega (arith, lanes_log c.requires.0)

pub low_bits-requires-2 : goal.low_bits-requires-2
low_bits-requires-2 c =
    omega (arith, lanes_log c.requires.0)
