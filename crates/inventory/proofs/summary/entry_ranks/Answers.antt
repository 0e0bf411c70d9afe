-- The smaller of 2^L and the ranks that are left from e * 2^L on.
use mathlib.Core.Path.{◌≡◌, ap}
use Prim.Native.Nat.{ℕ, ◌*◌, ◌^◌}
use native.Mathlib.Omega.{arith}
use Rattle.spacing.specs.Spacing.{L}
use Rattle.inventory.specs.Index.{ranks_of}
use Rattle.inventory.proofs.summary.entry_ranks.Goals.{After-pow2-ones}
use Rattle.inventory.proofs.summary.entry_ranks.Goals as goal

-- the entry's first rank
first : (c : After-pow2-ones) → let a = c.args in a.e * c.pow2-ones.result ≡ a.e * 2 ^ L a.plan
first c = ap (λ (z : ℕ). c.args.e * z) c.pow2-ones.ensures

pub returns : goal.returns
unfolding ranks_of
returns c =
    omega (arith, c.min.ensures, c.pow2-ones.ensures, first (goal.at.returns c).After-pow2-ones)
