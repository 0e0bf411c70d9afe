-- Laws of the ranks of an entry.
use Prim.Native.Nat.{ℕ, ◌+◌, ◌*◌, ◌/◌, ◌%◌, ◌^◌, ◌≤◌, ◌<◌}
use native.Mathlib.Nat.{div-mul-le_self, div-add-mod', mod-lt}
use native.Mathlib.Omega.{arith}
use lib.Pow.{pow_pos}
use Rattle.rank_sel.specs.Numbers.{ceil_div}
use Rattle.rank_sel.proofs.Ceil.{below_ceil, ceil_lt}
use Rattle.spacing.specs.Spacing.{N, L}
use Rattle.spacing.specs.declared.Parameters.{Parameters}
use Rattle.inventory.specs.Index.{entries_of, ranks_of}

-- of n ranks, rank s has its mark among those 2^q apart
pub mark_among : (s n q : ℕ) → s < n → s / 2 ^ q < ceil_div n (2 ^ q)
mark_among s n q h = below_ceil (s / 2 ^ q) n (2 ^ q) (pow_pos q) (omega (arith, div-mul-le_self s (2 ^ q)))

module _ (p : Parameters) where
  pub entry_below : (e : ℕ) → e < entries_of p → e * 2 ^ L p < N p
  unfolding entries_of
  entry_below e h = ceil_lt e (N p) (2 ^ L p) (pow_pos (L p)) h

  pub in_entry : (e : ℕ) → e * 2 ^ L p < N p → e < entries_of p
  unfolding entries_of
  in_entry e h = below_ceil e (N p) (2 ^ L p) (pow_pos (L p)) h

  pub ranks_most : (e : ℕ) → ranks_of p e ≤ 2 ^ L p
  unfolding ranks_of
  ranks_most e = omega arith

  pub ranks_few : (e : ℕ) → ranks_of p e ≤ N p
  unfolding ranks_of
  ranks_few e = omega arith

  pub rank_entry : (r : ℕ) → r < N p → r / 2 ^ L p < entries_of p
  unfolding entries_of
  rank_entry r h = mark_among r (N p) (L p) h

  pub rank_sub : (r : ℕ) → r < N p → r % 2 ^ L p < ranks_of p (r / 2 ^ L p)
  unfolding ranks_of
  rank_sub r h = omega (arith, div-add-mod' r (2 ^ L p), mod-lt r (pow_pos (L p)))

  pub rank_in : (e s : ℕ) → s < ranks_of p e → (e * 2 ^ L p + s < N p) × (s < 2 ^ L p)
  unfolding ranks_of
  rank_in e s h = omega arith
