-- Laws of the whole index: what one entry more adds, and how long it is.
use mathlib.Core.Path.{◌≡◌, sym, ap, ◌∙◌}
use mathlib.Core.List.{◌++◌}
use Prim.Native.Nat.{ℕ, zero, suc, ◌+◌, ◌*◌, ◌^◌, ◌≤◌}
use native.Mathlib.Nat.{zero-mul}
use native.Mathlib.Numerals.{add-one}
use native.Mathlib.Omega.{arith}
use lib.ListN.{length, length-append}
use lib.Pow.{pow_pos}
use Rattle.rank_sel.proofs.Numbers.{sum-zero, sum-suc, sum_mono}
use Rattle.spacing.specs.Spacing.{L, M}
use Rattle.spacing.specs.declared.Parameters.{Parameters}
use Rattle.inventory.specs.Index.{stride, entry_of, own_cells, spill_cells, spill_start, inventory_to, spill_to}
use Rattle.inventory.proofs.Marks.{few_heads, few_spilled, own_length, spill_length}

module _ (pos : ℕ → ℕ) (p : Parameters) where
  pub spill_start_none : spill_start pos p 0 ≡ 0
  unfolding spill_start
  spill_start_none = sum-zero _

  pub spill_start_more : (e : ℕ) → spill_start pos p (e + 1) ≡ spill_start pos p e + (entry_of pos p e).spilled
  unfolding spill_start
  spill_start_more e = ap (spill_start pos p) (add-one e) ∙ sum-suc _ e

  pub spill_start_mono : (e n : ℕ) → e ≤ n → spill_start pos p e ≤ spill_start pos p n
  unfolding spill_start
  spill_start_mono e n h = sum_mono _ e n h

  -- no more than there are ranks before e
  pub spill_start_few : (e : ℕ) → spill_start pos p e ≤ e * 2 ^ L p
  spill_start_few zero = omega (arith, spill_start_none)
  spill_start_few (suc e) =
      omega (arith, spill_start_few e, spill_start_more e, ap (spill_start pos p) (add-one e), few_spilled pos p e)

  pub inventory_more : (e : ℕ)
      → inventory_to pos p (e + 1) ≡ inventory_to pos p e ++ own_cells pos (entry_of pos p e) (spill_start pos p e) (2 ^ M p)
  unfolding inventory_to
  inventory_more e = ap (inventory_to pos p) (add-one e)

  pub spill_more : (e : ℕ) → spill_to pos p (e + 1) ≡ spill_to pos p e ++ spill_cells pos (entry_of pos p e) (2 ^ M p)
  unfolding spill_to
  spill_more e = ap (spill_to pos p) (add-one e)

  pub inventory_length : (e : ℕ) → length (inventory_to pos p e) ≡ e * stride p
  unfolding inventory_to
  inventory_length zero = sym (zero-mul (stride p))
  inventory_length (suc e) =
      simp (
        length-append,
        inventory_length e,
        own_length pos (entry_of pos p e) (spill_start pos p e) (2 ^ M p) (few_heads pos p e) (pow_pos (M p)),
      )
      (omega arith)

  pub spill_to_length : (e : ℕ) → length (spill_to pos p e) ≡ spill_start pos p e
  unfolding spill_to
  spill_to_length zero = sym spill_start_none
  spill_to_length (suc e) =
      simp (length-append, spill_to_length e, spill_length pos (entry_of pos p e) (2 ^ M p))
      (sym (spill_start_more e) ∙ ap (spill_start pos p) (add-one e))
