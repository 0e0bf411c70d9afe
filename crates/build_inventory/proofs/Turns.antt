-- The loops over entries, and the count of the inventory's cells.
use mathlib.Core.Path.{◌≡◌, sym, ap, ◌∙◌}
use Prim.Native.Nat.{ℕ, ◌+◌, ◌-◌, ◌*◌, ◌/◌, ◌≤◌, ◌<◌}
use native.Mathlib.Nat.{le-div_iff_mul-le, div-lt_iff_lt-mul, mul-le-mul_right}
use native.Mathlib.Omega.{arith}
use Rattle.spacing.specs.declared.Parameters.{Parameters}
use Rattle.inventory.specs.Index.{entries_of, stride, inventory_len_of, start_of, entry_of, spill_start}
use Rattle.inventory.specs.declared.entry.Entry.{Entry}
use Rattle.inventory.proofs.Index.{spill_start_none, spill_start_more, spill_start_mono}
use Rattle.inventory.proofs.Marks.{next_is}

-- ---- n entries of so many cells and the closing cell, against a bound
module _ (p : Parameters) (most : ℕ) {n cells : ℕ} (some : 0 < most) (en : n ≡ entries_of p) (ec : cells ≡ stride p) where
  len_is : n * cells + 1 ≡ inventory_len_of p
  unfolding inventory_len_of
  len_is = rw (en, ec)

  pub len_over : (most - 1) / cells < n → most < inventory_len_of p
  len_over h = omega (arith, len_is, (div-lt_iff_lt-mul {k = cells} {x = most - 1} {y = n} (omega arith)).0 h)

  pub len_within : n ≤ (most - 1) / cells → (n * cells + 1 ≡ inventory_len_of p) × (n * cells + 1 ≤ most)
  len_within h = (len_is, omega (arith, (le-div_iff_mul-le {k = cells} {x = n} {y = most - 1} (omega arith)).0 h))

-- ---- e entries are done: they spill so many cells, and the next one starts here
pub record Reached (pos : ℕ → ℕ) (p : Parameters) (e spilled start : ℕ) : Type 0 where
  pub within : e ≤ entries_of p
  pub spills : spilled ≡ spill_start pos p e
  pub begins : start ≡ start_of pos p e

pub reached_none : {pos : ℕ → ℕ} {p : Parameters} {start : ℕ} → start ≡ start_of pos p 0 → Reached pos p 0 0 start
reached_none {pos} {p} es = record { within = omega arith; spills = sym (spill_start_none pos p); begins = es }

-- the closing cell has its place
pub last_room : (p : Parameters) (e at : ℕ) → e ≤ entries_of p → at ≡ e * stride p → at + 1 ≤ inventory_len_of p
unfolding inventory_len_of
last_room p e at h ea = omega (arith, mul-le-mul_right {m = e} {n = entries_of p} (stride p) h)

-- and so has an entry before it
pub entry_room : (p : Parameters) (e at : ℕ) → e < entries_of p → at ≡ e * stride p → stride p + at + 1 ≤ inventory_len_of p
entry_room p e at h ea =
    omega (arith, last_room p (e + 1) (at + stride p) (omega arith) (omega arith))

module _ {pos : ℕ → ℕ} {p : Parameters} {e spilled start : ℕ} (v : Reached pos p e spilled start) (lt : e < entries_of p)
    {x : Entry} (ex : x ≡ entry_of pos p e) where
  spills_more : spilled + x.spilled ≡ spill_start pos p (e + 1)
  spills_more = rw ex (omega (arith, v.spills, spill_start_more pos p e))

  pub spill_room : x.spilled + spilled ≤ spill_start pos p (entries_of p)
  spill_room = omega (arith, spills_more, spill_start_mono pos p (e + 1) (entries_of p) (omega arith))

  pub reached_more : Reached pos p (e + 1) (spilled + x.spilled) x.next
  reached_more = record { within = omega arith; spills = spills_more; begins = ap (λ (z : Entry). z.next) ex ∙ next_is pos p e }
