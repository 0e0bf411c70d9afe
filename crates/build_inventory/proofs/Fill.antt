-- The loop that writes the index: e entries are written, the rest is as it was.
use mathlib.Core.Path.{◌≡◌, refl, sym, ap, ◌∙◌}
use mathlib.Core.List.{List, ◌++◌}
use Prim.Native.Nat.{ℕ, ◌+◌, ◌-◌, ◌*◌, ◌^◌, ◌≤◌, ◌<◌}
use native.Mathlib.Nat.{zero-mul}
use native.Mathlib.Numerals.{add-one}
use native.Mathlib.Omega.{arith}
use lib.ListN.{length, take, drop, set}
use Rattle.spacing.specs.Spacing.{M}
use Rattle.spacing.specs.declared.Parameters.{Parameters}
use Rattle.inventory.specs.Index.{entries_of, stride, inventory_len_of, start_of, entry_of, spill_start, inventory_to, spill_to, inventory_of, spill_of, own_cells, spill_cells}
use Rattle.inventory.specs.declared.entry.Entry.{Entry}
use Rattle.inventory.proofs.Index.{inventory_more, spill_more, inventory_length, spill_to_length}
use Rattle.inventory.proofs.Lanes.{push}
use Rattle.build_inventory.specs.Stream.{WroteEntry, Filled}
use Rattle.build_inventory.proofs.Parts.{part_back, back_long}
use Rattle.build_inventory.proofs.Turns.{Reached, reached_none, reached_more, last_room, entry_room, spill_room}

pub record Standing (pos : ℕ → ℕ) (p : Parameters) (l₀ l s₀ s : List ℕ) (e at spilled start : ℕ) : Type 0 where
  pub reached : Reached pos p e spilled start
  pub place : at ≡ e * stride p
  pub long : length l ≡ length l₀
  pub spill_long : length s ≡ length s₀
  pub inventory : l ≡ inventory_to pos p e ++ drop at l₀
  pub spill : s ≡ spill_to pos p e ++ drop spilled s₀

module _ {pos : ℕ → ℕ} {p : Parameters} {l₀ s₀ : List ℕ}
    (hl : inventory_len_of p ≤ length l₀) (hs : spill_start pos p (entries_of p) ≤ length s₀) where
  pub stand_none : {start : ℕ} → start ≡ start_of pos p 0 → Standing pos p l₀ l₀ s₀ s₀ 0 0 0 start
  unfolding inventory_to spill_to
  stand_none es = record {
    reached = reached_none es;
    place = sym (zero-mul (stride p));
    long = refl;
    spill_long = refl;
    inventory = refl;
    spill = refl;
  }

  module _ {l s : List ℕ} {e at spilled start : ℕ} (v : Standing pos p l₀ l s₀ s e at spilled start) where
    pub stand_end : at < length l
    stand_end = omega (arith, last_room p e at v.reached.within v.place, v.long)

    pub stand_last : e ≡ entries_of p → Filled pos p l₀ (set l at start) s₀ s
    unfolding inventory_len_of inventory_of spill_of
    stand_last ee =
        let a : at ≡ entries_of p * stride p = v.place ∙ ap (λ (z : ℕ). z * stride p) ee in
        let w : start ≡ start_of pos p (entries_of p) = v.reached.begins ∙ ap (start_of pos p) ee in
        let i = push (inventory_to pos p e) l₀ at start (inventory_length pos p e ∙ sym v.place) (omega (arith, stand_end, v.long)) in
        record {
          inventory = rw (v.inventory, i, w, ee, a, add-one (entries_of p * stride p));
          spill = v.spill ∙ rw (v.reached.spills, ee);
        }

    module _ (lt : e < entries_of p) {x : Entry} (ex : x ≡ entry_of pos p e) where
      pub stand_cells : stride p + at ≤ length l
      stand_cells = omega (arith, entry_room p e at lt v.place, v.long)

      pub stand_spill : x.spilled + spilled ≤ length s
      stand_spill = omega (arith, spill_room v.reached lt ex, v.spill_long)

      pub stand_more : {ys zs : List ℕ} {cells : ℕ} → cells ≡ stride p
          → WroteEntry pos x (2 ^ M p) spilled (take (length l - at) (drop at l)) ys (take (length s - spilled) (drop spilled s)) zs
          → length ys ≡ length (take (length l - at) (drop at l)) → length zs ≡ length (take (length s - spilled) (drop spilled s))
          → Standing pos p l₀ (take at l ++ (ys ++ drop (length l - at) (drop at l)))
          s₀ (take spilled s ++ (zs ++ drop (length s - spilled) (drop spilled s)))
          (e + 1) (at + cells) (spilled + x.spilled) x.next
      stand_more {ys} {zs} ec w hy hz = record {
        reached = reached_more v.reached lt ex;
        place = omega (arith, ec, v.place);
        long = back_long l₀ l ys at (length l - at) v.long (omega (arith, stand_cells, v.long)) hy;
        spill_long = back_long s₀ s zs spilled (length s - spilled) v.spill_long (omega (arith, stand_spill, v.spill_long)) hz;
        inventory =
            part_back (inventory_to pos p e) l l₀ ys (own_cells pos x spilled (2 ^ M p)) at (stride p)
            v.inventory (inventory_length pos p e ∙ sym v.place) (omega (arith, stand_cells, v.long)) w.cells
            ∙ rw (inventory_more pos p e, ex, v.reached.spills, ec);
        spill =
            part_back (spill_to pos p e) s s₀ zs (spill_cells pos x (2 ^ M p)) spilled x.spilled
            v.spill (spill_to_length pos p e ∙ sym v.reached.spills) (omega (arith, stand_spill, v.spill_long)) w.spill
            ∙ rw (spill_more pos p e, ex);
      }
