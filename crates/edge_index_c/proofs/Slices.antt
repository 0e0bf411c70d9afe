-- A store that is answered names lent cells: its part has a cell where hint answers, so that it is not the empty one, and lies
-- in its slice. Where hint refuses, its refusal is all that goes on.
use mathlib.Core.List.{List}
use mathlib.Core.Logic.{inl, inr}
use mathlib.Core.Path.{refl}
use Prim.Native.Nat.{ℕ, ◌<◌}
use native.Mathlib.Omega.{arith}
use lib.Dec.{ltb}
use lib.ListN.{get_or}
use Rattle.rank_sel.specs.Outcome.{answer}
use Rattle.rank_sel.proofs.Outcome.{answer_is, then_answer, then_then, not_refused, refused_on}
use Rattle.inventory.specs.Numbers.{summary_at}
use Rattle.read_inventory.specs.Jump.{Part, of_inventory, of_spill, empty, hint_of, store_of, subinventory_of, PartIn, cell_count}
use Rattle.read_inventory.proofs.PartSize.{store_some, store_in}
use Rattle.edge_index_c.specs.Calls.{part_numbers, hint_c, subinventory_c, Named, StoreNames, StoreRefuses}
use Rattle.edge_index_c.specs.Codes.{bad_code}

part_named : (inv sp : List ℕ) (p : Part) → 0 < cell_count p → PartIn inv sp p → Named inv sp (part_numbers p)
part_named inv sp (of_inventory c n) l i = record { some = l; lent = inl (refl, i) }
part_named inv sp (of_spill c n) l i = record { some = l; lent = inr (refl, i) }
part_named inv sp empty l i = absurd (omega arith)

pub store_names : StoreNames
unfolding subinventory_c store_of subinventory_of
store_names ws s inv sp r c e =
    let t = summary_at s in
    let p = then_answer (store_of ws t inv sp r) _ c (not_refused (ltb 1 (get_or s 0 0)) bad_code _ c e).1 in
    let h = then_answer (hint_of ws t inv sp r) _ p.0 p.1 in
    let l = rw p.1 at (store_some ws t inv sp r h.0 h.1) in
    let i = rw p.1 at (store_in ws t inv sp r) in
    rw (← answer_is p.2) (part_named inv sp p.0 l i)

pub store_refuses : StoreRefuses
unfolding subinventory_c hint_c store_of
store_refuses ws s inv sp r n =
    rw (then_then (hint_of ws (summary_at s) inv sp r) _ (λ p. answer (part_numbers p)))
    (refused_on (ltb 1 (get_or s 0 0)) bad_code (hint_of ws (summary_at s) inv sp r) _ n)
