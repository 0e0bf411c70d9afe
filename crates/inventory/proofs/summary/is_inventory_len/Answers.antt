-- The count is held to its rule by what is left of it without the entries' first cells and the closing one.
use mathlib.Core.Path.{sym}
use Prim.Native.Nat.{◌^◌}
use native.Mathlib.Omega.{arith}
use lib.Pow.{pow_pos}
use Rattle.inventory.specs.Index.{inventory_len_of}
use Rattle.inventory.proofs.Lawful.{count_few, count_other, count_is}
use Rattle.inventory.proofs.summary.is_inventory_len.Goals as goal

pub returns-then-inventory_len-entries : goal.returns-then-inventory_len-entries
unfolding inventory_len_of
returns-then-inventory_len-entries c =
    let a = c.args in
    rw (← c.entry_count-entries.ensures)
    (sym (count_few a.inventory_len c.entry_count-entries.result (2 ^ a.plan.log2_words_per_subinventory) c.if-inventory_len-entries.true))

pub returns-then-own-plan : goal.returns-then-own-plan
unfolding inventory_len_of
returns-then-own-plan c =
    let a = c.args in
    rw (← c.entry_count-entries.ensures)
    (sym
    (count_other a.inventory_len c.entry_count-entries.result (2 ^ a.plan.log2_words_per_subinventory) (pow_pos _)
    c.if-own-plan.true))

pub returns : goal.returns
unfolding inventory_len_of
returns c =
    let a = c.args in
    rw (← c.entry_count-entries.ensures)
    (count_is a.inventory_len c.entry_count-entries.result (2 ^ a.plan.log2_words_per_subinventory) (omega arith)
    c.if-inventory_len-entries.false c.if-own-plan.false)
