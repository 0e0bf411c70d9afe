-- Where the bits of a planned record stand, and what a seek from one of them finds.
use mathlib.Core.Bool.{Bool, true}
use mathlib.Core.Path.{◌≡◌, ap, subst⁻¹, ◌∙◌}
use mathlib.Core.Logic.{⊎_elim}
use mathlib.Core.List.{List}
use mathlib.Core.Option.{some}
use Prim.Native.Nat.{ℕ, ◌+◌, ◌-◌, ◌*◌, ◌^◌, ◌≤◌, ◌<◌}
use native.Mathlib.Nat.{zero-mul}
use native.Mathlib.Omega.{arith}
use borrow.Author.Tests.{lt-ltb, le-ltb}
use Rattle.rank_sel.specs.Rank.{rank}
use Rattle.rank_sel.specs.Seek.{seek}
use Rattle.std.proofs.lemmas.Bool.{cases_lt}
use Rattle.rank_sel.proofs.Select.{select_sought, select-seek, select_none, select_first, select_no_first}
use Rattle.bit_record.specs.Record.{selected, num_selected}
use Rattle.spacing.specs.Spacing.{N, L, PlanOf}
use Rattle.spacing.specs.declared.Parameters.{Parameters}
use Rattle.inventory.specs.Index.{mark, bound, start_of}
use Rattle.inventory.specs.declared.entry.Entry.{Entry}
use Rattle.inventory.proofs.Marks.{Streamable, rising, entry_streamable, first_is}
use Rattle.build_inventory.specs.Placed.{bits_at, pos_at}
use Rattle.build_inventory.specs.declared.planned.Placed.{Placed}
use Rattle.build_inventory.specs.declared.planned.Planned.{Planned}
use Rattle.build_inventory.specs.Positions.{or_end, pos_in}

-- k selected bits on from a position
abbrev seek_or_end : List ℕ → Parameters → ℕ → ℕ → ℕ
seek_or_end ws p from k = or_end p (seek (selected p.polarity ws p.len) (p.len - from) from k)

module _ (ws : List ℕ) (p : Parameters) (h : PlanOf ws p) where
  -- what the record selects
  abbrev bits : ℕ → Bool
  bits = selected p.polarity ws p.len

  count : N p ≡ rank bits p.len
  unfolding num_selected
  count = h.num

  -- k ranks on from the bit of rank r
  pub bound_next : (r k from n : ℕ) → r < N p → from ≡ pos_in ws p r → n ≡ k
      → seek_or_end ws p from n ≡ bound (pos_in ws p) p (r + k)
  unfolding bound
  bound_next r k from n l ef en = ⊎_elim
      (λ (g : r + k < N p). rw (ef, en, lt-ltb (r + k) (N p) g, select-seek bits p.len r k (omega (arith, count))))
      (λ (g : N p ≤ r + k).
      rw (ef, en, le-ltb (r + k) (N p) g, select_none bits p.len r k (omega (arith, count)) (omega (arith, count))))
      (cases_lt (r + k) (N p))

  pub bound_first : seek_or_end ws p 0 0 ≡ start_of (pos_in ws p) p 0
  unfolding start_of bound
  bound_first = rw (zero-mul (2 ^ L p)) (⊎_elim
      (λ (g : 0 < N p). rw (lt-ltb 0 (N p) g, select_first bits p.len (omega (arith, count))))
      (λ (g : N p ≤ 0). rw (le-ltb 0 (N p) g, select_no_first bits p.len (omega (arith, count))))
      (cases_lt 0 (N p)))

  -- and from one mark to the next, which is there
  pub mark_next : (x : Entry) → Streamable (pos_in ws p) p x
      → (k from n : ℕ) → k + 1 < x.marks → from ≡ mark (pos_in ws p) x k → n ≡ 2 ^ x.log2_quantum
      → seek bits (p.len - from) from n ≡ some (mark (pos_in ws p) x (k + 1))
  unfolding mark
  mark_next x s k from n l ef en =
      let q = 2 ^ x.log2_quantum in
      let e : x.first + k * q + q ≡ x.first + (k + 1) * q = omega arith in
      rw (ef, en, select-seek bits p.len (x.first + k * q) q (omega (arith, s.within (k + 1) l, count)), e)

  -- the bit of each rank is selected
  pub bit_here : (r : ℕ) → r < N p → bits (pos_in ws p r) ≡ true
  bit_here r l = (select_sought bits p.len r (omega (arith, count))).here

-- its count and L are small
pub small : (r : Planned) → (N r.plan < 2 ^ 62) × (L r.plan ≤ 63)
small r = (omega (arith, r.of.admitted.short, r.of.few), r.of.small_l)

-- what a placed entry's stream needs
pub streams : (r : Placed) → Streamable (pos_at r) r.planned.plan r.entry
streams r =
    subst⁻¹ (λ (z : Entry). Streamable (pos_at r) r.planned.plan z) r.is
    (entry_streamable (pos_at r) r.planned.plan (rising r.planned.words.now r.planned.plan r.planned.of) r.number r.within)

-- and its start is selected
pub start_here : (r : Placed) → bits_at r r.entry.start ≡ true
start_here r =
    let p = r.planned in
    let first : r.entry.first ≡ r.number * 2 ^ L p.plan = ap (λ (z : Entry). z.first) r.is ∙ first_is (pos_at r) p.plan r.number in
    ap (bits_at r) (streams r).begins ∙ bit_here p.words.now p.plan p.of r.entry.first (rw first r.within)
