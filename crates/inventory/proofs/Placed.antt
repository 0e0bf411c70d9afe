-- Where each entry's cells stand in the inventory and in the spill, whatever stands past the counts; and that cells which stand so
-- are the index within them.
use mathlib.Core.Path.{◌≡◌, refl, sym, ap, ◌∙◌, subst}
use mathlib.Core.List.{List, [], ◌∷◌, ◌++◌, append-nil}
use mathlib.Core.Logic.{⊎_elim}
use Prim.Native.Nat.{ℕ, zero, suc, ◌+◌, ◌-◌, ◌*◌, ◌/◌, ◌%◌, ◌^◌, ◌≤◌, ◌<◌}
use native.Mathlib.Nat.{div-add-mod', div-lt_iff_lt-mul, mod-lt}
use native.Mathlib.Omega.{arith}
use lib.Arith.{digits_lt}
use lib.ListN.{length, get_or, take, length-append, get_or-append}
use lib.Pow.{pow_pos}
use lib.Seq.{get_or-append-add, get_or_at}
use Rattle.rank_sel.proofs.Lists.{front_is}
use Rattle.std.proofs.lemmas.Bool.{cases_lt}
use Rattle.spacing.specs.Spacing.{M}
use Rattle.spacing.specs.declared.Parameters.{Parameters}
use Rattle.inventory.specs.Index.{entries_of, stride, inventory_len_of, lane, packed, stream, own_cells, spill_cells, start_of, entry_of, spill_start, inventory_to, spill_to, inventory_of, spill_of}
use Rattle.inventory.specs.Lanes.{lane_of}
use Rattle.inventory.specs.Shape.{Shaped}
use Rattle.inventory.specs.declared.entry.Entry.{Entry}
use Rattle.inventory.proofs.Lanes.{tab_at}
use Rattle.inventory.proofs.Marks.{few_heads, heads_length, own_length}
use Rattle.inventory.proofs.Index.{spill_start_more, spill_start_mono, inventory_length, spill_to_length}
use Rattle.inventory.proofs.Sums.{tile}
use Rattle.inventory.proofs.Unpack.{cell_by_lanes}

-- ---- the cells of one entry
head_at : (h a b c : ℕ) → h ≤ 1 → c ≤ h → get_or (take (1 + h) (a ∷ b ∷ [])) c 0 ≡ get_or (a ∷ b ∷ []) c 0
head_at zero a b zero hh hc = refl
head_at zero a b (suc c) hh hc = absurd (omega arith)
head_at (suc zero) a b zero hh hc = refl
head_at (suc zero) a b (suc zero) hh hc = refl
head_at (suc zero) a b (suc (suc c)) hh hc = absurd (omega arith)
head_at (suc (suc h)) a b c hh hc = absurd (omega arith)

stream_at : (pos : ℕ → ℕ) (x : Entry) (i n j : ℕ) → j < n → get_or (stream pos x i n) j 0 ≡ packed pos x (i + j * x.shape.lanes)
unfolding stream
stream_at pos x i n j l = tab_at _ n j l

module _ (pos : ℕ → ℕ) (x : Entry) (hh : x.shape.heads ≤ 1) (before own : ℕ) where
  abbrev heads : List ℕ
  heads = take (1 + x.shape.heads) ((x.start + x.shape.tag) ∷ before ∷ [])

  own_head : (c : ℕ) → c ≤ x.shape.heads → get_or (own_cells pos x before own) c 0 ≡ get_or ((x.start + x.shape.tag) ∷ before ∷ []) c 0
  unfolding own_cells
  own_head c l =
      get_or-append heads _ 0 c (rw (heads_length x.shape.heads (x.start + x.shape.tag) before hh) (omega arith))
      ∙ head_at x.shape.heads (x.start + x.shape.tag) before c hh l

  pub own_first : get_or (own_cells pos x before own) 0 0 ≡ x.start + x.shape.tag
  own_first = own_head 0 (omega arith)

  pub own_second : x.shape.heads ≡ 1 → get_or (own_cells pos x before own) 1 0 ≡ before
  own_second e = own_head 1 (omega arith)

  pub own_cell : (j : ℕ) → j < own - x.shape.heads
      → get_or (own_cells pos x before own) (1 + x.shape.heads + j) 0 ≡ packed pos x (x.shape.from + j * x.shape.lanes)
  unfolding own_cells
  own_cell j l =
      ap (λ (n : ℕ). get_or (heads ++ stream pos x x.shape.from (own - x.shape.heads)) (n + j) 0)
      (sym (heads_length x.shape.heads (x.start + x.shape.tag) before hh))
      ∙ get_or-append-add heads (stream pos x x.shape.from (own - x.shape.heads)) j 0
      ∙ stream_at pos x x.shape.from (own - x.shape.heads) j l

pub spill_cell : (pos : ℕ → ℕ) (x : Entry) (own j : ℕ) → j < x.spilled
    → get_or (spill_cells pos x own) j 0 ≡ packed pos x (x.shape.from + (own - x.shape.heads) * x.shape.lanes + j * x.shape.lanes)
unfolding spill_cells
spill_cell pos x own j l = stream_at pos x (x.shape.from + (own - x.shape.heads) * x.shape.lanes) x.spilled j l

-- ---- all entries
module _ (pos : ℕ → ℕ) (p : Parameters) where
  abbrev own_of : ℕ → List ℕ
  own_of e = own_cells pos (entry_of pos p e) (spill_start pos p e) (2 ^ M p)

  abbrev over_of : ℕ → List ℕ
  over_of e = spill_cells pos (entry_of pos p e) (2 ^ M p)

  own_long : (e : ℕ) → length (own_of e) ≡ stride p
  own_long e = own_length pos (entry_of pos p e) (spill_start pos p e) (2 ^ M p) (few_heads pos p e) (pow_pos (M p))

  inventory_at : (n e j : ℕ) → e < n → j < stride p → get_or (inventory_to pos p n) (e * stride p + j) 0 ≡ get_or (own_of e) j 0
  unfolding inventory_to
  inventory_at zero e j h l = absurd (omega arith)
  inventory_at (suc n) e j h l = ⊎_elim
      (λ (k : e < n).
      get_or-append (inventory_to pos p n) (own_of n) 0 (e * stride p + j) (rw (inventory_length pos p n) (digits_lt k l))
      ∙ inventory_at n e j k l)
      (λ (k : n ≤ e).
      let q : e ≡ n = omega arith in
      rw (q, ← inventory_length pos p n) (get_or-append-add (inventory_to pos p n) (own_of n) j 0))
      (cases_lt e n)

  spill_at : (n e j : ℕ) → e < n → j < (entry_of pos p e).spilled → get_or (spill_to pos p n) (spill_start pos p e + j) 0 ≡ get_or (over_of e) j 0
  unfolding spill_to
  spill_at zero e j h l = absurd (omega arith)
  spill_at (suc n) e j h l = ⊎_elim
      (λ (k : e < n).
      get_or-append (spill_to pos p n) (over_of n) 0 (spill_start pos p e + j)
      (rw (spill_to_length pos p n) (omega (arith, spill_start_more pos p e, spill_start_mono pos p (e + 1) n (omega arith))))
      ∙ spill_at n e j k l)
      (λ (k : n ≤ e).
      let q : e ≡ n = omega arith in
      rw (q, ← spill_to_length pos p n) (get_or-append-add (spill_to pos p n) (over_of n) j 0))
      (cases_lt e n)

  pub length_inventory : length (inventory_of pos p) ≡ inventory_len_of p
  unfolding inventory_of inventory_len_of
  length_inventory = rw (length-append, inventory_length pos p (entries_of p))

  pub length_spill : length (spill_of pos p) ≡ spill_start pos p (entries_of p)
  unfolding spill_of
  length_spill = spill_to_length pos p (entries_of p)

-- cells that hold the index, each at its place: all that a reader needs
pub record Placed (pos : ℕ → ℕ) (p : Parameters) (inv sp : List ℕ) : Type 0 where
  pub own : (e j : ℕ) → e < entries_of p → j < stride p
      → get_or inv (e * stride p + j) 0 ≡ get_or (own_cells pos (entry_of pos p e) (spill_start pos p e) (2 ^ M p)) j 0
  pub closing : get_or inv (entries_of p * stride p) 0 ≡ start_of pos p (entries_of p)
  pub over : (e j : ℕ) → e < entries_of p → j < (entry_of pos p e).spilled
      → get_or sp (spill_start pos p e + j) 0 ≡ get_or (spill_cells pos (entry_of pos p e) (2 ^ M p)) j 0

-- the cells that the build writes, and any cells past them
pub placed : (pos : ℕ → ℕ) (p : Parameters) (a b : List ℕ) → Placed pos p (inventory_of pos p ++ a) (spill_of pos p ++ b)
unfolding inventory_of spill_of
placed pos p a b =
    let n = entries_of p in
    let i = inventory_to pos p n in
    let c = inventory_length pos p n in
    record {
      own = λ e j h l.
          let k : e * stride p + j < n * stride p = digits_lt h l in
          get_or-append (i ++ (start_of pos p n ∷ [])) a 0 (e * stride p + j) (rw (length-append, c) (omega arith))
          ∙ get_or-append i (start_of pos p n ∷ []) 0 (e * stride p + j) (rw c k)
          ∙ inventory_at pos p n e j h l;
      closing =
          get_or-append (i ++ (start_of pos p n ∷ [])) a 0 (n * stride p) (rw (length-append, c) (omega arith))
          ∙ get_or_at i (start_of pos p n) [] 0 (n * stride p) c;
      over = λ e j h l.
          get_or-append (spill_to pos p n) b 0 (spill_start pos p e + j)
          (rw (spill_to_length pos p n) (omega (arith, spill_start_more pos p e, spill_start_mono pos p (e + 1) n (omega arith))))
          ∙ spill_at pos p n e j h l;
    }

-- ---- cells told one by one
-- a cell that an entry packs, by its lanes
pub packed_by_lanes : (pos : ℕ → ℕ) (x : Entry) → Shaped x.shape → (c i : ℕ) → c < 2 ^ 64
    → ((t : ℕ) → t < x.shape.lanes → lane_of x.shape.width c t ≡ lane pos x (i + t)) → c ≡ packed pos x i
unfolding packed
packed_by_lanes pos x h c i l f = cell_by_lanes x.shape.width x.shape.lanes c (λ t. lane pos x (i + t)) h.cell l f

-- an entry's own cells are told by the first, the second where it has such a head, and those that it packs
module _ (pos : ℕ → ℕ) (x : Entry) (hh : x.shape.heads ≤ 1) (before own : ℕ) (v : ℕ → ℕ) (first : v 0 ≡ x.start + x.shape.tag)
    (second : x.shape.heads ≡ 1 → v 1 ≡ before)
    (others : (j : ℕ) → j < own - x.shape.heads → v (1 + x.shape.heads + j) ≡ packed pos x (x.shape.from + j * x.shape.lanes)) where
  own_heads : (c : ℕ) → c ≤ x.shape.heads → v c ≡ get_or (own_cells pos x before own) c 0
  own_heads zero l = first ∙ sym (own_first pos x hh before own)
  own_heads (suc zero) l = let e : x.shape.heads ≡ 1 = omega arith in second e ∙ sym (own_second pos x hh before own e)
  own_heads (suc (suc c)) l = absurd (omega arith)

  pub own_cells_lem : (c : ℕ) → c < own + 1 → v c ≡ get_or (own_cells pos x before own) c 0
  own_cells_lem c l = ⊎_elim
      (λ (k : c < 1 + x.shape.heads). own_heads c (omega arith))
      (λ (k : 1 + x.shape.heads ≤ c).
      let j : ℕ = c - (1 + x.shape.heads) in
      let b : j < own - x.shape.heads = omega arith in
      subst (λ (n : ℕ). v n ≡ get_or (own_cells pos x before own) n 0) (omega arith) (others j b ∙ sym (own_cell pos x hh before own j b)))
      (cases_lt c (1 + x.shape.heads))

-- cells placed are the same within the counts
module _ (pos : ℕ → ℕ) (p : Parameters) (a b c d : List ℕ) (w : Placed pos p a b) (z : Placed pos p c d) where
  same_inventory : (i : ℕ) → i < inventory_len_of p → get_or a i 0 ≡ get_or c i 0
  unfolding inventory_len_of
  same_inventory i h = ⊎_elim
      (λ (l : i < entries_of p * stride p).
      let e : ℕ = i / stride p in
      let j : ℕ = i % stride p in
      let k : e < entries_of p = (div-lt_iff_lt-mul (omega arith)).1 l in
      let m : j < stride p = mod-lt i (omega arith) in
      subst (λ (n : ℕ). get_or a n 0 ≡ get_or c n 0) (div-add-mod' i (stride p)) (w.own e j k m ∙ sym (z.own e j k m)))
      (λ (l : entries_of p * stride p ≤ i).
      let e : i ≡ entries_of p * stride p = omega arith in
      rw e (w.closing ∙ sym z.closing))
      (cases_lt i (entries_of p * stride p))

  same_spill : (i : ℕ) → i < spill_start pos p (entries_of p) → get_or b i 0 ≡ get_or d i 0
  unfolding spill_start
  same_spill i h =
      let k = tile (λ e. (entry_of pos p e).spilled) (entries_of p) i h in
      let e : ℕ = k.0 in
      let j : ℕ = i - spill_start pos p e in
      let l : j < (entry_of pos p e).spilled = omega (arith, k.2, k.3) in
      subst (λ (n : ℕ). get_or b n 0 ≡ get_or d n 0) (omega (arith, k.2)) (w.over e j k.1 l ∙ sym (z.over e j k.1 l))

-- and begin with the index
module _ (pos : ℕ → ℕ) (p : Parameters) (inv sp : List ℕ) (w : Placed pos p inv sp) where
  index : Placed pos p (inventory_of pos p) (spill_of pos p)
  index = simp append-nil at (placed pos p [] [])

  pub placed_inventory : inventory_len_of p ≤ length inv → take (inventory_len_of p) inv ≡ inventory_of pos p
  placed_inventory h =
      front_is (inventory_len_of p) inv (inventory_of pos p) h (length_inventory pos p) (same_inventory pos p inv sp _ _ w index)

  pub placed_spill : spill_start pos p (entries_of p) ≤ length sp → take (spill_start pos p (entries_of p)) sp ≡ spill_of pos p
  placed_spill h =
      front_is (spill_start pos p (entries_of p)) sp (spill_of pos p) h (length_spill pos p) (same_spill pos p inv sp _ _ w index)
