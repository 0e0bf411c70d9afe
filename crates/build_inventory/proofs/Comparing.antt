-- Comparing cells: the stream, an entry's cells, and the loop over all entries.
use mathlib.Core.Path.{◌≡◌, refl, sym, ap, ap₂, ◌∙◌}
use mathlib.Core.Bool.{Bool, true, false, ◌&&◌, and-true, and-eq-true_iff, false≢true}
use mathlib.Core.List.{List, [], ◌∷◌, ◌++◌, append-nil}
use Prim.Native.Nat.{ℕ, zero, suc, ◌+◌, ◌-◌, ◌*◌, ◌^◌, ◌≤◌, ◌<◌}
use native.Mathlib.Decide.{le_ind}
use native.Mathlib.Nat.{zero-mul}
use native.Mathlib.Numerals.{add-one}
use native.Mathlib.Omega.{arith}
use lib.Dec.{eqb}
use lib.ListN.{length, take, drop, get_or, length-append, length-take}
use lib.Pow.{pow_pos}
use lib.Seq.{take-suc, take-add, take-take, take-append-le, take-length, drop_at, length-take-le}
use borrow.Author.Tests.{eq-eqb, ne_eqb}
use Rattle.std.proofs.lemmas.Bool.{false_from_ne_true, and_parts}
use Rattle.rank_sel.specs.Lists.{same_list}
use Rattle.rank_sel.proofs.Lists.{same_yes, same_is, same_append}
use Rattle.spacing.specs.Spacing.{M}
use Rattle.spacing.specs.declared.Parameters.{Parameters}
use Rattle.inventory.specs.Index.{entries_of, stride, inventory_len_of, start_of, entry_of, spill_start, inventory_to, spill_to, inventory_of, spill_of, packed, stream, own_cells, spill_cells}
use Rattle.inventory.specs.Lanes.{tabulate}
use Rattle.inventory.specs.declared.entry.Entry.{Entry}
use Rattle.inventory.proofs.Index.{inventory_more, spill_more, inventory_length, spill_to_length}
use Rattle.inventory.proofs.Lanes.{tab_at}
use Rattle.inventory.proofs.Marks.{few_heads, heads_length, own_length, spill_length}
use Rattle.build_inventory.specs.Compare.{same_index}
use Rattle.build_inventory.proofs.Parts.{part_take}
use Rattle.build_inventory.proofs.Turns.{Reached, reached_none, reached_more, last_room, entry_room, spill_room}

-- two lists that differ at most in their last cell
same_last : (i : List ℕ) (a b : ℕ) → same_list (i ++ (a ∷ [])) (i ++ (b ∷ [])) ≡ eqb a b
unfolding same_list
same_last i a b = same_append i i (a ∷ []) (b ∷ []) refl ∙ rw (same_yes i i refl) (and-true (eqb a b))

-- the second of two tests is made where the first says yes
pub both_yes : (t u a b : Bool) → t ≡ a → t ≡ true → u ≡ b → u ≡ a && b
both_yes t u a b e f g = g ∙ ap (λ (z : Bool). z && b) (sym f ∙ e)

pub both_no : (t a b : Bool) → t ≡ a → t ≡ false → false ≡ a && b
both_no t a b e f = ap (λ (z : Bool). z && b) (sym f ∙ e)

-- ---- the stream
module _ (pos : ℕ → ℕ) (x : Entry) (i : ℕ) (l : List ℕ) where
  pub same_none : take 0 l ≡ stream pos x i 0
  unfolding stream tabulate
  same_none = refl

  pub same_more : (n k v : ℕ) → take n l ≡ stream pos x i n → n < length l
      → k ≡ i + n * x.shape.lanes → v ≡ packed pos x k → get_or l n 0 ≡ v
      → take (n + 1) l ≡ stream pos x i (n + 1)
  unfolding stream tabulate
  same_more n k v e h ek ev eg =
      let w : get_or l n 0 ≡ packed pos x (i + n * x.shape.lanes) = eg ∙ ev ∙ ap (packed pos x) ek in
      rw (add-one n, take-suc l n 0 h, e, w)

  pub same_all : (n : ℕ) → take n l ≡ stream pos x i n → n ≡ length l → l ≡ stream pos x i (length l)
  same_all n e en = sym (take-length l) ∙ rw en at e

  pub same_stop : (n k v : ℕ) → n < length l → k ≡ i + n * x.shape.lanes → v ≡ packed pos x k → (get_or l n 0 ≡ v → ⊥)
      → l ≡ stream pos x i (length l) → ⊥
  unfolding stream
  same_stop n k v h ek ev ne e =
      let t = tab_at (λ j. packed pos x (i + j * x.shape.lanes)) (length l) n h in
      ne (ap (λ (z : List ℕ). get_or z n 0) e ∙ t ∙ sym (ev ∙ ap (packed pos x) ek))

-- ---- the cells before the lanes, as they are tested
pub heads_no : (l : List ℕ) (h a b : ℕ) → h ≤ 1 → 2 ≤ length l → (get_or l 0 0 ≡ a → ⊥)
    → same_list (take (1 + h) l) (take (1 + h) (a ∷ b ∷ [])) ≡ false
unfolding same_list
heads_no [] h a b hh hl n = absurd (omega arith)
heads_no (y ∷ []) h a b hh hl n = absurd (omega arith)
heads_no (y ∷ z ∷ l) zero a b hh hl n = rw (ne_eqb y a n)
heads_no (y ∷ z ∷ l) (suc zero) a b hh hl n = rw (ne_eqb y a n)
heads_no (y ∷ z ∷ l) (suc (suc h)) a b hh hl n = absurd (omega arith)

pub heads_one : (l : List ℕ) (h a b : ℕ) → h ≡ 0 → 2 ≤ length l → get_or l 0 0 ≡ a
    → same_list (take (1 + h) l) (take (1 + h) (a ∷ b ∷ [])) ≡ true
unfolding same_list
heads_one [] h a b hh hl e = absurd (omega arith)
heads_one (y ∷ []) h a b hh hl e = absurd (omega arith)
heads_one (y ∷ z ∷ l) zero a b hh hl e = rw (eq-eqb y a e)
heads_one (y ∷ z ∷ l) (suc h) a b hh hl e = absurd (omega arith)

pub heads_two : (l : List ℕ) (h a b : ℕ) → h ≤ 1 → (h ≡ 0 → ⊥) → 2 ≤ length l → get_or l 0 0 ≡ a
    → same_list (take (1 + h) l) (take (1 + h) (a ∷ b ∷ [])) ≡ eqb (get_or l 1 0) b
unfolding same_list
heads_two [] h a b hh n hl e = absurd (omega arith)
heads_two (y ∷ []) h a b hh n hl e = absurd (omega arith)
heads_two (y ∷ z ∷ l) zero a b hh n hl e = absurd (n refl)
heads_two (y ∷ z ∷ l) (suc zero) a b hh n hl e = rw (eq-eqb y a e) (and-true (eqb z b))
heads_two (y ∷ z ∷ l) (suc (suc h)) a b hh n hl e = absurd (omega arith)

-- ---- an entry's own cells: its heads, and then its stream
module _ (pos : ℕ → ℕ) (x : Entry) (own before : ℕ) (l : List ℕ) (hh : x.shape.heads ≤ 1) (ho : 0 < own) (hl : own + 1 ≤ length l) where
  own_split : same_list (take (own + 1) l) (own_cells pos x before own)
      ≡ same_list (take (1 + x.shape.heads) l) (take (1 + x.shape.heads) ((x.start + x.shape.tag) ∷ before ∷ []))
      && same_list (take (own - x.shape.heads) (drop (1 + x.shape.heads) l)) (stream pos x x.shape.from (own - x.shape.heads))
  unfolding own_cells
  own_split =
      let h = x.shape.heads in
      let e : own + 1 ≡ (1 + h) + (own - h) = omega arith in
      let t : take (own + 1) l ≡ take (1 + h) l ++ take (own - h) (drop (1 + h) l) = rw e (take-add (1 + h) (own - h) l) in
      rw t (same_append (take (1 + h) l) (take (1 + h) ((x.start + x.shape.tag) ∷ before ∷ []))
      (take (own - h) (drop (1 + h) l)) (stream pos x x.shape.from (own - h))
      (length-take-le (1 + h) l (omega arith) ∙ sym (heads_length h (x.start + x.shape.tag) before hh)))

  module _ (q : Bool)
      (eq : q ≡ same_list (take (1 + x.shape.heads) l) (take (1 + x.shape.heads) ((x.start + x.shape.tag) ∷ before ∷ []))) where
    pub own_yes : (t : Bool) (n k : ℕ) → q ≡ true → n ≡ own - x.shape.heads → k ≡ x.shape.from
        → t ≡ same_list (take n (drop (1 + x.shape.heads) l)) (stream pos x k n)
        → t ≡ same_list (take (own + 1) l) (own_cells pos x before own)
    own_yes t n k f en ek e =
        both_yes q t _ _ eq f (e ∙ rw (en, ek)) ∙ sym own_split

    pub own_no : q ≡ false → false ≡ same_list (take (own + 1) l) (own_cells pos x before own)
    own_no f = both_no q _ _ eq f ∙ sym own_split

-- ---- lists that grow at the back
module _ (F G : ℕ → List ℕ) (more : (e : ℕ) → F (e + 1) ≡ F e ++ G e) where
  longer : (e n : ℕ) → e ≤ n → length (F e) ≤ length (F n)
  longer e n h = le_ind (λ (m : ℕ). length (F e) ≤ length (F m)) (omega arith)
      (λ m k ih. omega (arith, ap (λ (z : ℕ). length (F z)) (add-one m), ap length (more m), length-append (F m) (G m))) n h

  grown : (e n : ℕ) → e ≤ n → take (length (F e)) (F n) ≡ F e
  grown e n h = le_ind (λ (m : ℕ). take (length (F e)) (F m) ≡ F e) (take-length (F e))
      (λ m k ih.
      ap (λ (z : ℕ). take (length (F e)) (F z)) (sym (add-one m))
      ∙ ap (take (length (F e))) (more m)
      ∙ take-append-le (length (F e)) (F m) (G m) (longer e m k)
      ∙ ih) n h

  -- where a list begins as F n does, it has G e behind F e
  grown_part : (l rest : List ℕ) (e n t : ℕ) → e < n → take t l ≡ F n ++ rest → take (length (F e)) l ≡ F e
      → take (length (G e)) (drop (length (F e)) l) ≡ G e
  grown_part l rest e n t h et ee =
      let a = length (F (e + 1)) in
      let ha : a ≤ length (F n) = longer (e + 1) n (omega arith) in
      let ht : a ≤ t = omega (arith, length-append (F n) rest, ap length et, length-take t l) in
      let w : take a l ≡ F (e + 1) =
      sym (take-take a t l ht) ∙ ap (take a) et ∙ take-append-le a (F n) rest ha ∙ grown (e + 1) n (omega arith) in
      let s : a ≡ length (F e) + length (G e) = ap length (more e) ∙ length-append (F e) (G e) in
      let u : F e ++ take (length (G e)) (drop (length (F e)) l) ≡ F e ++ G e =
      ap (λ (z : List ℕ). z ++ take (length (G e)) (drop (length (F e)) l)) (sym ee)
      ∙ sym (take-add (length (F e)) (length (G e)) l)
      ∙ ap (λ (z : ℕ). take z l) (sym s)
      ∙ w
      ∙ more e in
      sym (drop_at (F e) (take (length (G e)) (drop (length (F e)) l)) (length (F e)) refl)
      ∙ ap (drop (length (F e))) u
      ∙ drop_at (F e) (G e) (length (F e)) refl

-- ---- the loop: the first e entries agree
pub record Agreeing (pos : ℕ → ℕ) (p : Parameters) (l s : List ℕ) (e at spilled start : ℕ) : Type 0 where
  pub reached : Reached pos p e spilled start
  pub place : at ≡ e * stride p
  pub inventory : take at l ≡ inventory_to pos p e
  pub spill : take spilled s ≡ spill_to pos p e

module _ {pos : ℕ → ℕ} {p : Parameters} {l s : List ℕ}
    (hl : inventory_len_of p ≤ length l) (hs : spill_start pos p (entries_of p) ≤ length s) where
  pub agree_none : {start : ℕ} → start ≡ start_of pos p 0 → Agreeing pos p l s 0 0 0 start
  unfolding inventory_to spill_to
  agree_none es = record { reached = reached_none es; place = sym (zero-mul (stride p)); inventory = refl; spill = refl }

  module _ {e at spilled start : ℕ} (v : Agreeing pos p l s e at spilled start) where
    pub agree_end : at < length l
    agree_end = omega (arith, last_room p e at v.reached.within v.place)

    -- the closing cell decides
    pub agree_last : e ≡ entries_of p → eqb (get_or l at 0) start ≡ same_index pos p l s
    unfolding same_index inventory_len_of inventory_of spill_of
    agree_last ee =
        let t : take (entries_of p * stride p + 1) l ≡ inventory_to pos p (entries_of p) ++ (get_or l at 0 ∷ []) =
        ap (λ (z : ℕ). take z l) (ap (λ (z : ℕ). z * stride p + 1) (sym ee) ∙ ap (λ (z : ℕ). z + 1) (sym v.place) ∙ add-one at)
        ∙ take-suc l at 0 agree_end ∙ ap (λ (z : List ℕ). z ++ (get_or l at 0 ∷ [])) (v.inventory ∙ ap (inventory_to pos p) ee) in
        let u : take (spill_start pos p (entries_of p)) s ≡ spill_to pos p (entries_of p) =
        ap (λ (z : ℕ). take z s) (ap (spill_start pos p) (sym ee) ∙ sym v.reached.spills) ∙ v.spill ∙ ap (spill_to pos p) ee in
        let b : start_of pos p (entries_of p) ≡ start = ap (start_of pos p) (sym ee) ∙ sym v.reached.begins in
        let d = same_last (inventory_to pos p (entries_of p)) (get_or l at 0) (start_of pos p (entries_of p)) in
        sym (rw (t, d, same_yes _ _ u, b) (and-true (eqb (get_or l at 0) start)))

    module _ (lt : e < entries_of p) {x : Entry} (ex : x ≡ entry_of pos p e) where
      pub agree_cells : stride p + at ≤ length l
      agree_cells = omega (arith, entry_room p e at lt v.place)

      pub agree_spill : x.spilled + spilled ≤ length s
      agree_spill = omega (arith, spill_room v.reached lt ex)

      own_is : own_cells pos x spilled (2 ^ M p) ≡ own_cells pos (entry_of pos p e) (spill_start pos p e) (2 ^ M p)
      own_is = rw (ex, v.reached.spills)

      spill_is : spill_cells pos x (2 ^ M p) ≡ spill_cells pos (entry_of pos p e) (2 ^ M p)
      spill_is = ap (λ (z : Entry). spill_cells pos z (2 ^ M p)) ex

      module _ {a b : Bool}
          (ea : a ≡ same_list (take (stride p) (take (length l - at) (drop at l))) (own_cells pos x spilled (2 ^ M p)))
          (eb : b ≡ same_list (take x.spilled (take (length s - spilled) (drop spilled s))) (spill_cells pos x (2 ^ M p))) where
        pub agree_more : {cells : ℕ} → cells ≡ stride p → a && b ≡ true
            → Agreeing pos p l s (e + 1) (at + cells) (spilled + x.spilled) x.next
        agree_more ec y =
            let z = (and-eq-true_iff a b).0 y in
            let i : take (stride p) (drop at l) ≡ own_cells pos x spilled (2 ^ M p) =
            sym (part_take l at (stride p) agree_cells) ∙ same_is _ _ (sym ea ∙ z.0) in
            let j : take x.spilled (drop spilled s) ≡ spill_cells pos x (2 ^ M p) =
            sym (part_take s spilled x.spilled agree_spill) ∙ same_is _ _ (sym eb ∙ z.1) in
            record {
              reached = reached_more v.reached lt ex;
              place = omega (arith, ec, v.place);
              inventory =
                  ap (λ (z : ℕ). take (at + z) l) ec
                  ∙ take-add at (stride p) l
                  ∙ ap₂ ◌++◌ v.inventory (i ∙ own_is)
                  ∙ sym (inventory_more pos p e);
              spill = take-add spilled x.spilled s ∙ ap₂ ◌++◌ v.spill (j ∙ spill_is) ∙ sym (spill_more pos p e);
            }

        pub agree_stop : a && b ≡ false → false ≡ same_index pos p l s
        unfolding same_index inventory_of spill_of
        agree_stop n = sym (false_from_ne_true _ (λ y.
            let z = and_parts _ _ y in
            let own = own_length pos (entry_of pos p e) (spill_start pos p e) (2 ^ M p) (few_heads pos p e) (pow_pos (M p)) in
            let spl : length (spill_cells pos (entry_of pos p e) (2 ^ M p)) ≡ x.spilled =
            ap length (sym spill_is) ∙ spill_length pos x (2 ^ M p) in
            let fl : length (inventory_to pos p e) ≡ at = inventory_length pos p e ∙ sym v.place in
            let fs : length (spill_to pos p e) ≡ spilled = spill_to_length pos p e ∙ sym v.reached.spills in
            let i =
            grown_part (inventory_to pos p) (λ k. own_cells pos (entry_of pos p k) (spill_start pos p k) (2 ^ M p)) (inventory_more pos p)
            l (start_of pos p (entries_of p) ∷ []) e (entries_of p) (inventory_len_of p) lt (same_is _ _ z.0) (rw fl v.inventory) in
            let j = grown_part (spill_to pos p) (λ k. spill_cells pos (entry_of pos p k) (2 ^ M p)) (spill_more pos p)
            s [] e (entries_of p) (spill_start pos p (entries_of p)) lt (same_is _ _ z.1 ∙ sym (append-nil _)) (rw fs v.spill) in
            let at_yes : a ≡ true = ea ∙ same_yes _ _ (part_take l at (stride p) agree_cells ∙ rw (own, fl) at i ∙ sym own_is) in
            let bt_yes : b ≡ true = eb ∙ same_yes _ _ (part_take s spilled x.spilled agree_spill ∙ rw (spl, fs) at j ∙ sym spill_is) in
            false≢true (sym n ∙ ap₂ ◌&&◌ at_yes bt_yes)))
