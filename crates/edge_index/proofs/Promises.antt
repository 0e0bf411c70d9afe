-- The promises: a check that says yes found the index of an admitted build within the counts; so did build leave it, and so
-- it is found again in any cells that are the same there, with any words that hold the same record.
use mathlib.Core.Bool.{Bool, true, false, and-eq-true_iff}
use mathlib.Core.List.{List, ◌++◌}
use mathlib.Core.Logic.{◌↔◌}
use mathlib.Core.Path.{◌≡◌, refl, sym, ap, ◌∙◌, subst}
use Prim.Native.Nat.{ℕ, ◌≤◌}
use native.Mathlib.Omega.{arith}
use lib.ListN.{length, take, drop, length-append, take-append-drop}
use lib.Seq.{get_or-take, length-take-le, take_at}
use Rattle.rank_sel.specs.Lists.{same_list}
use Rattle.rank_sel.specs.Outcome.{answer, refused}
use Rattle.rank_sel.proofs.Lists.{same_is, same_yes, front_is}
use Rattle.rank_sel.proofs.Outcome.{answer_is, then_answer, then_refused}
use Rattle.bit_record.specs.Record.{SameRecord, bit_of}
use Rattle.bit_record.specs.declared.Polarity.{Polarity}
use Rattle.spacing.specs.declared.Choice.{Choice}
use Rattle.spacing.specs.declared.Parameters.{Parameters}
use Rattle.inventory.specs.Index.{entries_of, inventory_len_of, spill_start, inventory_of, spill_of, summary_of}
use Rattle.inventory.specs.declared.summary.Summary.{Summary}
use Rattle.inventory.proofs.Placed.{Placed, placed, length_inventory, length_spill}
use Rattle.build_inventory.specs.Build.{check_of, same_summary}
use Rattle.build_inventory.specs.Compare.{same_index}
use Rattle.build_inventory.specs.Positions.{pos_in}
use Rattle.build_inventory.proofs.Outcomes.{Admission, admission, admitted_on, origin_handed, inventory_counted, spill_counted}
use Rattle.build_inventory.proofs.Summaries.{summary_is, summary_same}
use Rattle.edge_index.specs.Promises.{SameCells, AsThen, Stands, build_answers, inventory_holds, spill_holds}
use Rattle.edge_index.specs.Sound.{Sound}
use Rattle.edge_index.proofs.Padding.{padding_alike}
use Rattle.edge_index.proofs.Right.{right}
use Rattle.edge_index.proofs.Sound.{pos_same, placed_sound}

-- a list that begins so is that beginning and its own rest
begins : (n : ℕ) (l front : List ℕ) → take n l ≡ front → front ++ drop n l ≡ l
begins n l front e = ap (λ (z : List ℕ). z ++ drop n l) (sym e) ∙ take-append-drop n l

-- cells that are the same within a count begin alike
cells_take : (n : ℕ) (a b : List ℕ) → SameCells n a b → take n b ≡ take n a
cells_take n a b s =
    front_is n b (take n a) s.held' (length-take-le n a s.held) (λ i h. sym (s.cells i h) ∙ sym (get_or-take n a i 0 h))

module _ (ws : List ℕ) (len origin : ℕ) (pol : Polarity) (choice : Choice) where
  -- the index of a summary
  abbrev inventory : Summary → List ℕ
  inventory t = inventory_of (pos_in ws t.plan) t.plan

  abbrev spilled : Summary → List ℕ
  spilled t = spill_of (pos_in ws t.plan) t.plan

  -- what a check that says yes compared
  pub record Yes (t : Summary) (inv sp : List ℕ) : Type 0 where
    pub builds : build_answers ws len origin pol choice inv sp ≡ answer t
    pub inventory_is : take t.inventory_len inv ≡ inventory t
    pub spill_is : take t.spill_len sp ≡ spilled t

  -- ---- of an admitted build
  module _ (t : Summary) (cells spill : ℕ) (m : Admission ws len origin pol choice cells spill t) where
    abbrev p : Parameters
    p = t.plan

    inventory_long : length (inventory t) ≡ t.inventory_len
    inventory_long = length_inventory (pos_in ws p) p ∙ inventory_counted ws origin t m.is

    spill_long : length (spilled t) ≡ t.spill_len
    spill_long = length_spill (pos_in ws p) p ∙ spill_counted ws origin t m.is

    held_sound : (a b : List ℕ) → Sound ws len origin pol choice t (inventory t ++ a) (spilled t ++ b)
    held_sound a b =
        let e = pos_same ws len pol choice p m.planned in
        let w : Placed (bit_of ws len pol) p (inventory t ++ a) (spilled t ++ b) =
        subst (λ (f : ℕ → ℕ). Placed f p (inventory t ++ a) (spilled t ++ b)) e (placed (pos_in ws p) p a b) in
        let s : spill_start (bit_of ws len pol) p (entries_of p) ≡ length (spilled t) = ap (λ (f : ℕ → ℕ). spill_start f p (entries_of p))
        (sym e) ∙ sym (length_spill (pos_in ws p) p) in
        subst (λ (z : Summary). Sound ws len origin pol choice z (inventory t ++ a) (spilled t ++ b))
        (sym (m.is ∙ ap (λ (f : ℕ → ℕ). summary_of f p origin) e))
        (placed_sound ws len pol choice p m.planned origin (inventory t ++ a) (spilled t ++ b) w m.from.numbered
        (omega (arith, length-append (inventory t) a, length_inventory (pos_in ws p) p)) (omega (arith, length-append (spilled t) b, s)))

    -- any cells that begin with the index are said yes to
    pub held_yes : (inv sp : List ℕ) → t.inventory_len ≤ length inv → t.spill_len ≤ length sp
        → take t.inventory_len inv ≡ inventory t → take t.spill_len sp ≡ spilled t → Yes t inv sp
    held_yes inv sp a b i s =
        record { builds = admitted_on ws len origin pol choice cells spill t m (length inv) (length sp) a b; inventory_is = i; spill_is = s }

    left_yes : (a b : List ℕ) → Yes t (inventory t ++ a) (spilled t ++ b)
    left_yes a b = held_yes (inventory t ++ a) (spilled t ++ b)
        (omega (arith, length-append (inventory t) a, inventory_long)) (omega (arith, length-append (spilled t) b, spill_long))
        (take_at (inventory t) a t.inventory_len inventory_long) (take_at (spilled t) b t.spill_len spill_long)

  -- ---- where a yes comes from
  admits : (t : Summary) (inv sp : List ℕ) → build_answers ws len origin pol choice inv sp ≡ answer t
      → Admission ws len origin pol choice (length inv) (length sp) t
  admits t inv sp e = admission ws len origin pol choice (length inv) (length sp) t e

  built_yes : (t : Summary) (inv sp : List ℕ) → build_answers ws len origin pol choice inv sp ≡ answer t
      → Yes t (inventory_holds ws len origin pol choice inv sp) (spill_holds ws len origin pol choice inv sp)
  built_yes t inv sp e =
      rw e (left_yes t (length inv) (length sp) (admits t inv sp e) (drop t.inventory_len inv) (drop t.spill_len sp))

  checked_yes : (t : Summary) (inv sp : List ℕ) → check_of ws len origin pol choice t inv sp ≡ answer true → Yes t inv sp
  unfolding check_of same_index
  checked_yes t inv sp e =
      let b = then_answer (build_answers ws len origin pol choice inv sp) _ true e in
      let u = b.0 in
      let y = (and-eq-true_iff (same_summary t u) _).0 (answer_is b.2) in
      let z = (and-eq-true_iff (same_list (take (inventory_len_of u.plan) inv) (inventory u)) _).0 y.1 in
      let m = admits u inv sp b.1 in
      subst (λ (v : Summary). Yes v inv sp) (sym (summary_is t u y.0)) record {
        builds = b.1;
        inventory_is = ap (λ (n : ℕ). take n inv) (sym (inventory_counted ws origin u m.is)) ∙ same_is _ _ z.0;
        spill_is = ap (λ (n : ℕ). take n sp) (sym (spill_counted ws origin u m.is)) ∙ same_is _ _ z.1;
      }

  same_yes_cells : (t : Summary) (inv sp inv' sp' : List ℕ) → Yes t inv sp → SameCells t.inventory_len inv inv'
      → SameCells t.spill_len sp sp' → Yes t inv' sp'
  same_yes_cells t inv sp inv' sp' y i s =
      held_yes t (length inv) (length sp) (admits t inv sp y.builds) inv' sp' i.held' s.held'
      (cells_take _ inv inv' i ∙ y.inventory_is) (cells_take _ sp sp' s ∙ y.spill_is)

  -- ---- what follows from one
  pub yes_checked : (t : Summary) (inv sp : List ℕ) → Yes t inv sp → check_of ws len origin pol choice t inv sp ≡ answer true
  unfolding check_of same_index
  yes_checked t inv sp y =
      let m = admits t inv sp y.builds in
      rw (
        y.builds,
        summary_same t,
        same_yes _ _ (ap (λ (n : ℕ). take n inv) (inventory_counted ws origin t m.is) ∙ y.inventory_is),
        same_yes _ _ (ap (λ (n : ℕ). take n sp) (spill_counted ws origin t m.is) ∙ y.spill_is),
      )

  yes_sound : (t : Summary) (inv sp : List ℕ) → Yes t inv sp → Sound ws len origin pol choice t inv sp
  yes_sound t inv sp y =
      let i = begins t.inventory_len inv (inventory t) y.inventory_is in
      let s = begins t.spill_len sp (spilled t) y.spill_is in
      rw (i, s) at
      (held_sound t (length inv) (length sp) (admits t inv sp y.builds) (drop t.inventory_len inv) (drop t.spill_len sp))

  pub other_origin : (t u : Summary) (inv sp : List ℕ) → build_answers ws len origin pol choice inv sp ≡ answer u → (t.origin ≡ origin → ⊥)
      → check_of ws len origin pol choice t inv sp ≡ answer false
  unfolding check_of
  other_origin t u inv sp e n = go (same_summary t u) refl
    where
      go : (b : Bool) → same_summary t u ≡ b → check_of ws len origin pol choice t inv sp ≡ answer false
      go true d = absurd (n (ap (λ (z : Summary). z.origin) (summary_is t u d) ∙ origin_handed ws origin u (admits u inv sp e).is))
      go false d = rw (e, d)

  pub check_refuses : (t : Summary) (inv sp : List ℕ) (n : ℕ)
      → (check_of ws len origin pol choice t inv sp ≡ refused n) ↔ (build_answers ws len origin pol choice inv sp ≡ refused n)
  unfolding check_of
  check_refuses t inv sp n = then_refused (build_answers ws len origin pol choice inv sp) _ n

-- on words that hold the same record check says the same
stands : (ws : List ℕ) (len origin : ℕ) (pol : Polarity) (choice : Choice) (vs : List ℕ) (t : Summary) (inv sp : List ℕ)
    → SameRecord len ws vs → Yes ws len origin pol choice t inv sp → Stands vs len origin pol choice t inv sp
stands ws len origin pol choice vs t inv sp s y =
    let c : check_of vs len origin pol choice t inv sp ≡ answer true =
    sym ((padding_alike len ws vs s).check origin pol choice t inv sp) ∙ yes_checked ws len origin pol choice t inv sp y in
    let d = yes_sound vs len origin pol choice t inv sp (checked_yes vs len origin pol choice t inv sp c) in
    record { yes = c; sound = d; right = right vs len origin pol choice t inv sp d }

module _ (ws : List ℕ) (len origin : ℕ) (pol : Polarity) (choice : Choice) where
  as_then : (t : Summary) (inv sp vs inv' sp' : List ℕ) → Yes ws len origin pol choice t inv sp → AsThen len t ws inv sp vs inv' sp'
      → Stands vs len origin pol choice t inv' sp'
  as_then t inv sp vs inv' sp' y a =
      stands ws len origin pol choice vs t inv' sp' a.words (same_yes_cells ws len origin pol choice t inv sp inv' sp' y a.inventory a.spill)

  pub built_sound : (t : Summary) (inv sp : List ℕ) → build_answers ws len origin pol choice inv sp ≡ answer t
      → Sound ws len origin pol choice t (inventory_holds ws len origin pol choice inv sp) (spill_holds ws len origin pol choice inv sp)
  built_sound t inv sp e = yes_sound ws len origin pol choice t _ _ (built_yes ws len origin pol choice t inv sp e)

  pub checked_sound : (t : Summary) (inv sp : List ℕ) → check_of ws len origin pol choice t inv sp ≡ answer true
      → Sound ws len origin pol choice t inv sp
  checked_sound t inv sp e = yes_sound ws len origin pol choice t inv sp (checked_yes ws len origin pol choice t inv sp e)

  pub built_checked : (t : Summary) (inv sp : List ℕ) → build_answers ws len origin pol choice inv sp ≡ answer t
      → check_of ws len origin pol choice t (inventory_holds ws len origin pol choice inv sp) (spill_holds ws len origin pol choice inv sp)
      ≡ answer true
  built_checked t inv sp e = yes_checked ws len origin pol choice t _ _ (built_yes ws len origin pol choice t inv sp e)

  -- while record and cells within the counts are as they were when build answered, or check said yes
  pub built_stands : (t : Summary) (inv sp vs inv' sp' : List ℕ) → build_answers ws len origin pol choice inv sp ≡ answer t
      → AsThen len t ws (inventory_holds ws len origin pol choice inv sp) (spill_holds ws len origin pol choice inv sp) vs inv' sp'
      → Stands vs len origin pol choice t inv' sp'
  built_stands t inv sp vs inv' sp' e a = as_then t _ _ vs inv' sp' (built_yes ws len origin pol choice t inv sp e) a

  pub checked_stands : (t : Summary) (inv sp vs inv' sp' : List ℕ) → check_of ws len origin pol choice t inv sp ≡ answer true
      → AsThen len t ws inv sp vs inv' sp' → Stands vs len origin pol choice t inv' sp'
  checked_stands t inv sp vs inv' sp' e a = as_then t inv sp vs inv' sp' (checked_yes ws len origin pol choice t inv sp e) a

  -- yes is said exactly where build would answer this summary and leave these cells
  pub check_exact : (t : Summary) (inv sp : List ℕ)
      → (check_of ws len origin pol choice t inv sp ≡ answer true)
      ↔ ((build_answers ws len origin pol choice inv sp ≡ answer t)
      × (inventory_holds ws len origin pol choice inv sp ≡ inv) × (spill_holds ws len origin pol choice inv sp ≡ sp))
  check_exact t inv sp = (
    (λ e.
        let y = checked_yes ws len origin pol choice t inv sp e in
        let b = y.builds in
        (b, rw b (begins t.inventory_len inv _ y.inventory_is), rw b (begins t.spill_len sp _ y.spill_is))),
    (λ h. yes_checked ws len origin pol choice t inv sp (rw (h.1, h.2) at (built_yes ws len origin pol choice t inv sp h.0))),
  )
