-- Demand 3 determines the summary and every counted cell: an entry's first cell is start and tag, its second what was spilled
-- before it, any other its lanes, which the marks and the unused ones tell; so check says yes.
use mathlib.Core.Bool.{true}
use mathlib.Core.List.{List}
use mathlib.Core.Logic.{⊎_elim}
use mathlib.Core.Path.{◌≡◌, sym, ap, ◌∙◌, subst}
use Prim.Native.Nat.{ℕ, ◌+◌, ◌-◌, ◌*◌, ◌^◌, ◌<◌, ◌≤◌}
use native.Mathlib.Nat.{mul-div_cancel}
use native.Mathlib.Omega.{arith}
use lib.Arith.{digits_div, digits_mod, digits_lt}
use lib.ListN.{length, get_or}
use lib.Pow.{pow_pos}
use Rattle.rank_sel.specs.Lists.{Below}
use Rattle.rank_sel.specs.Outcome.{answer}
use Rattle.std.proofs.lemmas.Bool.{cases_lt}
use Rattle.bit_record.specs.Record.{bit_of}
use Rattle.bit_record.specs.declared.Polarity.{Polarity}
use Rattle.spacing.specs.Spacing.{M}
use Rattle.spacing.specs.declared.Choice.{Choice}
use Rattle.spacing.specs.declared.Parameters.{Parameters}
use Rattle.spacing.proofs.Facts.{plan_facts, plan_admitted}
use Rattle.inventory.specs.Index.{entries_of, stride, inventory_len_of, mark, lane, packed, start_of, kind_of, entry_of, spill_start, summary_of}
use Rattle.inventory.specs.Shape.{near_by, Shaped}
use Rattle.inventory.specs.declared.entry.Entry.{Entry}
use Rattle.inventory.specs.declared.shape.Shape.{Shape}
use Rattle.inventory.specs.declared.summary.Summary.{Summary}
use Rattle.inventory.proofs.Entries.{entry_by_lem, first_rank, mark_in, shape_by, spill_heads}
use Rattle.inventory.proofs.Marks.{lane_in, lane_past, few_heads, start_here}
use Rattle.inventory.proofs.Placed.{spill_cell, Placed, packed_by_lanes, own_cells_lem, placed_inventory, placed_spill}
use Rattle.inventory.proofs.Ranks.{entry_below, rank_in}
use Rattle.inventory.proofs.Shapes.{shaped}
use Rattle.build_inventory.specs.Build.{check_of}
use Rattle.build_inventory.specs.Positions.{pos_in, spill_len_of}
use Rattle.build_inventory.proofs.Outcomes.{Admission, inventory_counted, spill_counted}
use Rattle.read_inventory.specs.Read.{cell_at, shape_at, place_at, number_at, mark_at, mark_number}
use Rattle.read_inventory.proofs.Answers.{mark_back, hint_back}
use Rattle.read_inventory.proofs.ReadBack.{first_back, own_back, over_back}
use Rattle.edge_index.specs.Images.{Cells}
use Rattle.edge_index.specs.Sound.{q_of, lanes_of, mark_rank, Sound}
use Rattle.edge_index.proofs.Promises.{held_yes, yes_checked}
use Rattle.edge_index.proofs.Right.{shape_right, second_right}
use Rattle.edge_index.proofs.Sound.{pos_same, start_closing}

-- ---- of a sound index
module _ (ws : List ℕ) (len origin : ℕ) (pol : Polarity) (choice : Choice) (t : Summary) (inv sp : List ℕ) (own64 : Below (2 ^ 64) inv)
    (over64 : Below (2 ^ 64) sp) (s : Sound ws len origin pol choice t inv sp) where
  abbrev pos : ℕ → ℕ
  pos = bit_of ws len pol

  abbrev p : Parameters
  p = t.plan

  -- ---- the cells
  module _ (e : ℕ) (h : e < entries_of p) where
    abbrev x : Entry
    x = entry_of pos p e

    shape_is : shape_at t inv e ≡ x.shape
    shape_is = shape_right ws len origin pol choice t inv sp s e h

    first_is : cell_at t inv e 0 ≡ x.start + x.shape.tag
    unfolding cell_at
    first_is =
        sym (first_back t inv e (start_of pos p e) (own64 (e * stride p + 0)))
        ∙ rw (s.starts e h, s.kinds e h, ← start_here pos p e (entry_below p e h), entry_by_lem pos p e)

    second_is : x.shape.heads ≡ 1 → cell_at t inv e 1 ≡ spill_start pos p e
    unfolding spill_start
    second_is = second_right ws len origin pol choice t inv sp s e h

    mark_is : (k : ℕ) → k < x.marks → mark_at t inv sp e k ≡ answer (mark pos x k)
    unfolding mark mark_number
    mark_is k l =
        let q : ℕ = q_of pos p e in
        let a = (rank_in p e (k * 2 ^ q) (mark_in pos p e k l)).1 in
        let m = hint_back t inv sp (mark_rank pos p e k) _ (s.marked e k h l) in
        rw (first_rank pos p e) (rw (digits_div e a, digits_mod e a, s.quanta e h, mul-div_cancel k (pow_pos q)) at m)

    -- each number as it is read is the lane's
    number_is : (i : ℕ) → i < lanes_of pos p e → number_at t inv sp e (place_at t inv e i) ≡ answer (lane pos x i)
    number_is i b = ⊎_elim
        (λ (l : i < x.marks).
        let n = mark_back t inv sp e i (mark pos x i) (mark_is i l) in
        n.1 ∙ ap answer (omega (arith, n.2, ap (λ (y : Shape). y.base) shape_is, lane_in pos x i l)))
        (λ (l : x.marks ≤ i). s.unused e i h l b ∙ ap answer (sym (lane_past pos x i l)))
        (cases_lt i x.marks)

    -- and so are the cells, each packed from the lanes that are read from it
    shaped_is : Shaped x.shape
    shaped_is = subst Shaped (sym (shape_by pos p e)) (shaped (kind_of pos p e) (start_of pos p e))

    own_is : (j : ℕ) → j < 2 ^ M p - x.shape.heads
        → get_or inv (e * stride p + (1 + x.shape.heads + j)) 0 ≡ packed pos x (x.shape.from + j * x.shape.lanes)
    own_is j l =
        let c : ℕ = e * stride p + 1 + x.shape.heads + j in
        let i : ℕ = x.shape.from + j * x.shape.lanes in
        ap (λ (n : ℕ). get_or inv n 0) (omega arith) ∙ packed_by_lanes pos x shaped_is (get_or inv c 0) i (own64 c)
        (λ u k.
        let d = digits_lt {q = j} {m = 2 ^ M p - x.shape.heads} {r = u} {c = x.shape.lanes} l k in
        (rw shape_is at (own_back t inv sp e j u (lane pos x (i + u)))) k l (number_is (i + u) (omega arith)))

    over_is : (j : ℕ) → j < x.spilled
        → get_or sp (spill_start pos p e + j) 0 ≡ packed pos x (near_by x.shape (M p) + j * x.shape.lanes)
    over_is j l =
        let c : ℕ = cell_at t inv e 1 + j in
        let i : ℕ = near_by x.shape (M p) + j * x.shape.lanes in
        rw (← second_is (spill_heads pos p e j l)) (packed_by_lanes pos x shaped_is (get_or sp c 0) i (over64 c)
        (λ u k.
        let d = digits_lt {q = j} {m = x.spilled} {r = u} {c = x.shape.lanes} l k in
        (rw shape_is at (over_back t inv sp e j u (lane pos x (i + u)))) k (number_is (i + u) (omega arith))))

  closing_is : get_or inv (entries_of p * stride p) 0 ≡ start_of pos p (entries_of p)
  closing_is =
      ap (λ (n : ℕ). get_or inv n 0) (omega (arith, s.inventory_len)) ∙ s.closing ∙ sym (start_closing ws len pol choice p s.plan)

  pub sound_placed : Placed pos p inv sp
  unfolding cell_at
  sound_placed = record {
    own = λ e j h l.
        own_cells_lem pos (x e h) (few_heads pos p e) (spill_start pos p e) (2 ^ M p) (λ n. get_or inv (e * stride p + n) 0)
        (first_is e h) (second_is e h) (own_is e h) j l;
    closing = closing_is;
    over = λ e j h l. over_is e h j l ∙ sym (spill_cell pos (x e h) (2 ^ M p) j l);
  }

  -- ---- the summary, and the check
  pos_is : pos_in ws p ≡ pos
  pos_is = pos_same ws len pol choice p s.plan

  summary_is : t ≡ summary_of (pos_in ws p) p origin
  unfolding summary_of inventory_len_of spill_start
  summary_is = rw pos_is (λ i. record { plan = p; origin = s.bit_zero i; inventory_len = s.inventory_len i; spill_len = s.spill_len i })

  cells_count : inventory_len_of p ≡ t.inventory_len
  cells_count = inventory_counted ws origin t summary_is

  spill_count : spill_len_of ws p ≡ t.spill_len
  spill_count = spill_counted ws origin t summary_is

  admits : Admission ws len origin pol choice (length inv) (length sp) t
  admits =
      let c = plan_facts ws len pol choice p s.plan in
      record {
        from = record { admitted = plan_admitted ws len pol p c; numbered = s.numbered };
        planned = s.plan;
        plans = c.of;
        is = summary_is;
        room = rw cells_count s.inventory_held;
        spill_room = rw spill_count s.spill_held;
      }

  -- the converse of `checked_sound`
  pub sound_checked : check_of ws len origin pol choice t inv sp ≡ answer true
  sound_checked =
      let w = subst (λ (f : ℕ → ℕ). Placed f p inv sp) (sym pos_is) sound_placed in
      yes_checked ws len origin pol choice t inv sp
      (held_yes ws len origin pol choice t (length inv) (length sp) admits inv sp s.inventory_held s.spill_held
      (rw cells_count at (placed_inventory (pos_in ws p) p inv sp w admits.room))
      (rw spill_count at (placed_spill (pos_in ws p) p inv sp w admits.spill_room)))

pub sound_is_checked : (ws : List ℕ) (len origin : ℕ) (pol : Polarity) (choice : Choice) (t : Summary) (inv sp : List ℕ) → Cells inv sp
    → Sound ws len origin pol choice t inv sp → check_of ws len origin pol choice t inv sp ≡ answer true
sound_is_checked ws len origin pol choice t inv sp c s = sound_checked ws len origin pol choice t inv sp c.inventory c.spill s
