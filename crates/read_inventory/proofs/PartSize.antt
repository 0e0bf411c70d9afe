-- Where hint answers, store's part has a cell, and any part lies in its slice: a mark past the entry's own lanes is still one
-- of its marks, so that the build's rule gives it spilled cells, and it was read from one below the spill count.
use mathlib.Core.Bool.{Bool, true, false}
use mathlib.Core.List.{List, ◌++◌}
use mathlib.Core.Path.{◌≡◌, refl}
use Prim.Native.Nat.{ℕ, zero, suc, ◌+◌, ◌*◌, ◌%◌, ◌^◌, ◌≤◌, ◌<◌}
use native.Mathlib.Omega.{arith}
use lib.ListN.{length, length-take, length-drop}
use lib.Pow.{pow_pos}
use Rattle.rank_sel.specs.Outcome.{Outcome, answer, refused}
use Rattle.rank_sel.proofs.Outcome.{passed_all, then_answer}
use Rattle.spacing.specs.Spacing.{N, L, M, S}
use Rattle.inventory.specs.Index.{ranks_of}
use Rattle.inventory.specs.declared.summary.Summary.{Summary}
use Rattle.inventory.proofs.Entries.{marks_fit}
use Rattle.inventory.proofs.Ranks.{mark_among, ranks_most, rank_sub}
use Rattle.read_inventory.specs.Jump.{hint_sample, hint_of, Part, of_inventory, of_spill, empty, store_of, or_empty, subinventory_of, PartIn, cells_of, cell_count}
use Rattle.read_inventory.specs.Read.{kind_at, start_at, span_at, quantum_at, shape_at, spilled_at, mark_at, entry_of_rank, mark_number, mark_of_rank, Hint, hint_at}
use Rattle.read_inventory.specs.Steps.{decoded_by}
use Rattle.read_inventory.specs.Tests.{of_index, of_rank}
use Rattle.read_inventory.specs.declared.decode.Decoded.{Decoded}
use Rattle.read_inventory.proofs.Answers.{over_past}
use Rattle.read_inventory.proofs.Parts.{Stored, store_own, store_over, rule_is, own_end, over_start, over_end}
use Rattle.read_inventory.proofs.Passing.{call_readable}

-- what is past a and below a + n * m shows that n is not 0
more_some : (a n m i : ℕ) → a ≤ i → i < a + n * m → 0 < n
more_some a zero m i h l = absurd (omega arith)
more_some a (suc n) m i h l = omega arith

-- a part of a cell or more, all lent
abbrev SomeLent : List ℕ → List ℕ → Part → Type 0
SomeLent inv sp p = (0 < cell_count p) × PartIn inv sp p

module _ {ws : List ℕ} {t : Summary} {inv sp : List ℕ} {r : ℕ} {d : Decoded} (s : Stored ws t inv sp r d) where
  over_some : d.spilled ≡ true → 0 < spilled_at t inv (entry_of_rank t r)
  unfolding quantum_at shape_at mark_number spilled_at
  over_some f =
      let a = s.readable in
      let p = t.plan in
      let e = entry_of_rank t r in
      let i = mark_among (r % 2 ^ L p) (ranks_of p e) (quantum_at t inv e) (rank_sub p r a.below) in
      let l = marks_fit (kind_at t inv e) (start_at t inv e) (span_at t inv e) (L p) (M p) (S p) (ranks_of p e) (mark_number t inv r)
      a.legible.lawful.spaced (ranks_most p e) i in
      more_some _ _ _ _ (over_past s.read f) l

  stored_some : SomeLent inv sp (subinventory_of ws t inv sp r)
  unfolding subinventory_of
  stored_some = go d.spilled refl
    where
      go : (b : Bool) → d.spilled ≡ b → SomeLent inv sp (or_empty (store_of ws t inv sp r))
      go false f = rw (← store_own s f) (pow_pos (M t.plan), own_end s)
      go true f = rw (← store_over s f _ _ refl refl) (omega (arith, over_some f, rule_is s, over_start s f), over_end s f _ _ refl)

-- a part that is lent has as many cells as it names
part_length : (inv sp : List ℕ) (p : Part) → PartIn inv sp p → length (cells_of inv sp p) ≡ cell_count p
part_length inv sp (of_inventory c n) h = simp (length-take, length-drop) (omega arith)
part_length inv sp (of_spill c n) h = simp (length-take, length-drop) (omega arith)
part_length inv sp empty h = refl

module _ (ws : List ℕ) (t : Summary) (inv sp : List ℕ) (r : ℕ) where
  stored : (h : Hint) → hint_of ws t inv sp r ≡ answer h → (p : ℕ) × Stored ws t inv sp r (decoded_by t inv r p)
  unfolding hint_of hint_sample hint_at mark_of_rank
  stored h e =
      let w = passed_all (of_index ws t inv sp ++ of_rank (N t.plan) r) (hint_sample t inv sp r) h e in
      let g = then_answer (hint_at t inv sp r) _ h w.1 in
      let m = then_answer (mark_of_rank t inv sp r) _ g.0 g.1 in
      let p = then_answer (mark_at t inv sp (entry_of_rank t r) (mark_number t inv r)) _ m.0 m.1 in
      (p.0, record { readable = call_readable ws t inv sp r w.0; read = record { mark = p.1; is = refl }; hint = h; hinted = e })

  answer_held : (h : Hint) → hint_of ws t inv sp r ≡ answer h → SomeLent inv sp (subinventory_of ws t inv sp r)
  answer_held h e = stored_some (stored h e).1

  pub store_some : (h : Hint) → hint_of ws t inv sp r ≡ answer h → 0 < cell_count (subinventory_of ws t inv sp r)
  store_some h e = (answer_held h e).0

  pub store_in : PartIn inv sp (subinventory_of ws t inv sp r)
  unfolding subinventory_of store_of
  store_in = go (hint_of ws t inv sp r) refl
    where
      go : (o : Outcome Hint) → hint_of ws t inv sp r ≡ o → PartIn inv sp (subinventory_of ws t inv sp r)
      go (answer h) e = (answer_held h e).1
      go (refused n) e = rw e tt

  pub store_length : length (cells_of inv sp (subinventory_of ws t inv sp r)) ≡ cell_count (subinventory_of ws t inv sp r)
  store_length = part_length inv sp (subinventory_of ws t inv sp r) store_in
