-- What passing the tests of a call shows, test by test, and that what they ask for passes them.
use mathlib.Core.List.{List, ◌++◌}
use mathlib.Core.Path.{◌≡◌, sym, ap, ◌∙◌}
use Prim.Native.Nat.{ℕ, ◌<◌}
use borrow.Author.Tests.{leb-false}
use Rattle.std.specs.Prelude.{Result, Ok, Err, IsErr, IsErrAnd}
use Rattle.rank_sel.specs.Outcome.{Outcome, answer, refused, number_of, Conditions, refuse_by, test_by, NoneOf, and_then, outcome}
use Rattle.rank_sel.specs.declared.Refusal.{Refusal}
use Rattle.rank_sel.proofs.Outcome.{none_split, none_join, tests_then, passed_none, passed_then}
use Rattle.bit_record.specs.Record.{of_record_from, AdmittedFrom}
use Rattle.bit_record.proofs.Counted.{admitted_from, admitted_from_none}
use Rattle.spacing.specs.Spacing.{N}
use Rattle.inventory.specs.Lawful.{of_summary, of_cells}
use Rattle.inventory.specs.declared.summary.Summary.{Summary}
use Rattle.inventory.proofs.Lawful.{lawful, lawful_none, cells_held, cells_none}
use Rattle.read_inventory.specs.Jump.{hint_sample, hint_of}
use Rattle.read_inventory.specs.Tested.{Tested}
use Rattle.read_inventory.specs.Tests.{of_index, of_rank, Legible}
use Rattle.read_inventory.specs.declared.index.Index.{Index}

-- a rank may be read: summary and cells pass, and it is below N
pub record Readable (t : Summary) (inv sp : List ℕ) (r : ℕ) : Type 0 where
  pub legible : Legible t inv sp
  pub below : r < N t.plan

module _ (ws : List ℕ) (t : Summary) (inv sp : List ℕ) where
  -- record, summary and cells
  pub record IndexHeld : Type 0 where
    pub from : AdmittedFrom ws t.plan.len t.origin
    pub legible : Legible t inv sp

module _ (ws : List ℕ) (t : Summary) (inv sp : List ℕ) where
  -- test by test
  pub index_by : NoneOf (of_record_from ws t.plan.len t.origin) → NoneOf (of_summary t) → NoneOf (of_cells t inv sp)
      → IndexHeld ws t inv sp
  index_by r s c =
      let f = admitted_from ws t.plan.len t.origin r in
      record { from = f; legible = record { short = f.admitted.short; lawful = lawful t s.0; held = cells_held t inv sp c } }

  index_held : NoneOf (of_index ws t inv sp) → IndexHeld ws t inv sp
  index_held h =
      let s = none_split (of_record_from ws t.plan.len t.origin) (of_summary t ++ of_cells t inv sp) h in
      let u = none_split (of_summary t) (of_cells t inv sp) s.1 in
      index_by s.0 u.0 u.1

  pub index_none : IndexHeld ws t inv sp → NoneOf (of_index ws t inv sp)
  index_none i =
      none_join (of_record_from ws t.plan.len t.origin) (of_summary t ++ of_cells t inv sp)
      (admitted_from_none ws t.plan.len t.origin i.from)
      (none_join (of_summary t) (of_cells t inv sp) (lawful_none t i.legible.lawful, tt) (cells_none t inv sp i.legible.held))

  -- an index and a rank
  pub hint_stopped : (r k : ℕ) → refused k ≡ test_by (of_index ws t inv sp ++ of_rank (N t.plan) r) → refused k ≡ hint_of ws t inv sp r
  unfolding hint_of
  hint_stopped r k e =
      ap (λ (o : Outcome (Unit {0})). and_then o (λ u. hint_sample t inv sp r)) e
      ∙ sym (tests_then (of_index ws t inv sp ++ of_rank (N t.plan) r) (hint_sample t inv sp r))

  module _ (r : ℕ) (h : NoneOf (of_index ws t inv sp ++ of_rank (N t.plan) r)) where
    pub call_readable : Readable t inv sp r
    call_readable =
        let s = none_split (of_index ws t inv sp) (of_rank (N t.plan) r) h in
        record { legible = (index_held s.0).legible; below = leb-false (N t.plan) r s.1.0 }

-- ---- an index that passed the tests of what was handed in
module _ (ws : List ℕ) (t : Summary) (inv sp : List ℕ) (x : Index) where
  -- what is read of it is the call's answer
  pub tested_then : {A : Type 0} (cs : Conditions) → Tested cs ws t inv sp (Ok x) → (rest : List ℕ → Summary → List ℕ → List ℕ → Outcome A)
      → rest x.words.now x.cells.summary x.cells.inventory.now x.cells.spill.now ≡ refuse_by cs (rest ws t inv sp)
  tested_then cs w rest =
      let i = w.1 in
      rw (i.words, i.summary, i.inventory, i.spill) (passed_then cs w.0 (rest ws t inv sp))

  -- and a rank
  module _ (r : ℕ) (w : Tested (of_index ws t inv sp ++ of_rank (N t.plan) r) ws t inv sp (Ok x)) where
    pub hint_passed : hint_sample x.cells.summary x.cells.inventory.now x.cells.spill.now r ≡ hint_of ws t inv sp r
    unfolding hint_of
    hint_passed = tested_then (of_index ws t inv sp ++ of_rank (N t.plan) r) w (λ ws t inv sp. hint_sample t inv sp r)

    -- the index passes the tests itself
    abbrev own : Conditions
    own = of_index x.words.now x.cells.summary x.cells.inventory.now x.cells.spill.now ++ of_rank (N x.cells.summary.plan) r

    itself : answer tt ≡ test_by own
    itself =
        let i = w.1 in
        rw (i.words, i.summary, i.inventory, i.spill) w.0

    pub itself_readable : Readable x.cells.summary x.cells.inventory.now x.cells.spill.now r
    itself_readable = call_readable x.words.now x.cells.summary x.cells.inventory.now x.cells.spill.now r (passed_none own itself)

    pub itself_hint : hint_sample x.cells.summary x.cells.inventory.now x.cells.spill.now r ≡ hint_of x.words.now x.cells.summary x.cells.inventory.now x.cells.spill.now r
    unfolding hint_of
    itself_hint = passed_then own itself (hint_sample x.cells.summary x.cells.inventory.now x.cells.spill.now r)

-- ---- a refusal that `?` hands on
pub refused_so : {B : Type 0} (r : Result B Refusal) (e : Refusal) → IsErr r × IsErrAnd r (λ x. x ≡ e) → (o : Outcome B)
    → refused (number_of e) ≡ o → outcome r ≡ o
refused_so (Err x) e h o eo = ap (λ (z : Refusal). refused (number_of z)) h.1 ∙ eo
refused_so (Ok b) e h o eo = absurd h.1
