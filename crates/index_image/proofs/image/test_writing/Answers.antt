-- Where the tests before it pass, the place's speaks for all, since the cells that are there make the image as long as the counts
-- say (`image_long`).
use mathlib.Core.Bool.{Bool}
use mathlib.Core.Path.{◌≡◌, sym, ap, ◌∙◌}
use Prim.Native.Nat.{ℕ}
use lib.Dec.{ltb}
use Rattle.rank_sel.specs.Outcome.{Outcome, answer, refuse_if, test_by}
use Rattle.rank_sel.proofs.Outcome.{passed_none, passed_then}
use Rattle.inventory.specs.Lawful.{of_cells}
use Rattle.inventory.proofs.Lawful.{cells_held}
use Rattle.index_image.specs.Image.{of_summary_alone, place_too_short, of_writing}
use Rattle.index_image.proofs.RoundTrip.{image_long}
use Rattle.index_image.proofs.image.test_writing.Goals.{After-is_place_too_short}
use Rattle.index_image.proofs.image.test_writing.Goals as goal

module _ (c : After-is_place_too_short) where
  abbrev place : Bool → Outcome (Unit {0})
  place b = refuse_if b 16 (answer tt)

  told : place c.is_place_too_short.result ≡ test_by (let a = c.args in of_writing a.summary a.inventory.now a.spill.now a.lent)
  told =
      let a = c.args in
      let alone = of_summary_alone a.summary in
      let cells = of_cells a.summary a.inventory.now a.spill.now in
      let h = cells_held a.summary a.inventory.now a.spill.now (passed_none cells c.in_ok-test_cells.ensures) in
      let e : c.is_place_too_short.result ≡ place_too_short a.summary a.inventory.now a.spill.now a.lent =
      c.is_place_too_short.ensures ∙ ap (λ (n : ℕ). ltb a.lent n) (sym (image_long a.summary a.inventory.now a.spill.now h)) in
      ap place e ∙ passed_then cells c.in_ok-test_cells.ensures _ ∙ passed_then alone c.in_ok-test_alone.ensures _

pub returns-then-is_place_too_short : goal.returns-then-is_place_too_short
returns-then-is_place_too_short c =
    let at = (goal.at.returns-then-is_place_too_short c).After-is_place_too_short in
    ap (place at) (sym c.if-is_place_too_short.true) ∙ told at

pub returns : goal.returns
returns c =
    let at = (goal.at.returns c).After-is_place_too_short in
    ap (place at) (sym c.if-is_place_too_short.false) ∙ told at
