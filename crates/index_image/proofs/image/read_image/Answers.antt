-- No image, or cells too few: all stays. Else the summary is the header's, and the two reads put its cells before what stood there.
use borrow.Author.Tests.{not-true, not-false}
use mathlib.Core.Bool.{false}
use mathlib.Core.List.{List, ◌++◌}
use mathlib.Core.Path.{◌≡◌, sym, ap, ◌∙◌, subst}
use Prim.Native.Nat.{ℕ, ◌+◌, ◌^◌, ◌<◌}
use native.Mathlib.Omega.{arith}
use lib.ListN.{length, take, drop}
use lib.Seq.{length-take-le}
use borrow.Author.Rules.{rules}
use Rattle.rank_sel.specs.Lists.{Below}
use Rattle.rank_sel.specs.Outcome.{answer, test_by}
use Rattle.inventory.specs.Lawful.{CellsHeld, of_cells}
use Rattle.inventory.specs.declared.summary.Summary.{Summary}
use Rattle.index_image.specs.Bytes.{words_from}
use Rattle.index_image.specs.Image.{offset_of, summary_in, image_unlawful}
use Rattle.index_image.proofs.Formed.{lawful_ends}
use Rattle.index_image.proofs.Outcomes.{read_no, read_stopped, read_held, read_done}
use Rattle.index_image.proofs.image.read_image.Goals.{Else-not-is_image, In_ok-test_cells}
use Rattle.index_image.proofs.image.read_image.Goals as goal

-- the bytes are an image
module _ (c : Else-not-is_image) where
  abbrev bs : List ℕ
  bs = c.args.bytes.now

  small : Below 256 bs
  small i = omega (arith, c.type_inv.bytes i)

  short : length bs < 2 ^ 64
  short = search rules

  lawful : image_unlawful bs ≡ false
  lawful = not-true _ (sym c.is_image.ensures ∙ c.if-not-is_image.false)

  ends : let t = summary_in bs in length bs ≡ offset_of (t.inventory_len + t.spill_len)
  ends = lawful_ends bs small short lawful

-- and the cells suffice
module _ (c : In_ok-test_cells) where
  abbrev t : Summary
  t = c.summary_in-summary.result

  said : t ≡ summary_in c.args.bytes.now
  said = c.summary_in-summary.ensures

  told : answer tt ≡ test_by (of_cells (summary_in c.args.bytes.now) c.args.inventory.now c.args.spill.now)
  told = let a = c.args in subst (λ (z : Summary). answer tt ≡ test_by (of_cells z a.inventory.now a.spill.now)) said c.in_ok-test_cells.ensures

  held : let a = c.args in CellsHeld t a.inventory.now a.spill.now
  held =
      let a = c.args in
      subst (λ (z : Summary). CellsHeld z a.inventory.now a.spill.now) (sym said)
      (read_held a.bytes.now a.inventory.now a.spill.now (lawful (goal.at.In_ok-test_cells c).Else-not-is_image) told)

  end : length c.args.bytes.now ≡ offset_of (t.inventory_len + t.spill_len)
  end = ends (goal.at.In_ok-test_cells c).Else-not-is_image ∙ ap (λ (z : Summary). offset_of (z.inventory_len + z.spill_len)) (sym said)

  fits : offset_of (t.inventory_len + t.spill_len) < 2 ^ 64
  fits = omega (arith, end, short (goal.at.In_ok-test_cells c).Else-not-is_image)

  own_long : length (take t.inventory_len c.args.inventory.now) ≡ t.inventory_len
  own_long = length-take-le t.inventory_len c.args.inventory.now held.own

  over_long : length (take t.spill_len c.args.spill.now) ≡ t.spill_len
  over_long = length-take-le t.spill_len c.args.spill.now held.over

pub returns-then-not-is_image : goal.returns-then-not-is_image
returns-then-not-is_image c =
    let a = c.args in
    read_no a.bytes.now (not-false _ (sym c.is_image.ensures ∙ c.if-not-is_image.true)) a.inventory.now a.spill.now

pub summary_in-summary-requires : goal.summary_in-summary-requires
summary_in-summary-requires c =
    omega (arith, ends c)

pub returns-in_err-test_cells : goal.returns-in_err-test_cells
returns-in_err-test_cells c =
    let a = c.args in
    read_stopped a.bytes.now a.inventory.now a.spill.now (lawful (goal.at.returns-in_err-test_cells c).Else-not-is_image) _ _ c.from_residual.ensures
    (rw c.summary_in-summary.ensures at c.in_err-test_cells.ensures)

pub read_words-requires : goal.read_words-requires
read_words-requires c =
    let at = (goal.at.read_words-requires c).In_ok-test_cells in
    omega (arith, end at, own_long at)

pub read_words-requires-2 : goal.read_words-requires-2
read_words-requires-2 c =
    let at = (goal.at.read_words-requires-2 c).In_ok-test_cells in
    omega (arith, end at, over_long at)

pub returns : goal.returns
returns c =
    let a = c.args in
    let at = (goal.at.returns c).In_ok-test_cells in
    read_done a.bytes.now a.inventory.now a.spill.now (lawful (goal.at.returns c).Else-not-is_image) (told at) (t at) _ _ (said at)
    (rw (ap (words_from a.bytes.now 88) (own_long at)) at (ap (λ (z : List ℕ). z ++ drop (t at).inventory_len a.inventory.now) c.read_words.ensures))
    (rw (ap (words_from a.bytes.now (offset_of (t at).inventory_len)) (over_long at)) at (ap (λ (z : List ℕ). z ++ drop (t at).spill_len a.spill.now) c.read_words-2.ensures))
