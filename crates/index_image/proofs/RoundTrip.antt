-- Writing is one put of header, inventory and spill; an image read back is the summary and the counted cells that it was made of,
-- and what was read from an image has its bytes.
use mathlib.Core.Bool.{false}
use mathlib.Core.List.{List, ◌++◌, append_assoc}
use mathlib.Core.Path.{◌≡◌, ap, ◌∙◌}
use Prim.Native.Nat.{ℕ, ◌+◌, ◌-◌, ◌*◌, ◌^◌, ◌≤◌, ◌<◌}
use native.Mathlib.Omega.{arith}
use lib.ListN.{length, take, length-append}
use lib.Seq.{take_all, length-take-le}
use borrow.Author.Tests.{ltb-false}
use Rattle.rank_sel.specs.Lists.{Below}
use Rattle.rank_sel.specs.Outcome.{NoneOf}
use Rattle.rank_sel.proofs.Lists.{same_yes, below_take}
use Rattle.rank_sel.proofs.Outcome.{none_any}
use Rattle.inventory.specs.Lawful.{Lawful, CellsHeld}
use Rattle.inventory.specs.Numbers.{summary_at, numbers_of}
use Rattle.inventory.specs.declared.summary.Summary.{Summary}
use Rattle.inventory.proofs.Lawful.{lawful}
use Rattle.index_image.specs.Bytes.{bytes_of, words_from, put_at}
use Rattle.index_image.specs.Image.{offset_of, header_of, image_of, of_summary_alone, numbers_in, summary_in, inventory_in, spill_in, image_unlawful}
use Rattle.index_image.proofs.Bytes.{bytes_length, bytes_append}
use Rattle.index_image.proofs.Formed.{long, header_back, inventory_back, spill_back, numbers_back, Fits, header_long, header_numbers, header_below}
use Rattle.index_image.proofs.Put.{put_put}

-- the header, then the inventory, then the spill
pub put_image : (header inventory spill l : List ℕ) (n m : ℕ) → length header ≡ 11 → length inventory ≡ n → length spill ≡ m
    → offset_of (n + m) ≤ length l
    → put_at (88 + 8 * n) (bytes_of spill) (put_at 88 (bytes_of inventory) (put_at 0 (bytes_of header) l))
    ≡ put_at 0 (bytes_of (header ++ (inventory ++ spill))) l
put_image header inventory spill l n m e en em h =
    let a : length (bytes_of header) ≡ 88 = bytes_length header ∙ omega arith in
    let b : length (bytes_of inventory) ≡ 8 * n = bytes_length inventory ∙ omega arith in
    let d : length (bytes_of spill) ≡ 8 * m = bytes_length spill ∙ omega arith in
    let x : put_at 88 (bytes_of inventory) (put_at 0 (bytes_of header) l) ≡ put_at 0 (bytes_of (header ++ inventory)) l =
    rw (a, ← bytes_append header inventory) at (put_put 0 (bytes_of header) (bytes_of inventory) l (omega arith)) in
    let k : length (bytes_of (header ++ inventory)) ≡ 88 + 8 * n =
    bytes_length (header ++ inventory) ∙ omega (arith, length-append header inventory) in
    let z : 0 + length (bytes_of (header ++ inventory)) ≡ 88 + 8 * n = omega arith in
    rw (x, ← z, ← append_assoc header inventory spill, bytes_append (header ++ inventory) spill)
    (put_put 0 (bytes_of (header ++ inventory)) (bytes_of spill) l (omega arith))

-- ---- an image of cells that are there
module _ (t : Summary) (inv sp : List ℕ) (c : CellsHeld t inv sp) where
  abbrev own : List ℕ
  own = take t.inventory_len inv

  abbrev over : List ℕ
  over = take t.spill_len sp

  own_long : length own ≡ t.inventory_len
  own_long = length-take-le t.inventory_len inv c.own

  over_long : length over ≡ t.spill_len
  over_long = length-take-le t.spill_len sp c.over

  pub image_long : length (image_of t inv sp) ≡ offset_of (t.inventory_len + t.spill_len)
  unfolding image_of
  image_long = long (header_of (numbers_of t)) own over _ _ (header_long t) own_long over_long

  -- past the counts the cells may be any
  pub image_same : (inv' sp' : List ℕ) → take t.inventory_len inv' ≡ own → take t.spill_len sp' ≡ over
      → image_of t inv' sp' ≡ image_of t inv sp
  unfolding image_of
  image_same inv' sp' i s = rw (i, s)

  -- ---- read back
  module _ (free : NoneOf (of_summary_alone t)) (hi : Below (2 ^ 64) inv) (hs : Below (2 ^ 64) sp) (k : length (image_of t inv sp) < 2 ^ 64) where
    w : Lawful t
    w = lawful t free.1.1.0

    low : t.plan.len < 2 ^ 62
    low = omega (arith, ltb-false (2 ^ 62 - 1) t.plan.len free.0)

    fits : Fits t
    fits = record {
      len = omega (arith, low);
      num = omega (arith, low, w.few);
      origin = omega (arith, ltb-false (2 ^ 62 - 1) (t.origin + t.plan.len) free.1.0);
      l = omega (arith, w.small_l);
      m = omega (arith, w.small_m);
      s = omega (arith, w.small_l, w.spaced);
      inventory = omega (arith, image_long);
      spill = omega (arith, image_long);
    }

    pub summary_back : summary_in (image_of t inv sp) ≡ t
    unfolding summary_in image_of
    summary_back =
        ap (λ (z : List ℕ). summary_at (numbers_in z)) (header_back (header_of (numbers_of t)) own over _ _ (header_long t) own_long over_long (header_below t fits))
        ∙ ap summary_at (header_numbers t)
        ∙ numbers_back t w

    own_back : words_from (image_of t inv sp) (offset_of 0) t.inventory_len ≡ own
    unfolding image_of
    own_back =
        inventory_back (header_of (numbers_of t)) own over _ _ (header_long t) own_long over_long (below_take (2 ^ 64) t.inventory_len inv hi)

    over_back : words_from (image_of t inv sp) (offset_of t.inventory_len) t.spill_len ≡ over
    unfolding image_of
    over_back =
        spill_back (header_of (numbers_of t)) own over _ _ (header_long t) own_long over_long (below_take (2 ^ 64) t.spill_len sp hs)

    pub inventory_read : inventory_in (image_of t inv sp) ≡ own
    unfolding inventory_in
    inventory_read = rw summary_back own_back

    pub spill_read : spill_in (image_of t inv sp) ≡ over
    unfolding spill_in
    spill_read = rw summary_back over_back

    pub image_lawful : image_unlawful (image_of t inv sp) ≡ false
    unfolding image_unlawful
    image_lawful =
        let a = take_all t.inventory_len own (omega (arith, own_long)) in
        let b = take_all t.spill_len over (omega (arith, over_long)) in
        rw (summary_back, inventory_read, spill_read, none_any (of_summary_alone t) free, same_yes _ _ (image_same own over a b))
