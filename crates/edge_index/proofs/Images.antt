-- An image that is read back is the one that was written (index_image/proofs); a sound index is the one that build would write, so
-- that check says yes to it (Determined).
use mathlib.Core.Bool.{Bool, true, false, false≢true}
use mathlib.Core.List.{List, ◌++◌}
use mathlib.Core.Logic.{◌↔◌}
use mathlib.Core.Path.{◌≡◌, refl, sym, ap, ◌∙◌, subst}
use Prim.Native.Nat.{ℕ, ◌^◌, ◌≤◌, ◌<◌}
use native.Mathlib.Omega.{arith}
use lib.Dec.{ltb}
use lib.ListN.{length, take, drop, length-append}
use lib.Seq.{take-append-le, length-take-le}
use Rattle.rank_sel.specs.Lists.{Below}
use Rattle.rank_sel.specs.Outcome.{answer, refused, refuse_if}
use Rattle.rank_sel.proofs.Lists.{below_append, below_drop}
use Rattle.rank_sel.proofs.Outcome.{answer_is, passed_all, passing}
use Rattle.inventory.specs.Lawful.{CellsHeld}
use Rattle.inventory.specs.declared.summary.Summary.{Summary}
use Rattle.inventory.proofs.Lawful.{cells_held, cells_none}
use Rattle.index_image.specs.Image.{image_of, of_writing, write_of, summary_in, inventory_in, spill_in, image_unlawful, of_reading, read_of}
use Rattle.index_image.proofs.Bytes.{words_below}
use Rattle.index_image.proofs.Formed.{lawful_free, lawful_back, inventory_in_long, spill_in_long}
use Rattle.index_image.proofs.Outcomes.{Writable, writable, writable_none}
use Rattle.index_image.proofs.RoundTrip.{image_same, summary_back, inventory_read, spill_read, image_lawful}
use Rattle.edge_index.specs.Images.{Bytes, Cells, Written, inventory_left, spill_left, Restored, Images}
use Rattle.edge_index.proofs.Determined.{sound_checked}
use Rattle.edge_index.proofs.Promises.{checked_sound}

-- ---- what an answer shows, and where it comes from
-- of writing
module _ (t : Summary) (inv sp bs : List ℕ) (lent : ℕ) where
  wrote : write_of t inv sp lent ≡ answer bs → Writable t inv sp lent × (image_of t inv sp ≡ bs)
  unfolding write_of
  wrote e =
      let p = passed_all (of_writing t inv sp lent) (answer (image_of t inv sp)) bs e in
      (writable t inv sp lent p.0, answer_is p.1)

  writes : Writable t inv sp lent → image_of t inv sp ≡ bs → write_of t inv sp lent ≡ answer bs
  unfolding write_of
  writes w e = passing (of_writing t inv sp lent) (answer (image_of t inv sp)) (writable_none t inv sp lent w) ∙ ap answer e

-- of reading
record ImageFor (t : Summary) (bs : List ℕ) : Type 0 where
  lawful : image_unlawful bs ≡ false
  is : summary_in bs ≡ t

module _ (bs inv sp : List ℕ) (t : Summary) where
  opens : read_of bs inv sp ≡ answer t → ImageFor t bs × CellsHeld t inv sp
  unfolding read_of
  opens e =
      let p = passed_all (of_reading bs inv sp) (answer (summary_in bs)) t e in
      let s = answer_is p.1 in
      (record { lawful = p.0.0; is = s }, subst (λ (z : Summary). CellsHeld z inv sp) s (cells_held (summary_in bs) inv sp p.0.1))

  reads : ImageFor t bs → CellsHeld t inv sp → read_of bs inv sp ≡ answer t
  unfolding read_of
  reads w h =
      let k = subst (λ (z : Summary). CellsHeld z inv sp) (sym w.is) h in
      passing (of_reading bs inv sp) (answer (summary_in bs)) (w.lawful, cells_none (summary_in bs) inv sp k) ∙ ap answer w.is

-- ---- written, then read
module _ (t : Summary) (inv sp : List ℕ) (lent : ℕ) (c : Cells inv sp) (k : lent < 2 ^ 64) (w : Writable t inv sp lent) where
  abbrev image : List ℕ
  image = image_of t inv sp

  short : length image < 2 ^ 64
  short = omega (arith, w.room)

  image_for : ImageFor t image
  image_for = record {
    lawful = image_lawful t inv sp w.held w.free c.inventory c.spill short;
    is = summary_back t inv sp w.held w.free c.inventory c.spill short;
  }

  restored : (inv' sp' : List ℕ) → CellsHeld t inv' sp' → Restored t inv sp image inv' sp'
  restored inv' sp' h =
      let e = reads image inv' sp' t image_for h in
      let i = inventory_read t inv sp w.held w.free c.inventory c.spill short in
      let s = spill_read t inv sp w.held w.free c.inventory c.spill short in
      record {
        summary = e;
        inventory = rw (e, i, length-take-le t.inventory_len inv w.held.own);
        spill = rw (e, s, length-take-le t.spill_len sp w.held.over);
      }

-- ---- read, then written
module _ (bs : List ℕ) (b : Bytes bs) (e : image_unlawful bs ≡ false) where
  abbrev t : Summary
  t = summary_in bs

  said : CellsHeld t (inventory_in bs) (spill_in bs)
  said = record { own = omega (arith, inventory_in_long bs); over = omega (arith, spill_in_long bs) }

  -- any cells that begin with those of the image
  rewritten : (inv sp : List ℕ) → CellsHeld t inv sp → take t.inventory_len inv ≡ take t.inventory_len (inventory_in bs)
      → take t.spill_len sp ≡ take t.spill_len (spill_in bs) → (lent : ℕ) → length bs ≤ lent → write_of t inv sp lent ≡ answer bs
  rewritten inv sp h i s lent l =
      let same : image_of t inv sp ≡ bs = image_same t (inventory_in bs) (spill_in bs) said inv sp i s ∙ lawful_back bs b.small b.short e in
      writes t inv sp bs lent
      record { free = lawful_free bs b.small b.short e; held = h; room = omega (arith, ap length same) }
      same

  inventory_below : Below (2 ^ 64) (inventory_in bs)
  unfolding inventory_in
  inventory_below = words_below bs _ b.small _

  spill_below : Below (2 ^ 64) (spill_in bs)
  unfolding spill_in
  spill_below = words_below bs _ b.small _

  produced : Written t bs
  produced = record {
    inventory = inventory_in bs;
    spill = spill_in bs;
    cells = record { inventory = inventory_below; spill = spill_below };
    writes = rewritten (inventory_in bs) (spill_in bs) said refl refl;
  }

  -- the cells that reading leaves
  module _ (inv sp : List ℕ) (o : read_of bs inv sp ≡ answer t) where
    inventory_left_lem : inventory_left bs inv sp ≡ inventory_in bs ++ drop t.inventory_len inv
    inventory_left_lem = rw (o, inventory_in_long bs)

    spill_left_lem : spill_left bs inv sp ≡ spill_in bs ++ drop t.spill_len sp
    spill_left_lem = rw (o, spill_in_long bs)

    again : (lent : ℕ) → length bs ≤ lent → write_of t (inventory_left bs inv sp) (spill_left bs inv sp) lent ≡ answer bs
    again =
        let i = inventory_in_long bs in
        let s = spill_in_long bs in
        rw (inventory_left_lem, spill_left_lem)
        (rewritten (inventory_in bs ++ drop t.inventory_len inv) (spill_in bs ++ drop t.spill_len sp)
        record {
          own = omega (arith, length-append (inventory_in bs) (drop t.inventory_len inv));
          over = omega (arith, length-append (spill_in bs) (drop t.spill_len sp));
        }
        (take-append-le t.inventory_len (inventory_in bs) (drop t.inventory_len inv) (omega arith))
        (take-append-le t.spill_len (spill_in bs) (drop t.spill_len sp) (omega arith)))

    cells_left : Cells inv sp → Cells (inventory_left bs inv sp) (spill_left bs inv sp)
    cells_left c = rw (inventory_left_lem, spill_left_lem) (record {
      inventory = below_append (2 ^ 64) (inventory_in bs) _ inventory_below (below_drop (2 ^ 64) t.inventory_len inv c.inventory);
      spill = below_append (2 ^ 64) (spill_in bs) _ spill_below (below_drop (2 ^ 64) t.spill_len sp c.spill);
    })

-- ---- exactly the images
module _ (bs : List ℕ) (b : Bytes bs) where
  written_image : (t : Summary) → Written t bs → ImageFor t bs
  written_image t w =
      let p = wrote t w.inventory w.spill bs (length bs) (w.writes (length bs) (omega arith)) in
      subst (ImageFor t) p.1 (image_for t w.inventory w.spill (length bs) w.cells b.short p.0)

  image_written : (t : Summary) → ImageFor t bs → Written t bs
  image_written t w = subst (λ (z : Summary). Written z bs) w.is (produced bs b w.lawful)

  exact : (t : Summary) (inv sp : List ℕ) → (read_of bs inv sp ≡ answer t) ↔ (Written t bs × CellsHeld t inv sp)
  exact t inv sp = (
    (λ e. let o = opens bs inv sp t e in (image_written t o.0, o.1)),
    (λ h. reads bs inv sp t (written_image t h.0) h.1),
  )

  -- 15 comes from the bytes alone
  fifteen : (inv sp : List ℕ) → read_of bs inv sp ≡ refused 15 → image_unlawful bs ≡ true
  unfolding read_of
  fifteen inv sp e = go (image_unlawful bs) (ltb (length inv) _) (ltb (length sp) _) e
    where
      go : (a i s : Bool) → refuse_if a 15 (refuse_if i 6 (refuse_if s 7 (answer (summary_in bs)))) ≡ refused 15 → a ≡ true
      go true i s d = refl
      go false true s d = absurd (let z : ◌≡◌ {A = ℕ} 6 15 = cc in omega arith)
      go false false true d = absurd (let z : ◌≡◌ {A = ℕ} 7 15 = cc in omega arith)
      go false false false d = cc

  none_written : (inv sp : List ℕ) → (read_of bs inv sp ≡ refused 15) ↔ ((t : Summary) → Written t bs → ⊥)
  unfolding read_of
  none_written inv sp = (
    (λ e t w. absurd (false≢true (sym (written_image t w).lawful ∙ fifteen inv sp e))),
    (λ n. go (image_unlawful bs) refl n),
  )
    where
      go : (a : Bool) → image_unlawful bs ≡ a → ((t : Summary) → Written t bs → ⊥) → read_of bs inv sp ≡ refused 15
      go true e n = rw e
      go false e n = absurd (n (summary_in bs) (produced bs b e))

pub images : Images
images = record {
  written_read = λ t inv sp bs lent c k e inv' sp' h.
      let p = wrote t inv sp bs lent e in
      subst (λ (z : List ℕ). Restored t inv sp z inv' sp') p.1 (restored t inv sp lent c k p.0 inv' sp' h);
  read_written = λ t bs inv sp b e lent l.
      let o = (opens bs inv sp t e).0 in
      subst (λ (z : Summary). write_of z (inventory_left bs inv sp) (spill_left bs inv sp) lent ≡ answer bs) o.is
      (again bs b o.lawful inv sp (e ∙ ap answer (sym o.is)) lent l);
  read_exact = λ t bs inv sp b. exact bs b t inv sp;
  read_15 = λ bs inv sp b. none_written bs b inv sp;
  opened_sound = λ ws len origin pol choice t bs inv sp b c e.
      let o = (opens bs inv sp t e).0 in
      let l = cells_left bs b o.lawful inv sp (e ∙ ap answer (sym o.is)) c in
      (sound_checked ws len origin pol choice t _ _ l.inventory l.spill, checked_sound ws len origin pol choice t _ _);
}
