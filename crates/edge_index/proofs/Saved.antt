-- What writing and reading an image promise, from what they answer and leave.
use mathlib.Core.List.{List, ◌++◌}
use mathlib.Core.Logic.{◌↔◌}
use mathlib.Core.Path.{◌≡◌, sym, ap, ◌∙◌, subst}
use Prim.Native.Nat.{ℕ, ◌^◌, ◌≤◌, ◌<◌}
use lib.ListN.{length, take, drop}
use lib.Seq.{drop_at, take_at}
use Rattle.std.specs.Prelude.{Result, Ok, Err, IfOk}
use Rattle.rank_sel.specs.Outcome.{Outcome, answer, outcome}
use Rattle.rank_sel.specs.declared.Refusal.{Refusal}
use Rattle.rank_sel.specs.declared.Refusal.TheVariants.{ImageUnlawful}
use Rattle.rank_sel.proofs.Outcome.{answer_is, then_answer}
use Rattle.inventory.specs.Lawful.{CellsHeld}
use Rattle.inventory.specs.declared.summary.Summary.{Summary}
use Rattle.index_image.specs.Image.{Read, Wrote, bytes_after, write_of}
use Rattle.edge_index.specs.Images.{Bytes, Cells, Restored, Written, inventory_left, spill_left}
use Rattle.edge_index.proofs.Entries.{is_err, is_ok}
use Rattle.edge_index.proofs.Images.{images}

-- ---- writing
module _ (t : Summary) (inv sp bytes bytes' : List ℕ) where
  -- the image that was written stands at the start, and what stood behind it still does
  record Stands (n : ℕ) : Type 0 where
    image : List ℕ
    told : write_of t inv sp (length bytes) ≡ answer image
    front : take n bytes' ≡ image
    rest : drop n bytes' ≡ drop n bytes

  stands : (n : ℕ) → Wrote (write_of t inv sp (length bytes)) bytes bytes' (Ok n) → Stands n
  stands n w =
      let o = then_answer (write_of t inv sp (length bytes)) (λ image. answer (length image)) n (sym w.told) in
      let long : length o.0 ≡ n = answer_is o.2 in
      let left : bytes' ≡ o.0 ++ drop (length o.0) bytes = w.bytes_are ∙ ap (λ (z : Outcome (List ℕ)). bytes_after z bytes) o.1 in
      record {
        image = o.0;
        told = o.1;
        front = ap (take n) left ∙ take_at o.0 (drop (length o.0) bytes) n long;
        rest = ap (drop n) left ∙ drop_at o.0 (drop (length o.0) bytes) n long ∙ ap (λ (k : ℕ). drop k bytes) long;
      }

  pub write_restores : (r : Result ℕ Refusal) → Wrote (write_of t inv sp (length bytes)) bytes bytes' r → Cells inv sp
      → length bytes < 2 ^ 64
      → IfOk r (λ n. (inv' sp' : List ℕ) → CellsHeld t inv' sp' → Restored t inv sp (take n bytes') inv' sp')
  write_restores (Ok n) w c l = λ inv' sp' h.
      let s = stands n w in
      subst (λ (z : List ℕ). Restored t inv sp z inv' sp') (sym s.front)
      (images.written_read t inv sp s.image (length bytes) c l s.told inv' sp' h)
  write_restores (Err e) w c l = tt

  pub write_rest : (r : Result ℕ Refusal) → Wrote (write_of t inv sp (length bytes)) bytes bytes' r
      → IfOk r (λ n. drop n bytes' ≡ drop n bytes)
  write_rest (Ok n) w = (stands n w).rest
  write_rest (Err e) w = tt

-- ---- reading
module _ (bytes inv inv' sp sp' : List ℕ) (b : Bytes bytes) where
  pub read_image_is : (r : Result Summary Refusal) → Read bytes inv inv' sp sp' r
      → (t : Summary) → (r ≡ Ok t) ↔ (Written t bytes × CellsHeld t inv sp)
  read_image_is r w t =
      let x = images.read_exact t bytes inv sp b in (
        (λ h. x.0 (sym w.told ∙ ap outcome h)),
        (λ h. is_ok r t (w.told ∙ x.1 h)),
      )

  pub read_no_image : (r : Result Summary Refusal) → Read bytes inv inv' sp sp' r
      → (r ≡ Err ImageUnlawful) ↔ ((t : Summary) → Written t bytes → ⊥)
  read_no_image r w =
      let x = images.read_15 bytes inv sp b in (
        (λ h. x.0 (sym w.told ∙ ap outcome h)),
        (λ n. is_err r ImageUnlawful (w.told ∙ x.1 n)),
      )

  pub read_restores : (r : Result Summary Refusal) → Read bytes inv inv' sp sp' r
      → IfOk r (λ t. (lent : ℕ) → length bytes ≤ lent → write_of t inv' sp' lent ≡ answer bytes)
  read_restores (Ok t) w = λ lent l.
      let back : write_of t (inventory_left bytes inv sp) (spill_left bytes inv sp) lent ≡ answer bytes =
      images.read_written t bytes inv sp b (sym w.told) lent l in
      rw (w.inventory, w.spill) back
  read_restores (Err e) w = tt
