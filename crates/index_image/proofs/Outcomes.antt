-- What the two entries answer and leave, past their tests: the image is written, or its cells are read. A refusal leaves all.
use Rattle.std.specs.Prelude.{Result, Ok, Err, IsErr, IsErrAnd}
use mathlib.Core.Bool.{true, false}
use mathlib.Core.List.{List, [], ◌∷◌, ◌++◌}
use mathlib.Core.Path.{◌≡◌, refl, sym, ap, ◌∙◌}
use Prim.Native.Nat.{ℕ, ◌+◌, ◌≤◌}
use native.Mathlib.Omega.{arith}
use lib.ListN.{length, take, drop}
use borrow.Author.Tests.{ltb-false, le-ltb}
use Rattle.rank_sel.specs.Outcome.{Outcome, answer, refused, number_of, Conditions, NoneOf, refuse_by, test_by}
use Rattle.rank_sel.specs.declared.Refusal.{Refusal}
use Rattle.rank_sel.specs.declared.Refusal.TheVariants.{ImageUnlawful}
use Rattle.rank_sel.proofs.Outcome.{none_split, none_join, tests_handed_on, passed_none, passed_then}
use Rattle.inventory.specs.Lawful.{of_cells, CellsHeld}
use Rattle.inventory.specs.Numbers.{numbers_of}
use Rattle.inventory.specs.declared.summary.Summary.{Summary}
use Rattle.inventory.proofs.Lawful.{cells_held, cells_none}
use Rattle.index_image.specs.Bytes.{bytes_of, words_from, put_at}
use Rattle.index_image.specs.Image.{offset_of, header_of, image_of, of_summary_alone, place_too_short, of_writing, write_of, Wrote, summary_in, inventory_in, spill_in, image_unlawful, read_of, Read}
use Rattle.index_image.proofs.Formed.{inventory_in_long, spill_in_long}
use Rattle.index_image.proofs.Put.{put_first}
use Rattle.index_image.proofs.RoundTrip.{image_long}

-- a refusal of the tests is one of what comes after them
stopped_by : {A : Type 0} (cs : Conditions) (e : Refusal) (rest : Outcome A) → refused (number_of e) ≡ test_by cs → refuse_by cs rest ≡ refused (number_of e)
stopped_by cs e rest s = sym (tests_handed_on (Err e) e (refl, refl) cs s rest)

-- ---- writing
-- what passing the tests shows
pub record Writable (t : Summary) (inv sp : List ℕ) (lent : ℕ) : Type 0 where
  pub free : NoneOf (of_summary_alone t)
  pub held : CellsHeld t inv sp
  pub room : length (image_of t inv sp) ≤ lent

module _ (t : Summary) (inv sp : List ℕ) (lent : ℕ) where
  abbrev place : Conditions
  place = (place_too_short t inv sp lent, 16) ∷ []

  pub writable : NoneOf (of_writing t inv sp lent) → Writable t inv sp lent
  writable h =
      let s = none_split (of_summary_alone t) (of_cells t inv sp ++ place) h in
      let u = none_split (of_cells t inv sp) place s.1 in
      record { free = s.0; held = cells_held t inv sp u.0; room = ltb-false _ _ u.1.0 }

  pub writable_none : Writable t inv sp lent → NoneOf (of_writing t inv sp lent)
  writable_none w =
      none_join (of_summary_alone t) (of_cells t inv sp ++ place) w.free
      (none_join (of_cells t inv sp) place (cells_none t inv sp w.held) (le-ltb _ _ w.room, tt))

  pub write_stopped : (r : Result ℕ Refusal) (e : Refusal) → IsErr r × IsErrAnd r (λ x. x ≡ e) → refused (number_of e) ≡ test_by (of_writing t inv sp lent)
      → (bytes : List ℕ) → Wrote (write_of t inv sp lent) bytes bytes r
  unfolding write_of
  write_stopped (Err x) e h s bytes =
      let w = stopped_by (of_writing t inv sp lent) e (answer (image_of t inv sp)) s in
      record { told = rw (h.1, w); bytes_are = rw w }
  write_stopped (Ok x) e h s bytes = absurd h.1

  module _ (told : answer tt ≡ test_by (of_writing t inv sp lent)) where
    passed : Writable t inv sp lent
    passed = writable (passed_none (of_writing t inv sp lent) told)

    pub write_held : CellsHeld t inv sp
    write_held = passed.held

    long : length (image_of t inv sp) ≡ offset_of (t.inventory_len + t.spill_len)
    long = image_long t inv sp write_held

    pub write_room : offset_of (t.inventory_len + t.spill_len) ≤ lent
    write_room = omega (arith, long, passed.room)

    pub write_done : (header bytes₀ bytes : List ℕ) → header ≡ header_of (numbers_of t)
        → bytes ≡ put_at 0 (bytes_of (header ++ (take t.inventory_len inv ++ take t.spill_len sp))) bytes₀
        → Wrote (write_of t inv sp lent) bytes₀ bytes (Ok (offset_of (t.inventory_len + t.spill_len)))
    unfolding write_of image_of
    write_done header bytes₀ bytes eh eb =
        let s = passed_then (of_writing t inv sp lent) told (answer (image_of t inv sp)) in
        record { told = rw (← s) (ap answer (sym long)); bytes_are = rw (← s) (rw eh at eb ∙ put_first (image_of t inv sp) bytes₀) }

-- ---- reading
pub read_no : (bs : List ℕ) → image_unlawful bs ≡ true → (inv sp : List ℕ) → Read bs inv inv sp sp (Err ImageUnlawful)
unfolding read_of
read_no bs e inv sp = record { told = rw e; inventory = rw e; spill = rw e }

module _ (bs inv sp : List ℕ) (lawful : image_unlawful bs ≡ false) where
  abbrev t : Summary
  t = summary_in bs

  pub read_stopped : (r : Result Summary Refusal) (e : Refusal) → IsErr r × IsErrAnd r (λ x. x ≡ e) → refused (number_of e) ≡ test_by (of_cells t inv sp)
      → Read bs inv inv sp sp r
  unfolding read_of
  read_stopped (Err x) e h s =
      let w = stopped_by (of_cells t inv sp) e (answer t) s in
      record { told = rw (h.1, lawful, w); inventory = rw (lawful, w); spill = rw (lawful, w) }
  read_stopped (Ok x) e h s = absurd h.1

  module _ (told : answer tt ≡ test_by (of_cells t inv sp)) where
    pub read_held : CellsHeld t inv sp
    read_held = cells_held t inv sp (passed_none (of_cells t inv sp) told)

    pub read_done : (r : Summary) (inv' sp' : List ℕ) → r ≡ t
        → inv' ≡ words_from bs (offset_of 0) r.inventory_len ++ drop r.inventory_len inv
        → sp' ≡ words_from bs (offset_of r.inventory_len) r.spill_len ++ drop r.spill_len sp
        → Read bs inv inv' sp sp' (Ok r)
    unfolding read_of inventory_in spill_in
    read_done r inv' sp' er ei es =
        let s = passed_then (of_cells t inv sp) told (answer t) in
        record {
          told = rw (lawful, ← s, er);
          inventory = rw (lawful, ← s, inventory_in_long bs) (rw er at ei);
          spill = rw (lawful, ← s, spill_in_long bs) (rw er at es);
        }
