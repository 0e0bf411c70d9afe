-- Seeking in a record, as the loop over its words does.
use Rattle.std.specs.Prelude.{Option, Some, None}
use mathlib.Core.Path.{◌≡◌, sym, ap, ◌∙◌}
use mathlib.Core.Logic.{inl, inr, ⊎_elim}
use mathlib.Core.Bool.{Bool, true}
use mathlib.Core.List.{List}
use mathlib.Core.Option.{none, some}
use Prim.Native.Nat.{ℕ, suc, ◌+◌, ◌-◌, ◌*◌, ◌/◌, ◌%◌, ◌^◌, ◌≤◌, ◌<◌}
use native.Mathlib.Nat.{lt_of_lt_of_le}
use native.Mathlib.Omega.{arith}
use lib.Count.{ones}
use lib.Pow.{pow_mono}
use Rattle.rank_sel.specs.Rank.{rank}
use Rattle.rank_sel.specs.Seek.{seek, Sought}
use Rattle.std.proofs.lemmas.Bool.{cases_lt}
use Rattle.rank_sel.proofs.Seek.{seek_at, seek_empty, seek_same}
use Rattle.select_in_word.specs.Bit.{bit}
use Rattle.select_in_word.specs.Holds.{Holds}
use Rattle.select_in_word.specs.Select.{OneAbove, seek_in_word}
use Rattle.select_in_word.specs.declared.One.{One}
use Rattle.select_in_word.proofs.Bit.{bit_past}
use Rattle.select_in_word.proofs.Holds.{holds_less, holds_ones, holds_rank, holds_sought}
use Rattle.select_in_word.proofs.Select.{word_seek_found, word_seek_missing}
use Rattle.bit_record.specs.Record.{selected, FoundIn, found_by, Finds}
use Rattle.bit_record.specs.Selects.{selects, RecordOf}
use Rattle.bit_record.specs.declared.Polarity.{Polarity}
use Rattle.bit_record.specs.declared.record.Record.{Record}
use Rattle.bit_record.specs.declared.seeks.Found.{Found}
use Rattle.bit_record.proofs.Selected.{selected_lt, rank_num}

pub record_at : (pol : Polarity) (ws : List ℕ) (len from k p : ℕ) → from ≤ p → selected pol ws len p ≡ true
    → rank (selected pol ws len) p ≡ rank (selected pol ws len) from + k → some p ≡ seek (selected pol ws len) (len - from) from k
record_at pol ws len from k p l e r =
    let h = selected_lt pol ws len p e in
    sym (seek_at (selected pol ws len) (len - from) from k p (record { low = l; high = omega arith; here = e; before = r }))

pub record_none : (pol : Polarity) (ws : List ℕ) (len from k p : ℕ) → len ≤ p
    → rank (selected pol ws len) p ≤ rank (selected pol ws len) from + k → none ≡ seek (selected pol ws len) (len - from) from k
record_none pol ws len from k p l r =
    sym (seek_empty (selected pol ws len) (len - from) from k
    (omega (arith, rank_num pol ws len p l, rank_num pol ws len (from + (len - from)) (omega arith))))

-- ---- a one of word i
-- what remains above it in the word remains in the record's word
pub found_one : (f : ℕ → Bool) (i w : ℕ) (x : One) → Holds 64 f (64 * i) w → OneAbove w x.remaining x.position → FoundIn f (found_by i w x)
found_one f i w x held o =
    let e : rank f (suc (64 * i + x.position)) ≡ rank f (64 * i + suc x.position) = ap (rank f) (omega arith) in
    record {
      here = sym (held.bits x.position o.low) ∙ o.here;
      index = omega (arith, o.low);
      word = held;
      remaining = omega (
        arith,
        o.above,
        e,
        holds_rank 64 f (64 * i) w (suc x.position) held (omega (arith, o.low)),
        holds_rank 64 f (64 * i) w 64 held (omega arith),
      );
    }

-- and back
pub one_in : (f : ℕ → Bool) (r : Found) → FoundIn f r → OneAbove r.word r.remaining (r.position % 64)
one_in f r o =
    let p : 64 * r.index + r.position % 64 ≡ r.position = omega (arith, o.index) in
    let e : rank f (64 * r.index + suc (r.position % 64)) ≡ rank f (suc r.position) = ap (rank f) (omega (arith, o.index)) in
    record {
      low = omega arith;
      here = o.word.bits (r.position % 64) (omega arith) ∙ ap f p ∙ o.here;
      above = omega (
        arith,
        o.remaining,
        e,
        holds_rank 64 f (64 * r.index) r.word (suc (r.position % 64)) o.word (omega arith),
        holds_rank 64 f (64 * r.index) r.word 64 o.word (omega arith),
      );
    }

-- in the record
pub finds_one : (pol : Polarity) (ws : List ℕ) (len from k i w : ℕ) (x : One) → Holds 64 (selected pol ws len) (64 * i) w
    → OneAbove w x.remaining x.position → from ≤ 64 * i + x.position
    → rank (selected pol ws len) (64 * i + x.position) ≡ rank (selected pol ws len) from + k
    → Finds (selected pol ws len) (len - from) from k (Some (found_by i w x))
finds_one pol ws len from k i w x held o l r =
    let s = found_one (selected pol ws len) i w x held o in
    record { position = record_at pol ws len from k (64 * i + x.position) l s.here r; bit = s }

pub finds_none : (pol : Polarity) (ws : List ℕ) (len from k p : ℕ) → len ≤ p
    → rank (selected pol ws len) p ≤ rank (selected pol ws len) from + k → Finds (selected pol ws len) (len - from) from k None
finds_none pol ws len from k p l r = record { position = record_none pol ws len from k p l r; bit = tt }

-- what is found in the record of these
pub finds_of : (ws : List ℕ) (len : ℕ) (pol : Polarity) (rec : Record) → RecordOf ws len pol rec → (from k : ℕ) (r : Option Found)
    → Finds (selects rec) (rec.len - from) from k r → Finds (selected pol ws len) (len - from) from k r
finds_of ws len pol rec e from k r h = rw (← e.words, ← e.len, ← e.polarity) h

-- a seek goes on from another place with what is left to pass
seek_on : (pol : Polarity) (ws : List ℕ) (len from k next left : ℕ) → from < len
    → rank (selected pol ws len) next + left ≡ rank (selected pol ws len) from + k
    → seek (selected pol ws len) (len - next) next left ≡ seek (selected pol ws len) (len - from) from k
seek_on pol ws len from k next left l e =
    ⊎_elim (λ (h : next < len). seek_same (selected pol ws len) (len - next) next left (len - from) from k (omega arith) e)
    (λ (h : len ≤ next).
    sym (record_none pol ws len next left next h (omega arith)) ∙ record_none pol ws len from k next h (omega arith)) (cases_lt next len)

pub finds_on : (pol : Polarity) (ws : List ℕ) (len from k next left : ℕ) (r : Option Found) → from < len
    → rank (selected pol ws len) next + left ≡ rank (selected pol ws len) from + k
    → Finds (selected pol ws len) (len - next) next left r → Finds (selected pol ws len) (len - from) from k r
finds_on pol ws len from k next left r l e s = record { position = s.position ∙ seek_on pol ws len from k next left l e; bit = s.bit }

-- from a later place, which may be past the end as the first one may
pub finds_past : (pol : Polarity) (ws : List ℕ) (len from k next left : ℕ) (r : Option Found) → from ≤ next
    → rank (selected pol ws len) next + left ≡ rank (selected pol ws len) from + k
    → Finds (selected pol ws len) (len - next) next left r → Finds (selected pol ws len) (len - from) from k r
finds_past pol ws len from k next left r l e s =
    ⊎_elim (λ (h : from < len). finds_on pol ws len from k next left r h e s)
    (λ (h : len ≤ from). record {
      position =
          s.position ∙ sym (record_none pol ws len next left next (omega arith) (omega arith)) ∙ record_none pol ws len from k from h (omega arith);
      bit = s.bit;
    }) (cases_lt from len)

-- what is sought in a word of m bits is among them
sought_narrow : (m w k p : ℕ) → w < 2 ^ m → Sought (bit w) 64 0 k p → Sought (bit w) m 0 k p
sought_narrow m w k p h s = record {
  low = s.low;
  high =
      ⊎_elim (λ (g : p < m). omega arith)
      (λ (g : m ≤ p). let b = bit_past w m p h g in let t = s.here in cc) (cases_lt p m);
  here = s.here;
  before = s.before;
}

-- ---- a word of the m positions from p on: what it finds, and what it passes
module _ (m : ℕ) (f : ℕ → Bool) (p w k : ℕ) (le : m ≤ 64) (held : Holds m f p w) where
  pub word_sought : (x : ℕ) → Sought (bit w) 64 0 k x → Sought f m p k (p + x)
  word_sought x s = holds_sought m f p w k x held (sought_narrow m w k x held.small s)

  pub word_found : (x : One) → inl x ≡ seek_in_word w k → Sought f m p k (p + x.position) × OneAbove w x.remaining x.position
  word_found x e =
      let s = word_seek_found w k x e in
      (word_sought x.position s.0, s.1)

  pub word_passed : (n : ℕ) → inr n ≡ seek_in_word w k → (n ≤ k) × (rank f (p + m) ≡ rank f p + n)
  word_passed n e =
      let s = word_seek_missing w k n (lt_of_lt_of_le held.small (pow_mono {i = m} {j = 64} le)) e in
      (omega arith, holds_ones m f p w held ∙ ap (λ (x : ℕ). rank f p + x) (sym s.0))

-- ---- what lies before p in its word
pub ones_before : (f : ℕ → Bool) (p w : ℕ) → Holds (p % 64) f (64 * (p / 64)) w → rank f p ≡ rank f (64 * (p / 64)) + ones w
ones_before f p w h =
    let b : p ≡ 64 * (p / 64) + p % 64 = omega arith in
    ap (rank f) b ∙ holds_ones (p % 64) f (64 * (p / 64)) w h

pub before_from : (f : ℕ → Bool) (p w : ℕ) → Holds 64 f (64 * (p / 64)) w → Holds (p % 64) f (64 * (p / 64)) (w % 2 ^ (p % 64))
before_from f p w h = holds_less 64 f (64 * (p / 64)) w (p % 64) h (omega arith)
