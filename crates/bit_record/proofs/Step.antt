-- Steps by words: a word's highest one is the last selected position before what follows it, and a word of none is passed.
use mathlib.Core.Bool.{Bool}
use mathlib.Core.Logic.{⊎_elim}
use mathlib.Core.Option.{some}
use mathlib.Core.Path.{◌≡◌, sym, ◌∙◌}
use Prim.Native.Nat.{ℕ, suc, ◌+◌, ◌-◌, ◌*◌, ◌/◌, ◌%◌, ◌≤◌, ◌<◌}
use native.Mathlib.Omega.{arith}
use lib.Count.{ones, ones-le}
use Rattle.rank_sel.specs.Rank.{rank, rank_between}
use Rattle.rank_sel.specs.Step.{last_before}
use Rattle.std.proofs.lemmas.Bool.{cases_lt}
use Rattle.rank_sel.proofs.Rank.{rank_one, rank_mono}
use Rattle.rank_sel.proofs.Step.{last_at}
use Rattle.select_in_word.specs.Bit.{bit}
use Rattle.select_in_word.specs.Holds.{Holds}
use Rattle.select_in_word.specs.Select.{OneAbove}
use Rattle.select_in_word.proofs.Bit.{bit_past}
use Rattle.select_in_word.proofs.Holds.{holds_ones, holds_rank}
use Rattle.bit_record.proofs.Seek.{ones_before}

-- v and w have what lies before each place in its word, and n is the count of the words from the one's to the other's
pub between : (f : ℕ → Bool) (a b v w n : ℕ) → a ≤ b → Holds (a % 64) f (64 * (a / 64)) v → Holds (b % 64) f (64 * (b / 64)) w
    → rank f (64 * (a / 64)) + n ≡ rank f (64 * (b / 64)) → (ones v ≤ n + ones w) × (n + ones w - ones v ≡ rank_between f a b)
between f a b v w n l hv hw e =
    let p = ones_before f a v hv in
    let q = ones_before f b w hw in
    let m = rank_mono f a b l in
    (omega arith, omega arith)

-- ---- a word of the m positions from p on
module _ (m : ℕ) (f : ℕ → Bool) (p w : ℕ) (held : Holds m f p w) where
  pub word_empty : w ≡ 0 → rank f p ≡ rank f (p + m)
  word_empty e = let o : ones w ≤ 0 = ones-le 0 w (omega arith) in omega (arith, holds_ones m f p w held)

  -- before every place that has the rank of its end
  pub word_last : (x to : ℕ) → m ≤ 64 → OneAbove w 0 x → p + m ≤ to → rank f (p + m) ≡ rank f to → some (p + x) ≡ last_before f to
  word_last x to l o h e =
      let low : x < m =
      ⊎_elim (λ (g : x < m). g) (λ (g : m ≤ x). let b = bit_past w m x held.small g in let t = o.here in cc) (cases_lt x m) in
      sym (last_at f to (p + x) (record {
        low = omega arith;
        here = sym (held.bits x low) ∙ o.here;
        one = omega (
          arith,
          o.above,
          rank_one (bit w) x o.here,
          rank_mono (bit w) (suc x) m low,
          rank_mono (bit w) m 64 l,
          holds_rank m f p w x held (omega arith),
          holds_rank m f p w m held (omega arith),
        );
      }))
