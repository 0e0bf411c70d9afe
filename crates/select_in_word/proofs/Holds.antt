-- Laws of runs of positions.
use mathlib.Core.Path.{◌≡◌, sym, ap, ◌∙◌, subst, subst⁻¹}
use mathlib.Core.Bool.{Bool}
use Prim.Native.Nat.{ℕ, ◌+◌, ◌-◌, ◌*◌, ◌/◌, ◌%◌, ◌^◌, ◌≤◌}
use native.Mathlib.Nat.{mod-lt}
use native.Mathlib.Omega.{arith}
use lib.Count.{ones}
use lib.Pow.{pow_pos, shr_lt}
use Rattle.rank_sel.specs.Rank.{rank}
use Rattle.rank_sel.specs.Seek.{Sought}
use Rattle.rank_sel.proofs.Rank.{rank-zero, rank_add, rank_ext}
use Rattle.select_in_word.specs.Bit.{bit}
use Rattle.select_in_word.specs.Holds.{Holds}
use Rattle.select_in_word.proofs.Bit.{bit_shr, bit_low, ones_rank}

-- the ranks inside
pub holds_rank : (m : ℕ) (f : ℕ → Bool) (base w p : ℕ) → Holds m f base w → p ≤ m → rank f (base + p) ≡ rank f base + rank (bit w) p
holds_rank m f base w p h l =
    rank_add f base p ∙ ap (λ (x : ℕ). rank f base + x) (sym (rank_ext (bit w) (λ j. f (base + j)) p (λ q k. h.bits q (omega arith))))

-- its ones are the selected positions
pub holds_ones : (m : ℕ) (f : ℕ → Bool) (base w : ℕ) → Holds m f base w → rank f (base + m) ≡ rank f base + ones w
holds_ones m f base w h = holds_rank m f base w m h (omega arith) ∙ ap (λ (x : ℕ). rank f base + x) (sym (ones_rank m w h.small))

-- a place that is sought in w is the sought place from base on
pub holds_sought : (m : ℕ) (f : ℕ → Bool) (base w k p : ℕ) → Holds m f base w → Sought (bit w) m 0 k p → Sought f m base k (base + p)
holds_sought m f base w k p h s = record {
  low = omega arith;
  high = omega arith;
  here = sym (h.bits p (omega arith)) ∙ s.here;
  before = omega (arith, holds_rank m f base w p h (omega arith), rank-zero (bit w));
}

-- the bits from s on of a word that holds m positions
pub holds_shr : (m : ℕ) (f : ℕ → Bool) (base w s : ℕ) → Holds (m + s) f base w → Holds m f (base + s) (w / 2 ^ s)
holds_shr m f base w s h = record {
  small = shr_lt m s h.small;
  bits = λ j l. bit_shr w s j ∙ h.bits (s + j) (omega arith) ∙ ap f (omega arith);
}

-- the n low ones of the m positions that a word holds
pub holds_less : (m : ℕ) (f : ℕ → Bool) (base w n : ℕ) → Holds m f base w → n ≤ m → Holds n f base (w % 2 ^ n)
holds_less m f base w n h l = record { small = mod-lt w (pow_pos n); bits = λ j k. bit_low w n j k ∙ h.bits j (omega arith) }

-- the m bits of a number from s on: (w >> s) & (2 ^ m - 1)
pub holds_field : (m w s : ℕ) → Holds m (bit w) s (w / 2 ^ s % 2 ^ m)
holds_field m w s = record { small = mod-lt (w / 2 ^ s) (pow_pos m); bits = λ j l. bit_low (w / 2 ^ s) m j l ∙ bit_shr w s j }

-- the word that has position p, from p on
pub holds_from : (f : ℕ → Bool) (p w : ℕ) → Holds 64 f (64 * (p / 64)) w → Holds (64 - p % 64) f p (w / 2 ^ (p % 64))
holds_from f p w h =
    let m : (64 - p % 64) + p % 64 ≡ 64 = omega arith in
    let b : 64 * (p / 64) + p % 64 ≡ p = omega arith in
    subst (λ (x : ℕ). Holds (64 - p % 64) f x (w / 2 ^ (p % 64))) b
    (holds_shr (64 - p % 64) f (64 * (p / 64)) w (p % 64) (subst⁻¹ (λ (x : ℕ). Holds x f (64 * (p / 64)) w) m h))
