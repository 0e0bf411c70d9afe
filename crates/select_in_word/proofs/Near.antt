-- The lowest one of a word: below it stand the trailing zeros. The next one above a place is the lowest of what lies above it. The
-- highest one is the power of two that the word reaches.
use mathlib.Core.Bool.{true, false}
use mathlib.Core.Logic.{⊎_elim}
use mathlib.Core.Path.{◌≡◌, sym, ap, ◌∙◌}
use Prim.Native.Nat.{ℕ, zero, suc, ◌+◌, ◌-◌, ◌/◌, ◌%◌, ◌^◌, ◌≤◌, ◌<◌}
use native.Mathlib.Nat.{pow-suc, div-eq_of_lt-le}
use native.Mathlib.Omega.{arith}
use lib.Count.{count_trailing_zeros}
use Rattle.rank_sel.specs.Rank.{rank}
use Rattle.rank_sel.specs.Seek.{Sought}
use Rattle.std.proofs.lemmas.Bool.{cases_lt}
use Rattle.rank_sel.proofs.Rank.{rank-zero, rank_one, rank_same, rank_add, rank_ext, rank_still}
use Rattle.select_in_word.specs.Bit.{bit}
use Rattle.select_in_word.specs.Select.{OneAbove, ones_above}
use Rattle.select_in_word.proofs.Bit.{two_cases, bit-zero, bit-suc, bit_past}
use Rattle.select_in_word.proofs.Select.{rest, rest_bit, rest_rank}

pub first_sought : (k w : ℕ) → w < 2 ^ k → 0 < w → Sought (bit w) k 0 0 (count_trailing_zeros k w)
unfolding count_trailing_zeros
first_sought zero w h l = absurd (omega arith)
first_sought (suc k) w h l =
    ⊎_elim (λ (e : w % 2 ≡ 0). rw e (even e (first_sought k (w / 2) (omega (arith, pow-suc 2 k)) (omega arith))))
    (λ (e : w % 2 ≡ 1). rw e (record {
      low = omega arith;
      high = omega arith;
      here = bit-zero w ∙ rw e;
      before = omega arith;
    })) (two_cases w)
  where
    even : w % 2 ≡ 0 → Sought (bit (w / 2)) k 0 0 (count_trailing_zeros k (w / 2)) → Sought (bit w) (suc k) 0 0 (suc (count_trailing_zeros k (w / 2)))
    even e s =
        let t = count_trailing_zeros k (w / 2) in
        let z : bit w 0 ≡ false = bit-zero w ∙ rw e in
        let a = rank_add (bit w) 1 t in
        let b = rank_ext (λ j. bit w (1 + j)) (bit (w / 2)) t (λ q g. ap (bit w) (omega arith) ∙ bit-suc w q) in
        record {
          low = omega arith;
          high = omega (arith, s.high);
          here = bit-suc w t ∙ s.here;
          before =
              let n : suc t ≡ 1 + t = omega arith in
              ap (rank (bit w)) n
              ∙ omega (arith, a, b, rank_same (bit w) 0 z, rank-zero (bit w), rank-zero (bit (w / 2)), s.before);
        }

-- the next one above a place is the lowest of what lies above it
pub next_above : (w p t : ℕ) → w < 2 ^ 64 → p < 64 → Sought (bit (rest w p)) 64 0 0 t → OneAbove w (ones_above w p - 1) (p + 1 + t)
next_above w p t h l s =
    let e : p + 1 + t ≡ suc p + t = omega arith in
    let here : bit w (p + 1 + t) ≡ true = ap (bit w) e ∙ sym (rest_bit w p t) ∙ s.here in
    let r : rank (bit w) (p + 1 + t) ≡ rank (bit w) (suc p) = ap (rank (bit w)) e ∙ omega (arith, rest_rank w p t, s.before, rank-zero (bit (rest w p))) in
    record {
      low =
          ⊎_elim (λ (g : p + 1 + t < 64). g)
          (λ (g : 64 ≤ p + 1 + t). let n = bit_past w 64 (p + 1 + t) h g in cc)
          (cases_lt (p + 1 + t) 64);
      here = here;
      above = omega (arith, r, rank_one (bit w) (p + 1 + t) here);
    }

-- above the highest one stands none
pub top_above : (w k : ℕ) → k < 64 → 2 ^ k ≤ w → w < 2 ^ suc k → OneAbove w 0 k
unfolding bit
top_above w k l a b =
    let one : w / 2 ^ k ≡ 1 = div-eq_of_lt-le {k = 1} (2 ^ k) {m = w} (omega arith) (omega (arith, pow-suc 2 k)) in
    record {
      low = l;
      here = simp one;
      above = omega (arith, rank_still (bit w) (suc k) 64 l (λ q g h. bit_past w (suc k) q b g));
    }
