-- Laws of select: the position of each rank.
use mathlib.Core.Bool.{Bool}
use mathlib.Core.Logic.{⊎_elim}
use mathlib.Core.Option.{none, some}
use mathlib.Core.Path.{◌≡◌, ap, ◌∙◌}
use Prim.Native.Nat.{ℕ, zero, suc, ◌+◌, ◌-◌, ◌≤◌, ◌<◌}
use native.Mathlib.Nat.{sub-zero}
use native.Mathlib.Omega.{arith}
use Rattle.rank_sel.specs.Rank.{rank}
use Rattle.rank_sel.specs.Seek.{seek, select, Sought}
use Rattle.std.proofs.lemmas.Bool.{cases_lt}
use Rattle.rank_sel.proofs.Rank.{rank-zero, rank_mono}
use Rattle.rank_sel.proofs.Seek.{seek_some, seek_at, seek_empty}

module _ (f : ℕ → Bool) (n : ℕ) where
  -- below the count, select is the position that its facts describe
  pub select_sought : (r : ℕ) → r < rank f n → Sought f n 0 r (select f n r)
  unfolding select
  select_sought r h =
      let z : rank f (0 + n) ≡ rank f n = ap (rank f) (omega arith) in
      let s = seek_some f n 0 r (omega (arith, rank-zero f)) in
      rw s.1 s.2

  pub select-rank : (r : ℕ) → r < rank f n → rank f (select f n r) ≡ r
  select-rank r h = (select_sought r h).before ∙ omega (arith, rank-zero f)

  pub select_below : (r : ℕ) → r < rank f n → select f n r < n
  select_below r h = omega (arith, (select_sought r h).high)

  pub select_lt : (r s : ℕ) → r < s → s < rank f n → select f n r < select f n s
  select_lt r s h l = ⊎_elim
      (λ (g : select f n r < select f n s). g)
      (λ (g : select f n s ≤ select f n r).
      absurd (omega (arith, rank_mono f (select f n s) (select f n r) g, select-rank r (omega arith), select-rank s l)))
      (cases_lt (select f n r) (select f n s))

  pub select_le : (r k : ℕ) → r + k < rank f n → select f n r ≤ select f n (r + k)
  select_le r zero h = let e : r + 0 ≡ r = omega arith in rw e (omega arith)
  select_le r (suc k) h = let l = select_lt r (r + suc k) (omega arith) h in omega arith

  -- a seek from the position of rank r on
  pub select-seek : (r k : ℕ) → r + k < rank f n → seek f (n - select f n r) (select f n r) k ≡ some (select f n (r + k))
  select-seek r k h =
      let a = select f n r in
      let b = select f n (r + k) in
      seek_at f (n - a) a k b (record {
        low = select_le r k h;
        high = omega (arith, select_le r k h, select_below (r + k) h);
        here = (select_sought (r + k) h).here;
        before = omega (arith, select-rank (r + k) h, select-rank r (omega arith));
      })

  pub select_none : (r k : ℕ) → r < rank f n → rank f n ≤ r + k → seek f (n - select f n r) (select f n r) k ≡ none
  select_none r k h l =
      let a = select f n r in
      let e : rank f (a + (n - a)) ≡ rank f n = ap (rank f) (omega (arith, select_below r h)) in
      seek_empty f (n - a) a k (omega (arith, select-rank r h))

  -- and from 0 on
  pub select_first : 0 < rank f n → seek f (n - 0) 0 0 ≡ some (select f n 0)
  select_first h = rw (sub-zero n) (seek_at f n 0 0 (select f n 0) (select_sought 0 h))

  pub select_no_first : rank f n ≤ 0 → seek f (n - 0) 0 0 ≡ none
  select_no_first h =
      let e : rank f (0 + n) ≡ rank f n = ap (rank f) (omega arith) in
      rw (sub-zero n) (seek_empty f n 0 0 (omega arith))
