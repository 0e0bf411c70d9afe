-- Lists of ranks: one that falls nowhere has its largest rank last, and each rank below N where that one is.
use mathlib.Core.Bool.{Bool, true, false, not, ◌||◌, or-false}
use mathlib.Core.List.{List, [], ◌∷◌}
use mathlib.Core.Path.{◌≡◌, refl, sym, ap, ◌∙◌}
use Prim.Native.Nat.{ℕ, zero, suc, ◌+◌, ◌-◌, ◌≤◌, ◌<◌}
use native.Mathlib.Nat.{suc-add}
use native.Mathlib.Numerals.{add-one}
use native.Mathlib.Omega.{arith}
use lib.Dec.{leb, ltb}
use lib.ListN.{length, get_or}
use borrow.Author.Tests.{le-ltb, lt-leb, le-leb, leb-true, ltb-false, leb-false}
use Rattle.std.proofs.lemmas.Bool.{or_parts}
use Rattle.std.specs.Bool.{MatchBool}
use Rattle.std.specs.List.Sorted.{IsNonDecreasing}
use Rattle.select_list.specs.List.{falls_from, NeverFalls, any_too_large}

-- ---- ranks that fall nowhere
pub falls-cons : (q r : ℕ) (rs : List ℕ) → falls_from q (r ∷ rs) ≡ false → (q ≤ r) × (falls_from r rs ≡ false)
unfolding falls_from
falls-cons q r rs e =
    let f = or_parts (ltb r q) (falls_from r rs) e in
    (ltb-false r q f.0, f.1)

pub rise_next : (rs : List ℕ) (q i : ℕ) → falls_from q rs ≡ false → suc i < length rs → get_or rs i 0 ≤ get_or rs (suc i) 0
rise_next [] q i e h = absurd (omega arith)
rise_next (r ∷ []) q i e h = absurd (omega arith)
rise_next (r ∷ s ∷ rs) q zero e h = (falls-cons r s rs (falls-cons q r (s ∷ rs) e).1).0
rise_next (r ∷ s ∷ rs) q (suc i) e h = rise_next (s ∷ rs) r i (falls-cons q r (s ∷ rs) e).1 (omega arith)

-- ---- 8
pub large_cons : (num r : ℕ) (rs : List ℕ) → any_too_large num (r ∷ rs) ≡ false → (r < num) × (any_too_large num rs ≡ false)
unfolding any_too_large
large_cons num r rs e =
    let f = or_parts (leb num r) (any_too_large num rs) e in
    (leb-false num r f.0, f.1)

pub below_all : (num : ℕ) (rs : List ℕ) (i : ℕ) → any_too_large num rs ≡ false → i < length rs → get_or rs i 0 < num
below_all num [] i e h = absurd (omega arith)
below_all num (r ∷ rs) zero e h = (large_cons num r rs e).0
below_all num (r ∷ rs) (suc i) e h = below_all num rs i (large_cons num r rs e).1 (omega arith)

-- the last is the largest
large_last : (num r : ℕ) (rs : List ℕ) → falls_from r rs ≡ false
    → (leb num (get_or (r ∷ rs) (length rs) 0) ≡ any_too_large num (r ∷ rs)) × (r ≤ get_or (r ∷ rs) (length rs) 0)
unfolding any_too_large
large_last num r [] e = (sym (or-false (leb num r)), omega arith)
large_last num r (s ∷ rs) e =
    let f = falls-cons r s rs e in
    let i = large_last num s rs f.1 in
    let l : r ≤ get_or (s ∷ rs) (length rs) 0 = omega (arith, f.0, i.1) in
    (go (leb num r) refl l i.0, l)
  where
    go : (b : Bool) → leb num r ≡ b → r ≤ get_or (s ∷ rs) (length rs) 0
        → leb num (get_or (s ∷ rs) (length rs) 0) ≡ any_too_large num (s ∷ rs)
        → leb num (get_or (s ∷ rs) (length rs) 0) ≡ (b || any_too_large num (s ∷ rs))
    go true q l i = le-leb num (get_or (s ∷ rs) (length rs) 0) (omega (arith, leb-true num r q))
    go false q l i = i

pub large_none : (num : ℕ) (rs : List ℕ) → length rs ≡ 0 → false ≡ any_too_large num rs
unfolding any_too_large
large_none num [] e = refl
large_none num (r ∷ rs) e = absurd (omega arith)

pub large_some : (num q : ℕ) (rs : List ℕ) → falls_from q rs ≡ false → 0 < length rs
    → leb num (get_or rs (length rs - 1) 0) ≡ any_too_large num rs
large_some num q [] e h = absurd (omega arith)
large_some num q (r ∷ rs) e h =
    let n : length (r ∷ rs) - 1 ≡ length rs = omega arith in
    ap (λ (j : ℕ). leb num (get_or (r ∷ rs) j 0)) n ∙ (large_last num r rs (falls-cons q r rs e).1).0

-- ---- rank by rank
-- ranks that rise from each to the next fall nowhere
pub rising_none : (rs : List ℕ) (q : ℕ) → (0 < length rs → q ≤ get_or rs 0 0) → NeverFalls rs → falls_from q rs ≡ false
unfolding falls_from
rising_none [] q a h = refl
rising_none (r ∷ rs) q a h =
    rw (le-ltb r q (a (omega arith))) (rising_none rs r (λ l. h 0 (omega arith)) (λ i l. rw (suc-add i 1) at (h (suc i) (omega arith))))

-- so what sorts a list tells whether it falls
pub sorted_rises : (rs : List ℕ) (r : Bool)
    → MatchBool r (IsNonDecreasing rs) ((k : ℕ) × (k + 1 < length rs) × ((d : ℕ) → get_or rs (k + 1) d < get_or rs k d))
    → not r ≡ falls_from 0 rs
sorted_rises rs true h = sym (rising_none rs 0 (λ l. omega arith) (λ i l. h i (i + 1) 0 (omega arith) l))
sorted_rises rs false h = sym (go (falls_from 0 rs) refl)
  where
    go : (b : Bool) → falls_from 0 rs ≡ b → falls_from 0 rs ≡ true
    go true e = e
    go false e =
        let l = h.1 in
        let d = rise_next rs 0 h.0 e (omega arith) in
        absurd (omega (arith, rw add-one at (h.2 0), d))

-- and where each is below N, none is too large
pub below_none : (num : ℕ) (rs : List ℕ) → ((i : ℕ) → i < length rs → get_or rs i 0 < num) → any_too_large num rs ≡ false
unfolding any_too_large
below_none num [] h = refl
below_none num (r ∷ rs) h = rw (lt-leb num r (h 0 (omega arith))) (below_none num rs (λ i l. h (suc i) (omega arith)))
