-- Whether two lists are one, or one begins with the other, is told element by element; a bound on a list's numbers holds for its parts and for what they make.
use mathlib.Core.Path.{◌≡◌, refl, sym, ap, ◌∙◌}
use mathlib.Core.Bool.{Bool, true, false, ◌&&◌, and_assoc, and-eq-true_iff}
use mathlib.Core.List.{List, [], ◌∷◌, ◌++◌}
use Prim.Native.Nat.{ℕ, zero, suc, ◌+◌, ◌*◌, ◌≤◌, ◌<◌}
use native.Mathlib.Nat.{mul-zero, mul-suc, add_comm}
use native.Mathlib.Omega.{arith}
use lib.Dec.{eqb}
use lib.ListN.{length, take, drop, get_or}
use lib.Seq.{ext_get_or, drop-drop, get_or-take, get_or-drop, length-take-le}
use borrow.Author.Tests.{eq-eqb, eqb-true}
use Rattle.std.proofs.lemmas.Bool.{false_from_ne_true}
use Rattle.std.specs.Simd.{first_chunks}
use Rattle.rank_sel.specs.Lists.{same_list, Below}

-- ---- two lists
same_refl : (s : List ℕ) → same_list s s ≡ true
unfolding same_list
same_refl [] = refl
same_refl (a ∷ s) = rw (eq-eqb a a refl) (same_refl s)

pub same_yes : (s t : List ℕ) → s ≡ t → same_list s t ≡ true
same_yes s t e = rw e (same_refl t)

pub same_is : (s t : List ℕ) → same_list s t ≡ true → s ≡ t
unfolding same_list
same_is [] [] e = refl
same_is [] (b ∷ t) e = cc
same_is (a ∷ s) [] e = cc
same_is (a ∷ s) (b ∷ t) e =
    let y = (and-eq-true_iff (eqb a b) (same_list s t)).0 e in
    let h = eqb-true a b y.0 in
    let i = same_is s t y.1 in
    cc

pub same_no : (s t : List ℕ) → (s ≡ t → ⊥) → same_list s t ≡ false
same_no s t n = false_from_ne_true (same_list s t) (λ e. n (same_is s t e))

-- of two parts each
pub same_append : (s t s' t' : List ℕ) → length s ≡ length t → same_list (s ++ s') (t ++ t') ≡ same_list s t && same_list s' t'
unfolding same_list
same_append [] [] s' t' h = refl
same_append [] (b ∷ t) s' t' h = absurd (omega arith)
same_append (a ∷ s) [] s' t' h = absurd (omega arith)
same_append (a ∷ s) (b ∷ t) s' t' h =
    ap (λ (z : Bool). eqb a b && z) (same_append s t s' t' (omega arith)) ∙ sym (and_assoc (eqb a b) (same_list s t) (same_list s' t'))

-- a list begins with another
pub front_is : (n : ℕ) (l front : List ℕ) → n ≤ length l → length front ≡ n → ((i : ℕ) → i < n → get_or l i 0 ≡ get_or front i 0)
    → take n l ≡ front
front_is n l front a b h =
    let c = length-take-le n l a in
    ext_get_or 0 (take n l) front (c ∙ sym b) (λ i k. let m : i < n = omega arith in get_or-take n l i 0 m ∙ h i m)

-- the chunk of number i
pub chunk : (m n : ℕ) (xs : List ℕ) (i : ℕ) → i < n → get_or (first_chunks m n xs) i [] ≡ take m (drop (m * i) xs)
chunk m zero xs i h = absurd (omega arith)
chunk m (suc n) xs zero h = rw mul-zero
chunk m (suc n) xs (suc i) h = chunk m n (drop m xs) i (omega arith) ∙ rw (drop-drop, mul-suc, add_comm m (m * i))

-- ---- bounds
pub below_take : (m n : ℕ) (l : List ℕ) → Below m l → Below m (take n l)
below_take m zero l h i = omega (arith, h 0)
below_take m (suc n) [] h i = h i
below_take m (suc n) (x ∷ l) h zero = h 0
below_take m (suc n) (x ∷ l) h (suc i) = below_take m n l (λ j. h (suc j)) i

pub below_drop : (m n : ℕ) (l : List ℕ) → Below m l → Below m (drop n l)
below_drop m n l h i = rw (get_or-drop n l i 0) (h (n + i))

pub below_append : (m : ℕ) (xs ys : List ℕ) → Below m xs → Below m ys → Below m (xs ++ ys)
below_append m [] ys hx hy i = hy i
below_append m (x ∷ xs) ys hx hy zero = hx 0
below_append m (x ∷ xs) ys hx hy (suc i) = below_append m xs ys (λ j. hx (suc j)) hy i

pub below_none : (m : ℕ) → 0 < m → Below m []
below_none m h i = h

-- of a list written out, number by number
abbrev pub EachBelow : ℕ → List ℕ → Type 0
EachBelow m [] = Unit {0}
EachBelow m (x ∷ xs) = (x < m) × EachBelow m xs

pub each_below : (m : ℕ) (xs : List ℕ) → 0 < m → EachBelow m xs → Below m xs
each_below m [] z h i = z
each_below m (x ∷ xs) z h zero = h.0
each_below m (x ∷ xs) z h (suc i) = each_below m xs z h.1 i

pub below_cons : (m x : ℕ) (xs : List ℕ) → x < m → Below m xs → Below m (x ∷ xs)
below_cons m x xs h k zero = h
below_cons m x xs h k (suc i) = k i
