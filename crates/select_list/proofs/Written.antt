-- Positions written one after another over what was there: as far as there is room, they stand in front.
use mathlib.Core.List.{List, [], ◌∷◌, ◌++◌}
use mathlib.Core.Path.{◌≡◌, refl, sym, ap, ◌∙◌}
use Prim.Native.Nat.{ℕ, ◌+◌, ◌≤◌, ◌<◌}
use native.Mathlib.Numerals.{add-one}
use native.Mathlib.Omega.{arith}
use lib.ListN.{length, get_or, take, drop, set}
use lib.Seq.{take-suc, length-take-le}
use Rattle.select_list.specs.Hand.{written}

pub written_none : (l : List ℕ) → l ≡ written [] l
unfolding written
written_none [] = refl
written_none (y ∷ l) = refl

pub written_more : (ps l : List ℕ) (v : ℕ) → set (written ps l) (length ps) v ≡ written (ps ++ (v ∷ [])) l
unfolding written
written_more [] [] v = refl
written_more [] (y ∷ l) v = ap (λ (x : List ℕ). v ∷ x) (written_none l)
written_more (p ∷ ps) [] v = refl
written_more (p ∷ ps) (y ∷ l) v = ap (λ (x : List ℕ). p ∷ x) (written_more ps l v)

pub written_front : (ps l : List ℕ) → length ps ≤ length l → written ps l ≡ ps ++ drop (length ps) l
unfolding written
written_front [] [] h = refl
written_front [] (y ∷ l) h = refl
written_front (p ∷ ps) [] h = absurd (omega arith)
written_front (p ∷ ps) (y ∷ l) h = ap (λ (x : List ℕ). p ∷ x) (written_front ps l (omega arith))

pub written_back : (ps l : List ℕ) → length ps ≤ length l → take (length ps) (written ps l) ≡ ps
unfolding written
written_back [] [] h = refl
written_back [] (y ∷ l) h = refl
written_back (p ∷ ps) [] h = absurd (omega arith)
written_back (p ∷ ps) (y ∷ l) h = ap (λ (x : List ℕ). p ∷ x) (written_back ps l (omega arith))

-- one more of those that are held aside
pub written_next : (held l₀ l l' : List ℕ) (i : ℕ) → i < length held → l ≡ written (take i held) l₀ → l' ≡ set l i (get_or held i 0)
    → l' ≡ written (take (i + 1) held) l₀
written_next held l₀ l l' i h e d =
    d
    ∙ ap (λ (x : List ℕ). set x i (get_or held i 0)) e
    ∙ ap (λ (j : ℕ). set (written (take i held) l₀) j (get_or held i 0)) (sym (length-take-le i held (omega arith)))
    ∙ written_more (take i held) l₀ (get_or held i 0)
    ∙ ap (λ (x : List ℕ). written x l₀) (sym (rw (add-one i) (take-suc held i 0 h)))
