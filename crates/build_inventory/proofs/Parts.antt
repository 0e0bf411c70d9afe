-- A part of a list of cells, lent from some place on: how long it is, and what stands where once it comes back.
use mathlib.Core.Path.{◌≡◌, refl, ap, ◌∙◌}
use mathlib.Core.List.{List, [], ◌∷◌, ◌++◌, append_assoc, append-nil}
use Prim.Native.Nat.{ℕ, zero, suc, ◌+◌, ◌-◌, ◌≤◌}
use native.Mathlib.Omega.{arith}
use lib.ListN.{length, take, drop, set, length-append, length-take, length-drop, drop_of_length-le}
use lib.Seq.{drop_at, take_at, take_all, take-take, drop-drop, length-take-le}

-- n cells of it
pub part_long : (l : List ℕ) (k n : ℕ) → n + k ≤ length l → length (take n (drop k l)) ≡ n
part_long l k n h = length-take-le n (drop k l) (simp length-drop (omega arith))

-- it has room for n cells
pub part_fits : (l : List ℕ) (k n : ℕ) → n + k ≤ length l → n ≤ length (take (length l - k) (drop k l))
part_fits l k n h = simp (length-take, length-drop) (omega arith)

-- its first n cells
pub part_take : (l : List ℕ) (k n : ℕ) → n + k ≤ length l → take n (take (length l - k) (drop k l)) ≡ take n (drop k l)
part_take l k n h = take-take n (length l - k) (drop k l) (omega arith)

-- it comes back with e in front of what it had: e is joined to what stood before k
pub part_back : (p l l₀ ys e : List ℕ) (k m : ℕ) → l ≡ p ++ drop k l₀ → length p ≡ k → k ≤ length l₀
    → ys ≡ e ++ drop m (take (length l - k) (drop k l))
    → take k l ++ (ys ++ drop (length l - k) (drop k l)) ≡ (p ++ e) ++ drop (k + m) l₀
part_back p l l₀ ys e k m el ep hk ey =
    let d : drop k l ≡ drop k l₀ = ap (drop k) el ∙ drop_at p (drop k l₀) k ep in
    let t : take k l ≡ p = ap (take k) el ∙ take_at p (drop k l₀) k ep in
    let n : length l ≡ length l₀ = ap length el ∙ simp (length-append, length-drop) (omega arith) in
    let h : length (drop k l₀) ≤ length l - k = simp length-drop (omega arith) in
    rw (ey, t, d, take_all (length l - k) (drop k l₀) h, drop_of_length-le (drop k l₀) h, append-nil, drop-drop, append_assoc)

-- as long as it was, it leaves the whole as long as it was
pub back_long : (l₀ l ys : List ℕ) (k n : ℕ) → length l ≡ length l₀ → n + k ≤ length l₀ → length ys ≡ length (take n (drop k l))
    → length (take k l ++ (ys ++ drop n (drop k l))) ≡ length l₀
back_long l₀ l ys k n e h ey =
    let f : length ys ≡ n = ey ∙ part_long l k n (omega arith) in
    simp (length-append, length-take, length-drop) (omega arith)

-- the two heads at the front
pub heads_front : (l : List ℕ) (h a b : ℕ) → h ≤ 1 → 2 ≤ length l → take (1 + h) (set (set l 0 a) 1 b) ≡ take (1 + h) (a ∷ b ∷ [])
heads_front [] h a b hh hl = absurd (omega arith)
heads_front (y ∷ []) h a b hh hl = absurd (omega arith)
heads_front (y ∷ z ∷ l) zero a b hh hl = refl
heads_front (y ∷ z ∷ l) (suc zero) a b hh hl = refl
heads_front (y ∷ z ∷ l) (suc (suc h)) a b hh hl = absurd (omega arith)
