-- The stream of an entry's cells, as a loop writes it, and the bound of its cursor.
use mathlib.Core.Path.{◌≡◌, refl, sym, ap, ◌∙◌}
use mathlib.Core.List.{List, [], ◌∷◌, ◌++◌, append_assoc}
use Prim.Native.Nat.{ℕ, ◌+◌, ◌-◌, ◌*◌, ◌^◌, ◌≤◌, ◌<◌}
use native.Mathlib.Nat.{mul-le-mul_left}
use native.Mathlib.Omega.{arith}
use lib.Pow.{pow_mono}
use lib.ListN.{length, take, drop, set, length-set}
use lib.Seq.{drop-drop, drop-set-lt, length-take-le}
use Rattle.spacing.specs.Spacing.{max_log2_words}
use Rattle.inventory.specs.Index.{packed, stream, own_cells}
use Rattle.inventory.specs.Lanes.{tabulate}
use Rattle.inventory.specs.Shape.{near_by, Shaped}
use Rattle.inventory.specs.declared.entry.Entry.{Entry}
use Rattle.inventory.specs.declared.shape.Shape.{Shape}
use Rattle.inventory.proofs.Lanes.{tab_more}
use Rattle.build_inventory.proofs.Parts.{heads_front}

-- n cells have at most 4n lanes
pub few_all : (n w : ℕ) → w ≤ 4 → n * w ≤ 4 * n
few_all n w h = omega (arith, mul-le-mul_left {m = w} {n = 4} n h)

-- a cursor that is not past the lanes of an entry's own cells: n cells on, its number is still small
pub cursor_small : {s : Shape} → Shaped s → (m k n : ℕ) → m ≤ max_log2_words → k ≤ near_by s m → n ≤ 2 ^ 60 → k + 4 * n + 4 < 2 ^ 63
cursor_small {s} h m k n hm hk hn = omega (arith, pow_mono hm, h.from, few_all (2 ^ m - s.heads) s.lanes h.few)

module _ (pos : ℕ → ℕ) (x : Entry) (i : ℕ) where
  pub stream_none : (l : List ℕ) → l ≡ stream pos x i 0 ++ drop 0 l
  unfolding stream tabulate
  stream_none l = refl

  pub stream_more : (l₀ l : List ℕ) (n k v : ℕ) → l ≡ stream pos x i n ++ drop n l₀ → n < length l₀
      → k ≡ i + n * x.shape.lanes → v ≡ packed pos x k
      → set l n v ≡ stream pos x i (n + 1) ++ drop (n + 1) l₀
  unfolding stream
  stream_more l₀ l n k v el h ek ev = rw el (tab_more (λ j. packed pos x (i + j * x.shape.lanes)) l₀ n v h (ev ∙ ap (packed pos x) ek))

-- the first two cells are stored, and the part behind the heads comes back with the stream
pub own_made : (pos : ℕ → ℕ) (x : Entry) (own before : ℕ) → x.shape.heads ≤ 1 → 0 < own
    → (l₀ l ys : List ℕ) (at n k : ℕ) → l ≡ set (set l₀ 0 (x.start + x.shape.tag)) 1 before → own + 1 ≤ length l₀
    → at ≡ 1 + x.shape.heads → n ≡ own - x.shape.heads → k ≡ x.shape.from → ys ≡ stream pos x k n
    → take at l ++ (ys ++ drop n (drop at l)) ≡ own_cells pos x before own ++ drop (own + 1) l₀
unfolding own_cells
own_made pos x own before hh ho l₀ l ys at n k el hl ea en ek ey =
    let first = x.start + x.shape.tag in
    let z : length l ≡ length l₀ = ap length el ∙ simp length-set in
    let t : length (take at l) ≡ at = length-take-le at l (omega arith) in
    let f : take at l ≡ take (1 + x.shape.heads) (first ∷ before ∷ []) =
    rw (el, ea) (heads_front l₀ x.shape.heads first before hh (omega arith)) in
    let q : at + n ≡ own + 1 = omega arith in
    let d : drop (at + n) l ≡ drop (own + 1) l₀ =
    rw (q, el) (drop-set-lt (own + 1) (set l₀ 0 first) 1 before (omega arith) ∙ drop-set-lt (own + 1) l₀ 0 first (omega arith)) in
    rw (drop-drop n at l, d, f, ey, ek, en)
    (sym (append_assoc (take (1 + x.shape.heads) (first ∷ before ∷ [])) (stream pos x x.shape.from (own - x.shape.heads)) (drop (own + 1) l₀)))
