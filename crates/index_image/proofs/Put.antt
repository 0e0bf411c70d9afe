-- Others in the place of a list's own: a second put just behind the first is one put of both, and every writer is that.
use mathlib.Core.Path.{◌≡◌, sym, ap, ◌∙◌}
use mathlib.Core.List.{List, [], ◌++◌, append_assoc}
use Prim.Native.Nat.{ℕ, ◌+◌, ◌*◌, ◌≤◌, ◌<◌}
use native.Mathlib.Nat.{add-zero}
use native.Mathlib.Omega.{arith}
use lib.ListN.{length, take, drop, get_or, length-append, take-append-drop}
use lib.Seq.{take_at, drop-drop, length-take-le, drop-append-add}
use borrow.Rule.Slice.PartMut.{put_mid}
use Rattle.std.specs.Int.{w64, to_le_bytes}
use Rattle.index_image.specs.Bytes.{word_bytes, bytes_of, put_at}
use Rattle.index_image.proofs.Bytes.{eight, bytes_le, bytes_length, bytes_more}

pub put_none : (at : ℕ) (l : List ℕ) → put_at at [] l ≡ l
unfolding put_at
put_none at l = rw (add-zero, take-append-drop)

-- behind what was put, more
module _ (at : ℕ) (xs ys l : List ℕ) (h : at + (length xs + length ys) ≤ length l) where
  head_length : length (take at l ++ xs) ≡ at + length xs
  head_length = simp length-append (omega (arith, length-take-le at l (omega arith)))

  pub put_put : put_at (at + length xs) ys (put_at at xs l) ≡ put_at at (xs ++ ys) l
  unfolding put_at
  put_put =
      let p : List ℕ = take at l ++ xs in
      let d : List ℕ = drop (at + length xs) l in
      let g : take at l ++ (xs ++ d) ≡ p ++ d = sym (append_assoc (take at l) xs d) in
      let t : take (at + length xs) (p ++ d) ≡ p = take_at p d (at + length xs) head_length in
      let u : drop (at + length xs + length ys) (p ++ d) ≡ drop (at + length xs + length ys) l =
      ap (λ (z : ℕ). drop (z + length ys) (p ++ d)) (sym head_length) ∙ drop-append-add p d (length ys) ∙ drop-drop (length ys) (at + length xs) l in
      let k : at + length xs + length ys ≡ at + length (xs ++ ys) = omega (arith, length-append xs ys) in
      rw (g, t, u, k) (simp append_assoc)

-- one word more
pub put_more : (at : ℕ) (ws l : List ℕ) (i : ℕ) → i < length ws → at + 8 * (i + 1) ≤ length l
    → put_at (at + 8 * i) (word_bytes (get_or ws i 0)) (put_at at (bytes_of (take i ws)) l) ≡ put_at at (bytes_of (take (i + 1) ws)) l
put_more at ws l i h k =
    let e : length (bytes_of (take i ws)) ≡ 8 * i =
    bytes_length (take i ws) ∙ ap (λ (z : ℕ). 8 * z) (length-take-le i ws (omega arith)) in
    rw (← e, bytes_more ws i h)
    (put_put at (bytes_of (take i ws)) (word_bytes (get_or ws i 0)) l (omega (arith, eight (get_or ws i 0))))

-- at the start, what was put and what stood behind it
pub put_first : (new l : List ℕ) → put_at 0 new l ≡ new ++ drop (length new) l
unfolding put_at
put_first new l = let z : 0 + length new ≡ length new = omega arith in rw z

-- a word's bytes, copied over eight
pub put_eight : (l new : List ℕ) (at k w : ℕ) → k ≡ 8 → new ≡ to_le_bytes w64 w → put_mid at k l new ≡ put_at at (word_bytes w) l
unfolding put_at
put_eight l new at k w e h =
    let g : new ≡ word_bytes w = h ∙ bytes_le w in
    let d : drop k (drop at l) ≡ drop (at + length (word_bytes w)) l =
    drop-drop k at l ∙ ap (λ (z : ℕ). drop (at + z) l) (e ∙ sym (eight w)) in
    rw (g, d)
