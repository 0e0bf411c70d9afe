-- The two round trips between words and bytes: a word is the pack of its eight lanes, and eight bytes are the lanes of their word.
use mathlib.Core.Path.{◌≡◌, refl, sym, ap, ◌∙◌}
use mathlib.Core.List.{List, [], ◌∷◌, ◌++◌, append_assoc, append-nil}
use Prim.Native.Nat.{ℕ, zero, suc, ◌+◌, ◌*◌, ◌/◌, ◌%◌, ◌^◌, ◌≤◌, ◌<◌}
use native.Mathlib.Nat.{mod-eq_of_lt}
use native.Mathlib.Numerals.{add-one}
use native.Mathlib.Omega.{arith}
use lib.ListN.{length, take, drop, get_or, set, length-append, length-drop}
use lib.Seq.{take-suc, length-take-le, take-add, drop-drop, get_or-take, get_or-drop, drop-append-add}
use Rattle.std.specs.Simd.{first_chunks}
use Rattle.std.specs.Int.{w64, to_le_bytes, from_le_bytes}
use Rattle.std.proofs.lemmas.Nat.{le_bytes_8}
use Rattle.rank_sel.specs.Lists.{Below}
use Rattle.rank_sel.proofs.Lists.{chunk, below_take, below_drop, below_append, below_none}
use Rattle.inventory.specs.Lanes.{lane_of, pack, tabulate}
use Rattle.inventory.proofs.Lanes.{pack_ext, pack_lt, tab_length, tab_at, tab_below, tab_more}
use Rattle.inventory.proofs.Unpack.{lane_lt, lanes_pack}
use Rattle.index_image.specs.Bytes.{word_bytes, bytes_of, word_from, words_from}

-- ---- a word
pub eight : (w : ℕ) → length (word_bytes w) ≡ 8
unfolding word_bytes
eight w = tab_length (lane_of 8 w) 8

eight_below : (w : ℕ) → Below 256 (word_bytes w)
unfolding word_bytes
eight_below w = tab_below 256 (lane_of 8 w) (omega arith) (lane_lt 8 w) 8

-- the word of its eight bytes
word_value : (w : ℕ) → w < 2 ^ 64 → pack 8 (λ j. get_or (word_bytes w) j 0) 8 ≡ w
unfolding word_bytes
word_value w h =
    pack_ext 8 (λ j. get_or (tabulate (lane_of 8 w) 8) j 0) (lane_of 8 w) 8 (λ j l. tab_at (lane_of 8 w) 8 j l)
    ∙ lanes_pack 8 w 8
    ∙ mod-eq_of_lt h

-- the bytes that `to_le_bytes` makes
pub bytes_le : (w : ℕ) → to_le_bytes w64 w ≡ word_bytes w
unfolding word_bytes tabulate lane_of
bytes_le w = let e : w % 256 ≡ w / 1 % 256 = omega arith in rw e

-- the eight bytes from a place on
module _ (bs : List ℕ) (at : ℕ) where
  byte : (j : ℕ) → j < 8 → get_or (take 8 (drop at bs)) j 0 ≡ get_or bs (at + j) 0
  byte j l = get_or-take 8 (drop at bs) j 0 l ∙ get_or-drop at bs j 0

  word_part : word_from bs at ≡ pack 8 (λ j. get_or (take 8 (drop at bs)) j 0) 8
  unfolding word_from
  word_part = pack_ext 8 (λ j. get_or bs (at + j) 0) (λ j. get_or (take 8 (drop at bs)) j 0) 8 (λ j l. sym (byte j l))

  -- the word that `from_le_bytes` makes of them
  word_le : (w : ℕ) → w ≡ from_le_bytes w64 (take 8 (drop at bs)) → w ≡ word_from bs at
  unfolding pack
  word_le w v = rw word_part (v ∙ omega arith)

  module _ (h : Below 256 bs) where
    pub word_lt : word_from bs at < 2 ^ 64
    unfolding word_from
    word_lt = pack_lt 8 (λ j. get_or bs (at + j) 0) (λ j. h (at + j)) 8

    word_bytes_lem : at + 8 ≤ length bs → word_bytes (word_from bs at) ≡ take 8 (drop at bs)
    unfolding pack
    word_bytes_lem k =
        sym (bytes_le (word_from bs at))
        ∙ le_bytes_8 (take 8 (drop at bs)) (word_from bs at) (length-take-le 8 (drop at bs) (omega (arith, length-drop at bs)))
        (below_take 256 8 (drop at bs) (below_drop 256 at bs h)) (rw word_part (omega arith))

-- eights of a list
pub chunk_word : (bs : List ℕ) (at n i w : ℕ) (chunks : List (List ℕ)) → i < n → chunks ≡ first_chunks 8 n (drop at bs)
    → w ≡ from_le_bytes w64 (get_or chunks i []) → w ≡ word_from bs (at + 8 * i)
chunk_word bs at n i w chunks h e v =
    word_le bs (at + 8 * i) w
    (v ∙ ap (λ (z : List (List ℕ)). from_le_bytes w64 (get_or z i [])) e ∙ ap (from_le_bytes w64) (chunk 8 n (drop at bs) i h ∙ ap (take 8) (drop-drop (8 * i) at bs)))

-- ---- some words
pub bytes_length : (ws : List ℕ) → length (bytes_of ws) ≡ 8 * length ws
unfolding bytes_of
bytes_length [] = refl
bytes_length (w ∷ ws) = simp (length-append, eight, bytes_length ws) (omega arith)

pub bytes_append : (xs ys : List ℕ) → bytes_of (xs ++ ys) ≡ bytes_of xs ++ bytes_of ys
unfolding bytes_of
bytes_append [] ys = refl
bytes_append (x ∷ xs) ys = rw (bytes_append xs ys, append_assoc)

bytes_one : (w : ℕ) → bytes_of (w ∷ []) ≡ word_bytes w
unfolding bytes_of
bytes_one w = append-nil (word_bytes w)

pub bytes_more : (ws : List ℕ) (i : ℕ) → i < length ws → bytes_of (take (i + 1) ws) ≡ bytes_of (take i ws) ++ word_bytes (get_or ws i 0)
bytes_more ws i h = rw (add-one, take-suc ws i 0 h, bytes_append, bytes_one)

-- where word i stands
bytes_part : (ws q : List ℕ) (i : ℕ) → i < length ws → take 8 (drop (8 * i) (bytes_of ws ++ q)) ≡ word_bytes (get_or ws i 0)
unfolding bytes_of word_bytes tabulate
bytes_part [] q i h = absurd (omega arith)
bytes_part (w ∷ ws) q zero h = refl
bytes_part (w ∷ ws) q (suc i) h =
    let e : 8 * suc i ≡ suc (suc (suc (suc (suc (suc (suc (suc (8 * i)))))))) = omega arith in
    rw e (bytes_part ws q i (omega arith))

-- ---- words written and read back: behind p, before q
module _ (p ws q : List ℕ) (at : ℕ) (e : length p ≡ at) where
  word_inside : (i : ℕ) → i < length ws → get_or ws i 0 < 2 ^ 64 → word_from (p ++ (bytes_of ws ++ q)) (at + 8 * i) ≡ get_or ws i 0
  word_inside i h l =
      rw (word_part (p ++ (bytes_of ws ++ q)) (at + 8 * i), ← e, drop-append-add p (bytes_of ws ++ q) (8 * i), bytes_part ws q i h)
      (word_value (get_or ws i 0) l)

  pub words_inside : Below (2 ^ 64) ws → (n : ℕ) → n ≤ length ws → words_from (p ++ (bytes_of ws ++ q)) at n ≡ take n ws
  unfolding words_from tabulate
  words_inside h zero l = refl
  words_inside h (suc n) l =
      rw (words_inside h n (omega arith), word_inside n (omega arith) (h n), take-suc ws n 0 (omega arith))

-- ---- bytes read as words, and written back
pub words_length : (bs : List ℕ) (at n : ℕ) → length (words_from bs at n) ≡ n
unfolding words_from
words_length bs at n = tab_length (λ i. word_from bs (at + 8 * i)) n

-- one more, into cells
pub words_more : (bs : List ℕ) (at : ℕ) (l : List ℕ) (i w : ℕ) → i < length l → w ≡ word_from bs (at + 8 * i)
    → set (words_from bs at i ++ drop i l) i w ≡ words_from bs at (i + 1) ++ drop (i + 1) l
unfolding words_from
words_more bs at l i w h e = tab_more (λ j. word_from bs (at + 8 * j)) l i w h e

module _ (bs : List ℕ) (at : ℕ) (h : Below 256 bs) where
  pub bytes_words : (n : ℕ) → at + 8 * n ≤ length bs → bytes_of (words_from bs at n) ≡ take (8 * n) (drop at bs)
  unfolding words_from tabulate bytes_of
  bytes_words zero k = refl
  bytes_words (suc n) k =
      let e : 8 * suc n ≡ 8 * n + 8 = omega arith in
      rw (
        bytes_append,
        bytes_one,
        bytes_words n (omega arith),
        word_bytes_lem bs (at + 8 * n) h (omega arith),
        e,
        take-add (8 * n) 8 (drop at bs),
        drop-drop (8 * n) at bs,
      )

  pub words_below : (n : ℕ) → Below (2 ^ 64) (words_from bs at n)
  unfolding words_from
  words_below n = tab_below (2 ^ 64) (λ i. word_from bs (at + 8 * i)) (omega arith) (λ i. word_lt bs (at + 8 * i) h) n

pub bytes_below : (ws : List ℕ) → Below 256 (bytes_of ws)
unfolding bytes_of
bytes_below [] = below_none 256 (omega arith)
bytes_below (w ∷ ws) = below_append 256 (word_bytes w) (bytes_of ws) (eight_below w) (bytes_below ws)
