-- What a record's words hold, and its count.
use mathlib.Core.Path.{◌≡◌, refl, sym, ap, ◌∙◌}
use mathlib.Core.Logic.{⊎_elim}
use mathlib.Core.Bool.{true, false, cond}
use mathlib.Core.List.{List}
use Prim.Native.Nat.{ℕ, ◌+◌, ◌-◌, ◌*◌, ◌/◌, ◌%◌, ◌^◌, ◌≤◌, ◌<◌}
use native.Mathlib.Nat.{mod-lt, mod-eq_of_lt, lt_of_lt_of_le}
use native.Mathlib.Omega.{arith}
use lib.Bits.{bit_and, and_mask}
use lib.Count.{ones}
use lib.Dec.{leb}
use lib.ListN.{length, get_or, take, drop}
use lib.Pow.{pow_pos, pow_mono}
use borrow.Author.Tests.{lt-ltb, le-ltb, lt-leb, le-leb}
use Rattle.rank_sel.specs.Numbers.{ceil_div}
use Rattle.rank_sel.specs.Rank.{rank}
use Rattle.std.proofs.lemmas.Bool.{cases_lt}
use Rattle.std.proofs.lemmas.List.{get_or-take, get_or-drop, length-take-le, length-drop}
use Rattle.rank_sel.proofs.Rank.{rank-zero, rank_add, rank_ext, rank_le, rank_still}
use Rattle.select_in_word.specs.Bit.{bit}
use Rattle.select_in_word.specs.Holds.{Holds}
use Rattle.select_in_word.specs.Tail.{tail_mask}
use Rattle.select_in_word.proofs.Holds.{holds_ones}
use Rattle.select_in_word.proofs.Tail.{and_tail}
use Rattle.select_in_word.proofs.Bit.{bit_not, bit_low, bit_past}
use Rattle.bit_record.specs.Record.{bit_at, chosen, selected, num_selected, complemented, CountsWords}
use Rattle.bit_record.specs.declared.Polarity.{Polarity}
use Rattle.bit_record.specs.declared.Polarity.TheVariants.{Ones, Zeros}

-- ---- polarity
complemented_lt : (pol : Polarity) (w : ℕ) → w < 2 ^ 64 → complemented pol w < 2 ^ 64
complemented_lt Ones w h = h
complemented_lt Zeros w h = omega arith

complemented-bit : (pol : Polarity) (w j : ℕ) → w < 2 ^ 64 → j < 64 → bit (complemented pol w) j ≡ chosen pol (bit w j)
complemented-bit Ones w j h l = refl
complemented-bit Zeros w j h l = bit_not 64 w j h l

-- ---- positions
pub selected_in : (pol : Polarity) (ws : List ℕ) (len p : ℕ) → p < len → selected pol ws len p ≡ chosen pol (bit_at ws p)
unfolding selected
selected_in pol ws len p h = simp (lt-ltb p len h)

pub selected_out : (pol : Polarity) (ws : List ℕ) (len p : ℕ) → len ≤ p → selected pol ws len p ≡ false
unfolding selected
selected_out pol ws len p h = simp (le-ltb p len h)

pub selected_lt : (pol : Polarity) (ws : List ℕ) (len p : ℕ) → selected pol ws len p ≡ true → p < len
selected_lt pol ws len p e =
    ⊎_elim (λ (h : p < len). h)
    (λ (h : len ≤ p). let f = selected_out pol ws len p h in cc) (cases_lt p len)

-- bit j of word i
word_bit : (pol : Polarity) (ws : List ℕ) (len i j : ℕ) → get_or ws i 0 < 2 ^ 64 → j < 64 → 64 * i + j < len
    → bit (complemented pol (get_or ws i 0)) j ≡ selected pol ws len (64 * i + j)
unfolding bit_at
word_bit pol ws len i j h l k =
    let d : (64 * i + j) / 64 ≡ i = omega arith in
    let m : (64 * i + j) % 64 ≡ j = omega arith in
    complemented-bit pol (get_or ws i 0) j h l ∙ sym (selected_in pol ws len (64 * i + j) k ∙ simp (d, m))

-- a whole word below len
pub holds_full : (pol : Polarity) (ws : List ℕ) (len i : ℕ) → get_or ws i 0 < 2 ^ 64 → 64 * i + 64 ≤ len
    → Holds 64 (selected pol ws len) (64 * i) (complemented pol (get_or ws i 0))
holds_full pol ws len i h l = record {
  small = complemented_lt pol (get_or ws i 0) h;
  bits = λ j k. word_bit pol ws len i j h k (omega arith);
}

-- the last word, of which r bits are below len
pub holds_tail : (pol : Polarity) (ws : List ℕ) (len i r : ℕ) → get_or ws i 0 < 2 ^ 64 → 64 * i + r ≡ len → r < 64
    → Holds 64 (selected pol ws len) (64 * i) (complemented pol (get_or ws i 0) % 2 ^ r)
holds_tail pol ws len i r h e l = record {
  small = lt_of_lt_of_le (mod-lt (complemented pol (get_or ws i 0)) (pow_pos r)) (pow_mono {i = r} {j = 64} (omega arith));
  bits = λ j k. ⊎_elim
      (λ (s : j < r). bit_low (complemented pol (get_or ws i 0)) r j s ∙ word_bit pol ws len i j h k (omega arith))
      (λ (s : r ≤ j). bit_past (complemented pol (get_or ws i 0) % 2 ^ r) r j (mod-lt (complemented pol (get_or ws i 0)) (pow_pos r)) s
      ∙ sym (selected_out pol ws len (64 * i + j) (omega arith)))
      (cases_lt j r);
}

-- any word, masked as `selected_word` masks it
pub holds_word : (pol : Polarity) (ws : List ℕ) (len i : ℕ) → get_or ws i 0 < 2 ^ 64 → 64 * i < len
    → Holds 64 (selected pol ws len) (64 * i) (cond (leb (len - 64 * i) 64) (bit_and (complemented pol (get_or ws i 0)) (tail_mask (len % 64))) (complemented pol (get_or ws i 0)))
holds_word pol ws len i h k = ⊎_elim
    (λ (l : 64 < len - 64 * i). rw (lt-leb (len - 64 * i) 64 l) (holds_full pol ws len i h (omega arith)))
    (λ (l : len - 64 * i ≤ 64). rw (le-leb (len - 64 * i) 64 l) (⊎_elim
    (λ (r : 0 < len % 64). rw (and_tail (complemented pol (get_or ws i 0)) (len % 64) r)
    (holds_tail pol ws len i (len % 64) h (omega arith) (omega arith)))
    (λ (r : len % 64 ≤ 0).
    let e : len % 64 ≡ 0 = omega arith in
    rw e
    (rw (and_mask (complemented pol (get_or ws i 0)) 64)
    (rw (mod-eq_of_lt (complemented_lt pol (get_or ws i 0) h)) (holds_full pol ws len i h (omega arith)))))
    (cases_lt 0 (len % 64))))
    (cases_lt 64 (len - 64 * i))

-- ---- counts
-- from len on, the rank is N
pub rank_num : (pol : Polarity) (ws : List ℕ) (len p : ℕ) → len ≤ p → rank (selected pol ws len) p ≡ num_selected pol ws len
unfolding num_selected
rank_num pol ws len p h = rank_still (selected pol ws len) len p h (λ q g l. selected_out pol ws len q g)

-- bit q of a part of the words
part_bit : (pol : Polarity) (ws vs : List ℕ) (len i m q : ℕ) → ((q : ℕ) → q < m → get_or vs q 0 ≡ get_or ws (i + q) 0)
    → 64 * (i + m) ≤ len → q < 64 * m → selected pol ws len (64 * i + q) ≡ selected pol vs (64 * m) q
unfolding bit_at
part_bit pol ws vs len i m q same l h =
    let d : (64 * i + q) / 64 ≡ i + q / 64 = omega arith in
    let r : (64 * i + q) % 64 ≡ q % 64 = omega arith in
    selected_in pol ws len (64 * i + q) (omega arith)
    ∙ ap (λ (x : ℕ). chosen pol (bit (get_or ws x 0) ((64 * i + q) % 64))) d
    ∙ ap (λ (x : ℕ). chosen pol (bit (get_or ws (i + q / 64) 0) x)) r
    ∙ ap (λ (x : ℕ). chosen pol (bit x (q % 64))) (sym (same (q / 64) (omega arith)))
    ∙ sym (selected_in pol vs (64 * m) q h)

-- one word more, number j
pub words_more : (pol : Polarity) (ws : List ℕ) (i m n j : ℕ) → i + m ≡ j → CountsWords pol ws i m n → get_or ws j 0 < 2 ^ 64
    → CountsWords pol ws i (m + 1) (n + ones (complemented pol (get_or ws j 0)))
words_more pol ws i m n j e v h = record {
  exact = λ len l.
      let f = selected pol ws len in
      let a : rank f (64 * (i + m)) ≡ rank f (64 * j) = ap (rank f) (omega arith) in
      let b : rank f (64 * (i + (m + 1))) ≡ rank f (64 * j + 64) = ap (rank f) (omega arith) in
      omega (
        arith,
        v.exact len (omega arith),
        holds_ones 64 f (64 * j) (complemented pol (get_or ws j 0)) (holds_full pol ws len j h (omega arith)),
      );
}

-- what is counted of a part of the words is counted of them there
words_part : (pol : Polarity) (ws vs : List ℕ) (i m n : ℕ) → length vs ≡ m → ((q : ℕ) → q < m → get_or vs q 0 ≡ get_or ws (i + q) 0)
    → CountsWords pol vs 0 (length vs) n → CountsWords pol ws i m n
words_part pol ws vs i m n k same v = record {
  exact = λ len l.
      let f = selected pol ws len in
      let part = selected pol vs (64 * m) in
      let t : rank part (64 * 0) + n ≡ rank part (64 * (0 + length vs)) = v.exact (64 * m) (omega arith) in
      let z : rank part (64 * 0) ≡ 0 = rank-zero part in
      let e : rank part (64 * (0 + length vs)) ≡ rank part (64 * m) = ap (rank part) (omega arith) in
      let a : rank f (64 * (i + m)) ≡ rank f (64 * i + 64 * m) = ap (rank f) (omega arith) in
      let s : rank (λ j. f (64 * i + j)) (64 * m) ≡ rank part (64 * m) =
      rank_ext (λ j. f (64 * i + j)) part (64 * m) (λ q h. part_bit pol ws vs len i m q same (omega arith) h) in
      omega (arith, rank_add f (64 * i) (64 * m));
}

pub words_most : (pol : Polarity) (ws : List ℕ) (i m n : ℕ) → CountsWords pol ws i m n → n ≤ 64 * (i + m)
words_most pol ws i m n v = omega (arith, v.exact (64 * (i + m)) (omega arith), rank_le (selected pol ws (64 * (i + m))) (64 * (i + m)))

-- the words from number a on, below b, as a slice takes them
pub count_between : (pol : Polarity) (ws : List ℕ) (len a b n : ℕ) → a ≤ b → 64 * b ≤ len → ceil_div len 64 ≤ length ws
    → CountsWords pol (take (b - a) (drop a ws)) 0 (length (take (b - a) (drop a ws))) n
    → rank (selected pol ws len) (64 * a) + n ≡ rank (selected pol ws len) (64 * b)
count_between pol ws len a b n l h held v =
    let f = selected pol ws len in
    let part = take (b - a) (drop a ws) in
    let w = words_part pol ws part a (b - a) n (length-take-le (b - a) (drop a ws) (omega (arith, length-drop a ws)))
    (λ q k. get_or-take (b - a) (drop a ws) q 0 k ∙ get_or-drop a ws q 0) v in
    w.exact len (omega arith) ∙ ap (rank f) (omega arith)

pub num_le : (pol : Polarity) (ws : List ℕ) (len : ℕ) → num_selected pol ws len ≤ len
unfolding num_selected
num_le pol ws len = rank_le (selected pol ws len) len
