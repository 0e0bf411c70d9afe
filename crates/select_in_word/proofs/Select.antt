-- Laws of in-word select.
use mathlib.Core.Bool.{true}
use mathlib.Core.Logic.{inl, inr, ⊎_elim}
use mathlib.Core.Option.{Option, none, some, get_or}
use mathlib.Core.Path.{◌≡◌, refl, sym, ap, ◌∙◌}
use Prim.Native.Nat.{ℕ, suc, ◌+◌, ◌/◌, ◌^◌, ◌≤◌, ◌<◌}
use native.Mathlib.Numerals.{add-one}
use native.Mathlib.Omega.{arith}
use lib.Bits.{bit_and, and_mask}
use lib.Count.{ones}
use lib.Pow.{shr-shr}
use Rattle.std.proofs.lemmas.Bool.{cases_lt}
use Rattle.rank_sel.specs.Outcome.{answer, refused, or_refuse}
use Rattle.rank_sel.specs.Rank.{rank}
use Rattle.rank_sel.specs.Seek.{seek, Sought}
use Rattle.rank_sel.proofs.Rank.{rank-zero, rank_one, rank_lt, rank_add, rank_ext, rank_still}
use Rattle.rank_sel.proofs.Seek.{seek_found, seek_none, seek_at, seek_empty, seek_some}
use Rattle.select_in_word.specs.Bit.{bit}
use Rattle.select_in_word.specs.Holds.{Holds}
use Rattle.select_in_word.specs.Select.{OneAbove, one_at, one_of, ones_above, or_ones, seek_in_word, select_in_byte, select_in_word}
use Rattle.select_in_word.specs.declared.One.{One}
use Rattle.select_in_word.proofs.Bit.{bit_past, bit_shr, ones_rank}
use Rattle.select_in_word.proofs.Holds.{holds_field}

-- where a byte has more than r ones, its entry is the position of one number r
pub byte_sought : (b r : ℕ) → b < 2 ^ 8 → r < ones b → Sought (bit b) 8 0 r (select_in_byte b r)
unfolding select_in_byte
byte_sought b r h l =
    let s = seek_some (bit b) 8 0 r (omega (arith, ones_rank 8 b h, rank-zero (bit b))) in
    rw s.1 s.2

pub byte_le : (b r n : ℕ) → n ≡ select_in_byte b r → n ≤ 8
unfolding select_in_byte
byte_le b r n d = rw d (go (seek (bit b) 8 0 r) refl)
  where
    go : (s : Option ℕ) → seek (bit b) 8 0 r ≡ s → get_or s 8 ≤ 8
    go (some p) e = let s = seek_found (bit b) 8 0 r p e in omega arith
    go none e = omega arith

-- the byte of w from bit s on, as the code takes it
pub holds_byte : (w s : ℕ) → Holds 8 (bit w) s (bit_and (w / 2 ^ s) 255)
holds_byte w s = rw (and_mask (w / 2 ^ s) 8) (holds_field 8 w s)

-- ---- what remains above a place
-- from place s on w has the ones of w shifted to it
rank_shr : (w s q : ℕ) → rank (bit w) (s + q) ≡ rank (bit w) s + rank (bit (w / 2 ^ s)) q
rank_shr w s q =
    rank_add (bit w) s q ∙ ap (λ (x : ℕ). rank (bit w) s + x) (rank_ext (λ j. bit w (s + j)) (bit (w / 2 ^ s)) q (λ j l. sym (bit_shr w s j)))

-- and none past its 64 bits
rank_end : (w s : ℕ) → w < 2 ^ 64 → rank (bit w) (s + 64) ≡ rank (bit w) 64
rank_end w s h = rank_still (bit w) 64 (s + 64) (omega arith) (λ q g l. bit_past w 64 q h g)

-- w shifted past place p, as the code shifts it
module _ (w p : ℕ) where
  abbrev pub rest : ℕ
  rest = w / 2 ^ p / 2 ^ 1

  rest_is : rest ≡ w / 2 ^ suc p
  rest_is = shr-shr w p 1 ∙ ap (λ (n : ℕ). w / 2 ^ n) (add-one p)

  pub rest_bit : (j : ℕ) → bit rest j ≡ bit w (suc p + j)
  rest_bit j = ap (λ (v : ℕ). bit v j) rest_is ∙ bit_shr w (suc p) j

  pub rest_rank : (n : ℕ) → rank (bit w) (suc p + n) ≡ rank (bit w) (suc p) + rank (bit rest) n
  rest_rank n = rank_shr w (suc p) n ∙ ap (λ (v : ℕ). rank (bit w) (suc p) + rank (bit v) n) (sym rest_is)

  pub rest_above : w < 2 ^ 64 → p < 64 → ones rest ≡ ones_above w p
  rest_above h l = omega (arith, ones_rank 64 rest (omega arith), rest_rank 64, rank_end w (suc p) h)

-- a one of what lies from place s on is a one of the word, with as many above it
pub above_shr : (w s n p : ℕ) → w < 2 ^ 64 → s < 64 → OneAbove (w / 2 ^ s) n p → OneAbove w n (s + p)
above_shr w s n p h l o =
    let here : bit w (s + p) ≡ true = sym (bit_shr w s p) ∙ o.here in
    let low : s + p < 64 =
    ⊎_elim (λ (g : s + p < 64). g) (λ (g : 64 ≤ s + p). let b = bit_past w 64 (s + p) h g in cc) (cases_lt (s + p) 64) in
    let e : rank (bit w) (s + suc p) ≡ rank (bit w) (suc (s + p)) = ap (rank (bit w)) (omega arith) in
    record { low = low; here = here; above = omega (arith, o.above, rank_shr w s 64, rank_shr w s (suc p), rank_end w s h, e) }

-- where n remain above a one, the word has more than n
pub above_some : (w n p : ℕ) → OneAbove w n p → n < rank (bit w) 64
above_some w n p o = omega (arith, o.above, o.low, rank_lt (bit w) p 64 o.here o.low, rank_one (bit w) p o.here)

-- above one number k, all others that are not below it
pub above_sought : (w k p : ℕ) → Sought (bit w) 64 0 k p → ones_above w p + k + 1 ≡ rank (bit w) 64
above_sought w k p s =
    omega (arith, s.high, s.before, rank-zero (bit w), rank_one (bit w) p s.here, rank_lt (bit w) p 64 s.here s.high)

-- ---- the answer
module _ (w k p n : ℕ) (s : Sought (bit w) 64 0 k p) (e : n ≡ ones_above w p) where
  abbrev pub told : One
  told = record { position = p; remaining = n }

  told_is : told ≡ one_at w p
  told_is = ap (λ (m : ℕ). record { position = p; remaining = m }) e

  pub word_at : answer told ≡ select_in_word w k
  unfolding select_in_word
  word_at = ap answer told_is ∙ ap (λ (o : Option ℕ). or_refuse 8 (one_of w o)) (sym (seek_at (bit w) 64 0 k p s))

  -- the same with the count of ones in place of a refusal
  pub word_seek_at : inl told ≡ seek_in_word w k
  unfolding seek_in_word
  word_seek_at = ap inl told_is ∙ ap (or_ones w) (sym (seek_at (bit w) 64 0 k p s))

pub word_refused : (w k : ℕ) → rank (bit w) 64 ≤ k → refused 8 ≡ select_in_word w k
unfolding select_in_word
word_refused w k h = ap (λ (o : Option ℕ). or_refuse 8 (one_of w o)) (sym (seek_empty (bit w) 64 0 k (omega (arith, rank-zero (bit w)))))

-- and back
pub word_missing : (w k n : ℕ) → refused n ≡ select_in_word w k → rank (bit w) 64 ≤ k
unfolding select_in_word
word_missing w k n e = go (seek (bit w) 64 0 k) refl
  where
    go : (r : Option ℕ) → seek (bit w) 64 0 k ≡ r → rank (bit w) 64 ≤ k
    go (some q) h = cc
    go none h = omega (arith, seek_none (bit w) 64 0 k h, rank-zero (bit w))

pub word_seek_past : (w k n : ℕ) → w < 2 ^ 64 → n ≡ rank (bit w) 64 → n ≤ k → inr n ≡ seek_in_word w k
unfolding seek_in_word
word_seek_past w k n h e l =
    ap inr (e ∙ sym (ones_rank 64 w h)) ∙ ap (or_ones w) (sym (seek_empty (bit w) 64 0 k (omega (arith, rank-zero (bit w)))))

-- and back
pub word_seek_found : (w k : ℕ) (x : One) → inl x ≡ seek_in_word w k → Sought (bit w) 64 0 k x.position × OneAbove w x.remaining x.position
unfolding seek_in_word
word_seek_found w k x e = go (seek (bit w) 64 0 k) refl
  where
    go : (r : Option ℕ) → seek (bit w) 64 0 k ≡ r → Sought (bit w) 64 0 k x.position × OneAbove w x.remaining x.position
    go (some q) h =
        let f : x ≡ one_at w q = cc in
        let p : x.position ≡ q = ap (λ (y : One). y.position) f in
        let s = seek_found (bit w) 64 0 k x.position (h ∙ ap some (sym p)) in
        let n : x.remaining ≡ ones_above w x.position = ap (λ (y : One). y.remaining) f ∙ ap (ones_above w) (sym p) in
        (s, record { low = omega (arith, s.high); here = s.here; above = sym n })
    go none h = cc

pub word_seek_missing : (w k n : ℕ) → w < 2 ^ 64 → inr n ≡ seek_in_word w k → (n ≡ ones w) × (ones w ≤ k)
unfolding seek_in_word
word_seek_missing w k n l e = go (seek (bit w) 64 0 k) refl
  where
    go : (r : Option ℕ) → seek (bit w) 64 0 k ≡ r → (n ≡ ones w) × (ones w ≤ k)
    go (some q) h = cc
    go none h = let f : n ≡ ones w = cc in (f, omega (arith, ones_rank 64 w l, seek_none (bit w) 64 0 k h, rank-zero (bit w)))
