-- Bytes are an image exactly where the fields of their header are by the rules and their length is the one that these ask for:
-- then what is read from them has them as its image, and an image's header has its summary's numbers.
use mathlib.Core.Bool.{Bool, true, false, not}
use mathlib.Core.List.{List, [], ◌∷◌, ◌++◌, append_assoc, append-nil}
use mathlib.Core.Path.{◌≡◌, refl, sym, ap, ap₂, ◌∙◌}
use Prim.Native.Nat.{ℕ, zero, suc, ◌+◌, ◌*◌, ◌^◌, ◌≤◌, ◌<◌}
use native.Mathlib.Omega.{arith}
use lib.ListN.{length, take, drop, get_or, length-append, length-drop, take-append-drop}
use lib.Seq.{take-suc, take_all, drop-drop, length-take-le}
use borrow.Author.Tests.{not-false}
use Rattle.std.proofs.lemmas.Bool.{or_parts}
use Rattle.rank_sel.specs.Lists.{Below}
use Rattle.rank_sel.specs.Outcome.{any_of, NoneOf}
use Rattle.rank_sel.proofs.Lists.{same_yes, same_is, each_below}
use Rattle.rank_sel.proofs.Outcome.{any_none, none_any}
use Rattle.bit_record.specs.declared.Polarity.{Polarity}
use Rattle.bit_record.specs.declared.Polarity.TheVariants.{Ones, Zeros}
use Rattle.spacing.specs.Spacing.{N, L, M, S}
use Rattle.inventory.specs.Lanes.{tabulate}
use Rattle.inventory.specs.Lawful.{Lawful}
use Rattle.inventory.specs.Numbers.{polarity_at, polarity_code, cut, summary_at, numbers_of}
use Rattle.inventory.specs.declared.summary.Summary.{Summary}
use Rattle.inventory.proofs.Lanes.{tab_at}
use Rattle.inventory.proofs.Lawful.{lawful}
use Rattle.index_image.specs.Bytes.{bytes_of, word_from, words_from}
use Rattle.index_image.specs.Image.{offset_of, header_of, image_of, of_summary_alone, numbers_in, summary_in, inventory_in, spill_in, image_unlawful}
use Rattle.index_image.proofs.Bytes.{bytes_length, bytes_append, bytes_words, words_inside, words_length, word_lt}

-- the first eight of a list, one by one
pub first_eight : (l : List ℕ) → 8 ≤ length l
    → take 8 l ≡ get_or l 0 0 ∷ get_or l 1 0 ∷ get_or l 2 0 ∷ get_or l 3 0 ∷ get_or l 4 0 ∷ get_or l 5 0 ∷ get_or l 6 0 ∷ get_or l 7 0 ∷ []
first_eight l h =
    rw (
      take-suc l 7 0 (omega arith),
      take-suc l 6 0 (omega arith),
      take-suc l 5 0 (omega arith),
      take-suc l 4 0 (omega arith),
      take-suc l 3 0 (omega arith),
      take-suc l 2 0 (omega arith),
      take-suc l 1 0 (omega arith),
      take-suc l 0 0 (omega arith),
    )

-- ---- the bytes of eleven fields and cells, read back
module _ (header inventory spill : List ℕ) (n m : ℕ) (e : length header ≡ 11) (en : length inventory ≡ n) (em : length spill ≡ m) where
  abbrev image : List ℕ
  image = bytes_of (header ++ (inventory ++ spill))

  pub long : length image ≡ offset_of (n + m)
  long =
      bytes_length (header ++ (inventory ++ spill))
      ∙ omega (arith, length-append header (inventory ++ spill), length-append inventory spill)

  parts : image ≡ bytes_of header ++ (bytes_of inventory ++ bytes_of spill)
  parts = rw (bytes_append header (inventory ++ spill), bytes_append inventory spill)

  pub header_back : Below (2 ^ 64) header → words_from image 0 11 ≡ header
  header_back h =
      rw parts
      (words_inside [] header (bytes_of inventory ++ bytes_of spill) 0 refl h 11 (omega arith) ∙ take_all 11 header (omega arith))

  pub inventory_back : Below (2 ^ 64) inventory → words_from image (offset_of 0) n ≡ inventory
  inventory_back h =
      rw parts
      (words_inside (bytes_of header) inventory (bytes_of spill) (offset_of 0) (bytes_length header ∙ omega arith) h n (omega arith)
      ∙ take_all n inventory (omega arith))

  pub spill_back : Below (2 ^ 64) spill → words_from image (offset_of n) m ≡ spill
  spill_back h =
      let k : length (bytes_of header ++ bytes_of inventory) ≡ offset_of n =
      length-append (bytes_of header) (bytes_of inventory) ∙ omega (arith, bytes_length header, bytes_length inventory) in
      let w : words_from ((bytes_of header ++ bytes_of inventory) ++ (bytes_of spill ++ [])) (offset_of n) m ≡ take m spill =
      words_inside (bytes_of header ++ bytes_of inventory) spill [] (offset_of n) k h m (omega arith) in
      rw parts (rw (append-nil, append_assoc) at w ∙ take_all m spill (omega arith))

-- ---- bytes of that length read, and written back
pub written_back : (bs : List ℕ) (n m : ℕ) → Below 256 bs → length bs ≡ offset_of (n + m)
    → bytes_of (words_from bs 0 11 ++ (words_from bs (offset_of 0) n ++ words_from bs (offset_of n) m)) ≡ bs
written_back bs n m h e =
    let r : List ℕ = drop 88 bs in
    let s : drop (8 * n) r ≡ drop (88 + 8 * n) bs = drop-drop (8 * n) 88 bs in
    let t : take (8 * m) (drop (88 + 8 * n) bs) ≡ drop (88 + 8 * n) bs =
    take_all (8 * m) (drop (88 + 8 * n) bs) (omega (arith, length-drop (88 + 8 * n) bs)) in
    rw (
      bytes_append (words_from bs 0 11) (words_from bs 88 n ++ words_from bs (88 + 8 * n) m),
      bytes_append (words_from bs 88 n) (words_from bs (88 + 8 * n) m),
      bytes_words bs 0 h 11 (omega arith),
      bytes_words bs 88 h n (omega arith),
      bytes_words bs (88 + 8 * n) h m (omega arith),
      t,
      ← s,
      take-append-drop (8 * n) r,
    )
    (take-append-drop 88 bs)

-- ---- a summary's numbers, there and back
polarity_back : (pol : Polarity) → polarity_at (polarity_code pol) ≡ pol
unfolding polarity_at
polarity_back Ones = refl
polarity_back Zeros = refl

polarity_low : (pol : Polarity) → polarity_code pol ≤ 1
polarity_low Ones = omega arith
polarity_low Zeros = omega arith

code_back : (n : ℕ) → n ≤ 1 → polarity_code (polarity_at n) ≡ n
unfolding polarity_at
code_back zero h = refl
code_back (suc zero) h = refl
code_back (suc (suc n)) h = absurd (omega arith)

-- a logarithm that is small after the cut was not altered by it
cut_small : (n : ℕ) → cut n ≤ 63 → cut n ≡ n
cut_small n h = omega arith

small_cut : (n : ℕ) → n ≤ 63 → cut n ≡ n
small_cut n h = omega arith

pub numbers_back : (t : Summary) → Lawful t → summary_at (numbers_of t) ≡ t
unfolding summary_at numbers_of
numbers_back t w =
    let s : S t.plan ≤ 63 = omega (arith, w.spaced, w.small_l) in
    rw (
      polarity_back t.plan.polarity,
      small_cut (L t.plan) w.small_l,
      small_cut (M t.plan) (omega (arith, w.small_m)),
      small_cut (S t.plan) s,
    )

-- ---- the fields of bytes
abbrev pub field : List ℕ → ℕ → ℕ
field bs i = word_from bs (0 + 8 * i)

module _ (bs : List ℕ) where
  pub inventory_said : (summary_in bs).inventory_len ≡ field bs 7
  unfolding summary_in summary_at words_from tabulate
  inventory_said = refl

  pub spill_said : (summary_in bs).spill_len ≡ field bs 9
  unfolding summary_in summary_at words_from tabulate
  spill_said = refl

  pub inventory_in_long : length (inventory_in bs) ≡ (summary_in bs).inventory_len
  unfolding inventory_in
  inventory_in_long = words_length bs (offset_of 0) (summary_in bs).inventory_len

  pub spill_in_long : length (spill_in bs) ≡ (summary_in bs).spill_len
  unfolding spill_in
  spill_in_long = words_length bs (offset_of (summary_in bs).inventory_len) (summary_in bs).spill_len

  -- by the rules
  pub record Formed : Type 0 where
    pub polarity : field bs 0 ≤ 1
    pub first : field bs 8 ≡ offset_of 0
    pub second : field bs 10 ≡ offset_of (field bs 7)
    pub end : length bs ≡ offset_of (field bs 7 + field bs 9)
    pub free : NoneOf (of_summary_alone (summary_in bs))

-- ---- the header of a summary
-- whose numbers, and the offset of its spill, are those of a u64
pub record Fits (t : Summary) : Type 0 where
  pub len : t.plan.len < 2 ^ 64
  pub num : N t.plan < 2 ^ 64
  pub origin : t.origin < 2 ^ 64
  pub l : L t.plan < 2 ^ 64
  pub m : M t.plan < 2 ^ 64
  pub s : S t.plan < 2 ^ 64
  pub inventory : offset_of t.inventory_len < 2 ^ 64
  pub spill : t.spill_len < 2 ^ 64

module _ (t : Summary) where
  pub header_long : length (header_of (numbers_of t)) ≡ 11
  unfolding header_of numbers_of
  header_long = refl

  pub header_numbers : numbers_in (header_of (numbers_of t)) ≡ numbers_of t
  unfolding header_of numbers_of
  header_numbers = refl

  pub header_below : Fits t → Below (2 ^ 64) (header_of (numbers_of t))
  unfolding header_of numbers_of
  header_below w =
      let p : polarity_code t.plan.polarity < 2 ^ 64 = omega (arith, polarity_low t.plan.polarity) in
      let n : t.inventory_len < 2 ^ 64 = omega (arith, w.inventory) in
      let z : offset_of 0 < 2 ^ 64 = omega arith in
      each_below (2 ^ 64) (header_of (numbers_of t)) (omega arith)
      (p, (w.len, (w.num, (w.origin, (w.l, (w.m, (w.s, (n, (z, (w.spill, (w.inventory, tt)))))))))))

-- ---- both ways between the condition and the rules
module _ (bs : List ℕ) (h : Below 256 bs) where
  abbrev t : Summary
  t = summary_in bs

  header_said : Formed bs → words_from bs 0 11 ≡ header_of (numbers_of t)
  unfolding header_of numbers_of summary_in summary_at words_from tabulate
  header_said w =
      let r = lawful t w.free.1.1.0 in
      let l : cut (field bs 4) ≤ 63 = r.small_l in
      let m : cut (field bs 5) ≤ 63 = omega (arith, r.small_m) in
      let s : cut (field bs 6) ≤ 63 = omega (arith, r.spaced) in
      rw (code_back (field bs 0) w.polarity, cut_small (field bs 4) l, cut_small (field bs 5) m, cut_small (field bs 6) s, w.first, w.second)

  said_back : Formed bs → image_of t (inventory_in bs) (spill_in bs) ≡ bs
  unfolding image_of inventory_in spill_in
  said_back w =
      let n = t.inventory_len in
      let m = t.spill_len in
      let a : length (words_from bs (offset_of 0) n) ≡ n = words_length bs (offset_of 0) n in
      let b : length (words_from bs (offset_of n) m) ≡ m = words_length bs (offset_of n) m in
      let e : length bs ≡ offset_of (n + m) = w.end ∙ sym (ap₂ (λ (x y : ℕ). offset_of (x + y)) (inventory_said bs) (spill_said bs)) in
      rw (
        ← header_said w,
        take_all n (words_from bs (offset_of 0) n) (omega arith),
        take_all m (words_from bs (offset_of n) m) (omega arith),
      )
      (written_back bs n m h e)

  pub formed_lawful : Formed bs → image_unlawful bs ≡ false
  unfolding image_unlawful
  formed_lawful w = rw (none_any (of_summary_alone t) w.free, same_yes _ _ (said_back w))

  module _ (k : length bs < 2 ^ 64) (e : image_unlawful bs ≡ false) where
    pub lawful_free : NoneOf (of_summary_alone t)
    unfolding image_unlawful
    lawful_free = any_none (of_summary_alone t) (or_parts _ _ e).0

    pub lawful_back : image_of t (inventory_in bs) (spill_in bs) ≡ bs
    unfolding image_unlawful
    lawful_back = same_is _ _ (not-false _ (or_parts (any_of (of_summary_alone t)) _ e).1)

    -- its parts have the lengths that the summary says
    abbrev own : List ℕ
    own = take t.inventory_len (inventory_in bs)

    abbrev over : List ℕ
    over = take t.spill_len (spill_in bs)

    own_long : length own ≡ t.inventory_len
    own_long = length-take-le t.inventory_len (inventory_in bs) (omega (arith, inventory_in_long bs))

    over_long : length over ≡ t.spill_len
    over_long = length-take-le t.spill_len (spill_in bs) (omega (arith, spill_in_long bs))

    pub lawful_ends : length bs ≡ offset_of (t.inventory_len + t.spill_len)
    unfolding image_of
    lawful_ends = ap length (sym lawful_back) ∙ long (header_of (numbers_of t)) own over _ _ (header_long t) own_long over_long

    fits : Fits t
    unfolding summary_in summary_at words_from tabulate
    fits =
        let w : (i : ℕ) → field bs i < 2 ^ 64 = λ i. word_lt bs (0 + 8 * i) h in
        record {
          len = w 1;
          num = w 2;
          origin = w 3;
          l = omega (arith, w 4);
          m = omega (arith, w 5);
          s = omega (arith, w 6);
          inventory = omega (arith, lawful_ends);
          spill = w 9;
        }

    header_of_lem : words_from bs 0 11 ≡ header_of (numbers_of t)
    unfolding image_of
    header_of_lem =
        ap (λ (z : List ℕ). words_from z 0 11) (sym lawful_back)
        ∙ header_back (header_of (numbers_of t)) own over _ _ (header_long t) own_long over_long (header_below t fits)

    field_of : (i : ℕ) → i < 11 → field bs i ≡ get_or (header_of (numbers_of t)) i 0
    unfolding words_from
    field_of i l = sym (tab_at (λ j. word_from bs (0 + 8 * j)) 11 i l) ∙ ap (λ (z : List ℕ). get_or z i 0) header_of_lem

    pub lawful_formed : Formed bs
    unfolding header_of numbers_of
    lawful_formed = record {
      polarity = omega (arith, field_of 0 (omega arith), polarity_low t.plan.polarity);
      first = field_of 8 (omega arith);
      second = field_of 10 (omega arith) ∙ ap offset_of (inventory_said bs);
      end = lawful_ends ∙ ap₂ (λ (x y : ℕ). offset_of (x + y)) (inventory_said bs) (spill_said bs);
      free = lawful_free;
    }

  -- how the test of the fields answers
  pub is_no : length bs < 2 ^ 64 → (Formed bs → ⊥) → false ≡ not (image_unlawful bs)
  is_no k n = go (image_unlawful bs) refl
    where
      go : (b : Bool) → image_unlawful bs ≡ b → false ≡ not b
      go true e = refl
      go false e = absurd (n (lawful_formed k e))

  pub is_yes : Formed bs → true ≡ not (image_unlawful bs)
  is_yes w = rw (formed_lawful w)
