-- An entry by its kind: which heads it has, what it spills, and that its lanes suffice for its marks.
use mathlib.Core.Path.{◌≡◌, refl, sym, ap, ◌∙◌, subst}
use Prim.Native.Nat.{ℕ, ◌+◌, ◌-◌, ◌*◌, ◌/◌, ◌^◌, ◌≤◌, ◌<◌}
use native.Mathlib.Nat.{lt_of_mul-lt-mul_right}
use native.Mathlib.Omega.{arith}
use lib.Pow.{pow_pos, pow-add, pow_mono}
use Rattle.rank_sel.specs.Numbers.{ceil_div}
use Rattle.rank_sel.proofs.Ceil.{ceil_lt}
use Rattle.spacing.specs.Spacing.{L, M, S}
use Rattle.spacing.specs.declared.Parameters.{Parameters}
use Rattle.inventory.specs.Index.{ranks_of, entry_by, entry_from, start_of, span_of, kind_of, entry_of}
use Rattle.inventory.specs.Shape.{log2_quantum, spilled_by, shape_of, near_by}
use Rattle.inventory.specs.declared.entry.Entry.{Entry}
use Rattle.inventory.specs.declared.shape.SpanType.{SpanType}
use Rattle.inventory.specs.declared.shape.SpanType.TheVariants.{U16, U32, U64}
use Rattle.inventory.proofs.Ranks.{mark_among, ranks_most}
use Rattle.inventory.proofs.Shapes.{shaped, lanes_pos}

-- ---- kinds
-- an entry that spills has a second cell of its own
spill_head : (k : SpanType) (s h m j : ℕ) → j < spilled_by k h m → (shape_of k s).heads ≡ 1
spill_head U16 s h m j l = absurd (omega arith)
spill_head U32 s h m j l = refl
spill_head U64 s h m j l = refl

head_kind : (k : SpanType) (s : ℕ) → (k ≡ U16 → ⊥) → (shape_of k s).heads ≡ 1
head_kind U16 s n = absurd (n refl)
head_kind U32 s n = refl
head_kind U64 s n = refl

-- before its first lane an entry has at most mark 0, a whole position
pub first_mark : (k : SpanType) (s i : ℕ) → i < (shape_of k s).from → (i ≡ 0) × ((shape_of k s).base ≡ 0)
first_mark U16 s i l = absurd (omega arith)
first_mark U32 s i l = absurd (omega arith)
first_mark U64 s i l = (omega arith, refl)

-- the quarters suffice: marks 2^S apart below 2^L
room : (l m s k : ℕ) → s ≡ l - m - 2 → k * 2 ^ s < 2 ^ l → k < 2 ^ m * 4
room l m s k d h =
    let e : 2 ^ (m + 2 + s) ≡ 2 ^ (m + 2) * 2 ^ s = pow-add 2 (m + 2) s in
    let n : 2 ^ l ≤ 2 ^ (m + 2 + s) = pow_mono (omega arith) in
    let f : k < 2 ^ (m + 2) = lt_of_mul-lt-mul_right (2 ^ s) (omega arith) in
    omega (arith, pow-add 2 m 2)

-- the lanes suffice for the marks
pub marks_fit : (k : SpanType) (a span l m s ranks i : ℕ) → s ≡ l - m - 2 → ranks ≤ 2 ^ l → i < ceil_div ranks (2 ^ log2_quantum k span s)
    → i < near_by (shape_of k a) m + spilled_by k (ceil_div ranks (2 ^ log2_quantum k span s)) m * (shape_of k a).lanes
marks_fit U16 a span l m s ranks i d h c = omega (arith, room l m s i d (omega (arith, ceil_lt i ranks (2 ^ s) (pow_pos s) c)))
marks_fit U32 a span l m s ranks i d h c = omega (arith, pow_pos m)
marks_fit U64 a span l m s ranks i d h c = omega (arith, pow_pos m)

kind_none : (k : SpanType) (h m : ℕ) → k ≡ U16 → spilled_by k h m ≡ 0
kind_none U16 h m e = refl
kind_none U32 h m e = cc
kind_none U64 h m e = cc

module _ (pos : ℕ → ℕ) (p : Parameters) (e : ℕ) where
  -- an entry by its kind
  pub entry_by_lem : entry_of pos p e
      ≡ entry_by p (e * 2 ^ L p) (start_of pos p e) (start_of pos p (e + 1)) (ranks_of p e) (kind_of pos p e) (log2_quantum (kind_of pos p e) (span_of pos p e) (S p))
  unfolding entry_of entry_from kind_of span_of
  entry_by_lem = refl

  pub first_rank : (entry_of pos p e).first ≡ e * 2 ^ L p
  first_rank = ap (λ (y : Entry). y.first) entry_by_lem

  -- a U16 entry spills nothing, any other has a second cell of its own
  pub kind_spills : kind_of pos p e ≡ U16 → (entry_of pos p e).spilled ≡ 0
  kind_spills d = ap (λ (y : Entry). y.spilled) entry_by_lem ∙ kind_none (kind_of pos p e) _ (M p) d

  pub kind_heads : (kind_of pos p e ≡ U16 → ⊥) → (entry_of pos p e).shape.heads ≡ 1
  kind_heads n = ap (λ (y : Entry). y.shape.heads) entry_by_lem ∙ head_kind (kind_of pos p e) (start_of pos p e) n

  pub kind_headless : kind_of pos p e ≡ U16 → (entry_of pos p e).shape.heads ≡ 0
  kind_headless d = ap (λ (y : Entry). y.shape.heads) entry_by_lem ∙ ap (λ (k : SpanType). (shape_of k (start_of pos p e)).heads) d

  -- marks are ranks of the entry
  pub mark_in : (k : ℕ) → k < (entry_of pos p e).marks → k * 2 ^ (entry_of pos p e).log2_quantum < ranks_of p e
  mark_in k =
      let q : ℕ = log2_quantum (kind_of pos p e) (span_of pos p e) (S p) in
      subst (λ (y : Entry). k < y.marks → k * 2 ^ y.log2_quantum < ranks_of p e) (sym entry_by_lem)
      (λ l. ceil_lt k (ranks_of p e) (2 ^ q) (pow_pos q) l)

  pub some_lanes : 0 < (entry_of pos p e).shape.lanes
  some_lanes = subst (λ (y : Entry). 0 < y.shape.lanes) (sym entry_by_lem) (lanes_pos (shaped (kind_of pos p e) (start_of pos p e)))

  pub spill_heads : (j : ℕ) → j < (entry_of pos p e).spilled → (entry_of pos p e).shape.heads ≡ 1
  spill_heads j =
      subst (λ (y : Entry). j < y.spilled → y.shape.heads ≡ 1) (sym entry_by_lem) (spill_head (kind_of pos p e) (start_of pos p e) _ (M p) j)

  -- a U64 entry has a mark for each rank
  pub kind_whole : kind_of pos p e ≡ U64 → (entry_of pos p e).log2_quantum ≡ 0
  kind_whole d = ap (λ (y : Entry). y.log2_quantum) entry_by_lem ∙ ap (λ (k : SpanType). log2_quantum k (span_of pos p e) (S p)) d

  -- a subrank's mark is one of the entry's
  pub in_mark : (s : ℕ) → s < ranks_of p e → s / 2 ^ (entry_of pos p e).log2_quantum < (entry_of pos p e).marks
  in_mark s =
      let q : ℕ = log2_quantum (kind_of pos p e) (span_of pos p e) (S p) in
      subst (λ (y : Entry). s < ranks_of p e → s / 2 ^ y.log2_quantum < y.marks) (sym entry_by_lem)
      (mark_among s (ranks_of p e) q)

  -- the lanes suffice for the marks
  pub marks_placed : S p ≡ L p - M p - 2 → (i : ℕ) → i < (entry_of pos p e).marks
      → i < near_by (entry_of pos p e).shape (M p) + (entry_of pos p e).spilled * (entry_of pos p e).shape.lanes
  marks_placed d i = subst (λ (y : Entry). i < y.marks → i < near_by y.shape (M p) + y.spilled * y.shape.lanes) (sym entry_by_lem)
      (marks_fit (kind_of pos p e) (start_of pos p e) (span_of pos p e) (L p) (M p) (S p) (ranks_of p e) i d (ranks_most p e))

  -- the entry that a reader makes of the kind, the start and q that it reads
  pub shape_by : (entry_of pos p e).shape ≡ shape_of (kind_of pos p e) (start_of pos p e)
  shape_by = ap (λ (y : Entry). y.shape) entry_by_lem

  pub spilled_by_lem : (entry_of pos p e).spilled ≡ spilled_by (kind_of pos p e) (ceil_div (ranks_of p e) (2 ^ (entry_of pos p e).log2_quantum)) (M p)
  spilled_by_lem =
      subst (λ (y : Entry). y.spilled ≡ spilled_by (kind_of pos p e) (ceil_div (ranks_of p e) (2 ^ y.log2_quantum)) (M p)) (sym entry_by_lem)
      refl
