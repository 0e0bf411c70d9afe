-- Reading an entry: its tag, the places of its numbers, and their lanes; each value that the code has is the defined one.
use mathlib.Core.Bool.{true, false}
use mathlib.Core.List.{List}
use mathlib.Core.Path.{◌≡◌, sym, ap, ◌∙◌}
use Prim.Native.Nat.{ℕ, zero, suc, ◌+◌, ◌-◌, ◌*◌, ◌/◌, ◌%◌, ◌^◌, ◌≤◌, ◌<◌}
use native.Mathlib.Nat.{add-zero, mod-lt, div-lt_iff_lt-mul}
use native.Mathlib.Omega.{arith}
use lib.ListN.{length, get_or}
use lib.Bits.{bit_and}
use borrow.Author.Tests.{le-ltb, lt-ltb, le-leb, lt-leb}
use Rattle.rank_sel.specs.Outcome.{answer, refused}
use Rattle.select_in_word.proofs.Tail.{mask_shr, and_tail}
use Rattle.spacing.specs.Spacing.{M, S}
use Rattle.inventory.specs.Lanes.{lane_of}
use Rattle.inventory.specs.Index.{stride}
use Rattle.inventory.specs.Shape.{near_by, Shaped, log2_ones_per_sub32, shape_of}
use Rattle.inventory.specs.declared.shape.Shape.{Shape}
use Rattle.inventory.specs.declared.shape.SpanType.{SpanType}
use Rattle.inventory.specs.declared.shape.SpanType.TheVariants.{U16, U32, U64}
use Rattle.inventory.specs.declared.summary.Summary.{Summary}
use Rattle.inventory.proofs.Shapes.{lanes_pos}
use Rattle.read_inventory.specs.Read.{tagged, start_by, cell_at, kind_at, start_at, span_at, quantum_at, shape_at, place_at, number_at}
use Rattle.read_inventory.specs.Steps.{head_of, EntryLent, HeadIn, spacing_at, spot_place, spot_in, number_of_mark, SpotFor}
use Rattle.read_inventory.specs.declared.decode.Head.{Head}
use Rattle.read_inventory.specs.declared.decode.Spot.{Spot}
use Rattle.read_inventory.specs.declared.decode.Spot.TheVariants.{Start, Own, Over}

-- ---- the tag
pub tagged_16 : (t : ℕ) → tagged t ≡ U16 → t < 2
tagged_16 zero e = omega arith
tagged_16 (suc zero) e = omega arith
tagged_16 (suc (suc zero)) e = cc
tagged_16 (suc (suc (suc t))) e = cc

-- ---- lanes
pub lane_masked : (w cell t : ℕ) → 0 < w → w ≤ 64 → bit_and (cell / 2 ^ (w * t)) ((2 ^ 64 - 1) / 2 ^ (64 - w)) ≡ lane_of w cell t
unfolding lane_of
lane_masked w cell t h l = rw (mask_shr w h l) (and_tail (cell / 2 ^ (w * t)) w h)

-- ---- places
module _ (s : Shape) (m i : ℕ) (h : Shaped s) where
  -- p is a power of two as it was reckoned
  module _ (p : ℕ) (ep : p ≡ 2 ^ m) (a : s.from ≤ i) where
    near_is : s.from + (p - s.heads) * s.lanes ≡ near_by s m
    near_is = ap (λ (z : ℕ). s.from + (z - s.heads) * s.lanes) ep

    pub spot_own : i < s.from + (p - s.heads) * s.lanes → (j : ℕ) → j ≡ (i - s.from) % 2 ^ s.log2_lanes
        → SpotFor s m i (Own ((i - s.from) / 2 ^ s.log2_lanes) j)
    spot_own b j ej =
        let l : i < near_by s m = rw near_is at b in
        record {
          place = λ c o. simp (le-ltb i s.from a, lt-ltb i (near_by s m) l, ej, h.lanes);
          within = rw h.lanes (
            omega (arith, (div-lt_iff_lt-mul {k = s.lanes} {x = i - s.from} {y = 2 ^ m - s.heads} (lanes_pos h)).1 (omega arith)),
            omega (arith, mod-lt (i - s.from) (lanes_pos h), rw h.lanes at ej),
          );
        }

-- ---- an entry's first cell and its spacing
module _ (t : Summary) (inv : List ℕ) (e : ℕ) where
  pub head_read : (c : ℕ) (kind : SpanType) (start : ℕ) → c ≡ e * stride t.plan → kind ≡ tagged (get_or inv c 0 / 2 ^ 62)
      → start ≡ start_by kind (get_or inv c 0) → record { entry = e; cell = c; kind = kind; start = start } ≡ head_of t inv e
  unfolding cell_at kind_at start_at
  head_read c kind start ec ek es = simp (es, ek, ec, add-zero)

  pub kind_as : (h : Head) (k : SpanType) → h ≡ head_of t inv e → h.kind ≡ k → kind_at t inv e ≡ k
  kind_as h k eh ek = sym (ap (λ (x : Head). x.kind) eh) ∙ ek

  pub span_read : (h : Head) (p span : ℕ) → h ≡ head_of t inv e → p ≡ stride t.plan → span ≡ get_or inv (h.cell + p) 0 % 2 ^ 62 - h.start
      → span ≡ span_at t inv e
  unfolding cell_at span_at
  span_read h p span eh ep es = es ∙ simp (ep, eh)

  pub spacing_16 : kind_at t inv e ≡ U16 → answer (S t.plan) ≡ spacing_at t inv e
  unfolding spacing_at quantum_at
  spacing_16 k = simp k

  pub spacing_64 : kind_at t inv e ≡ U64 → answer 0 ≡ spacing_at t inv e
  unfolding spacing_at quantum_at
  spacing_64 k = simp k

  pub spacing_small : kind_at t inv e ≡ U32 → span_at t inv e < 65537 → refused 10 ≡ spacing_at t inv e
  unfolding spacing_at quantum_at
  spacing_small k l = simp (k, lt-ltb (span_at t inv e) 65537 l)

  pub spacing_32 : kind_at t inv e ≡ U32 → 65537 ≤ span_at t inv e
      → answer (log2_ones_per_sub32 (span_at t inv e) (S t.plan)) ≡ spacing_at t inv e
  unfolding spacing_at quantum_at
  spacing_32 k l = simp (k, le-ltb (span_at t inv e) 65537 l)

-- the next entry's first cell is lent too
pub next_in : (t : Summary) (inv : List ℕ) (h : Head) → HeadIn t inv h → h.cell + stride t.plan < length inv
next_in t inv h r = omega (arith, ap (λ (x : Head). x.cell) r.read, r.lent.within)

-- ---- a number
-- h, s and p are entry e's head, its shape and the spot of mark i as the code has them
pub record Spotted (t : Summary) (inv : List ℕ) (e i : ℕ) (h : Head) (s : Shape) (p : Spot) : Type 0 where
  pub head : h ≡ head_of t inv e
  pub shape : s ≡ shape_of h.kind h.start
  pub place : SpotFor s (M t.plan) i p
  pub lent : EntryLent t inv e

module _ {t : Summary} {inv : List ℕ} {e i : ℕ} {h : Head} {s : Shape} {p : Spot} (w : Spotted t inv e i h s p) where
  shape_is : s ≡ shape_at t inv e
  unfolding shape_at
  shape_is = w.shape ∙ ap (λ (x : Head). shape_of x.kind x.start) w.head

  place_as : (q : Spot) → p ≡ q → place_at t inv e i ≡ spot_place q (h.cell + 1 + s.heads) (get_or inv (h.cell + 1) 0)
  unfolding place_at cell_at
  place_as q eq =
      sym
      (ap (λ (x : Spot). spot_place x (h.cell + 1 + s.heads) (get_or inv (h.cell + 1) 0)) (sym eq)
      ∙ w.place.place (h.cell + 1 + s.heads) (get_or inv (h.cell + 1) 0) ∙ simp (w.head, shape_is))

  cell_is : h.cell ≡ e * stride t.plan
  cell_is = ap (λ (x : Head). x.cell) w.head

  spot_in_lem : (q : Spot) → p ≡ q → spot_in s (M t.plan) q
  spot_in_lem q eq = rw eq at w.place.within

  pub own_in : (n j : ℕ) → p ≡ Own n j → h.cell + 1 + s.heads + n < length inv
  own_in n j eq = omega (arith, cell_is, w.lent.within, (spot_in_lem (Own n j) eq).0)

  pub number_start : (sp : List ℕ) → p ≡ Start
      → answer (record { value = h.start; spilled = false }) ≡ number_of_mark t inv sp e i
  unfolding number_at
  number_start sp eq = simp (place_as Start eq, w.head)

  pub number_own : (sp : List ℕ) (n j v : ℕ) → p ≡ Own n j → v ≡ lane_of s.width (get_or inv (h.cell + 1 + s.heads + n) 0) j
      → answer (record { value = v; spilled = false }) ≡ number_of_mark t inv sp e i
  unfolding number_at
  number_own sp n j v eq ev = simp (place_as (Own n j) eq, ev, shape_is)

  pub number_missing : (sp : List ℕ) (n j : ℕ) → p ≡ Over n j → t.spill_len - get_or inv (h.cell + 1) 0 ≤ n
      → refused 10 ≡ number_of_mark t inv sp e i
  unfolding number_at
  number_missing sp n j eq l = simp (place_as (Over n j) eq, le-leb t.spill_len (get_or inv (h.cell + 1) 0 + n) (omega arith))

  pub number_over : (sp : List ℕ) (n j v : ℕ) → p ≡ Over n j → n < t.spill_len - get_or inv (h.cell + 1) 0
      → v ≡ lane_of s.width (get_or sp (get_or inv (h.cell + 1) 0 + n) 0) j
      → answer (record { value = v; spilled = true }) ≡ number_of_mark t inv sp e i
  unfolding number_at
  number_over sp n j v eq l ev =
      simp (place_as (Over n j) eq, lt-leb t.spill_len (get_or inv (h.cell + 1) 0 + n) (omega arith), ev, shape_is)
