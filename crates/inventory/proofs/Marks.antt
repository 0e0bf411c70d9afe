-- Laws of an entry that the span says, over any positions that rise: its marks, its lanes, its cells.
use mathlib.Core.Path.{◌≡◌, refl, ap, ◌∙◌}
use mathlib.Core.Logic.{⊎_elim}
use mathlib.Core.Bool.{Bool, true, false, cond}
use mathlib.Core.List.{List, [], ◌∷◌}
use Prim.Native.Nat.{ℕ, zero, suc, ◌+◌, ◌-◌, ◌*◌, ◌^◌, ◌≤◌, ◌<◌, min}
use native.Mathlib.Nat.{zero-mul}
use native.Mathlib.Omega.{arith}
use lib.Dec.{leb}
use lib.ListN.{length, take, length-append}
use lib.Pow.{pow_pos}
use borrow.Author.Tests.{lt-ltb, le-ltb, leb-true}
use Rattle.rank_sel.specs.Numbers.{ceil_div}
use Rattle.rank_sel.proofs.Ceil.{ceil_le, ceil_lt}
use Rattle.std.proofs.lemmas.Bool.{cases_lt}
use Rattle.bit_record.specs.Record.{bit_of}
use Rattle.bit_record.proofs.Bits.{bits_rise, bit_below}
use Rattle.spacing.specs.Spacing.{N, L, M, S, PlanOf}
use Rattle.spacing.specs.declared.Parameters.{Parameters}
use Rattle.inventory.specs.Index.{ranks_of, entry_from, mark, lane, stream, own_cells, spill_cells, bound, start_of, entry_of}
use Rattle.inventory.specs.Shape.{from_span, log2_ones_per_sub32, log2_quantum, spilled_by, shape_of, Shaped}
use Rattle.inventory.specs.declared.entry.Entry.{Entry}
use Rattle.inventory.specs.declared.shape.Shape.{Shape}
use Rattle.inventory.specs.declared.shape.SpanType.{SpanType}
use Rattle.inventory.specs.declared.shape.SpanType.TheVariants.{U16, U32, U64}
use Rattle.inventory.proofs.Lanes.{tab_length}
use Rattle.inventory.proofs.Shapes.{shaped}

-- ---- kinds
-- a kind has room for the spans that it serves
abbrev pub Room : SpanType → ℕ → Type 0
Room U16 span = span ≤ 2 ^ 16
Room U32 span = span ≤ 2 ^ 32
Room U64 span = 0 ≤ span

pub room_of : (span : ℕ) → Room (from_span span) span
room_of span = go (leb span 65536) refl
  where
    wide : (t : Bool) → leb span (2 ^ 32) ≡ t → Room (cond t U32 U64) span
    wide true e = leb-true span (2 ^ 32) e
    wide false e = omega arith

    go : (t : Bool) → leb span 65536 ≡ t → Room (cond t U16 (cond (leb span (2 ^ 32)) U32 U64)) span
    go true e = leb-true span 65536 e
    go false e = wide (leb span (2 ^ 32)) refl

pub quantum_le : (kind : SpanType) (span s : ℕ) → log2_quantum kind span s ≤ s
unfolding log2_ones_per_sub32
quantum_le U16 span s = omega arith
quantum_le U32 span s = omega arith
quantum_le U64 span s = omega arith

spilled_le : (kind : SpanType) (h m : ℕ) → spilled_by kind h m ≤ h
spilled_le U16 h m = omega arith
spilled_le U32 h m = omega (arith, ceil_le h 2 (omega arith))
spilled_le U64 h m = omega arith

-- a shape serves an entry from start to next: the first cell has room for the tag, and a lane for each position
record Serves (s : Shape) (start next : ℕ) : Type 0 where
  pub tagged : start + s.tag < 2 ^ 64
  pub low : s.base ≤ start
  pub fits : (m : ℕ) → start ≤ m → m < next → m - s.base < 2 ^ s.width

serves : (kind : SpanType) (start next : ℕ) → Room kind (next - start) → start < next → next < 2 ^ 62
    → Serves (shape_of kind start) start next
serves U16 start next r l h = record { tagged = omega arith; low = omega arith; fits = λ m a b. omega arith }
serves U32 start next r l h = record { tagged = omega arith; low = omega arith; fits = λ m a b. omega arith }
serves U64 start next r l h = record { tagged = omega arith; low = omega arith; fits = λ m a b. omega arith }

-- ---- lanes
module _ (pos : ℕ → ℕ) (x : Entry) where
  pub mark_first : x.start ≡ pos x.first → x.start ≡ mark pos x 0
  unfolding mark
  mark_first e = e ∙ ap pos (omega (arith, zero-mul (2 ^ x.log2_quantum)))

  pub lane_in : (i : ℕ) → i < x.marks → lane pos x i ≡ mark pos x i - x.shape.base
  unfolding lane
  lane_in i h = rw (lt-ltb i x.marks h)

  pub lane_past : (i : ℕ) → x.marks ≤ i → lane pos x i ≡ 0
  unfolding lane
  lane_past i h = rw (le-ltb i x.marks h)

-- ---- what the stream of an entry's cells rests on
pub record Streamable (pos : ℕ → ℕ) (p : Parameters) (x : Entry) : Type 0 where
  pub shaped : Shaped x.shape
  pub close : x.log2_quantum < 64
  pub within : (k : ℕ) → k < x.marks → x.first + k * 2 ^ x.log2_quantum < N p
  pub low : (k : ℕ) → k < x.marks → x.shape.base ≤ mark pos x k
  pub small : (k : ℕ) → k < x.marks → mark pos x k - x.shape.base < 2 ^ x.shape.width
  pub begins : x.start ≡ pos x.first
  pub tagged : x.start + x.shape.tag < 2 ^ 64

pub lane_lt : (pos : ℕ → ℕ) (p : Parameters) (x : Entry) → Streamable pos p x → (i : ℕ) → lane pos x i < 2 ^ x.shape.width
lane_lt pos p x s i = ⊎_elim
    (λ (g : i < x.marks). rw (lane_in pos x i g) (s.small i g))
    (λ (g : x.marks ≤ i). rw (lane_past pos x i g) (pow_pos x.shape.width))
    (cases_lt i x.marks)

-- ---- what is asked of the positions and the plan
pub record Rising (pos : ℕ → ℕ) (p : Parameters) : Type 0 where
  pub rises : (r s : ℕ) → r < s → s < N p → pos r < pos s
  pub below : (r : ℕ) → r < N p → pos r < p.len
  pub short : p.len < 2 ^ 62
  pub small_l : L p ≤ 63
  pub closer : S p ≤ L p

-- the bits of a planned record
pub rising : (ws : List ℕ) (p : Parameters) → PlanOf ws p → Rising (bit_of ws p.len p.polarity) p
rising ws p h = record {
  rises = λ r s l g. bits_rise ws p.len p.polarity r s l (omega (arith, h.num));
  below = λ r g. bit_below ws p.len p.polarity r (omega (arith, h.num));
  short = h.admitted.short;
  small_l = h.small_l;
  closer = omega (arith, h.spaced);
}

module _ (pos : ℕ → ℕ) (p : Parameters) where
  pub start_here : (e : ℕ) → e * 2 ^ L p < N p → start_of pos p e ≡ pos (e * 2 ^ L p)
  unfolding start_of bound
  start_here e l = rw (lt-ltb (e * 2 ^ L p) (N p) l)

  pub start_next : (e : ℕ) → start_of pos p (e + 1) ≡ bound pos p (e * 2 ^ L p + 2 ^ L p)
  unfolding start_of
  start_next e = ap (bound pos p) (omega arith)

  pub next_is : (e : ℕ) → (entry_of pos p e).next ≡ start_of pos p (e + 1)
  unfolding entry_of entry_from
  next_is e = refl

  pub first_is : (e : ℕ) → (entry_of pos p e).first ≡ e * 2 ^ L p
  unfolding entry_of entry_from
  first_is e = refl

  pub few_heads : (e : ℕ) → (entry_of pos p e).shape.heads ≤ 1
  unfolding entry_of entry_from
  few_heads e = (shaped (from_span (start_of pos p (e + 1) - start_of pos p e)) (start_of pos p e)).heads

  -- an entry spills no more cells than it may have ranks
  pub few_spilled : (e : ℕ) → (entry_of pos p e).spilled ≤ 2 ^ L p
  unfolding entry_of entry_from ranks_of
  few_spilled e =
      let span = start_of pos p (e + 1) - start_of pos p e in
      let q = log2_quantum (from_span span) span (S p) in
      let r = min (2 ^ L p) (N p - e * 2 ^ L p) in
      omega (arith, spilled_le (from_span span) (ceil_div r (2 ^ q)) (M p), ceil_le r (2 ^ q) (pow_pos q))

  -- the fields as they are reckoned one by one
  pub entry_made : (e first start next ranks : ℕ) (kind : SpanType) (q marks spilled : ℕ) (shape : Shape)
      → first ≡ e * 2 ^ L p → start ≡ start_of pos p e → next ≡ start_of pos p (e + 1) → ranks ≡ ranks_of p e
      → kind ≡ from_span (next - start) → q ≡ log2_quantum kind (next - start) (S p) → marks ≡ ceil_div ranks (2 ^ q)
      → shape ≡ shape_of kind start → spilled ≡ spilled_by kind marks (M p)
      → ◌≡◌ {A = Entry}
      (record { first = first; start = start; next = next; log2_quantum = q; marks = marks; spilled = spilled; shape = shape })
      (entry_of pos p e)
  unfolding entry_of entry_from
  entry_made e first start next ranks kind q marks spilled shape ef es en er ek eq em eh ed = rw (ed, eh, em, eq, ek, er, en, es, ef)

  module _ (h : Rising pos p) where
    pub bound_gt : (r s : ℕ) → r < s → r < N p → pos r < bound pos p s
    unfolding bound
    bound_gt r s l n = ⊎_elim
        (λ (g : s < N p). rw (lt-ltb s (N p) g) (h.rises r s l g))
        (λ (g : N p ≤ s). rw (le-ltb s (N p) g) (omega (arith, h.below r n)))
        (cases_lt s (N p))

    pub bound_small : (s : ℕ) → bound pos p s < 2 ^ 62
    unfolding bound
    bound_small s = ⊎_elim
        (λ (g : s < N p). rw (lt-ltb s (N p) g) (omega (arith, h.short, h.below s g)))
        (λ (g : N p ≤ s). rw (le-ltb s (N p) g) (omega (arith, h.short)))
        (cases_lt s (N p))

    from_start : (r k : ℕ) → r + k < N p → pos r ≤ pos (r + k)
    from_start r zero l = let e : r + 0 ≡ r = omega arith in rw e (omega arith)
    from_start r (suc k) l = omega (arith, h.rises r (r + suc k) (omega arith) l)

    pub entry_streamable : (e : ℕ) → e * 2 ^ L p < N p → Streamable pos p (entry_of pos p e)
    unfolding entry_of entry_from ranks_of mark
    entry_streamable e l =
        let first = e * 2 ^ L p in
        let start = start_of pos p e in
        let next = start_of pos p (e + 1) in
        let ranks = min (2 ^ L p) (N p - first) in
        let kind = from_span (next - start) in
        let q = log2_quantum kind (next - start) (S p) in
        let b : start ≡ pos first = start_here e l in
        let n : next ≡ bound pos p (first + 2 ^ L p) = start_next e in
        let inside : (k : ℕ) → k < ceil_div ranks (2 ^ q) → k * 2 ^ q < ranks = λ k g. ceil_lt k ranks (2 ^ q) (pow_pos q) g in
        let two = pow_pos (L p) in
        let above : (k : ℕ) → k < ceil_div ranks (2 ^ q) → start ≤ pos (first + k * 2 ^ q) = λ k g. omega
        (arith, from_start first (k * 2 ^ q) (omega (arith, inside k g))) in
        let below : (k : ℕ) → k < ceil_div ranks (2 ^ q) → pos (first + k * 2 ^ q) < next =
        λ k g. omega (arith, bound_gt (first + k * 2 ^ q) (first + 2 ^ L p) (omega (arith, inside k g)) (omega (arith, inside k g))) in
        let s = serves kind start next (room_of (next - start)) (omega (arith, bound_gt first (first + 2 ^ L p) (omega arith) l))
        (omega (arith, bound_small (first + 2 ^ L p))) in
        record {
          shaped = shaped kind start;
          close = omega (arith, quantum_le kind (next - start) (S p), h.closer, h.small_l);
          within = λ k g. omega (arith, inside k g);
          low = λ k g. omega (arith, s.low, above k g);
          small = λ k g. s.fits (pos (first + k * 2 ^ q)) (above k g) (below k g);
          begins = b;
          tagged = s.tagged;
        }

-- ---- an entry's cells
pub heads_length : (h a b : ℕ) → h ≤ 1 → length (take (1 + h) (a ∷ b ∷ [])) ≡ 1 + h
heads_length zero a b hh = refl
heads_length (suc zero) a b hh = refl
heads_length (suc (suc h)) a b hh = absurd (omega arith)

module _ (pos : ℕ → ℕ) (x : Entry) where
  pub stream-length : (i n : ℕ) → length (stream pos x i n) ≡ n
  unfolding stream
  stream-length i n = tab_length _ n

  pub own_length : (before own : ℕ) → x.shape.heads ≤ 1 → 0 < own → length (own_cells pos x before own) ≡ own + 1
  unfolding own_cells
  own_length before own hh ho =
      simp (
        length-append,
        stream-length x.shape.from (own - x.shape.heads),
        heads_length x.shape.heads (x.start + x.shape.tag) before hh,
      )
      (omega arith)

  pub spill_length : (own : ℕ) → length (spill_cells pos x own) ≡ x.spilled
  unfolding spill_cells
  spill_length own = stream-length (x.shape.from + (own - x.shape.heads) * x.shape.lanes) x.spilled
