-- What steps 2 to 7 read, on any summary and cells. Document 01, "A jump followed downwards".
use Rattle.std.specs.Prelude.{Bool, true, false, cond, List, ◌≡◌, ℕ, zero, suc, ◌+◌, ◌-◌, ◌*◌, ◌/◌, ◌%◌, ◌^◌, leb, ltb, get_or}
use Rattle.rank_sel.specs.Numbers.{ceil_div}
use Rattle.rank_sel.specs.Outcome.{Outcome, answer, refused, refuse_if, or_refuse, and_then}
use Rattle.rank_sel.specs.Seek.{seek}
use Rattle.bit_record.specs.Record.{selected}
use Rattle.spacing.specs.Spacing.{L, M, S}
use Rattle.inventory.specs.Index.{stride, ranks_of}
use Rattle.inventory.specs.Lanes.{lane_of}
use Rattle.inventory.specs.Shape.{log2_quantum, spilled_by, shape_of, near_by}
use Rattle.inventory.specs.declared.shape.Shape.{Shape}
use Rattle.inventory.specs.declared.shape.SpanType.{SpanType}
use Rattle.inventory.specs.declared.shape.SpanType.TheVariants.{U16, U32, U64}
use Rattle.inventory.specs.declared.summary.Summary.{Summary}
use Rattle.read_inventory.specs.declared.decode.Hint as hint
use Rattle.read_inventory.specs.declared.decode.Mark as mark

-- a mark as it is read: where it stands, the selected bits passed from it on, and whether it is itself the answer
abbrev pub Mark : Type 0
Mark = mark.Mark

-- the mark of a rank, and its rank
abbrev pub Hint : Type 0
Hint = hint.Hint

-- ---- step 3: an entry's first cell
-- top two bits 0x: U16; 10: U32; 11: U64
abbrev pub tagged : ℕ → SpanType
tagged zero = U16
tagged (suc zero) = U16
tagged (suc (suc zero)) = U32
tagged (suc (suc (suc t))) = U64

-- of a U16 entry the whole cell, else its low 62 bits
abbrev pub start_by : SpanType → ℕ → ℕ
start_by U16 cell = cell
start_by U32 cell = cell % 2 ^ 62
start_by U64 cell = cell % 2 ^ 62

-- ---- entry e as it is read
module _ (t : Summary) (inv : List ℕ) (e : ℕ) where
  -- cell j of the entry, the first being 0; cell `stride` is the next entry's first
  unfoldable pub cell_at : ℕ → ℕ
  cell_at j = get_or inv (e * stride t.plan + j) 0

  unfoldable pub kind_at : SpanType
  kind_at = tagged (cell_at 0 / 2 ^ 62)

  unfoldable pub start_at : ℕ
  start_at = start_by kind_at (cell_at 0)

  unfoldable pub span_at : ℕ
  span_at = cell_at (stride t.plan) % 2 ^ 62 - start_at

  unfoldable pub quantum_at : ℕ
  quantum_at = log2_quantum kind_at span_at (S t.plan)

  unfoldable pub shape_at : Shape
  shape_at = shape_of kind_at start_at

  -- how many cells it spills, by the build's rule
  unfoldable pub spilled_at : ℕ
  spilled_at = spilled_by kind_at (ceil_div (ranks_of t.plan e) (2 ^ quantum_at)) (M t.plan)

-- ---- steps 4 to 6: where the number of mark i stands, as cell and lane
pub data Place : Type 0 where
  start : Place
  own : ℕ → ℕ → Place
  over : ℕ → ℕ → Place

-- in the entry's own cells from c on, else in its spilled cells from o on
abbrev pub place_by : Shape → ℕ → ℕ → ℕ → ℕ → Place
place_by s m c o i =
    cond (ltb i s.from) start
    (cond (ltb i (near_by s m)) (own (c + (i - s.from) / s.lanes) ((i - s.from) % s.lanes))
    (over (o + (i - near_by s m) / s.lanes) ((i - near_by s m) % s.lanes)))

unfoldable pub place_at : Summary → List ℕ → ℕ → ℕ → Place
place_at t inv e i =
    place_by (shape_at t inv e) (M t.plan) (e * stride t.plan + 1 + (shape_at t inv e).heads) (cell_at t inv e 1) i

-- the number there; a U64 entry's mark 0 is its start; a spill cell outside the summary's count is 10
unfoldable pub number_at : Summary → List ℕ → List ℕ → ℕ → Place → Outcome ℕ
number_at t inv sp e start = answer (start_at t inv e)
number_at t inv sp e (own c j) = answer (lane_of (shape_at t inv e).width (get_or inv c 0) j)
number_at t inv sp e (over c j) =
    refuse_if (leb t.spill_len c) 10 (answer (lane_of (shape_at t inv e).width (get_or sp c 0) j))

-- a U32 span below 65,537 is 10
abbrev pub span_too_small : SpanType → ℕ → Bool
span_too_small U16 span = false
span_too_small U32 span = ltb span 65537
span_too_small U64 span = false

-- mark i of entry e; one at or past len is 10
unfoldable pub mark_at : Summary → List ℕ → List ℕ → ℕ → ℕ → Outcome ℕ
mark_at t inv sp e i =
    refuse_if (span_too_small (kind_at t inv e) (span_at t inv e)) 10
    (and_then (number_at t inv sp e (place_at t inv e i))
    (λ n. refuse_if (leb t.plan.len ((shape_at t inv e).base + n)) 10 (answer ((shape_at t inv e).base + n))))

-- ---- steps 2 to 6
abbrev pub is_u64 : SpanType → Bool
is_u64 U16 = false
is_u64 U32 = false
is_u64 U64 = true

abbrev pub entry_of_rank : Summary → ℕ → ℕ
entry_of_rank t r = r / 2 ^ L t.plan

abbrev pub subrank : Summary → ℕ → ℕ
subrank t r = r % 2 ^ L t.plan

-- the number of rank r's mark in its entry
unfoldable pub mark_number : Summary → List ℕ → ℕ → ℕ
mark_number t inv r = subrank t r / 2 ^ quantum_at t inv (entry_of_rank t r)

-- the selected bits passed from the mark on
unfoldable pub residual : Summary → List ℕ → ℕ → ℕ
residual t inv r = subrank t r % 2 ^ quantum_at t inv (entry_of_rank t r)

unfoldable pub mark_of_rank : Summary → List ℕ → List ℕ → ℕ → Outcome Mark
mark_of_rank t inv sp r =
    and_then (mark_at t inv sp (entry_of_rank t r) (mark_number t inv r))
    (λ p. answer (record { at = p; residual = residual t inv r; exact = is_u64 (kind_at t inv (entry_of_rank t r)) }))

unfoldable pub hint_at : Summary → List ℕ → List ℕ → ℕ → Outcome Hint
hint_at t inv sp r = and_then (mark_of_rank t inv sp r) (λ m. answer (record { mark = m.at; rank = r - m.residual }))

-- ---- step 7: a U64 mark is the answer itself; from another the sought bit, or 10
abbrev pub finish : (ℕ → Bool) → ℕ → Mark → Outcome ℕ
finish f len m = cond m.exact (answer m.at) (or_refuse 10 (seek f (len - m.at) m.at m.residual))

unfoldable pub position_of : List ℕ → Summary → List ℕ → List ℕ → ℕ → Outcome ℕ
position_of ws t inv sp r = and_then (mark_of_rank t inv sp r) (finish (selected t.plan.polarity ws t.plan.len) t.plan.len)

-- 10 is the only refusal
abbrev pub Only10 : {A : Type 0} → Outcome A → Type 0
Only10 o = (n : ℕ) → o ≡ refused n → n ≡ 10
