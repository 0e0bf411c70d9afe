-- The index that the build writes, from the position of each rank and the plan alone. Document 01, "The build".
use Rattle.std.specs.Prelude.{cond, List, [], ◌∷◌, ◌++◌, ℕ, zero, suc, ◌+◌, ◌-◌, ◌*◌, ◌^◌, min, max, ltb, take}
use Rattle.rank_sel.specs.Numbers.{ceil_div, sum}
use Rattle.spacing.specs.Spacing.{N, L, M, S}
use Rattle.spacing.specs.declared.Parameters.{Parameters}
use Rattle.inventory.specs.Lanes.{pack, tabulate}
use Rattle.inventory.specs.Shape.{from_span, log2_quantum, spilled_by, shape_of}
use Rattle.inventory.specs.declared.shape.SpanType.{SpanType}
use Rattle.inventory.specs.declared.summary.Summary.{Summary}
use Rattle.inventory.specs.declared.entry.Entry.{Entry}

-- ---- counts
unfoldable pub entries_of : Parameters → ℕ
entries_of p = ceil_div (N p) (2 ^ L p)

-- the cells of one entry: its first, and 2^M
abbrev pub stride_by : ℕ → ℕ
stride_by m = 2 ^ m + 1

abbrev pub stride : Parameters → ℕ
stride p = stride_by (M p)

-- the entries' cells and the closing one
unfoldable pub inventory_len_of : Parameters → ℕ
inventory_len_of p = entries_of p * stride p + 1

-- how many ranks entry e holds, from e * 2^L on
unfoldable pub ranks_of : Parameters → ℕ → ℕ
ranks_of p e = min (2 ^ L p) (N p - e * 2 ^ L p)

-- ---- an entry
-- by its kind and q, reckoned or read
abbrev pub entry_by : Parameters → ℕ → ℕ → ℕ → ℕ → SpanType → ℕ → Entry
entry_by p first start next ranks kind q = record {
  first = first;
  start = start;
  next = next;
  log2_quantum = q;
  marks = ceil_div ranks (2 ^ q);
  spilled = spilled_by kind (ceil_div ranks (2 ^ q)) (M p);
  shape = shape_of kind start;
}

-- as the span says
unfoldable pub entry_from : Parameters → ℕ → ℕ → ℕ → ℕ → Entry
entry_from p first start next ranks =
    entry_by p first start next ranks (from_span (next - start)) (log2_quantum (from_span (next - start)) (next - start) (S p))

-- ---- an entry's lanes and cells; pos r is the bit of rank r
module _ (pos : ℕ → ℕ) (x : Entry) where
  unfoldable pub mark : ℕ → ℕ
  mark k = pos (x.first + k * 2 ^ x.log2_quantum)

  -- lane i says mark i; past the marks it is zero
  unfoldable pub lane : ℕ → ℕ
  lane i = cond (ltb i x.marks) (mark i - x.shape.base) 0

  -- the cell of the lanes from number i on
  unfoldable pub packed : ℕ → ℕ
  packed i = pack x.shape.width (λ t. lane (i + t)) x.shape.lanes

  -- n such cells, from lane i on
  unfoldable pub stream : ℕ → ℕ → List ℕ
  stream i n = tabulate (λ j. packed (i + j * x.shape.lanes)) n

  -- the entry's own cells, of which own stand after the first: the start with its tag, the count of cells spilled
  -- before it where it has such a head, and lanes
  unfoldable pub own_cells : ℕ → ℕ → List ℕ
  own_cells before own =
      take (1 + x.shape.heads) ((x.start + x.shape.tag) ∷ before ∷ []) ++ stream x.shape.from (own - x.shape.heads)

  -- the cells that it spills
  unfoldable pub spill_cells : ℕ → List ℕ
  spill_cells own = stream (x.shape.from + (own - x.shape.heads) * x.shape.lanes) x.spilled

-- ---- the whole index
module _ (pos : ℕ → ℕ) (p : Parameters) where
  -- the bit of rank r; past the last one, what the closing cell says
  unfoldable pub bound : ℕ → ℕ
  bound r = cond (ltb r (N p)) (pos r) (max 1 p.len)

  -- where entry e starts; the start after the last is the closing cell
  unfoldable pub start_of : ℕ → ℕ
  start_of e = bound (e * 2 ^ L p)

  -- an entry's span runs to the next start, or to the closing cell
  unfoldable pub span_of : ℕ → ℕ
  span_of e = start_of (e + 1) - start_of e

  unfoldable pub kind_of : ℕ → SpanType
  kind_of e = from_span (span_of e)

  unfoldable pub entry_of : ℕ → Entry
  entry_of e = entry_from p (e * 2 ^ L p) (start_of e) (start_of (e + 1)) (ranks_of p e)

  -- how many cells the entries before e spill
  unfoldable pub spill_start : ℕ → ℕ
  spill_start e = sum (λ i. (entry_of i).spilled) e

  -- the cells of the entries before e
  unfoldable pub inventory_to : ℕ → List ℕ
  inventory_to zero = []
  inventory_to (suc e) = inventory_to e ++ own_cells pos (entry_of e) (spill_start e) (2 ^ M p)

  unfoldable pub spill_to : ℕ → List ℕ
  spill_to zero = []
  spill_to (suc e) = spill_to e ++ spill_cells pos (entry_of e) (2 ^ M p)

  unfoldable pub inventory_of : List ℕ
  inventory_of = inventory_to (entries_of p) ++ (start_of (entries_of p) ∷ [])

  unfoldable pub spill_of : List ℕ
  spill_of = spill_to (entries_of p)

  -- no cell goes by the origin
  unfoldable pub summary_of : ℕ → Summary
  summary_of origin = record { plan = p; origin = origin; inventory_len = inventory_len_of p; spill_len = spill_start (entries_of p) }
