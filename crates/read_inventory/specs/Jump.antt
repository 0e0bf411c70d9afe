-- Jump, hint, dwell and store. Document 01, "A jump followed downwards" and "When a call is turned down".
use Rattle.std.specs.Prelude.{List, [], ◌++◌, ◌≡◌, ℕ, ◌+◌, ◌-◌, ◌*◌, ◌^◌, ◌≤◌, min, ltb, length, take, drop, Result}
use Rattle.std.specs.Borrow.{Bor}
use Rattle.rank_sel.specs.Outcome.{Outcome, answer, refused, refuse_if, refuse_by, and_then, outcome}
use Rattle.rank_sel.specs.declared.Refusal.{Refusal}
use Rattle.bit_record.specs.Record.{sample_at}
use Rattle.spacing.specs.Spacing.{N, M}
use Rattle.inventory.specs.Index.{stride}
use Rattle.inventory.specs.declared.summary.Summary.{Summary}
use Rattle.read_inventory.specs.Read.{cell_at, spilled_at, Place, start, own, over, place_at, entry_of_rank, mark_number, Hint, hint_at, position_of}
use Rattle.read_inventory.specs.Tests.{of_index, of_rank, of_ranks}
use Rattle.read_inventory.specs.declared.jump.CellPart.{CellPart}
use Rattle.read_inventory.specs.declared.jump.CellPart.TheVariants as CellPartVariants

-- ---- jump and hint: positions are read, and sample numbers answered
-- past the tests
unfoldable pub sample_of : List ℕ → Summary → List ℕ → List ℕ → ℕ → Outcome ℕ
sample_of ws t inv sp r = and_then (position_of ws t inv sp r) (λ p. answer (sample_at t.origin p))

unfoldable pub select_of : List ℕ → Summary → List ℕ → List ℕ → ℕ → Outcome ℕ
select_of ws t inv sp r = refuse_by (of_index ws t inv sp ++ of_rank (N t.plan) r) (sample_of ws t inv sp r)

-- of a hint, the mark is a sample, and its rank is not
abbrev pub hint_from : ℕ → Hint → Hint
hint_from origin h = record { mark = sample_at origin h.mark; rank = h.rank }

unfoldable pub hint_sample : Summary → List ℕ → List ℕ → ℕ → Outcome Hint
hint_sample t inv sp r = and_then (hint_at t inv sp r) (λ h. answer (hint_from t.origin h))

unfoldable pub hint_of : List ℕ → Summary → List ℕ → List ℕ → ℕ → Outcome Hint
hint_of ws t inv sp r = refuse_by (of_index ws t inv sp ++ of_rank (N t.plan) r) (hint_sample t inv sp r)

-- ---- dwell
-- position(b) - position(a), the same from any origin on; a negative one is 10
abbrev pub dwell_by : ℕ → ℕ → Outcome ℕ
dwell_by a b = refuse_if (ltb b a) 10 (answer (b - a))

-- past the tests; 10 for a before b
unfoldable pub dwell_at : List ℕ → Summary → List ℕ → List ℕ → ℕ → ℕ → Outcome ℕ
dwell_at ws t inv sp a b = and_then (position_of ws t inv sp a) (λ p. and_then (position_of ws t inv sp b) (λ o. dwell_by p o))

unfoldable pub dwell_of : List ℕ → Summary → List ℕ → List ℕ → ℕ → ℕ → Outcome ℕ
dwell_of ws t inv sp a b = refuse_by (of_index ws t inv sp ++ of_ranks (N t.plan) a b) (dwell_at ws t inv sp a b)

-- ---- store
-- a part of the lent cells: so many from number c on
pub data Part : Type 0 where
  of_inventory : ℕ → ℕ → Part
  of_spill : ℕ → ℕ → Part
  empty : Part

-- where the mark is recorded: the entry's cells after its first, or its spilled cells from the one that its second cell
-- numbers, cut at the spill count
abbrev pub part_by : Summary → List ℕ → ℕ → Place → Part
part_by t inv e start = of_inventory (e * stride t.plan + 1) (2 ^ M t.plan)
part_by t inv e (own c j) = of_inventory (e * stride t.plan + 1) (2 ^ M t.plan)
part_by t inv e (over c j) = of_spill (cell_at t inv e 1) (min (spilled_at t inv e) (t.spill_len - cell_at t inv e 1))

-- the part, or the number by which hint refuses
unfoldable pub store_of : List ℕ → Summary → List ℕ → List ℕ → ℕ → Outcome Part
store_of ws t inv sp r =
    and_then (hint_of ws t inv sp r) (λ h. answer (part_by t inv (entry_of_rank t r) (place_at t inv (entry_of_rank t r) (mark_number t inv r))))

abbrev pub or_empty : Outcome Part → Part
or_empty (answer p) = p
or_empty (refused n) = empty

-- empty where hint refuses
unfoldable pub subinventory_of : List ℕ → Summary → List ℕ → List ℕ → ℕ → Part
subinventory_of ws t inv sp r = or_empty (store_of ws t inv sp r)

abbrev pub part_of : CellPart → Part
part_of (CellPartVariants.Inventory c n) = of_inventory c n
part_of (CellPartVariants.Spill c n) = of_spill c n

abbrev pub stored : Result CellPart Refusal → Outcome Part
stored r = and_then (outcome r) (λ p. answer (part_of p))

-- the part's cells are lent
abbrev pub PartIn : List ℕ → List ℕ → Part → Type 0
PartIn inv sp (of_inventory c n) = c + n ≤ length inv
PartIn inv sp (of_spill c n) = c + n ≤ length sp
PartIn inv sp empty = Unit {0}

-- the part's cells
abbrev pub cells_of : List ℕ → List ℕ → Part → List ℕ
cells_of inv sp (of_inventory c n) = take n (drop c inv)
cells_of inv sp (of_spill c n) = take n (drop c sp)
cells_of inv sp empty = []

-- how many cells it names
abbrev pub cell_count : Part → ℕ
cell_count (of_inventory c n) = n
cell_count (of_spill c n) = n
cell_count empty = 0

-- the address of cell c of a lent slice: its block and the offset in it
abbrev pub address_of : Bor (List ℕ) → ℕ → ℕ × ℕ
address_of s c = (s.ref_ptr.0, c * 8 + s.ref_ptr.1)

-- which slice, and which cell of it, the part's reference points at; an empty part may stand anywhere
abbrev pub PointsAt : Bor (List ℕ) → Bor (List ℕ) → Part → Bor (List ℕ) → Type 0
PointsAt inv sp (of_inventory c n) r = r.ref_ptr ≡ address_of inv c
PointsAt inv sp (of_spill c n) r = r.ref_ptr ≡ address_of sp c
PointsAt inv sp empty r = Unit {0}
