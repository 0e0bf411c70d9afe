-- What the values that the reading code hands on stand for, in the words of Read.
use Rattle.std.specs.Prelude.{Bool, true, false, List, ◌≡◌, ℕ, ◌+◌, ◌*◌, ◌^◌, ◌≤◌, ◌<◌, length}
use Rattle.rank_sel.specs.Outcome.{Outcome, answer, refuse_if, and_then}
use Rattle.spacing.specs.Spacing.{max_log2_words, N, L, M}
use Rattle.spacing.specs.declared.Parameters.{Parameters}
use Rattle.inventory.specs.Index.{stride}
use Rattle.inventory.specs.declared.shape.Shape.{Shape}
use Rattle.inventory.specs.declared.summary.Summary.{Summary}
use Rattle.read_inventory.specs.Read.{kind_at, start_at, span_at, quantum_at, Place, start, own, over, place_by, place_at, number_at, span_too_small, mark_at, entry_of_rank, mark_number, residual, is_u64, Mark}
use Rattle.read_inventory.specs.declared.decode.Decoded.{Decoded}
use Rattle.read_inventory.specs.declared.decode.Head.{Head}
use Rattle.read_inventory.specs.declared.decode.Number.{Number}
use Rattle.read_inventory.specs.declared.decode.Spot.{Spot}
use Rattle.read_inventory.specs.declared.decode.Spot.TheVariants as SpotVariants

-- ---- step 3
abbrev pub head_of : Summary → List ℕ → ℕ → Head
head_of t inv e = record { entry = e; cell = e * stride t.plan; kind = kind_at t inv e; start = start_at t inv e }

-- the entry's cells and the next one's first are lent
pub record EntryLent (t : Summary) (inv : List ℕ) (e : ℕ) : Type 0 where
  pub small_m : M t.plan ≤ max_log2_words
  pub within : e * stride t.plan + stride t.plan < length inv

-- a head as it was read
pub record HeadIn (t : Summary) (inv : List ℕ) (h : Head) : Type 0 where
  pub lent : EntryLent t inv h.entry
  pub read : h ≡ head_of t inv h.entry

-- q, or 10
unfoldable pub spacing_at : Summary → List ℕ → ℕ → Outcome ℕ
spacing_at t inv e = refuse_if (span_too_small (kind_at t inv e) (span_at t inv e)) 10 (answer (quantum_at t inv e))

-- ---- steps 4 to 6
-- a spot counts its cell from the first that holds lanes: the entry's own from c on, its spilled ones from o on
abbrev pub spot_place : Spot → ℕ → ℕ → Place
spot_place SpotVariants.Start c o = start
spot_place (SpotVariants.Own n j) c o = own (c + n) j
spot_place (SpotVariants.Over n j) c o = over (o + n) j

-- its own cell is one of the entry's 2^m, and its lane is in the cell
abbrev pub spot_in : Shape → ℕ → Spot → Type 0
spot_in s m SpotVariants.Start = Unit {0}
spot_in s m (SpotVariants.Own n j) = (s.heads + n < 2 ^ m) × (j < s.lanes)
spot_in s m (SpotVariants.Over n j) = j < s.lanes

pub record SpotFor (s : Shape) (m i : ℕ) (p : Spot) : Type 0 where
  pub place : (c o : ℕ) → spot_place p c o ≡ place_by s m c o i
  pub within : spot_in s m p

abbrev pub is_over : Place → Bool
is_over start = false
is_over (own c j) = false
is_over (over c j) = true

-- the number of mark i of entry e, and whether it is spilled
abbrev pub number_of_mark : Summary → List ℕ → List ℕ → ℕ → ℕ → Outcome Number
number_of_mark t inv sp e i =
    and_then (number_at t inv sp e (place_at t inv e i)) (λ n. answer (record { value = n; spilled = is_over (place_at t inv e i) }))

-- ---- steps 2 to 6
-- what is decoded of rank r, whose mark is p
abbrev pub decoded_by : Summary → List ℕ → ℕ → ℕ → Decoded
decoded_by t inv r p = record {
  head = head_of t inv (entry_of_rank t r);
  log2_quantum = quantum_at t inv (entry_of_rank t r);
  mark = p;
  residual = residual t inv r;
  spilled = is_over (place_at t inv (entry_of_rank t r) (mark_number t inv r));
}

unfoldable pub decode_of : Summary → List ℕ → List ℕ → ℕ → Outcome Decoded
decode_of t inv sp r = and_then (mark_at t inv sp (entry_of_rank t r) (mark_number t inv r)) (λ p. answer (decoded_by t inv r p))

-- what is decoded says the mark too
abbrev pub mark_by : Decoded → Mark
mark_by d = record { at = d.mark; residual = d.residual; exact = is_u64 d.head.kind }

-- what counting an entry's spilled cells asks of a plan and of what was decoded
pub record Countable (p : Parameters) (d : Decoded) : Type 0 where
  pub few : N p < 2 ^ 62
  pub small_l : L p ≤ 63
  pub small_m : M p < 64
  pub small_q : d.log2_quantum < 64
  pub begun : d.head.entry * 2 ^ L p ≤ N p
