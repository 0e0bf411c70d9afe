-- The kinds of entries and all in which they differ. Document 01, "The build" and steps 3 to 6.
use Rattle.std.specs.Prelude.{cond, ◌≡◌, ℕ, ◌+◌, ◌-◌, ◌*◌, ◌^◌, ◌≤◌, leb}
use Rattle.rank_sel.specs.Numbers.{ceil_div}
use Rattle.inventory.specs.Spans.{taken_off}
use Rattle.inventory.specs.declared.shape.SpanType.{SpanType}
use Rattle.inventory.specs.declared.shape.SpanType.TheVariants.{U16, U32, U64}
use Rattle.inventory.specs.declared.shape.Shape.{Shape}

-- span to 65,536: U16; to 2^32: U32; above: U64
abbrev pub from_span : ℕ → SpanType
from_span span = cond (leb span 65536) U16 (cond (leb span (2 ^ 32)) U32 U64)

-- q of a U32 entry: S less the number that the list of spans takes off, or 0
unfoldable pub log2_ones_per_sub32 : ℕ → ℕ → ℕ
log2_ones_per_sub32 span s = s - taken_off span

-- q: neighbouring marks are 2^q ranks apart
abbrev pub log2_quantum : SpanType → ℕ → ℕ → ℕ
log2_quantum U16 span s = s
log2_quantum U32 span s = log2_ones_per_sub32 span s
log2_quantum U64 span s = 0

-- the cells that h marks spill, where 2^m cells stand after the entry's first
abbrev pub spilled_by : SpanType → ℕ → ℕ → ℕ
spilled_by U16 h m = 0
spilled_by U32 h m = ceil_div h 2 - (2 ^ m - 1)
spilled_by U64 h m = h - 2 ^ m

abbrev pub shape_of : SpanType → ℕ → Shape
shape_of U16 start = record { width = 16; lanes = 4; log2_lanes = 2; base = start; heads = 0; from = 0; tag = 0 }
shape_of U32 start = record { width = 32; lanes = 2; log2_lanes = 1; base = start; heads = 1; from = 0; tag = 2 ^ 63 }
shape_of U64 start = record { width = 64; lanes = 1; log2_lanes = 0; base = 0; heads = 1; from = 1; tag = 2 ^ 63 + 2 ^ 62 }

-- the lanes that stand in the entry's own cells, those before number `from` counted
abbrev pub near_by : Shape → ℕ → ℕ
near_by s m = s.from + (2 ^ m - s.heads) * s.lanes

-- what holds of every kind's shape: the lanes fill a cell, and are 1, 2 or 4
pub record Shaped (s : Shape) : Type 0 where
  pub cell : s.width * s.lanes ≡ 64
  pub lanes : 2 ^ s.log2_lanes ≡ s.lanes
  pub few : s.lanes ≤ 4
  pub heads : s.heads ≤ 1
  pub from : s.from ≤ 1
