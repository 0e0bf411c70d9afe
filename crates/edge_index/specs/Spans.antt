-- What is promised of the list of spans. Document 02, W-204.
use Rattle.std.specs.Prelude.{List, ◌≡◌, ℕ, ◌+◌, ◌-◌, ◌/◌, ◌^◌, ◌≤◌, ◌<◌}
use Rattle.rank_sel.specs.Numbers.{ilog2}
use Rattle.rank_sel.specs.Outcome.{answer}
use Rattle.inventory.specs.Shape.{from_span, log2_ones_per_sub32}
use Rattle.inventory.specs.Spans.{taken_off}
use Rattle.inventory.specs.declared.shape.SpanType.TheVariants.{U32}
use Rattle.inventory.specs.declared.summary.Summary.{Summary}
use Rattle.read_inventory.specs.Read.{kind_at, mark_at, span_at}

pub record Spans : Type 0 where
  -- on every span of the list, what the logarithm gave: document 01's "ilog2(span div 32768)" and one
  pub logarithm : (span : ℕ) → 65537 ≤ span → span < 2 ^ 62 → taken_off span ≡ ilog2 (span / 32768) + 1
  -- and so its q
  pub spacing : (span s : ℕ) → 65537 ≤ span → span < 2 ^ 62 → log2_ones_per_sub32 span s ≡ s - ilog2 (span / 32768) - 1
  -- no other span is asked for: not by a build
  pub built : (span : ℕ) → from_span span ≡ U32 → (65537 ≤ span) × (span ≤ 2 ^ 32)
  -- nor where a mark is read, on any cells
  pub read : (t : Summary) (inv sp : List ℕ) (e i m : ℕ) → kind_at t inv e ≡ U32 → mark_at t inv sp e i ≡ answer m
      → (65537 ≤ span_at t inv e) × (span_at t inv e < 2 ^ 62)
