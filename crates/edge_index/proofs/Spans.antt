-- The list is the logarithm (`as_logarithm`); a shorter span is no U32 entry's, or 10, and 62 bits hold no longer one.
use mathlib.Core.List.{List}
use mathlib.Core.Path.{◌≡◌}
use Prim.Native.Nat.{ℕ, ◌^◌, ◌≤◌, ◌<◌}
use native.Mathlib.Nat.{mod-lt}
use native.Mathlib.Omega.{arith}
use lib.Pow.{pow_pos}
use borrow.Author.Tests.{ltb-false}
use Rattle.rank_sel.specs.Outcome.{answer}
use Rattle.rank_sel.proofs.Outcome.{not_refused}
use Rattle.inventory.specs.Index.{stride}
use Rattle.inventory.specs.Shape.{from_span, log2_ones_per_sub32}
use Rattle.inventory.specs.declared.shape.SpanType.TheVariants.{U32}
use Rattle.inventory.specs.declared.summary.Summary.{Summary}
use Rattle.inventory.proofs.Doublings.{as_logarithm}
use Rattle.inventory.proofs.Marks.{room_of}
use Rattle.read_inventory.specs.Read.{cell_at, kind_at, mark_at, span_at, span_too_small}
use Rattle.read_inventory.proofs.ReadBack.{span_fits}
use Rattle.edge_index.specs.Spans.{Spans}

built : (span : ℕ) → from_span span ≡ U32 → (65537 ≤ span) × (span ≤ 2 ^ 32)
built span k = (ltb-false span 65537 (rw k at (span_fits span)), rw k at (room_of span))

module _ (t : Summary) (inv : List ℕ) (e : ℕ) where
  long_enough : (sp : List ℕ) (i m : ℕ) → kind_at t inv e ≡ U32 → mark_at t inv sp e i ≡ answer m → 65537 ≤ span_at t inv e
  unfolding mark_at
  long_enough sp i m k a =
      ltb-false (span_at t inv e) 65537 (rw k at (not_refused (span_too_small (kind_at t inv e) (span_at t inv e)) 10 _ m a).0)

  short_enough : span_at t inv e < 2 ^ 62
  unfolding span_at
  short_enough = omega (arith, mod-lt (cell_at t inv e (stride t.plan)) (pow_pos 62))

pub spans : Spans
unfolding log2_ones_per_sub32
spans = record {
  logarithm = λ span l h. as_logarithm span l (omega arith);
  spacing = λ span s l h. omega (arith, as_logarithm span l h);
  built = built;
  read = λ t inv sp e i m k a. (omega (arith, long_enough t inv e sp i m k a), short_enough t inv e);
}
