-- The rank of a sample, on any summary and cells. Document 02, W-206.
use Rattle.std.specs.Prelude.{Bool, not, List, ◌++◌, ℕ, ◌+◌, ◌-◌, ◌*◌, ◌^◌}
use Rattle.std.proofs.Math.Option.{Option, none, some}
use Rattle.rank_sel.specs.Outcome.{Outcome, answer, refuse_if, refuse_by}
use Rattle.rank_sel.specs.Rank.{rank_between}
use Rattle.rank_sel.specs.Step.{last_before}
use Rattle.bit_record.specs.Record.{selected, of_sample}
use Rattle.spacing.specs.Spacing.{L}
use Rattle.inventory.specs.Index.{entries_of}
use Rattle.inventory.specs.declared.summary.Summary.{Summary}
use Rattle.read_inventory.specs.Read.{start_at}
use Rattle.read_inventory.specs.Tests.{of_index}
use Rattle.rank_inventory.specs.Starts.{starts_rise, starts_by}

-- "from e × 2^L at the last entry start at or before it (or 0 at bit 0) and counted on": entry e starts at s e with rank e × per
abbrev pub rank_from : (ℕ → Bool) → (ℕ → ℕ) → ℕ → ℕ → Option ℕ → ℕ
rank_from f s per x none = rank_between f 0 x
rank_from f s per x (some e) = e * per + rank_between f (s e) x

-- "entry starts, read as in step 3, that fail to rise, or reach len, anywhere": the closing cell is none
unfoldable pub starts_unlawful : Summary → List ℕ → Bool
starts_unlawful t inv = not (starts_rise (start_at t inv) t.plan.len (entries_of t.plan))

-- of a position; on foreign cells too, this walk is the definition
unfoldable pub rank_at : List ℕ → Summary → List ℕ → ℕ → Outcome ℕ
rank_at ws t inv x =
    refuse_if (starts_unlawful t inv) 10
    (answer (rank_from (selected t.plan.polarity ws t.plan.len) (start_at t inv) (2 ^ L t.plan) x
    (last_before (starts_by (start_at t inv) x) (entries_of t.plan))))

-- of a sample
unfoldable pub rank_of : List ℕ → Summary → List ℕ → List ℕ → ℕ → Outcome ℕ
rank_of ws t inv sp x =
    refuse_by (of_index ws t inv sp ++ of_sample t.origin t.plan.len x) (rank_at ws t inv (x - t.origin))
