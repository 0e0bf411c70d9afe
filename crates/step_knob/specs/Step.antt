-- The step knob: the edge at or after a sample, the edge before it, and a walker that goes from edge to edge. Document 02, W-206.
use Rattle.std.specs.Prelude as std
use Rattle.std.specs.Prelude.{List, ◌++◌, ℕ, ◌+◌, ◌-◌}
use Rattle.std.specs.Borrow.{Bor}
use Rattle.std.proofs.Math.Option.{Option, none, some}
use Rattle.rank_sel.specs.Outcome.{Outcome, answer, refused, Conditions, refuse_by}
use Rattle.rank_sel.specs.Step.{last_before, next_from}
use Rattle.bit_record.specs.Record.{selected, sample_at, of_record_from, of_sample}
use Rattle.bit_record.specs.declared.Polarity.{Polarity}
use Rattle.inventory.specs.Lawful.{of_summary}
use Rattle.inventory.specs.declared.summary.Summary.{Summary}
use Rattle.step_knob.specs.declared.walker.Walker.{Walker}

-- an edge, or none: a position as a sample number
abbrev pub edge_at : ℕ → Option ℕ → std.Option ℕ
edge_at origin (some p) = std.Some (sample_at origin p)
edge_at origin none = std.None

-- ---- by words and summary alone
-- 1, 14, 2, 9, 17
abbrev pub of_step : List ℕ → Summary → ℕ → Conditions
of_step ws t x = of_record_from ws t.plan.len t.origin ++ (of_summary t ++ of_sample t.origin t.plan.len x)

-- the first edge at or after a sample
abbrev pub edge_from : List ℕ → ℕ → Polarity → ℕ → ℕ → std.Option ℕ
edge_from ws len pol origin x = edge_at origin (next_from (selected pol ws len) len (x - origin))

-- the last before it
abbrev pub edge_before : List ℕ → ℕ → Polarity → ℕ → ℕ → std.Option ℕ
edge_before ws len pol origin x = edge_at origin (last_before (selected pol ws len) (x - origin))

unfoldable pub next_of : List ℕ → Summary → ℕ → Outcome (std.Option ℕ)
next_of ws t x = refuse_by (of_step ws t x) (answer (edge_from ws t.plan.len t.plan.polarity t.origin x))

unfoldable pub previous_of : List ℕ → Summary → ℕ → Outcome (std.Option ℕ)
previous_of ws t x = refuse_by (of_step ws t x) (answer (edge_before ws t.plan.len t.plan.polarity t.origin x))

-- ---- the walker
-- its place is a sample number: at first the one it is opened at
abbrev pub walker_at : Bor (List ℕ) → ℕ → Polarity → ℕ → ℕ → Walker
walker_at ws len pol origin x = record { words = ws; len = len; polarity = pol; origin = origin; place = x }

unfoldable pub open_of : Bor (List ℕ) → Summary → ℕ → Outcome Walker
open_of ws t x = refuse_by (of_step ws.now t x) (answer (walker_at ws t.plan.len t.plan.polarity t.origin x))

-- the walker handed in is tested for 1, 14, 2 and 17
abbrev pub of_turn : List ℕ → ℕ → ℕ → ℕ → Conditions
of_turn ws len origin x = of_record_from ws len origin ++ of_sample origin len x

-- the edge that a turn gives: the first at or after the walker's place
unfoldable pub turn_of : List ℕ → ℕ → Polarity → ℕ → ℕ → Outcome (std.Option ℕ)
turn_of ws len pol origin x = refuse_by (of_turn ws len origin x) (answer (edge_from ws len pol origin x))

-- one past the edge; with none left, and on a refusal, it stays
abbrev pub place_after : Outcome (std.Option ℕ) → ℕ → ℕ
place_after (answer (std.Some e)) x = e + 1
place_after (answer std.None) x = x
place_after (refused n) x = x

-- the walker handed back
abbrev pub walker_after : Walker → Walker
walker_after w =
    walker_at w.words w.len w.polarity w.origin (place_after (turn_of w.words.now w.len w.polarity w.origin w.place) w.place)
