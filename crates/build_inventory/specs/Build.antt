-- What size, build and check answer, and what the lent cells hold after a build. Document 01, "The build" and "When a call
-- is turned down". The words come in by what they select, and by whether they suffice.
use Rattle.std.specs.Prelude.{Bool, true, false, ◌&&◌, List, ◌++◌, ◌≡◌, ℕ, ◌-◌, ◌^◌, eqb, ltb, length, drop, Result}
use Rattle.rank_sel.specs.Outcome.{Outcome, answer, refused, outcome, refuse_if, refuse_by, and_then}
use Rattle.rank_sel.specs.declared.Refusal.{Refusal}
use Rattle.bit_record.specs.Record.{of_record_from}
use Rattle.bit_record.specs.declared.Polarity.{Polarity}
use Rattle.bit_record.specs.declared.Polarity.TheVariants.{Ones, Zeros}
use Rattle.spacing.specs.Spacing.{N, L, M, S, plan_of}
use Rattle.spacing.specs.declared.Choice.{Choice}
use Rattle.spacing.specs.declared.Parameters.{Parameters}
use Rattle.inventory.specs.Index.{inventory_len_of, inventory_of, spill_of, summary_of}
use Rattle.inventory.specs.declared.summary.Summary.{Summary}
use Rattle.build_inventory.specs.Compare.{same_index}
use Rattle.build_inventory.specs.Positions.{pos_in, spill_len_of}
use Rattle.build_inventory.specs.declared.Sizes.{Sizes}

-- ---- the sizes of a plan's index: 6 where the inventory has more cells than so many
unfoldable pub fitted : List ℕ → Parameters → ℕ → Outcome Sizes
fitted ws p most = refuse_if (ltb most (inventory_len_of p)) 6 (answer (record { inventory = inventory_len_of p; spill = spill_len_of ws p }))

-- ---- size: 1 to 5 as plan says; in it, 6 is an inventory count over 2^64 - 1
unfoldable pub size_of : List ℕ → ℕ → Polarity → Choice → Outcome Sizes
size_of ws len pol choice = and_then (plan_of ws len pol choice) (λ p. fitted ws p (2 ^ 64 - 1))

-- ---- build, where so many cells are lent for the inventory and for the spill: 6 and then 7 by the sizes of the plan's index
unfoldable pub build_from : List ℕ → ℕ → Parameters → ℕ → ℕ → Outcome Summary
build_from ws origin p cells spill =
    and_then (fitted ws p cells) (λ s. refuse_if (ltb spill s.spill) 7 (answer (summary_of (pos_in ws p) p origin)))

-- 1, 14 and 2 of a record from an origin on, then as plan says, then 6 and 7
unfoldable pub build_of : List ℕ → ℕ → ℕ → Polarity → Choice → ℕ → ℕ → Outcome Summary
build_of ws len origin pol choice cells spill =
    and_then (refuse_by (of_record_from ws len origin) (plan_of ws len pol choice)) (λ p. build_from ws origin p cells spill)

-- the index stands before what stood past it; on a refusal all is as it was
abbrev pub inventory_after : List ℕ → List ℕ → Outcome Summary → List ℕ
inventory_after ws inv (answer t) = inventory_of (pos_in ws t.plan) t.plan ++ drop t.inventory_len inv
inventory_after ws inv (refused n) = inv

abbrev pub spill_after : List ℕ → List ℕ → Outcome Summary → List ℕ
spill_after ws sp (answer t) = spill_of (pos_in ws t.plan) t.plan ++ drop t.spill_len sp
spill_after ws sp (refused n) = sp

-- a build whose outcome is o left these cells and answered r
pub record BuiltAs (ws : List ℕ) (o : Outcome Summary) (inv₀ inv sp₀ sp : List ℕ) (r : Result Summary Refusal) : Type 0 where
  pub answers : outcome r ≡ o
  pub inventory : inv ≡ inventory_after ws inv₀ o
  pub spill : sp ≡ spill_after ws sp₀ o

-- ---- check: yes where summary and cells are those that the build would write; 6 and 7 by the counts of record and choice
abbrev pub same_polarity : Polarity → Polarity → Bool
same_polarity Ones Ones = true
same_polarity Ones Zeros = false
same_polarity Zeros Ones = false
same_polarity Zeros Zeros = true

unfoldable pub same_plan : Parameters → Parameters → Bool
same_plan p q =
    same_polarity p.polarity q.polarity
    && eqb p.len q.len
    && eqb (N p) (N q)
    && eqb (L p) (L q)
    && eqb (M p) (M q)
    && eqb (S p) (S q)

unfoldable pub same_summary : Summary → Summary → Bool
same_summary t u =
    same_plan t.plan u.plan
    && eqb t.origin u.origin
    && eqb t.inventory_len u.inventory_len
    && eqb t.spill_len u.spill_len

unfoldable pub check_of : List ℕ → ℕ → ℕ → Polarity → Choice → Summary → List ℕ → List ℕ → Outcome Bool
check_of ws len origin pol choice t inv sp =
    and_then (build_of ws len origin pol choice (length inv) (length sp))
    (λ u. answer (same_summary t u && same_index (pos_in ws u.plan) u.plan inv sp))
