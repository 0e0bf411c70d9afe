-- Bits at or past len, and later words, alter no answer: on two lists of words that hold the same record every entry
-- answers alike, and build leaves the same cells.
use Rattle.std.specs.Prelude.{List, ◌≡◌, ℕ}
use Rattle.std.specs.Borrow.{Bor}
use Rattle.rank_sel.specs.Outcome.{answer, and_then}
use Rattle.bit_record.specs.Record.{count_of}
use Rattle.bit_record.specs.declared.Polarity.{Polarity}
use Rattle.spacing.specs.Spacing.{plan_of}
use Rattle.spacing.specs.declared.Choice.{Choice}
use Rattle.inventory.specs.declared.summary.Summary.{Summary}
use Rattle.build_inventory.specs.Build.{size_of, check_of}
use Rattle.read_inventory.specs.Jump.{select_of, hint_of, dwell_of, store_of}
use Rattle.select_list.specs.List.{list_of}
use Rattle.rank_inventory.specs.Rank.{rank_of}
use Rattle.step_knob.specs.Step.{next_of, previous_of, open_of, turn_of}
use Rattle.edge_index.specs.Promises.{build_answers, inventory_holds, spill_holds}

pub record Alike (len : ℕ) (ws vs : List ℕ) : Type 0 where
  pub count : (pol : Polarity) → count_of ws len pol ≡ count_of vs len pol
  pub plan : (pol : Polarity) (choice : Choice) → plan_of ws len pol choice ≡ plan_of vs len pol choice
  pub size : (pol : Polarity) (choice : Choice) → size_of ws len pol choice ≡ size_of vs len pol choice
  pub build : (origin : ℕ) (pol : Polarity) (choice : Choice) (inv sp : List ℕ) → build_answers ws len origin pol choice inv sp ≡ build_answers vs len origin pol choice inv sp
  pub build_inventory : (origin : ℕ) (pol : Polarity) (choice : Choice) (inv sp : List ℕ) → inventory_holds ws len origin pol choice inv sp ≡ inventory_holds vs len origin pol choice inv sp
  pub build_spill : (origin : ℕ) (pol : Polarity) (choice : Choice) (inv sp : List ℕ) → spill_holds ws len origin pol choice inv sp ≡ spill_holds vs len origin pol choice inv sp
  pub check : (origin : ℕ) (pol : Polarity) (choice : Choice) (t : Summary) (inv sp : List ℕ) → check_of ws len origin pol choice t inv sp ≡ check_of vs len origin pol choice t inv sp
  -- the summary's len is the one that counts
  pub select : (t : Summary) (inv sp : List ℕ) (r : ℕ) → t.plan.len ≡ len → select_of ws t inv sp r ≡ select_of vs t inv sp r
  pub hint : (t : Summary) (inv sp : List ℕ) (r : ℕ) → t.plan.len ≡ len → hint_of ws t inv sp r ≡ hint_of vs t inv sp r
  pub store : (t : Summary) (inv sp : List ℕ) (r : ℕ) → t.plan.len ≡ len → store_of ws t inv sp r ≡ store_of vs t inv sp r
  pub dwell : (t : Summary) (inv sp : List ℕ) (a b : ℕ) → t.plan.len ≡ len → dwell_of ws t inv sp a b ≡ dwell_of vs t inv sp a b
  pub list : (t : Summary) (inv sp ranks : List ℕ) (lent : ℕ) → t.plan.len ≡ len
      → list_of ws t inv sp ranks lent ≡ list_of vs t inv sp ranks lent
  pub rank : (t : Summary) (inv sp : List ℕ) (x : ℕ) → t.plan.len ≡ len → rank_of ws t inv sp x ≡ rank_of vs t inv sp x
  pub next : (t : Summary) (x : ℕ) → t.plan.len ≡ len → next_of ws t x ≡ next_of vs t x
  pub previous : (t : Summary) (x : ℕ) → t.plan.len ≡ len → previous_of ws t x ≡ previous_of vs t x
  -- a walker is opened over either alike, and then gives the same edges
  pub opened : (a b : Bor (List ℕ)) (t : Summary) (x : ℕ) → a.now ≡ ws → b.now ≡ vs → t.plan.len ≡ len
      → and_then (open_of a t x) (λ w. answer w.place) ≡ and_then (open_of b t x) (λ w. answer w.place)
  pub turn : (pol : Polarity) (origin x : ℕ) → turn_of ws len pol origin x ≡ turn_of vs len pol origin x
