-- Cutting a logarithm to 32 bits alters no answer: a larger one is refusal 3 of a choice, 9 of a summary and a no of check,
-- cut or not. src/laws.rt says so of the numbers as the calls read them and as they were handed in.
use Rattle.std.specs.Prelude.{List, ◌≡◌, ℕ, Float}
use Rattle.std.specs.Borrow.{Bor}
use Rattle.bit_record.specs.declared.Polarity.{Polarity}
use Rattle.spacing.specs.Spacing.{plan_of}
use Rattle.spacing.specs.declared.Choice.{Choice}
use Rattle.inventory.specs.Numbers.{summary_by}
use Rattle.inventory.specs.declared.summary.Summary.{Summary}
use Rattle.build_inventory.specs.Build.{size_of, build_of, check_of}
use Rattle.read_inventory.specs.Jump.{select_of, hint_of, dwell_of, store_of}
use Rattle.select_list.specs.List.{list_of}
use Rattle.rank_inventory.specs.Rank.{rank_of}
use Rattle.step_knob.specs.Step.{next_of, previous_of, open_of}
use Rattle.index_image.specs.Image.{write_of}
use Rattle.edge_index_c.specs.Codes.{choice_by}

-- a logarithm as it was handed in
abbrev pub uncut : ℕ → ℕ
uncut n = n

-- the choice and the summary of numbers whose logarithms are not cut
abbrev pub uncut_choice : ℕ → ℕ → Float → ℕ → Choice
uncut_choice kind value percentage log2 = choice_by uncut kind value percentage log2

abbrev pub uncut_summary : List ℕ → Summary
uncut_summary s = summary_by uncut s

-- two choices of which every call that takes one answers the same
pub record SameChoice (c d : Choice) : Type 0 where
  pub plan : (ws : List ℕ) (len : ℕ) (pol : Polarity) → plan_of ws len pol c ≡ plan_of ws len pol d
  pub size : (ws : List ℕ) (len : ℕ) (pol : Polarity) → size_of ws len pol c ≡ size_of ws len pol d
  pub build : (ws : List ℕ) (len origin : ℕ) (pol : Polarity) (cells spill : ℕ) → build_of ws len origin pol c cells spill ≡ build_of ws len origin pol d cells spill
  pub check : (ws : List ℕ) (len origin : ℕ) (pol : Polarity) (t : Summary) (inv sp : List ℕ) → check_of ws len origin pol c t inv sp ≡ check_of ws len origin pol d t inv sp

-- two summaries of which every call that takes one answers the same
pub record SameAnswers (t u : Summary) : Type 0 where
  pub check : (ws : List ℕ) (len origin : ℕ) (pol : Polarity) (c : Choice) (inv sp : List ℕ) → check_of ws len origin pol c t inv sp ≡ check_of ws len origin pol c u inv sp
  pub select : (ws inv sp : List ℕ) (r : ℕ) → select_of ws t inv sp r ≡ select_of ws u inv sp r
  pub hint : (ws inv sp : List ℕ) (r : ℕ) → hint_of ws t inv sp r ≡ hint_of ws u inv sp r
  pub store : (ws inv sp : List ℕ) (r : ℕ) → store_of ws t inv sp r ≡ store_of ws u inv sp r
  pub dwell : (ws inv sp : List ℕ) (a b : ℕ) → dwell_of ws t inv sp a b ≡ dwell_of ws u inv sp a b
  pub list : (ws inv sp ranks : List ℕ) (lent : ℕ) → list_of ws t inv sp ranks lent ≡ list_of ws u inv sp ranks lent
  pub rank : (ws inv sp : List ℕ) (x : ℕ) → rank_of ws t inv sp x ≡ rank_of ws u inv sp x
  pub next : (ws : List ℕ) (x : ℕ) → next_of ws t x ≡ next_of ws u x
  pub previous : (ws : List ℕ) (x : ℕ) → previous_of ws t x ≡ previous_of ws u x
  pub opened : (words : Bor (List ℕ)) (x : ℕ) → open_of words t x ≡ open_of words u x
  pub write : (inv sp : List ℕ) (lent : ℕ) → write_of t inv sp lent ≡ write_of u inv sp lent
