-- A list of jumps in one go, on any summary and cells. Document 02, W-201.
use Rattle.std.specs.Prelude.{Bool, false, ◌||◌, List, [], ◌∷◌, ◌++◌, map, ℕ, ◌+◌, ◌≤◌, ◌<◌, ltb, length, get_or, drop}
use Rattle.std.proofs.Math.Option.{Option, none}
use Rattle.rank_sel.specs.Outcome.{Outcome, answer, refused, Conditions, refuse_by, and_then}
use Rattle.bit_record.specs.Record.{sample_at}
use Rattle.spacing.specs.Spacing.{N}
use Rattle.inventory.specs.declared.summary.Summary.{Summary}
use Rattle.read_inventory.specs.Tests.{rank_too_large, of_index}
use Rattle.select_list.specs.Step.{Reached, Step, step_of}

-- ---- the walk over the ranks
-- the positions so far, the words read for them, and the last bit reached
pub record Walk : Type 0 where
  pub positions : List ℕ
  pub total : ℕ
  pub last : Option Reached

abbrev pub start : Walk
start = record { positions = []; total = 0; last = none }

abbrev pub after : Walk → Step → Walk
after w x = record { positions = w.positions ++ (x.position ∷ []); total = w.total + x.words; last = x.last }

unfoldable pub walk : List ℕ → Summary → List ℕ → List ℕ → Walk → List ℕ → Outcome Walk
walk ws t inv sp w [] = answer w
walk ws t inv sp w (r ∷ rs) = and_then (step_of ws t inv sp w.last r) (λ x. walk ws t inv sp (after w x) rs)

-- ---- the tests of a list: 12, 13, 8
-- a rank below the one before it, anywhere; the first stands after q
unfoldable pub falls_from : ℕ → List ℕ → Bool
falls_from q [] = false
falls_from q (r ∷ rs) = ltb r q || falls_from r rs

-- none is below 0
abbrev pub falls : List ℕ → Bool
falls ranks = falls_from 0 ranks

-- the same by neighbours, for the promise
abbrev pub NeverFalls : List ℕ → Type 0
NeverFalls ranks = (i : ℕ) → i + 1 < length ranks → get_or ranks i 0 ≤ get_or ranks (i + 1) 0

abbrev pub too_few_places : ℕ → List ℕ → Bool
too_few_places lent ranks = ltb lent (length ranks)

-- by N
unfoldable pub any_too_large : ℕ → List ℕ → Bool
any_too_large num [] = false
any_too_large num (r ∷ rs) = rank_too_large num r || any_too_large num rs

-- so many places are lent
abbrev pub of_list : ℕ → List ℕ → ℕ → Conditions
of_list num ranks lent = (falls ranks, 12) ∷ (too_few_places lent ranks, 13) ∷ (any_too_large num ranks, 8) ∷ []

-- ---- the list: the sample numbers of its positions, and the words read for them
pub record Listed : Type 0 where
  pub samples : List ℕ
  pub total : ℕ

abbrev pub samples_from : ℕ → Walk → List ℕ
samples_from origin w = map (sample_at origin) w.positions

abbrev pub listed : ℕ → Walk → Listed
listed origin w = record { samples = samples_from origin w; total = w.total }

unfoldable pub walk_of : List ℕ → Summary → List ℕ → List ℕ → List ℕ → Outcome Listed
walk_of ws t inv sp ranks = and_then (walk ws t inv sp start ranks) (λ w. answer (listed t.origin w))

unfoldable pub list_of : List ℕ → Summary → List ℕ → List ℕ → List ℕ → ℕ → Outcome Listed
list_of ws t inv sp ranks lent = refuse_by (of_index ws t inv sp ++ of_list (N t.plan) ranks lent) (walk_of ws t inv sp ranks)

abbrev pub total_of : Outcome Listed → Outcome ℕ
total_of o = and_then o (λ x. answer x.total)

-- what the lent places hold afterwards: the samples in front, the rest as it was; all as it was on a refusal
abbrev pub places_after : Outcome Listed → List ℕ → List ℕ
places_after (answer x) places = x.samples ++ drop (length x.samples) places
places_after (refused n) places = places

-- ---- single jumps
unfoldable pub sum_over : (ℕ → ℕ) → List ℕ → ℕ
sum_over v [] = 0
sum_over v (r ∷ rs) = v r + sum_over v rs
