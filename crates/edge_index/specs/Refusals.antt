-- Demand 1: each refusal is given exactly where its condition holds and none before it in the order does. Document 01,
-- "When a call is turned down", and document 02, W-201 to W-203 and W-206. The conditions are those that the definitions name.
use Rattle.std.specs.Prelude.{cond, ◌&&◌, List, [], ◌∷◌, ◌++◌, ◌↔◌, ◌≡◌, ℕ, ◌+◌, ◌-◌, ◌*◌, ◌^◌, ◌≤◌, ◌<◌, ltb, length}
use Rattle.std.proofs.Math.Option.{Option, none, some}
use Rattle.std.specs.Borrow.{Bor}
use Rattle.std.specs.Int.Count.{ones}
use Rattle.rank_sel.specs.Outcome.{Outcome, answer, refused, Conditions}
use Rattle.select_in_word.specs.Select.{select_in_word}
use Rattle.bit_record.specs.Record.{len_too_large, origin_too_large, too_few_words, sample_outside, num_selected, count_of}
use Rattle.bit_record.specs.declared.Polarity.{Polarity}
use Rattle.spacing.specs.Spacing.{N, max_log2_words, rule, plan_for, ones_per_inventory_too_large, words_per_subinventory_too_large, overhead_not_positive, plan_of}
use Rattle.spacing.specs.declared.Choice.{Choice}
use Rattle.spacing.specs.declared.Parameters.{Parameters}
use Rattle.inventory.specs.Index.{stride_by, inventory_len_of, summary_of}
use Rattle.inventory.specs.Lawful.{unlawful, inventory_too_short, spill_too_short}
use Rattle.inventory.specs.declared.summary.Summary.{Summary}
use Rattle.build_inventory.specs.Build.{size_of, build_of, same_summary, check_of}
use Rattle.build_inventory.specs.Compare.{same_index}
use Rattle.build_inventory.specs.Positions.{pos_in}
use Rattle.read_inventory.specs.Jump.{sample_of, select_of, hint_sample, hint_of, dwell_at, dwell_of, subinventory_of, PartIn, cells_of, cell_count}
use Rattle.read_inventory.specs.Read.{Hint, Only10}
use Rattle.read_inventory.specs.Tests.{rank_too_large, ranks_fall}
use Rattle.select_list.specs.List.{falls, too_few_places, any_too_large, walk_of, list_of, places_after}
use Rattle.rank_inventory.specs.Rank.{rank_at, rank_of}
use Rattle.step_knob.specs.Step.{edge_from, edge_before, next_of, previous_of, walker_at, open_of, turn_of, walker_after}
use Rattle.step_knob.specs.declared.walker.Walker.{Walker}
use Rattle.index_image.specs.Image.{image_of, place_too_short, write_of, bytes_after, inventory_in, spill_in, image_unlawful, read_of, cells_after, summary_in as summary_of_bytes}

-- the number of the first that holds
abbrev pub first_of : Conditions → Option ℕ
first_of [] = none
first_of (c ∷ cs) = cond c.0 (some c.1) (first_of cs)

-- an outcome is refused by the first condition that holds, and is the rest where none does
pub record InOrder {A : Type 0} (o : Outcome A) (cs : Conditions) (rest : Outcome A) : Type 0 where
  pub first : (n : ℕ) → first_of cs ≡ some n → o ≡ refused n
  pub else : first_of cs ≡ none → o ≡ rest

-- a number that is never said
abbrev pub Never : {A : Type 0} → ℕ → Outcome A → Type 0
Never n o = o ≡ refused n → ⊥

-- ---- of a record: 1, 2, and where it has an origin 1, 14, 2; and of a choice: 3, 4, 5
abbrev pub record_order : List ℕ → ℕ → Conditions
record_order ws len = (len_too_large len, 1) ∷ (too_few_words ws len, 2) ∷ []

abbrev pub record_from_order : List ℕ → ℕ → ℕ → Conditions
record_from_order ws len origin = (len_too_large len, 1) ∷ (origin_too_large origin len, 14) ∷ (too_few_words ws len, 2) ∷ []

abbrev pub choice_order : Choice → Conditions
choice_order choice =
    (ones_per_inventory_too_large (rule choice), 3)
    ∷ (words_per_subinventory_too_large (rule choice), 4)
    ∷ (overhead_not_positive (rule choice), 5)
    ∷ []

-- ---- of a summary and cells: 1, 14, 2, 9, 6, 7
abbrev pub cells_order : Summary → List ℕ → List ℕ → Conditions
cells_order t inv sp = (inventory_too_short t inv, 6) ∷ (spill_too_short t sp, 7) ∷ []

abbrev pub index_order : List ℕ → Summary → List ℕ → List ℕ → Conditions
index_order ws t inv sp =
    record_from_order ws t.plan.len t.origin
    ++ ((unlawful t, 9) ∷ cells_order t inv sp)

-- the plan of a record and a choice, where nothing turns them down
abbrev pub plan_in : List ℕ → ℕ → Polarity → Choice → Parameters
plan_in ws len pol choice = plan_for pol len (num_selected pol ws len) (rule choice)

module _ (ws : List ℕ) (len origin : ℕ) (pol : Polarity) (choice : Choice) where
  -- its summary
  abbrev pub summary_in : Summary
  summary_in = summary_of (pos_in ws (plan_in ws len pol choice)) (plan_in ws len pol choice) origin

  -- after the record's, those of the choice, then 6 where the inventory count is over so many cells
  abbrev pub to_six : Conditions → ℕ → Conditions
  to_six tests most = (tests ++ choice_order choice) ++ ((ltb most (inventory_len_of (plan_in ws len pol choice)), 6) ∷ [])

  -- 7 where the spill count is
  abbrev pub to_seven : ℕ → ℕ → Conditions
  to_seven cells spill = to_six (record_from_order ws len origin) cells ++ ((ltb spill summary_in.spill_len, 7) ∷ [])

  pub record MakersRefuse : Type 0 where
    pub count : InOrder (count_of ws len pol) (record_order ws len) (answer (num_selected pol ws len))
    pub plan : InOrder (plan_of ws len pol choice) (record_order ws len ++ choice_order choice) (answer (plan_in ws len pol choice))
    pub size : InOrder (size_of ws len pol choice) (to_six (record_order ws len) (2 ^ 64 - 1)) (answer (record { inventory = summary_in.inventory_len; spill = summary_in.spill_len }))
    -- these three take no origin, and never say 14
    pub count_14 : Never 14 (count_of ws len pol)
    pub plan_14 : Never 14 (plan_of ws len pol choice)
    pub size_14 : Never 14 (size_of ws len pol choice)
    -- size's 6, a count over 2^64 - 1, is met by vast records alone: by none of up to 17,996,823,486,545,904 bits
    pub size_6 : len * stride_by max_log2_words + 1 < 2 ^ 64 → Never 6 (size_of ws len pol choice)
    pub build : (cells spill : ℕ) → InOrder (build_of ws len origin pol choice cells spill) (to_seven cells spill) (answer summary_in)
    pub check : (t : Summary) (inv sp : List ℕ)
        → InOrder (check_of ws len origin pol choice t inv sp) (to_seven (length inv) (length sp))
        (answer (same_summary t summary_in && same_index (pos_in ws summary_in.plan) summary_in.plan inv sp))

module _ (ws : List ℕ) (t : Summary) (inv sp : List ℕ) where
  pub record ReadersRefuse : Type 0 where
    pub select : (r : ℕ) → InOrder (select_of ws t inv sp r) (index_order ws t inv sp ++ ((rank_too_large (N t.plan) r, 8) ∷ [])) (sample_of ws t inv sp r)
    pub select_10 : (r : ℕ) → Only10 (sample_of ws t inv sp r)
    pub hint : (r : ℕ) → InOrder (hint_of ws t inv sp r) (index_order ws t inv sp ++ ((rank_too_large (N t.plan) r, 8) ∷ [])) (hint_sample t inv sp r)
    pub hint_10 : (r : ℕ) → Only10 (hint_sample t inv sp r)
    -- 10 for a before b, then for a negative dwell
    pub dwell : (a b : ℕ) → InOrder (dwell_of ws t inv sp a b)
        (index_order ws t inv sp ++ ((rank_too_large (N t.plan) a, 8) ∷ (rank_too_large (N t.plan) b, 8) ∷ (ranks_fall a b, 11) ∷ []))
        (dwell_at ws t inv sp a b)
    pub dwell_10 : (a b : ℕ) → Only10 (dwell_at ws t inv sp a b)
    -- store's slice is empty exactly where hint refuses; where hint answers, the part has a cell; its cells are always lent
    pub store : (r : ℕ) → (cells_of inv sp (subinventory_of ws t inv sp r) ≡ []) ↔ ((n : ℕ) × (hint_of ws t inv sp r ≡ refused n))
    pub store_some : (r : ℕ) (h : Hint) → hint_of ws t inv sp r ≡ answer h → 0 < cell_count (subinventory_of ws t inv sp r)
    pub store_in : (r : ℕ) → PartIn inv sp (subinventory_of ws t inv sp r)
    -- 17 stands where 8 does elsewhere
    pub rank : (x : ℕ) → InOrder (rank_of ws t inv sp x) (index_order ws t inv sp ++ ((sample_outside t.origin t.plan.len x, 17) ∷ []))
        (rank_at ws t inv (x - t.origin))
    pub rank_10 : (x : ℕ) → Only10 (rank_at ws t inv x)
    -- 12, 13 and 8 for the whole list, before any rank is read
    pub list : (ranks : List ℕ) (lent : ℕ) → InOrder (list_of ws t inv sp ranks lent)
        (index_order ws t inv sp ++ ((falls ranks, 12) ∷ (too_few_places lent ranks, 13) ∷ (any_too_large (N t.plan) ranks, 8) ∷ []))
        (walk_of ws t inv sp ranks)
    pub list_10 : (ranks : List ℕ) → Only10 (walk_of ws t inv sp ranks)
    -- a refused list writes nothing; an empty one is answered where nothing turns the index down
    pub list_untouched : (ranks places : List ℕ) (n : ℕ) → list_of ws t inv sp ranks (length places) ≡ refused n
        → places_after (list_of ws t inv sp ranks (length places)) places ≡ places
    pub list_empty : (lent : ℕ) → first_of (index_order ws t inv sp) ≡ none
        → list_of ws t inv sp [] lent ≡ answer (record { samples = []; total = 0 })

-- ---- by words and summary alone: 1, 14, 2, 9, 17 of a sample, and 1, 14, 2, 17 of a walker
abbrev pub step_order : List ℕ → Summary → ℕ → Conditions
step_order ws t x =
    record_from_order ws t.plan.len t.origin ++ ((unlawful t, 9) ∷ (sample_outside t.origin t.plan.len x, 17) ∷ [])

abbrev pub turn_order : List ℕ → ℕ → ℕ → ℕ → Conditions
turn_order ws len origin x = record_from_order ws len origin ++ ((sample_outside origin len x, 17) ∷ [])

pub record StepsRefuse : Type 0 where
  pub next : (ws : List ℕ) (t : Summary) (x : ℕ) → InOrder (next_of ws t x) (step_order ws t x)
      (answer (edge_from ws t.plan.len t.plan.polarity t.origin x))
  pub previous : (ws : List ℕ) (t : Summary) (x : ℕ) → InOrder (previous_of ws t x) (step_order ws t x)
      (answer (edge_before ws t.plan.len t.plan.polarity t.origin x))
  pub opened : (words : Bor (List ℕ)) (t : Summary) (x : ℕ) → InOrder (open_of words t x) (step_order words.now t x)
      (answer (walker_at words t.plan.len t.plan.polarity t.origin x))
  pub turn : (ws : List ℕ) (len : ℕ) (pol : Polarity) (origin x : ℕ) → InOrder (turn_of ws len pol origin x)
      (turn_order ws len origin x) (answer (edge_from ws len pol origin x))
  -- a walker that is turned down is handed back as it was
  pub turn_untouched : (w : Walker) (n : ℕ) → turn_of w.words.now w.len w.polarity w.origin w.place ≡ refused n → walker_after w ≡ w

-- ---- of images: 1, 14, 9, 6, 7, 16 in writing, 15, 6, 7 in reading; a refusal leaves bytes and cells as they were
pub record ImagesRefuse : Type 0 where
  pub write : (t : Summary) (inv sp : List ℕ) (lent : ℕ) → InOrder (write_of t inv sp lent)
      ((len_too_large t.plan.len, 1) ∷ (origin_too_large t.origin t.plan.len, 14) ∷ (unlawful t, 9) ∷ (cells_order t inv sp
      ++ ((place_too_short t inv sp lent, 16) ∷ [])))
      (answer (image_of t inv sp))
  pub write_untouched : (t : Summary) (inv sp bytes : List ℕ) (n : ℕ) → write_of t inv sp (length bytes) ≡ refused n
      → bytes_after (write_of t inv sp (length bytes)) bytes ≡ bytes
  pub read : (bytes inv sp : List ℕ) → InOrder (read_of bytes inv sp)
      ((image_unlawful bytes, 15) ∷ cells_order (summary_of_bytes bytes) inv sp) (answer (summary_of_bytes bytes))
  pub read_untouched : (bytes inv sp : List ℕ) (n : ℕ) → read_of bytes inv sp ≡ refused n
      → (cells_after (read_of bytes inv sp) (inventory_in bytes) inv ≡ inv) × (cells_after (read_of bytes inv sp) (spill_in bytes) sp ≡ sp)

-- in-word select: 8 exactly where the rank is not below the word's ones
abbrev pub InWordRefuses : Type 0
InWordRefuses = (w k : ℕ) → w < 2 ^ 64 → (select_in_word w k ≡ refused 8) ↔ (ones w ≤ k)
