-- Records to try: what the definitions give, beside what document 01 and the source say. Its starred lines, and the one that
-- document 02's W-205 adds, are marked *. Then lists, beside its W-201, origins, beside W-202, images, beside
-- W-203, steps, beside W-206, and limits, beside W-207.
use Rattle.std.specs.Prelude.{true, false, Option, Some, None, List, zero, suc, [], ◌∷◌, ◌++◌, map, ◌≡◌, ℕ, ◌+◌, ◌-◌, ◌^◌, pos, negsuc, length, take, drop, set, replicate}
use Rattle.std.specs.Float.{nan, inf, fin}
use Rattle.rank_sel.specs.Outcome.{Outcome, answer, refused}
use Rattle.select_in_word.specs.Select.{select_in_word}
use Rattle.select_in_word.specs.declared.One.{One}
use Rattle.bit_record.specs.Record.{count_of}
use Rattle.bit_record.specs.declared.Polarity.{Polarity}
use Rattle.bit_record.specs.declared.Polarity.TheVariants.{Ones, Zeros}
use Rattle.spacing.specs.Spacing.{as_f64, capped_log2_words, overhead_span, plan_of, span_log2}
use Rattle.spacing.specs.declared.Choice.{Choice}
use Rattle.spacing.specs.declared.Choice.TheVariants.{Default, Span, Power, Overhead, Fixed}
use Rattle.spacing.specs.declared.Parameters.{Parameters}
use Rattle.inventory.specs.Index.{inventory_len_of}
use Rattle.inventory.specs.Shape.{from_span, log2_ones_per_sub32}
use Rattle.inventory.specs.Spans.{taken_off}
use Rattle.inventory.specs.declared.shape.SpanType.TheVariants.{U16, U32, U64}
use Rattle.inventory.specs.declared.summary.Summary.{Summary}
use Rattle.build_inventory.specs.Build.{check_of}
use Rattle.read_inventory.specs.Jump.{select_of, hint_of, dwell_of, of_inventory, empty, subinventory_of}
use Rattle.select_list.specs.List.{Listed, list_of, sum_over}
use Rattle.select_list.specs.Step.{single_words}
use Rattle.rank_inventory.specs.Rank.{rank_of}
use Rattle.step_knob.specs.Step.{next_of, previous_of, turn_of, place_after}
use Rattle.index_image.specs.Bytes.{bytes_of}
use Rattle.index_image.specs.Image.{write_of, bytes_after, read_of}
use Rattle.edge_index.specs.Images.{inventory_left}
use Rattle.edge_index.specs.Promises.{build_answers, inventory_holds}

-- a value as defined, and as stated
pub data Line : Type 1 where
  line : {A : Type 0} → A → A → Line

-- each line's two values are one
abbrev pub Agree : List Line → Type 0
Agree [] = Unit {0}
Agree (line x y ∷ ls) = (x ≡ y) × Agree ls

-- polarity, len, N, L, M, S
abbrev pub parameters : Polarity → ℕ → ℕ → ℕ → ℕ → ℕ → Parameters
parameters pol len num l m s = record {
  polarity = pol;
  len = len;
  num = num;
  log2_ones_per_inventory = l;
  log2_words_per_subinventory = m;
  log2_ones_per_sub16 = s;
}

-- record A: word 0x252, len 10
abbrev pub A : List ℕ
A = 0x252 ∷ []

-- a summary: a plan, an origin and the two cell counts
abbrev pub summary_from : ℕ → Parameters → ℕ → ℕ → Summary
summary_from origin p cells spilled = record { plan = p; origin = origin; inventory_len = cells; spill_len = spilled }

abbrev pub summary : Parameters → ℕ → ℕ → Summary
summary = summary_from 0

-- A's index, ones and zeros, power L 1 maximum 0
abbrev pub ones_from : ℕ → Summary
ones_from origin = summary_from origin (parameters Ones 10 4 1 0 0) 5 0

abbrev pub ones_a : Summary
ones_a = ones_from 0

abbrev pub cells_a : List ℕ
cells_a = 1 ∷ 0x30000 ∷ 6 ∷ 0x30000 ∷ 10 ∷ []

abbrev pub zeros_a : Summary
zeros_a = summary (parameters Zeros 10 6 1 0 0) 7 0

-- what build answers and leaves in so many lent inventory cells, all ones before, and no spill
abbrev pub builds_from : ℕ → List ℕ → ℕ → Polarity → Choice → ℕ → Outcome Summary × List ℕ
builds_from origin ws len pol choice cells = (
  build_answers ws len origin pol choice (replicate cells (2 ^ 64 - 1)) [],
  inventory_holds ws len origin pol choice (replicate cells (2 ^ 64 - 1)) [],
)

abbrev pub builds : List ℕ → ℕ → Polarity → Choice → ℕ → Outcome Summary × List ℕ
builds = builds_from 0

-- what in-word select answers: a position, and how many ones remain above it
abbrev pub one : ℕ → ℕ → Outcome One
one p n = answer (record { position = p; remaining = n })

abbrev pub table : List Line
table =
    -- "Counting padding as zeros: A has 6"
    line (count_of A 10 Ones) (answer 4)
    ∷ line (count_of A 10 Zeros) (answer 6)
    -- the examples of refusals 1 and 2
    ∷ line (count_of A (2 ^ 62) Ones) (refused 1)
    ∷ line (count_of A 65 Ones) (refused 2)
    -- utils/select_in_word.rs
    ∷ line (select_in_word 0b1 0) (one 0 0)
    ∷ line (select_in_word 0b11 1) (one 1 0)
    ∷ line (select_in_word 0b101 1) (one 2 0)
    ∷ line (select_in_word 0x8000_0000_0000_0000 0) (one 63 0)
    ∷ line (select_in_word 0x8000_0000_8000_0000 0) (one 31 1)
    ∷ line (select_in_word 0x8000_0000_8000_0000 1) (one 63 0)
    ∷ line (select_in_word 0x252 4) (refused 8)
    -- * word 0x252, rank 1: 4 with 2 remaining; its last one and the last of all ones, with none
    ∷ line (select_in_word 0x252 1) (one 4 2)
    ∷ line (select_in_word 0x252 3) (one 9 0)
    ∷ line (select_in_word 0xffff_ffff_ffff_ffff 63) (one 63 0)
    -- * A ones, default: L 10, M 0, S 8
    ∷ line (plan_of A 10 Ones Default) (answer (parameters Ones 10 4 10 0 8))
    -- * N 3, len 10, span 5: L 1
    ∷ line (span_log2 3 5 10) 1
    -- * overhead 100.0, maximum 3: span 2,048; 10.0: 5,760
    ∷ line (overhead_span (as_f64 100) 3) 2048
    ∷ line (overhead_span (as_f64 10) 3) 5760
    -- the largest maximum; an infinite quotient gives 2^64 - 1
    ∷ line (overhead_span (as_f64 100) 10) 262144
    ∷ line (overhead_span (fin false 1 (negsuc 1073)) 10) (2 ^ 64 - 1)
    -- the least and the largest span
    ∷ line (span_log2 4 0 10) 0
    ∷ line (span_log2 10 (2 ^ 64 - 1) 10) 63
    -- M: each of its three bounds in turn
    ∷ line (capped_log2_words 1024 10 3) 3
    ∷ line (capped_log2_words 1024 4 10) 2
    ∷ line (capped_log2_words 9 63 10) 2
    -- the examples of refusals 3, 4 and 5, and their order
    ∷ line (plan_of A 10 Ones (Power 64 11)) (refused 3)
    ∷ line (plan_of A 10 Ones (Span 4096 11)) (refused 4)
    ∷ line (plan_of A 10 Ones (Overhead nan 11)) (refused 4)
    ∷ line (plan_of A 10 Ones (Overhead (fin false 0 (pos 0)) 3)) (refused 5)
    ∷ line (plan_of A 10 Ones (Overhead (fin true 0 (pos 0)) 3)) (refused 5)
    ∷ line (plan_of A 10 Ones (Overhead (inf false) 3)) (refused 5)
    -- * A, power L 1 maximum 0; * zeros, same choice; * ones, default
    ∷ line (builds A 10 Ones (Power 1 0) 5) (answer ones_a, cells_a)
    ∷ line (builds A 10 Zeros (Power 1 0) 7) (answer zeros_a, 0 ∷ 0x20000 ∷ 3 ∷ 0x20000 ∷ 7 ∷ 0x10000 ∷ 10 ∷ [])
    ∷ line (builds A 10 Ones Default 3) (answer (summary (parameters Ones 10 4 10 0 8) 3 0), 1 ∷ 0 ∷ 10 ∷ [])
    -- * len 0: inventory 1; * len 5 without ones: inventory 5
    ∷ line (builds [] 0 Ones Default 1) (answer (summary (parameters Ones 0 0 0 0 0) 1 0), 1 ∷ [])
    ∷ line (builds (0 ∷ []) 5 Ones Default 1) (answer (summary (parameters Ones 5 0 0 0 0) 1 0), 5 ∷ [])
    -- cells past the counts stay; 6 by one cell
    ∷ line (builds A 10 Ones (Power 1 0) 6) (answer ones_a, cells_a ++ ((2 ^ 64 - 1) ∷ []))
    ∷ line (builds A 10 Ones (Power 1 0) 4) (refused 6, replicate 4 (2 ^ 64 - 1))
    -- * spans 65,536, 65,537, 2^32, 2^32 + 1
    ∷ line (from_span 65536 ∷ from_span 65537 ∷ from_span (2 ^ 32) ∷ from_span (2 ^ 32 + 1) ∷ []) (U16 ∷ U32 ∷ U32 ∷ U64 ∷ [])
    -- * U32 spacing for S 8: span 65,537 gives 6, 131,072 gives 5; S 1 gives 0
    ∷ line (log2_ones_per_sub32 65537 8 ∷ log2_ones_per_sub32 131072 8 ∷ log2_ones_per_sub32 65537 1 ∷ []) (6 ∷ 5 ∷ 0 ∷ [])
    -- W-204, the ends of the first, the second and the last case: 65,537 to 131,071, to 262,143; 2^61 to 2^62 - 1
    ∷ line (map taken_off (65537 ∷ 131071 ∷ 131072 ∷ 262143 ∷ 2 ^ 61 ∷ (2 ^ 62 - 1) ∷ [])) (2 ∷ 2 ∷ 3 ∷ 3 ∷ 47 ∷ 47 ∷ [])
    -- A's ones by jump, and its dwell
    ∷ line (map (select_of A ones_a cells_a []) (0 ∷ 1 ∷ 2 ∷ 3 ∷ [])) (answer 1 ∷ answer 4 ∷ answer 6 ∷ answer 9 ∷ [])
    ∷ line (dwell_of A ones_a cells_a [] 0 3) (answer 8)
    -- check
    ∷ line (check_of A 10 0 Ones (Power 1 0) ones_a cells_a []) (answer true)
    ∷ line (check_of A 10 0 Ones (Power 1 0) zeros_a cells_a []) (answer false)
    ∷ line (check_of A 10 0 Ones (Power 1 0) ones_a (1 ∷ 0x30000 ∷ 6 ∷ 0x30000 ∷ 11 ∷ []) []) (answer false)
    -- the examples of refusals 6, 8, 9, 10 and 11
    ∷ line (select_of A ones_a (1 ∷ 0x30000 ∷ 6 ∷ 0x30000 ∷ []) [] 0) (refused 6)
    ∷ line (select_of A ones_a cells_a [] 4) (refused 8)
    ∷ line (select_of A (summary (parameters Ones 10 11 1 0 0) 13 0) cells_a [] 0) (refused 9)
    ∷ line (select_of A ones_a (0x8000000000000000 ∷ 0x30000 ∷ 6 ∷ 0x30000 ∷ 10 ∷ []) [] 0) (refused 10)
    ∷ line (dwell_of A ones_a cells_a [] 2 1) (refused 11)
    ∷ []

-- ---- lists
-- what a list answers: so many words read, and the samples
abbrev pub gives : ℕ → List ℕ → Outcome Listed
gives words ps = answer (record { samples = ps; total = words })

-- foreign cells: a record of four bits, two ranks, one entry
abbrev pub foreign : Summary
foreign = summary (parameters Ones 4 2 1 0 0) 3 0

abbrev pub lists : List Line
lists =
    -- A's ones: one word for all, where single jumps read one each
    line (list_of A ones_a cells_a [] (0 ∷ 1 ∷ 2 ∷ 3 ∷ []) 4) (gives 1 (1 ∷ 4 ∷ 6 ∷ 9 ∷ []))
    ∷ line (sum_over (single_words A ones_a cells_a []) (0 ∷ 1 ∷ 2 ∷ 3 ∷ [])) 4
    ∷ line (list_of A ones_a cells_a [] (3 ∷ 3 ∷ 3 ∷ []) 3) (gives 1 (9 ∷ 9 ∷ 9 ∷ []))
    ∷ line (list_of A ones_a cells_a [] [] 0) (gives 0 [])
    -- 12, 13 and 8, and their order
    ∷ line (list_of A ones_a cells_a [] (5 ∷ 4 ∷ []) 0) (refused 12)
    ∷ line (list_of A ones_a cells_a [] (4 ∷ 5 ∷ []) 1) (refused 13)
    ∷ line (list_of A ones_a cells_a [] (4 ∷ 5 ∷ []) 2) (refused 8)
    ∷ line (list_of A ones_a cells_a [] (0 ∷ 2 ∷ 1 ∷ 3 ∷ []) 4) (refused 12)
    -- on foreign cells the walk may give something else than single jumps
    ∷ line (list_of (0b0010 ∷ []) foreign (0 ∷ 0 ∷ 1 ∷ []) [] (0 ∷ 1 ∷ []) 2) (refused 10)
    ∷ line (map (select_of (0b0010 ∷ []) foreign (0 ∷ 0 ∷ 1 ∷ []) []) (0 ∷ 1 ∷ [])) (answer 1 ∷ answer 1 ∷ [])
    ∷ line (list_of (0b0111 ∷ []) foreign (0 ∷ 1 ∷ 4 ∷ []) [] (0 ∷ 1 ∷ []) 2) (gives 1 (1 ∷ 2 ∷ []))
    ∷ line (list_of (0b0001 ∷ []) foreign (0 ∷ 0 ∷ 4 ∷ []) [] (0 ∷ 1 ∷ []) 2) (gives 1 (0 ∷ 0 ∷ []))
    ∷ []

-- ---- origins
-- what jump answers for each of A's ones, from an origin on
abbrev pub jumps_from : ℕ → List (Outcome ℕ)
jumps_from origin = map (select_of A (ones_from origin) cells_a []) (0 ∷ 1 ∷ 2 ∷ 3 ∷ [])

abbrev pub origins : List Line
origins =
    -- A, origin 100: cells, the closing one and the dwell stay; jump, hint's mark and list are from the origin on
    line (builds_from 100 A 10 Ones (Power 1 0) 5) (answer (ones_from 100), cells_a)
    ∷ line (jumps_from 100) (answer 101 ∷ answer 104 ∷ answer 106 ∷ answer 109 ∷ [])
    ∷ line (hint_of A (ones_from 100) cells_a [] 3) (answer (record { mark = 109; rank = 3 }))
    ∷ line (dwell_of A (ones_from 100) cells_a [] 0 3) (answer 8)
    ∷ line (subinventory_of A (ones_from 100) cells_a [] 3) (of_inventory 3 1)
    ∷ line (list_of A (ones_from 100) cells_a [] (0 ∷ 1 ∷ 2 ∷ 3 ∷ []) 4) (gives 1 (101 ∷ 104 ∷ 106 ∷ 109 ∷ []))
    -- 14: the last that is accepted, the first that is not, no wrap, and an empty record
    ∷ line (builds_from (2 ^ 62 - 11) A 10 Ones (Power 1 0) 5) (answer (ones_from (2 ^ 62 - 11)), cells_a)
    ∷ line (builds_from (2 ^ 62 - 10) A 10 Ones (Power 1 0) 5) (refused 14, replicate 5 (2 ^ 64 - 1))
    ∷ line (builds_from (2 ^ 64 - 1) A 10 Ones (Power 1 0) 5) (refused 14, replicate 5 (2 ^ 64 - 1))
    ∷ line (builds_from (2 ^ 62) [] 0 Ones Default 1) (refused 14, replicate 1 (2 ^ 64 - 1))
    -- after 1, before 2
    ∷ line (builds_from (2 ^ 62) A (2 ^ 62) Ones Default 1) (refused 1, replicate 1 (2 ^ 64 - 1))
    ∷ line (builds_from (2 ^ 62) A 65 Ones Default 1) (refused 14, replicate 1 (2 ^ 64 - 1))
    -- check: another origin is a no, whatever it is; 14 is of the one handed in
    ∷ line (check_of A 10 100 Ones (Power 1 0) (ones_from 100) cells_a []) (answer true)
    ∷ line (check_of A 10 100 Ones (Power 1 0) (ones_from 0) cells_a []) (answer false)
    ∷ line (check_of A 10 100 Ones (Power 1 0) (ones_from (2 ^ 64 - 1)) cells_a []) (answer false)
    ∷ line (check_of A 10 (2 ^ 64 - 1) Ones (Power 1 0) (ones_from (2 ^ 64 - 1)) cells_a []) (refused 14)
    -- the readers, by the summary's
    ∷ line (jumps_from (2 ^ 62 - 10)) (refused 14 ∷ refused 14 ∷ refused 14 ∷ refused 14 ∷ [])
    ∷ line (hint_of A (ones_from (2 ^ 62 - 10)) cells_a [] 3) (refused 14)
    ∷ line (dwell_of A (ones_from (2 ^ 62 - 10)) cells_a [] 0 3) (refused 14)
    ∷ line (subinventory_of A (ones_from (2 ^ 62 - 10)) cells_a [] 3) empty
    ∷ line (list_of A (ones_from (2 ^ 62 - 10)) cells_a [] (0 ∷ []) 1) (refused 14)
    ∷ []

-- ---- steps
-- over cells of its counts, the rank of each of these samples; bit 0 is sample 100
abbrev pub ranks_of : List ℕ → List ℕ → List (Outcome ℕ)
ranks_of cells xs = map (rank_of A (ones_from 100) cells []) xs

-- what so many turns give in a record of ten bits from sample 100 on, and the places after them
abbrev pub turns : ℕ → ℕ → ℕ → List (Outcome (Option ℕ) × ℕ)
turns word zero x = []
turns word (suc n) x =
    (turn_of (word ∷ []) 10 Ones 100 x, place_after (turn_of (word ∷ []) 10 Ones 100 x) x)
    ∷ turns word n (place_after (turn_of (word ∷ []) 10 Ones 100 x) x)

abbrev pub steps : List Line
steps =
    -- how many of A's ones lie before each sample, not one that lies at it; 17 outside
    line (ranks_of cells_a (100 ∷ 101 ∷ 102 ∷ 104 ∷ 105 ∷ 109 ∷ 110 ∷ [])) (map answer (0 ∷ 0 ∷ 1 ∷ 1 ∷ 2 ∷ 3 ∷ 4 ∷ []))
    ∷ line (ranks_of cells_a (99 ∷ 111 ∷ [])) (refused 17 ∷ refused 17 ∷ [])
    -- on foreign cells the walk is the definition: a start at the sample is used, and bit 0 where none lies at or before it
    ∷ line (ranks_of (0 ∷ 0 ∷ 1 ∷ 0 ∷ 10 ∷ []) (100 ∷ 101 ∷ 102 ∷ 110 ∷ [])) (map answer (0 ∷ 2 ∷ 3 ∷ 6 ∷ []))
    ∷ line (ranks_of (4 ∷ 0 ∷ 6 ∷ 0 ∷ 10 ∷ []) (102 ∷ [])) (answer 1 ∷ [])
    -- 10, where the sample lies before them too: equal starts, falling ones, one at len, one past 2^62 by a cell with top bit 0
    ∷ line (ranks_of (1 ∷ 0 ∷ 1 ∷ 0 ∷ 10 ∷ []) (100 ∷ [])) (refused 10 ∷ [])
    ∷ line (ranks_of (6 ∷ 0 ∷ 1 ∷ 0 ∷ 10 ∷ []) (100 ∷ [])) (refused 10 ∷ [])
    ∷ line (ranks_of (1 ∷ 0 ∷ 10 ∷ 0 ∷ 10 ∷ []) (100 ∷ [])) (refused 10 ∷ [])
    ∷ line (ranks_of (1 ∷ 0 ∷ (2 ^ 62 + 1) ∷ 0 ∷ 10 ∷ []) (100 ∷ [])) (refused 10 ∷ [])
    -- the closing cell is no start: it may be anything
    ∷ line (ranks_of (1 ∷ 0x30000 ∷ 6 ∷ 0x30000 ∷ 0 ∷ []) (110 ∷ [])) (answer 4 ∷ [])
    -- 7 and 9 before 17, 17 before 10
    ∷ line (rank_of A (record { plan = (ones_from 100).plan; origin = 100; inventory_len = 5; spill_len = 1 }) cells_a [] 99) (refused 7)
    ∷ line (next_of A (summary_from 100 (parameters Ones 10 11 1 0 0) 13 0) 99) (refused 9)
    ∷ line (ranks_of (6 ∷ 0 ∷ 1 ∷ 0 ∷ 10 ∷ []) (99 ∷ [])) (refused 17 ∷ [])
    -- next and previous: from a sample on, and before it
    ∷ line (map (next_of A (ones_from 100)) (101 ∷ 110 ∷ 99 ∷ 111 ∷ [])) (answer (Some 101) ∷ answer None ∷ refused 17 ∷ refused 17 ∷ [])
    ∷ line (map (previous_of A (ones_from 100)) (101 ∷ 110 ∷ 99 ∷ 111 ∷ []))
    (answer None ∷ answer (Some 109) ∷ refused 17 ∷ refused 17 ∷ [])
    -- turns to none, which stays; and a walker outside of its record
    ∷ line (turns 0x252 4 105) ((answer (Some 106), 107) ∷ (answer (Some 109), 110) ∷ (answer None, 110) ∷ (answer None, 110) ∷ [])
    ∷ line (turns 0b10 2 104) ((answer None, 104) ∷ (answer None, 104) ∷ [])
    ∷ line (turns 0x252 1 99) ((refused 17, 99) ∷ [])
    ∷ []

-- ---- images
-- the eleven fields of A's index, origin 100, and its cells
abbrev pub fields_a : List ℕ
fields_a = 0 ∷ 10 ∷ 4 ∷ 100 ∷ 1 ∷ 0 ∷ 0 ∷ 5 ∷ 88 ∷ 0 ∷ 128 ∷ []

abbrev pub image_a : List ℕ
image_a = bytes_of (fields_a ++ cells_a)

-- the same with another number for field i
abbrev pub bent : ℕ → ℕ → List ℕ
bent i n = bytes_of (set fields_a i n ++ cells_a)

abbrev pub full : List ℕ
full = replicate 6 (2 ^ 64 - 1)

-- what reading answers and leaves in six lent cells, all ones before, and no spill
abbrev pub opens : List ℕ → Outcome Summary × List ℕ
opens bytes = (read_of bytes full [], inventory_left bytes full [])

-- N about 2^61, L 0, M 7: the inventory count is 33 modulo 2^64 only
abbrev pub wrapped : Summary
wrapped = summary (parameters Ones (2 ^ 62 - 1) 2287968257204285472 0 7 0) 33 0

abbrev pub images : List Line
images =
    -- A, origin 100: 128 bytes, the lowest of a field first
    line (write_of (ones_from 100) cells_a [] 128) (answer image_a)
    ∷ line (length image_a) 128
    ∷ line (take 8 (drop 24 image_a)) (100 ∷ 0 ∷ 0 ∷ 0 ∷ 0 ∷ 0 ∷ 0 ∷ 0 ∷ [])
    ∷ line (take 8 (drop 96 image_a)) (0 ∷ 0 ∷ 3 ∷ 0 ∷ 0 ∷ 0 ∷ 0 ∷ 0 ∷ [])
    -- what lies past stays
    ∷ line (bytes_after (write_of (ones_from 100) cells_a [] 130) (replicate 130 255)) (image_a ++ (255 ∷ 255 ∷ []))
    -- 16, and the order before it: 1, 14, 9, 6, 7
    ∷ line (write_of (ones_from 100) cells_a [] 127) (refused 16)
    ∷ line (write_of (summary (parameters Ones (2 ^ 62) 11 1 0 0) 5 0) [] [] 0) (refused 1)
    ∷ line (write_of (summary_from (2 ^ 62 - 10) (parameters Ones 10 11 1 0 0) 5 0) [] [] 0) (refused 14)
    ∷ line (write_of (summary (parameters Ones 10 11 1 0 0) 5 0) [] [] 0) (refused 9)
    ∷ line (write_of wrapped [] [] 0) (refused 9)
    ∷ line (write_of (ones_from 100) [] [] 0) (refused 6)
    ∷ line (write_of (summary (parameters Ones 10 4 1 0 0) 5 1) cells_a [] 0) (refused 7)
    -- read back; cells past the count stay
    ∷ line (opens image_a) (answer (ones_from 100), cells_a ++ ((2 ^ 64 - 1) ∷ []))
    -- reading is no check: any cells are taken
    ∷ line (opens (bytes_of (fields_a ++ replicate 5 7))) (answer (ones_from 100), replicate 5 7 ++ ((2 ^ 64 - 1) ∷ []))
    -- 15: no header, a byte less or more, a third polarity, L over 32 bits, an offset or a count not by the rule
    ∷ line (opens []) (refused 15, full)
    ∷ line (opens (take 87 image_a)) (refused 15, full)
    ∷ line (opens (take 127 image_a)) (refused 15, full)
    ∷ line (opens (image_a ++ (0 ∷ []))) (refused 15, full)
    ∷ line (opens (bent 0 2)) (refused 15, full)
    ∷ line (opens (bent 4 (2 ^ 32 + 1))) (refused 15, full)
    ∷ line (opens (bent 8 96)) (refused 15, full)
    ∷ line (opens (bent 10 136)) (refused 15, full)
    ∷ line (opens (bent 9 1)) (refused 15, full)
    -- by 1, 14 and 9
    ∷ line (opens (bent 1 (2 ^ 62))) (refused 15, full)
    ∷ line (opens (bent 3 (2 ^ 62 - 10))) (refused 15, full)
    ∷ line (opens (bent 2 11)) (refused 15, full)
    -- and an inventory count that is right modulo 2^64 only
    ∷ line (opens (bytes_of ((0 ∷ (2 ^ 62 - 1) ∷ 2287968257204285472 ∷ 0 ∷ 0 ∷ 7 ∷ 0 ∷ 33 ∷ 88 ∷ 0 ∷ 352 ∷ []) ++ replicate 33 0))) (refused 15, full)
    -- before 6, and 6 itself
    ∷ line (read_of (take 127 image_a) [] []) (refused 15)
    ∷ line (read_of image_a (replicate 4 0) []) (refused 6)
    ∷ []

-- ---- limits
-- A's plan, where 10 is given, and 11
abbrev pub at_limit : (ℕ → Choice) → List (Outcome Parameters)
at_limit choice = map (λ m. plan_of A 10 Ones (choice m)) (10 ∷ 11 ∷ [])

-- the image of ten bits without an edge, at this M
abbrev pub edgeless : ℕ → List ℕ
edgeless m = bytes_of (0 ∷ 10 ∷ 0 ∷ 0 ∷ 0 ∷ m ∷ 0 ∷ 1 ∷ 88 ∷ 0 ∷ 96 ∷ 10 ∷ [])

abbrev pub limits : List Line
limits =
    -- 4: 10 is the last that may be given, in all four choices; L is up to 63, and S to 61
    line (at_limit (Span 4096)) (answer (parameters Ones 10 4 10 0 8) ∷ refused 4 ∷ [])
    ∷ line (at_limit (Power 63)) (answer (parameters Ones 10 4 63 0 61) ∷ refused 4 ∷ [])
    ∷ line (at_limit (Overhead (as_f64 100))) (answer (parameters Ones 10 4 16 0 14) ∷ refused 4 ∷ [])
    ∷ line (at_limit (Fixed 63)) (answer (parameters Ones 10 4 63 10 51) ∷ refused 4 ∷ [])
    -- check: 4 is of the choice handed in; a summary with such an M is a no
    ∷ line (check_of A 10 0 Ones (Power 1 11) ones_a cells_a []) (refused 4)
    ∷ line (check_of A 10 0 Ones (Power 1 0) (summary (parameters Ones 10 4 1 11 0) 4099 0) cells_a []) (answer false)
    -- 9, where all else is by the rules
    ∷ line (select_of A (summary (parameters Ones 10 4 1 10 0) 2051 0) [] [] 0) (refused 6)
    ∷ line (select_of A (summary (parameters Ones 10 4 1 11 0) 4099 0) [] [] 0) (refused 9)
    -- 15: an older image, with an M over 10
    ∷ line (opens (edgeless 10)) (answer (summary (parameters Ones 10 0 0 10 0) 1 0), 10 ∷ replicate 5 (2 ^ 64 - 1))
    ∷ line (opens (edgeless 11)) (refused 15, full)
    -- size's 6: the last count below 2^64, and the next
    ∷ line (inventory_len_of (parameters Ones 17996823486545904 17996823486545904 0 10 0)) (2 ^ 64 - 15)
    ∷ line (inventory_len_of (parameters Ones 17996823486545905 17996823486545905 0 10 0)) (2 ^ 64 + 1010)
    ∷ []

-- ---- all of them
pub record WorkedRecords : Type 0 where
  pub starred : Agree table
  pub of_lists : Agree lists
  pub of_origins : Agree origins
  pub of_steps : Agree steps
  pub of_images : Agree images
  pub of_limits : Agree limits
