-- Demand 2: on an index that has demand 3, the readers answer each rank below N, and lists of them, with the sample numbers
-- from the origin on; they refuse by 8, 11, 12 and 13 alone. Rank answers each sample with the count of edges before it, and
-- refuses by 17 alone.
use Rattle.std.specs.Prelude.{true, false, Some, None, List, ◌↔◌, ◌≡◌, ℕ, ◌+◌, ◌-◌, ◌/◌, ◌%◌, ◌^◌, ◌≤◌, ◌<◌, length, get_or, drop}
use Rattle.rank_sel.specs.Outcome.{answer, refused}
use Rattle.rank_sel.specs.Rank.{rank}
use Rattle.bit_record.specs.Record.{selected, bit_of, sample_at, sample_outside}
use Rattle.bit_record.specs.declared.Polarity.{Polarity}
use Rattle.spacing.specs.Spacing.{N, L}
use Rattle.spacing.specs.declared.Parameters.{Parameters}
use Rattle.inventory.specs.declared.summary.Summary.{Summary}
use Rattle.read_inventory.specs.Read.{Place, start, own, over, place_at, mark_number}
use Rattle.read_inventory.specs.Jump.{select_of, hint_of, dwell_of, Part, of_inventory, of_spill, empty, subinventory_of}
use Rattle.select_list.specs.List.{falls, NeverFalls, any_too_large, Listed, list_of, places_after, sum_over}
use Rattle.select_list.specs.Step.{single_words}
use Rattle.rank_inventory.specs.Rank.{rank_of}
use Rattle.step_knob.specs.Step.{next_of}
use Rattle.edge_index.specs.Sound.{Bit, q_of, mark_rank}

-- a part of the cells has the cell at a place; a U64 entry's start is not one of its numbers, and goes with its own cells
abbrev pub Within : Place → Part → Type 0
Within start (of_inventory c n) = Unit {0}
Within start (of_spill c n) = ⊥
Within start empty = ⊥
Within (own a j) (of_inventory c n) = (c ≤ a) × (a < c + n)
Within (own a j) (of_spill c n) = ⊥
Within (own a j) empty = ⊥
Within (over a j) (of_inventory c n) = ⊥
Within (over a j) (of_spill c n) = (c ≤ a) × (a < c + n)
Within (over a j) empty = ⊥

-- ranks that never fall, each below num, and a place for each among so many lent
pub record Answerable (num : ℕ) (ranks : List ℕ) (lent : ℕ) : Type 0 where
  pub rising : NeverFalls ranks
  pub below : (i : ℕ) → i < length ranks → get_or ranks i 0 < num
  pub room : length ranks ≤ lent

-- the rank of the mark from which a jump to rank r starts: that of r's place in its entry
abbrev pub mark_of : (ℕ → ℕ) → Parameters → ℕ → ℕ
mark_of pos p r = mark_rank pos p (r / 2 ^ L p) (r % 2 ^ L p / 2 ^ q_of pos p (r / 2 ^ L p))

module _ (ws : List ℕ) (len origin : ℕ) (pol : Polarity) (t : Summary) (inv sp : List ℕ) where
  abbrev pos : ℕ → ℕ
  pos = bit_of ws len pol

  -- what x leaves in the places: place i has what jump answers for rank i, which is its bit's sample; those past the list are
  -- as they were; and no more words are read than by single jumps
  pub record ListRight (ranks places : List ℕ) (x : Listed) : Type 0 where
    pub jumps : (i : ℕ) → i < length ranks → select_of ws t inv sp (get_or ranks i 0) ≡ answer (get_or (places_after (answer x) places) i 0)
    pub bits : (i : ℕ) → i < length ranks
        → (p : ℕ) × (get_or (places_after (answer x) places) i 0 ≡ sample_at origin p) × Bit ws len pol (get_or ranks i 0) p
    pub past : drop (length ranks) (places_after (answer x) places) ≡ drop (length ranks) places
    pub many : length (places_after (answer x) places) ≡ length places
    pub fewer : x.total ≤ sum_over (single_words ws t inv sp) ranks

  -- the rank of a sample, which may be the record's end: document 02, W-206
  pub record RankRight : Type 0 where
    pub exact : (x : ℕ) → sample_outside origin len x ≡ false → rank_of ws t inv sp x ≡ answer (rank (selected pol ws len) (x - origin))
    pub outside : (x : ℕ) → sample_outside origin len x ≡ true → rank_of ws t inv sp x ≡ refused 17
    -- nothing else is refused, and never 10
    pub only_17 : (x n : ℕ) → rank_of ws t inv sp x ≡ refused n → n ≡ 17
    pub end : rank_of ws t inv sp (sample_at origin len) ≡ answer (N t.plan)
    -- the rank of what jump answers for r is r
    pub jumped : (r x : ℕ) → select_of ws t inv sp r ≡ answer x → rank_of ws t inv sp x ≡ answer r
    -- and the jump to a sample's rank is its next edge, exactly where it has one; where it has none the rank is N
    pub next : (x r e : ℕ) → rank_of ws t inv sp x ≡ answer r → (next_of ws t x ≡ answer (Some e)) ↔ (select_of ws t inv sp r ≡ answer e)
    pub none : (x r : ℕ) → rank_of ws t inv sp x ≡ answer r → (next_of ws t x ≡ answer None) ↔ (r ≡ N t.plan)

  pub record Right : Type 0 where
    pub select : (r : ℕ) → r < N t.plan → (p : ℕ) × (select_of ws t inv sp r ≡ answer (sample_at origin p)) × Bit ws len pol r p
    pub hint : (r : ℕ) → r < N t.plan
        → (p : ℕ) × (hint_of ws t inv sp r ≡ answer (record { mark = sample_at origin p; rank = mark_of pos t.plan r }))
        × Bit ws len pol (mark_of pos t.plan r) p
    pub dwell : (a b : ℕ) → a ≤ b → b < N t.plan
        → (p q : ℕ) × (dwell_of ws t inv sp a b ≡ answer (q - p)) × (p ≤ q) × Bit ws len pol a p × Bit ws len pol b q
    pub store : (r : ℕ) → r < N t.plan → Within (place_at t inv (r / 2 ^ L t.plan) (mark_number t inv r)) (subinventory_of ws t inv sp r)
    pub list : (ranks places : List ℕ) → Answerable (N t.plan) ranks (length places)
        → (x : Listed) × (list_of ws t inv sp ranks (length places) ≡ answer x) × ListRight ranks places x
    pub ranks : RankRight
    -- nothing else is refused, and these by their own numbers: none of 1, 14, 2, 6, 7, 9 and 10 is said
    pub select_past : (r : ℕ) → N t.plan ≤ r → select_of ws t inv sp r ≡ refused 8
    pub hint_past : (r : ℕ) → N t.plan ≤ r → hint_of ws t inv sp r ≡ refused 8
    pub dwell_past_a : (a b : ℕ) → N t.plan ≤ a → dwell_of ws t inv sp a b ≡ refused 8
    pub dwell_past_b : (a b : ℕ) → a < N t.plan → N t.plan ≤ b → dwell_of ws t inv sp a b ≡ refused 8
    pub dwell_falls : (a b : ℕ) → b < a → a < N t.plan → dwell_of ws t inv sp a b ≡ refused 11
    pub list_falls : (ranks : List ℕ) (lent : ℕ) → falls ranks ≡ true → list_of ws t inv sp ranks lent ≡ refused 12
    pub list_few : (ranks : List ℕ) (lent : ℕ) → falls ranks ≡ false → lent < length ranks → list_of ws t inv sp ranks lent ≡ refused 13
    pub list_past : (ranks : List ℕ) (lent : ℕ) → falls ranks ≡ false → length ranks ≤ lent → any_too_large (N t.plan) ranks ≡ true
        → list_of ws t inv sp ranks lent ≡ refused 8
