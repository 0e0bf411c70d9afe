-- What the entries promise, in the words of one call.
use Rattle.std.specs.Prelude.{true, List, ◌↔◌, ◌≡◌, ℕ, ◌+◌, ◌^◌, ◌≤◌, ◌<◌}
use Rattle.rank_sel.specs.Outcome.{answer, refused}
use Rattle.rank_sel.specs.Rank.{rank}
use Rattle.select_in_word.specs.Bit.{bit}
use Rattle.select_in_word.specs.Select.{ones_above}
use Rattle.select_in_word.specs.declared.One.{One}
use Rattle.bit_record.specs.Record.{bit_of}
use Rattle.bit_record.specs.declared.Polarity.{Polarity}
use Rattle.spacing.specs.declared.Choice.{Choice}
use Rattle.inventory.specs.declared.summary.Summary.{Summary}
use Rattle.build_inventory.specs.Build.{build_of}
use Rattle.build_inventory.specs.declared.Sizes.{Sizes}
use Rattle.read_inventory.specs.Read.{Hint}
use Rattle.edge_index.specs.Right.{mark_of}
use Rattle.edge_index.specs.Sound.{Bit, Sound}

-- ---- a record and a choice
-- n counts the record's bits: the ranks below n are exactly those that have one
abbrev pub IsCount : List ℕ → ℕ → Polarity → ℕ → Type 0
IsCount ws len pol n = (r : ℕ) → (r < n) ↔ ((p : ℕ) × Bit ws len pol r p)

-- these cell counts are what builds of this record and choice take, from whatever origin its positions have sample numbers: with as
-- many a build answers, and with fewer it is 6 or 7
pub record Suffices (ws : List ℕ) (len : ℕ) (pol : Polarity) (choice : Choice) (s : Sizes) : Type 0 where
  pub enough : (origin cells spill : ℕ) → origin + len < 2 ^ 62 → s.inventory ≤ cells → s.spill ≤ spill
      → (t : Summary) × (build_of ws len origin pol choice cells spill ≡ answer t) × (t.inventory_len ≡ s.inventory) × (t.spill_len ≡ s.spill)
  pub six : (origin cells spill : ℕ) → origin + len < 2 ^ 62 → cells < s.inventory → build_of ws len origin pol choice cells spill ≡ refused 6
  pub seven : (origin cells spill : ℕ) → origin + len < 2 ^ 62 → s.inventory ≤ cells → spill < s.spill
      → build_of ws len origin pol choice cells spill ≡ refused 7

-- ---- an index
-- summary and cells are a sound index of these words, by whatever choice: its len, origin and polarity are the summary's
pub record IsSound (ws : List ℕ) (t : Summary) (inv sp : List ℕ) : Type 0 where
  pub choice : Choice
  pub sound : Sound ws t.plan.len t.origin t.plan.polarity choice t inv sp

-- position p is the bit of rank r in the summary's record
abbrev pub IsBit : List ℕ → Summary → ℕ → ℕ → Type 0
IsBit ws t r p = Bit ws t.plan.len t.plan.polarity r p

-- the rank of the mark from which a jump to rank r starts
abbrev pub rank_of_mark : List ℕ → Summary → ℕ → ℕ
rank_of_mark ws t r = mark_of (bit_of ws t.plan.len t.plan.polarity) t.plan r

-- a hint at position p, of so high a rank
abbrev pub hint_at_bit : Summary → ℕ → ℕ → Hint
hint_at_bit t p r = record { mark = t.origin + p; rank = r }

-- ---- a word
-- a one of the word, with exactly r ones below it and as many above as are said to remain
pub record IsOneOf (w r : ℕ) (x : One) : Type 0 where
  pub low : x.position < 64
  pub here : bit w x.position ≡ true
  pub below : rank (bit w) x.position ≡ r
  pub above : x.remaining ≡ ones_above w x.position
