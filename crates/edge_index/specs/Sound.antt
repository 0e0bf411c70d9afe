-- Demand 3: what an index built or checked is, by what a reader reads from it. Document 01, "What demand 3 compares".
use Rattle.std.specs.Prelude.{Bool, true, cond, List, ◌≡◌, ℕ, suc, ◌+◌, ◌-◌, ◌*◌, ◌/◌, ◌%◌, ◌^◌, ◌≤◌, ◌<◌, min, max, ltb, length, get_or}
use Rattle.rank_sel.specs.Numbers.{sum}
use Rattle.rank_sel.specs.Outcome.{answer}
use Rattle.rank_sel.specs.Rank.{rank}
use Rattle.bit_record.specs.Record.{selected, bit_of, sample_at}
use Rattle.bit_record.specs.declared.Polarity.{Polarity}
use Rattle.spacing.specs.Spacing.{N, L, M, plan_of}
use Rattle.spacing.specs.declared.Choice.{Choice}
use Rattle.spacing.specs.declared.Parameters.{Parameters}
use Rattle.inventory.specs.Index.{entries_of, stride, ranks_of, kind_of, entry_of}
use Rattle.inventory.specs.Shape.{near_by}
use Rattle.inventory.specs.declared.shape.SpanType.TheVariants.{U16}
use Rattle.inventory.specs.declared.summary.Summary.{Summary}
use Rattle.read_inventory.specs.Read.{cell_at, kind_at, start_at, quantum_at, place_at, number_at, hint_at}

-- position p is the bit of rank r: below len, selected, with exactly r selected positions before it (Vigna's select)
pub record Bit (ws : List ℕ) (len : ℕ) (pol : Polarity) (r p : ℕ) : Type 0 where
  pub below : p < len
  pub here : selected pol ws len p ≡ true
  pub before : rank (selected pol ws len) p ≡ r

-- entry e holds rank r
pub record EntryHolds (p : Parameters) (e r : ℕ) : Type 0 where
  pub from : e * 2 ^ L p ≤ r
  pub to : r < min ((e + 1) * 2 ^ L p) (N p)

-- q, h and the cells spilled of entry e, reckoned from the bit of each rank
abbrev pub q_of : (ℕ → ℕ) → Parameters → ℕ → ℕ
q_of pos p e = (entry_of pos p e).log2_quantum

abbrev pub marks_of : (ℕ → ℕ) → Parameters → ℕ → ℕ
marks_of pos p e = (entry_of pos p e).marks

abbrev pub spilled_of : (ℕ → ℕ) → Parameters → ℕ → ℕ
spilled_of pos p e = (entry_of pos p e).spilled

-- all lanes of entry e, through its spilled cells
abbrev pub lanes_of : (ℕ → ℕ) → Parameters → ℕ → ℕ
lanes_of pos p e = near_by (entry_of pos p e).shape (M p) + spilled_of pos p e * (entry_of pos p e).shape.lanes

-- spill cell c is one that entry e spills: these begin after what the entries before it spill
pub record Spills (pos : ℕ → ℕ) (p : Parameters) (e c : ℕ) : Type 0 where
  pub from : sum (spilled_of pos p) e ≤ c
  pub to : c < sum (spilled_of pos p) e + spilled_of pos p e

-- the rank of entry e's mark k, and of the mark after it: the entry's following, else the following entry's first
abbrev pub mark_rank : (ℕ → ℕ) → Parameters → ℕ → ℕ → ℕ
mark_rank pos p e k = e * 2 ^ L p + k * 2 ^ q_of pos p e

abbrev pub next_rank : (ℕ → ℕ) → Parameters → ℕ → ℕ → ℕ
next_rank pos p e k = cond (ltb (k + 1) (marks_of pos p e)) (mark_rank pos p e (k + 1)) (mark_rank pos p (e + 1) 0)

-- rank r, of subrank s in entry e, is met at its mark, number s div 2^q, or after it and before the next, past exactly
-- s mod 2^q selected bits; f says which positions are selected
module _ (f : ℕ → Bool) (pos : ℕ → ℕ) (p : Parameters) (t : Summary) (inv sp : List ℕ) (r e s : ℕ) where
  abbrev k : ℕ
  k = s / 2 ^ q_of pos p e

  pub record Met : Type 0 where
    pub mark : hint_at t inv sp r ≡ answer (record { mark = pos (mark_rank pos p e k); rank = mark_rank pos p e k })
    pub from : pos (mark_rank pos p e k) ≤ pos r
    pub next : next_rank pos p e k < N p → pos r < pos (next_rank pos p e k)
    pub passed : rank f (pos r) ≡ rank f (pos (mark_rank pos p e k)) + s % 2 ^ q_of pos p e
    pub few : s % 2 ^ q_of pos p e < 2 ^ q_of pos p e

module _ (ws : List ℕ) (len origin : ℕ) (pol : Polarity) (choice : Choice) (t : Summary) (inv sp : List ℕ) where
  abbrev f : ℕ → Bool
  f = selected pol ws len

  abbrev pos : ℕ → ℕ
  pos = bit_of ws len pol

  abbrev p : Parameters
  p = t.plan

  pub record Sound : Type 0 where
    -- the summary's polarity, len, N, L, M and S are those of record and choice, and its origin is the one handed in, from
    -- which on each position has a sample number; the cells are there
    pub plan : plan_of ws len pol choice ≡ answer p
    pub bit_zero : t.origin ≡ origin
    pub numbered : sample_at origin len < 2 ^ 62
    pub inventory_len : t.inventory_len ≡ entries_of p * stride p + 1
    pub inventory_held : t.inventory_len ≤ length inv
    pub spill_held : t.spill_len ≤ length sp
    -- each rank below N has its bit: `select` is 0 where there is none
    pub bits : (r : ℕ) → r < N p → Bit ws len pol r (pos r)
    -- each rank lies in exactly one entry
    pub held : (r : ℕ) → r < N p → (e : ℕ) × (e < entries_of p) × EntryHolds p e r
    pub alone : (r d e : ℕ) → EntryHolds p d r → EntryHolds p e r → d ≡ e
    -- every mark read is the bit of its rank; start, kind and q as read are those reckoned
    pub marked : (e k : ℕ) → e < entries_of p → k < marks_of pos p e
        → hint_at t inv sp (mark_rank pos p e k)
        ≡ answer (record { mark = pos (mark_rank pos p e k); rank = mark_rank pos p e k })
    pub between : (e k : ℕ) → e < entries_of p → k + 1 < marks_of pos p e
        → rank f (pos (mark_rank pos p e (k + 1)))
        ≡ rank f (suc (pos (mark_rank pos p e k))) + (2 ^ q_of pos p e - 1)
    pub starts : (e : ℕ) → e < entries_of p → start_at t inv e ≡ pos (e * 2 ^ L p)
    pub kinds : (e : ℕ) → e < entries_of p → kind_at t inv e ≡ kind_of pos p e
    pub quanta : (e : ℕ) → e < entries_of p → quantum_at t inv e ≡ q_of pos p e
    -- from its start as read, an entry takes in as many selected bits as it holds ranks: 2^L, and in the last at least one
    pub whole : (e : ℕ) → e + 1 < entries_of p
        → (rank f (start_at t inv (e + 1)) ≡ rank f (start_at t inv e) + ranks_of p e) × (ranks_of p e ≡ 2 ^ L p)
    pub last : (e : ℕ) → e + 1 ≡ entries_of p
        → (rank f len ≡ rank f (start_at t inv e) + ranks_of p e) × (1 ≤ ranks_of p e) × (ranks_of p e ≤ 2 ^ L p)
    pub closing : get_or inv (t.inventory_len - 1) 0 ≡ max 1 len
    -- the spilled parts tile the spill
    pub none16 : (e : ℕ) → kind_of pos p e ≡ U16 → spilled_of pos p e ≡ 0
    pub second : (e : ℕ) → e < entries_of p → (kind_of pos p e ≡ U16 → ⊥)
        → cell_at t inv e 1 ≡ sum (spilled_of pos p) e
    pub spill_len : t.spill_len ≡ sum (spilled_of pos p) (entries_of p)
    pub tiled : (c : ℕ) → c < t.spill_len → (e : ℕ) × (e < entries_of p) × Spills pos p e c
    pub apart : (c d e : ℕ) → Spills pos p d c → Spills pos p e c → d ≡ e
    -- unused lanes are zero: from number h on, counted as marks are, through the spilled cells
    pub unused : (e i : ℕ) → e < entries_of p → marks_of pos p e ≤ i → i < lanes_of pos p e
        → number_at t inv sp e (place_at t inv e i) ≡ answer 0
    -- how each rank is met
    pub met : (r : ℕ) → r < N p → Met f pos p t inv sp r (r / 2 ^ L p) (r % 2 ^ L p)
