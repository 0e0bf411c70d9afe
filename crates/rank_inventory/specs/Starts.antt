-- The entries' starts, over any of them: whether they rise, and which lie at or before a position. Document 02, W-206.
use Rattle.std.specs.Prelude.{Bool, true, ◌&&◌, ℕ, zero, suc, ◌+◌, ◌≤◌, ◌<◌, leb, ltb}
use Rattle.rank_sel.specs.Rank.{rank}

-- the least that start e may be: above the one before it
abbrev pub least_start : (ℕ → ℕ) → ℕ → ℕ
least_start s zero = 0
least_start s (suc e) = s e + 1

-- the first n starts rise strictly, and none reaches len
unfoldable pub starts_rise : (ℕ → ℕ) → ℕ → ℕ → Bool
starts_rise s len zero = true
starts_rise s len (suc n) = starts_rise s len n && (leb (least_start s n) (s n) && ltb (s n) len)

-- which is to say (`starts_rise_strictly` in laws)
pub record Rise (s : ℕ → ℕ) (len n : ℕ) : Type 0 where
  pub rise : (i j : ℕ) → i < j → j < n → s i < s j
  pub within : (e : ℕ) → e < n → s e < len

-- start e lies at or before position x
abbrev pub starts_by : (ℕ → ℕ) → ℕ → ℕ → Bool
starts_by s x e = leb (s e) x

-- how many of the first n do
unfoldable pub starts_to : (ℕ → ℕ) → ℕ → ℕ → ℕ
starts_to s x n = rank (starts_by s x) n

-- the starts from entry a on, below b, never fall
pub record Ordered (s : ℕ → ℕ) (a b : ℕ) : Type 0 where
  pub order : (i j : ℕ) → a ≤ i → i ≤ j → j < b → s i ≤ s j
