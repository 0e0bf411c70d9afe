-- In-word select. Document 01, "Inside one word"; document 02, W-205: what remains in the word.
use Rattle.std.specs.Prelude.{true, ◌⊎◌, ◌≡◌, ℕ, suc, ◌≤◌, ◌<◌, Result, Ok, Err}
use Rattle.std.proofs.Common.{inl, inr}
use Rattle.std.proofs.Math.Option.{Option, none, some, get_or}
use Rattle.std.specs.Int.Count.{ones}
use Rattle.rank_sel.specs.Outcome.{Outcome, or_refuse}
use Rattle.rank_sel.specs.Rank.{rank_between}
use Rattle.rank_sel.specs.Seek.{seek}
use Rattle.select_in_word.specs.Bit.{bit}
use Rattle.select_in_word.specs.declared.One.{One}

-- a word has n ones
pub record Counts (w n : ℕ) : Type 0 where
  pub exact : n ≡ ones w
  pub most : n ≤ 64

-- the position of one number r of byte b, or 8 where there is none: entry b + 256r of SELECT_IN_BYTE
unfoldable pub select_in_byte : ℕ → ℕ → ℕ
select_in_byte b r = get_or (seek (bit b) 8 0 r) 8

-- the ones of w above place p
abbrev pub ones_above : ℕ → ℕ → ℕ
ones_above w p = rank_between (bit w) (suc p) 64

-- the one of w at p, and how many remain above it
abbrev pub one_at : ℕ → ℕ → One
one_at w p = record { position = p; remaining = ones_above w p }

abbrev pub one_of : ℕ → Option ℕ → Option One
one_of w none = none
one_of w (some p) = some (one_at w p)

-- the one with exactly k ones below it, or refusal 8
unfoldable pub select_in_word : ℕ → ℕ → Outcome One
select_in_word w k = or_refuse 8 (one_of w (seek (bit w) 64 0 k))

-- the ones of w where there is no such one
abbrev pub or_ones : ℕ → Option ℕ → One ⊎ ℕ
or_ones w none = inr (ones w)
or_ones w (some p) = inl (one_at w p)

-- the one with exactly k ones below it, or the count of the word's ones where there is none
unfoldable pub seek_in_word : ℕ → ℕ → One ⊎ ℕ
seek_in_word w k = or_ones w (seek (bit w) 64 0 k)

-- what a seek in a word says: a one, or a count of ones
abbrev pub said : Result One ℕ → One ⊎ ℕ
said (Ok x) = inl x
said (Err n) = inr n

-- p is the one of w that n ones remain above
pub record OneAbove (w n p : ℕ) : Type 0 where
  pub low : p < 64
  pub here : bit w p ≡ true
  pub above : ones_above w p ≡ n
