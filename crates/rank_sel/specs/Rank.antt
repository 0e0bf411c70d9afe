-- Rank, over any set of positions: f says which positions are selected.
use Rattle.std.specs.Prelude.{Bool, true, false, ℕ, zero, suc, ◌+◌, ◌-◌}

-- 1 where the test holds, 0 where it does not
abbrev pub ind : Bool → ℕ
ind true = 1
ind false = 0

-- how many selected positions lie below p
unfoldable pub rank : (ℕ → Bool) → ℕ → ℕ
rank f zero = 0
rank f (suc p) = rank f p + ind (f p)

-- how many selected positions lie from a on, below b
abbrev pub rank_between : (ℕ → Bool) → ℕ → ℕ → ℕ
rank_between f a b = rank f b - rank f a
