-- Where a byte stands in a text.
use Rattle.std.specs.Prelude.{ℕ, ◌==◌, List}
use Rattle.std.specs.List.{position_or_len}

-- the index of the first b, or the length where there is none
abbrev pub index_of : ℕ → List ℕ → ℕ
index_of b text = position_or_len (λ x. x == b) text
