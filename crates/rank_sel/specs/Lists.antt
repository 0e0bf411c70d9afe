-- Lists of numbers: whether two are one, and whether all numbers of one are small.
use Rattle.std.specs.Prelude.{Bool, true, false, ◌&&◌, List, [], ◌∷◌, ℕ, ◌<◌, eqb, get_or}

-- two lists are one, as a Bool
unfoldable pub same_list : List ℕ → List ℕ → Bool
same_list [] [] = true
same_list [] (b ∷ t) = false
same_list (a ∷ s) [] = false
same_list (a ∷ s) (b ∷ t) = eqb a b && same_list s t

-- each number is below a bound above 0: 256 for bytes, 2^64 for words and cells
abbrev pub Below : ℕ → List ℕ → Type 0
Below bound xs = (i : ℕ) → get_or xs i 0 < bound
