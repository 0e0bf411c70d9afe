-- Cells compared from the start.
use Rattle.std.specs.Prelude.{cond, List, [], ◌∷◌, ℕ, suc, ◌+◌, eqb, drop, replicate}

-- how many elements at the start are the same
unfoldable pub alike : List ℕ → List ℕ → ℕ
alike [] ys = 0
alike (x ∷ xs) [] = 0
alike (x ∷ xs) (y ∷ ys) = cond (eqb x y) (suc (alike xs ys)) 0

-- up to where they are the same from element i on
abbrev pub alike_from : ℕ → List ℕ → List ℕ → ℕ
alike_from i xs ys = i + alike (drop i xs) (drop i ys)

-- what each cell is filled with before a build
abbrev pub blank : ℕ
blank = 11936128518282651045

abbrev pub blanks : ℕ → List ℕ
blanks n = replicate n blank
