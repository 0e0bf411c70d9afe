-- What the list says of a case: oracle/src/replay.rs.
use Rattle.std.specs.Prelude.{◌≡◌, ℕ, ◌-◌, ◌*◌, ◌^◌, min, List, ◌∷◌, ◌++◌, length, get_or, drop, eqb, MatchBool, Some, None}
use Rattle.std.specs.Float.{binary64}
use Rattle.std.specs.Float.Ieee.{of_bits}
use Rattle.inventory.specs.Numbers.{cut, polarity_at}
use Rattle.edge_index_c.specs.Codes.{choice_at}
use Rattle.replay.specs.declared.list.Case.{Case}
use Rattle.replay.specs.declared.list.Question.{Question}

-- what is asked: the numbers behind the count of words
abbrev pub question_of : List ℕ → Question
question_of list = record {
  len = get_or list 1 0;
  origin = get_or list 2 0;
  polarity = polarity_at (cut (get_or list 3 0));
  choice = choice_at (cut (get_or list 4 0)) (get_or list 5 0) (of_bits binary64 (get_or list 6 0)) (cut (get_or list 7 0));
}

-- a case that is turned down by r: its w words, and then the rest of the list
pub record IsRefused (q : Question) (r w : ℕ) (list : List ℕ) (c : Case) (rest : List ℕ) : Type 0 where
  pub question : c.question ≡ q
  pub refusal : c.refusal ≡ Some r
  pub words : length c.words.now ≡ w
  pub numbers : list ≡ c.words.now ++ rest

-- a case that is answered: its figures, its counts, its w words and its cells, and the selects behind how many pairs they are
pub record IsAnswered (q : Question) (w : ℕ) (list : List ℕ) (c : Case) (rest : List ℕ) : Type 0 where
  pub question : c.question ≡ q
  pub refusal : c.refusal ≡ None
  pub words : length c.words.now ≡ w
  pub pairs : ℕ
  -- two for each pair, as far as a u64 counts
  pub selects : length c.selects.now ≡ min (pairs * 2) (2 ^ 64 - 1)
  pub numbers : list ≡ c.figures.num ∷ c.figures.log2_ones_per_inventory ∷ c.figures.log2_words_per_subinventory ∷ c.figures.log2_ones_per_sub16
      ∷ length c.inventory.now ∷ length c.spill.now ∷ (c.words.now ++ (c.inventory.now ++ (c.spill.now ++ (pairs ∷ (c.selects.now ++ rest)))))

-- a case: nine numbers, the last of them 0 or its refusal, and what stands behind them
abbrev pub IsCase : List ℕ → Case → List ℕ → Type 0
IsCase list c rest =
    MatchBool (eqb (get_or list 8 0) 0) (IsAnswered (question_of list) (get_or list 0 0) (drop 9 list) c rest)
    (IsRefused (question_of list) (get_or list 8 0) (get_or list 0 0) (drop 9 list) c rest)
