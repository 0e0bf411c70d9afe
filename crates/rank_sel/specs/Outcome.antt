-- What a call answers: values, or the number of one refusal. Each answer enum has a definition that reads it as an Outcome.
use Rattle.std.specs.Prelude.{Bool, true, false, ◌||◌, List, [], ◌∷◌, ◌↔◌, ◌≡◌, ℕ, Result, Ok, Err}
use Rattle.std.proofs.Math.Option.{Option, none, some}
use Rattle.rank_sel.specs.declared.Refusal.{Refusal}
use Rattle.rank_sel.specs.declared.Refusal.TheVariants.{LenTooLarge, TooFewWords, OnesPerInventoryTooLarge, WordsPerSubinventoryTooLarge, OverheadNotPositive, InventoryTooShort, SpillTooShort, RankTooLarge, SummaryUnlawful, CellsUnlawful, RanksFall, ListFalls, TooFewPlaces, OriginTooLarge, ImageUnlawful, PlaceTooShort, SampleOutside}

pub data Outcome (A : Type 0) : Type 0 where
  answer : A → Outcome A
  refused : ℕ → Outcome A

-- document 01's table, "When a call is turned down", and document 02's numbers after it
abbrev pub number_of : Refusal → ℕ
number_of LenTooLarge = 1
number_of TooFewWords = 2
number_of OnesPerInventoryTooLarge = 3
number_of WordsPerSubinventoryTooLarge = 4
number_of OverheadNotPositive = 5
number_of InventoryTooShort = 6
number_of SpillTooShort = 7
number_of RankTooLarge = 8
number_of SummaryUnlawful = 9
number_of CellsUnlawful = 10
number_of RanksFall = 11
number_of ListFalls = 12
number_of TooFewPlaces = 13
number_of OriginTooLarge = 14
number_of ImageUnlawful = 15
number_of PlaceTooShort = 16
number_of SampleOutside = 17

-- what a call said, as an Outcome
abbrev pub outcome : {A : Type 0} → Result A Refusal → Outcome A
outcome (Ok a) = answer a
outcome (Err r) = refused (number_of r)

-- number n where its condition holds, else what the tests after it say
abbrev pub refuse_if : {A : Type 0} → Bool → ℕ → Outcome A → Outcome A
refuse_if true n rest = refused n
refuse_if false n rest = rest

-- a condition, and the number that it gives
abbrev pub Conditions : Type 0
Conditions = List (Bool × ℕ)

-- tests in their order: the number of the first that holds, else what comes after them
abbrev pub refuse_by : {A : Type 0} → Conditions → Outcome A → Outcome A
refuse_by [] rest = rest
refuse_by (c ∷ cs) rest = refuse_if c.0 c.1 (refuse_by cs rest)

-- the tests alone
abbrev pub test_by : Conditions → Outcome (Unit {0})
test_by cs = refuse_by cs (answer tt)

-- one of them holds
abbrev pub any_of : Conditions → Bool
any_of [] = false
any_of (c ∷ cs) = c.0 || any_of cs

-- none of them holds
abbrev pub NoneOf : Conditions → Type 0
NoneOf [] = Unit {0}
NoneOf (c ∷ cs) = (c.0 ≡ false) × NoneOf cs

-- tests in their order let a call through exactly where none of their conditions holds
abbrev pub TestsPass : Type 0
TestsPass = (cs : Conditions) → (test_by cs ≡ answer tt) ↔ NoneOf cs

-- number n where there is nothing, else what there is
abbrev pub or_refuse : {A : Type 0} → ℕ → Option A → Outcome A
or_refuse n none = refused n
or_refuse n (some a) = answer a

-- a refusal stays; an answer goes on
abbrev pub and_then : {A B : Type 0} → Outcome A → (A → Outcome B) → Outcome B
and_then (answer a) go = go a
and_then (refused n) go = refused n
