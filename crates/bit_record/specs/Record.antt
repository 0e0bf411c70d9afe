-- A record and what is selected in it. Document 01, "What it covers".
use Rattle.std.specs.Prelude as std
use Rattle.std.specs.Prelude.{Bool, true, not, ◌&&◌, ◌||◌, List, [], ◌∷◌, ◌++◌, ◌≡◌, ℕ, suc, ◌+◌, ◌-◌, ◌*◌, ◌/◌, ◌%◌, ◌^◌, ◌≤◌, ◌<◌, ltb, length, get_or, IfSome}
use Rattle.std.proofs.Math.Option.{Option, none, some}
use Rattle.rank_sel.specs.Numbers.{ceil_div}
use Rattle.rank_sel.specs.Outcome.{Outcome, answer, Conditions, refuse_by}
use Rattle.rank_sel.specs.Rank.{rank, rank_between}
use Rattle.rank_sel.specs.Seek.{seek, select}
use Rattle.select_in_word.specs.Bit.{bit}
use Rattle.select_in_word.specs.Holds.{Holds}
use Rattle.select_in_word.specs.declared.One.{One}
use Rattle.bit_record.specs.declared.Polarity.{Polarity}
use Rattle.bit_record.specs.declared.Polarity.TheVariants.{Ones, Zeros}
use Rattle.bit_record.specs.declared.seeks.Found.{Found}

-- bit p is bit p mod 64, lowest first, of word p div 64
unfoldable pub bit_at : List ℕ → ℕ → Bool
bit_at ws p = bit (get_or ws (p / 64) 0) (p % 64)

abbrev pub chosen : Polarity → Bool → Bool
chosen Ones b = b
chosen Zeros b = not b

-- the polarity says which bits below len are selected
unfoldable pub selected : Polarity → List ℕ → ℕ → ℕ → Bool
selected pol ws len p = ltb p len && chosen pol (bit_at ws p)

-- N
unfoldable pub num_selected : Polarity → List ℕ → ℕ → ℕ
num_selected pol ws len = rank (selected pol ws len) len

-- the bit of rank r: the selected position with exactly r others before it
abbrev pub bit_of : List ℕ → ℕ → Polarity → ℕ → ℕ
bit_of ws len pol = select (selected pol ws len) len

-- the sample number of a position, where bit 0 is sample number `origin` (document 02, W-202)
abbrev pub sample_at : ℕ → ℕ → ℕ
sample_at origin p = origin + p

-- the conditions of refusals 1, 14 and 2
abbrev pub len_too_large : ℕ → Bool
len_too_large len = ltb (2 ^ 62 - 1) len

abbrev pub origin_too_large : ℕ → ℕ → Bool
origin_too_large origin len = ltb (2 ^ 62 - 1) (origin + len)

-- the condition of refusal 17: a sample before bit 0, or past the end; the end itself is taken (document 02, W-206)
abbrev pub sample_outside : ℕ → ℕ → ℕ → Bool
sample_outside origin len x = ltb x origin || ltb (sample_at origin len) x

abbrev pub too_few_words : List ℕ → ℕ → Bool
too_few_words ws len = ltb (length ws) (ceil_div len 64)

abbrev pub of_record : List ℕ → ℕ → Conditions
of_record ws len = (len_too_large len, 1) ∷ (too_few_words ws len, 2) ∷ []

-- of a len and an origin alone, without words
abbrev pub of_len : ℕ → ℕ → Conditions
of_len len origin = (len_too_large len, 1) ∷ (origin_too_large origin len, 14) ∷ []

-- where an origin is handed in, or a summary, which has one
abbrev pub of_record_from : List ℕ → ℕ → ℕ → Conditions
of_record_from ws len origin = of_len len origin ++ ((too_few_words ws len, 2) ∷ [])

abbrev pub of_sample : ℕ → ℕ → ℕ → Conditions
of_sample origin len x = (sample_outside origin len x, 17) ∷ []

-- the position of a sample number, or 17
unfoldable pub position_at : ℕ → ℕ → ℕ → Outcome ℕ
position_at origin len x = refuse_by (of_sample origin len x) (answer (x - origin))

unfoldable pub count_of : List ℕ → ℕ → Polarity → Outcome ℕ
count_of ws len pol = refuse_by (of_record ws len) (answer (num_selected pol ws len))

abbrev pub found : std.Option Found → Option ℕ
found (std.Some r) = some r.position
found std.None = none

-- a selected position, with its word, by number, and how many selected positions remain in that word above it (document 02, W-205)
pub record FoundIn (f : ℕ → Bool) (r : Found) : Type 0 where
  pub here : f r.position ≡ true
  pub index : r.index ≡ r.position / 64
  pub word : Holds 64 f (64 * r.index) r.word
  pub remaining : r.remaining ≡ rank_between f (suc r.position) (64 * r.index + 64)

-- a one of word i
abbrev pub found_by : ℕ → ℕ → One → Found
found_by i w x = record { position = 64 * i + x.position; index = i; word = w; remaining = x.remaining }

-- what is sought among the n positions from x on
pub record Finds (f : ℕ → Bool) (n x k : ℕ) (r : std.Option Found) : Type 0 where
  pub position : found r ≡ seek f n x k
  pub bit : IfSome r (FoundIn f)

-- a record that is turned down by neither 1 nor 2
pub record Admitted (ws : List ℕ) (len : ℕ) : Type 0 where
  pub short : len < 2 ^ 62
  pub held : ceil_div len 64 ≤ length ws

-- nor by 14: each of its positions has a sample number
pub record AdmittedFrom (ws : List ℕ) (len origin : ℕ) : Type 0 where
  pub admitted : Admitted ws len
  pub numbered : sample_at origin len < 2 ^ 62

-- n is the count of the m words from number i on, in every record that has them whole
pub record CountsWords (pol : Polarity) (ws : List ℕ) (i m n : ℕ) : Type 0 where
  pub exact : (len : ℕ) → 64 * (i + m) ≤ len → rank (selected pol ws len) (64 * i) + n ≡ rank (selected pol ws len) (64 * (i + m))

-- two lists of words that hold the same record: they may differ at or past len
pub record SameRecord (len : ℕ) (ws vs : List ℕ) : Type 0 where
  pub held : ceil_div len 64 ≤ length ws
  pub held' : ceil_div len 64 ≤ length vs
  pub bits : (p : ℕ) → p < len → bit_at ws p ≡ bit_at vs p

-- a word, or its complement
abbrev pub complemented : Polarity → ℕ → ℕ
complemented Ones w = w
complemented Zeros w = (2 ^ 64 - 1) - w

-- records that are the same select the same, and count the same
abbrev pub SameSelected : Type 0
SameSelected = (len : ℕ) (ws vs : List ℕ) (pol : Polarity) → SameRecord len ws vs → selected pol ws len ≡ selected pol vs len

abbrev pub SameCount : Type 0
SameCount = (len : ℕ) (ws vs : List ℕ) (pol : Polarity) → SameRecord len ws vs → count_of ws len pol ≡ count_of vs len pol
