-- The rules of the spacing. Document 01, "Choosing the spacing" and "When a call is turned down".
use Rattle.std.specs.Prelude.{◌≡◌, ℕ, ◌+◌, ◌-◌, ◌*◌, ◌^◌, ◌<◌, ◌≤◌, min, max, Bool, false, not, List, [], ◌∷◌, pos, nat_lt, Float}
use Rattle.std.specs.Float.{binary64}
use Rattle.std.specs.Float.Ieee.{of_int, mul, div, to_unsigned}
use Rattle.std.specs.Float.Ieee.Positive.{positive}
use Rattle.rank_sel.specs.Numbers.{ceil_div, ilog2, clog2}
use Rattle.rank_sel.specs.Outcome.{Outcome, answer, Conditions, refuse_by, and_then}
use Rattle.bit_record.specs.Record.{num_selected, count_of, Admitted}
use Rattle.bit_record.specs.declared.Polarity.{Polarity}
use Rattle.spacing.specs.declared.Choice.{Choice}
use Rattle.spacing.specs.declared.Choice.TheVariants.{Default, Span, Power, Overhead, Fixed}
use Rattle.spacing.specs.declared.Parameters.{Parameters}

-- document 01's letters
abbrev pub N : Parameters → ℕ
N p = p.num

abbrev pub L : Parameters → ℕ
L p = p.log2_ones_per_inventory

abbrev pub M : Parameters → ℕ
M p = p.log2_words_per_subinventory

abbrev pub S : Parameters → ℕ
S p = p.log2_ones_per_sub16

-- the rule of each choice; default is the span choice with 4,096 and 3, and no rule of its own. A span is a
-- u64: of a number above, which no call can pass, the rule is the largest u64's
pub data Rule : Type 0 where
  span power fixed : ℕ → ℕ → Rule
  overhead : Float → ℕ → Rule

abbrev pub rule : Choice → Rule
rule Default = span 4096 3
rule (Span target maximum) = span (min target (2 ^ 64 - 1)) maximum
rule (Power l maximum) = power l maximum
rule (Overhead percentage maximum) = overhead percentage maximum
rule (Fixed l m) = fixed l m

-- span: L = ilog2(max(1, ceil(N × span / max(1, len)))), the product exact
unfoldable pub span_log2 : ℕ → ℕ → ℕ → ℕ
span_log2 num target len = ilog2 (max 1 (ceil_div (num * target) (max 1 len)))

-- a whole number as f64
abbrev pub as_f64 : ℕ → Float
as_f64 n = of_int binary64 (pos n)

-- T is (1 + m) as f64, times 64, times 100, divided by the percentage, rounded once each, in that order, then cut to a
-- whole number, at most 2^64 - 1
unfoldable pub overhead_target : Float → ℕ → ℕ
overhead_target percentage m = to_unsigned 64 (div binary64 (mul binary64 (mul binary64 (as_f64 (1 + m)) (as_f64 64)) (as_f64 100)) percentage)

-- overhead: span = max(T, 256 × m), m = 2^(given maximum)
unfoldable pub overhead_span : Float → ℕ → ℕ
overhead_span percentage maximum = max (overhead_target percentage (2 ^ maximum)) (256 * 2 ^ maximum)

-- M = min(given maximum, max(0, L - 2), max(0, c - 2)), c the least number with 2^c >= max(1, N)
unfoldable pub capped_log2_words : ℕ → ℕ → ℕ → ℕ
capped_log2_words num l maximum = min maximum (min (l - 2) (clog2 (max 1 num) - 2))

-- S = max(0, L - M - 2)
abbrev pub plan_with : Polarity → ℕ → ℕ → ℕ → ℕ → Parameters
plan_with pol len num l m = record {
  polarity = pol;
  len = len;
  num = num;
  log2_ones_per_inventory = l;
  log2_words_per_subinventory = m;
  log2_ones_per_sub16 = l - m - 2;
}

abbrev pub capped : Polarity → ℕ → ℕ → ℕ → ℕ → Parameters
capped pol len num l maximum = plan_with pol len num l (capped_log2_words num l maximum)

unfoldable pub plan_for : Polarity → ℕ → ℕ → Rule → Parameters
plan_for pol len num (span target maximum) = capped pol len num (span_log2 num target len) maximum
plan_for pol len num (power l maximum) = capped pol len num l maximum
plan_for pol len num (overhead percentage maximum) = capped pol len num (span_log2 num (overhead_span percentage maximum) len) maximum
plan_for pol len num (fixed l m) = plan_with pol len num l m

-- the condition of refusal 3: a given L over 63. An L that is reckoned never is (`ReckonedSmall`)
abbrev pub ones_per_inventory_too_large : Rule → Bool
ones_per_inventory_too_large (span target maximum) = false
ones_per_inventory_too_large (power l maximum) = nat_lt 63 l
ones_per_inventory_too_large (overhead percentage maximum) = false
ones_per_inventory_too_large (fixed l m) = nat_lt 63 l

-- the most that a given M or maximum may be: document 02's W-207, where document 01 has 53
abbrev pub max_log2_words : ℕ
max_log2_words = 10

-- the condition of refusal 4: given M or maximum over it
abbrev pub words_per_subinventory_too_large : Rule → Bool
words_per_subinventory_too_large (span target maximum) = nat_lt max_log2_words maximum
words_per_subinventory_too_large (power l maximum) = nat_lt max_log2_words maximum
words_per_subinventory_too_large (overhead percentage maximum) = nat_lt max_log2_words maximum
words_per_subinventory_too_large (fixed l m) = nat_lt max_log2_words m

-- the condition of refusal 5: percentage not finite or not above 0
abbrev pub overhead_not_positive : Rule → Bool
overhead_not_positive (span target maximum) = false
overhead_not_positive (power l maximum) = false
overhead_not_positive (overhead percentage maximum) = not (positive percentage)
overhead_not_positive (fixed l m) = false

abbrev pub of_rule : Rule → Conditions
of_rule r = (ones_per_inventory_too_large r, 3) ∷ (words_per_subinventory_too_large r, 4) ∷ (overhead_not_positive r, 5) ∷ []

-- what a rule makes of a counted record
unfoldable pub chosen_plan : Polarity → ℕ → ℕ → Rule → Outcome Parameters
chosen_plan pol len num r = refuse_by (of_rule r) (answer (plan_for pol len num r))

unfoldable pub plan_of : List ℕ → ℕ → Polarity → Choice → Outcome Parameters
plan_of ws len pol choice = and_then (count_of ws len pol) (λ num. chosen_plan pol len num (rule choice))

-- the L that is reckoned, from a span or from an overhead with an accepted maximum, is at most 63
pub record ReckonedSmall : Type 0 where
  pub of_span : (num len target : ℕ) → num ≤ len → target < 2 ^ 64 → span_log2 num target len ≤ 63
  pub of_overhead : (num len : ℕ) (percentage : Float) (maximum : ℕ) → num ≤ len → maximum ≤ max_log2_words
      → span_log2 num (overhead_span percentage maximum) len ≤ 63

-- p is a plan of this record: what holds of whatever `plan` answers
pub record PlanOf (ws : List ℕ) (p : Parameters) : Type 0 where
  pub admitted : Admitted ws p.len
  pub num : N p ≡ num_selected p.polarity ws p.len
  pub few : N p ≤ p.len
  pub small_l : L p ≤ 63
  pub small_m : M p ≤ max_log2_words
  pub spaced : S p ≡ L p - M p - 2
