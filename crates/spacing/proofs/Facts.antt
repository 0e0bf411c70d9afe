-- What holds of every plan that is answered: the record passed the count's tests, the choice those of its rule.
use Rattle.std.proofs.Common.{◌≡◌, [], ◌∷◌, nat_lt, ℕ, ◌-◌, ◌^◌, ◌<◌, ◌≤◌, min, max, false, List, refl, ◌∙◌, subst, ap₂, le_trans, arith, pow_mono, ltb-false}
use Rattle.std.specs.Bool.{⊤}
use native.Mathlib.Nat.{min-le_left}
use lib.Ieee.{Float}
use lib.Ieee.Casts.{to_unsigned-lt}
use Rattle.rank_sel.specs.Numbers.{clog2}
use Rattle.rank_sel.specs.Outcome.{answer, test_by}
use Rattle.rank_sel.proofs.Outcome.{answer_is, then_answer, passed_all, passed_none}
use Rattle.bit_record.specs.Record.{num_selected, count_of, Admitted}
use Rattle.bit_record.specs.declared.Polarity.{Polarity}
use Rattle.bit_record.proofs.Counted.{counted}
use Rattle.bit_record.proofs.Selected.{num_le}
use Rattle.spacing.specs.Spacing.{N, Rule, span, power, overhead, fixed, rule, span_log2, overhead_target, overhead_span, capped_log2_words, plan_with, capped, plan_for, ones_per_inventory_too_large, max_log2_words, words_per_subinventory_too_large, of_rule, chosen_plan, plan_of, ReckonedSmall, PlanOf}
use Rattle.spacing.specs.declared.Choice.{Choice}
use Rattle.spacing.specs.declared.Choice.TheVariants.{Default, Span, Power, Overhead, Fixed}
use Rattle.spacing.specs.declared.Parameters.{Parameters}
use Rattle.spacing.proofs.Span.{span_most}

-- what holds of every plan that is answered
pub record PlanFacts (ws : List ℕ) (len : ℕ) (pol : Polarity) (p : Parameters) : Type 0 where
  pub polarity : p.polarity ≡ pol
  pub length : p.len ≡ len
  pub of : PlanOf ws p

-- the span of an overhead is a u64
target_small : (percentage : Float) (m : ℕ) → overhead_target percentage m < 2 ^ 64
unfolding overhead_target
target_small percentage m = to_unsigned-lt 64 _

overhead_small : (percentage : Float) (maximum : ℕ) → maximum ≤ max_log2_words → overhead_span percentage maximum < 2 ^ 64
unfolding overhead_span
overhead_small percentage maximum h = omega (arith, target_small percentage (2 ^ maximum), pow_mono h)

-- so L is below 64 there too
overhead_most : (num len : ℕ) (percentage : Float) (maximum : ℕ) → num ≤ len → maximum ≤ max_log2_words
    → span_log2 num (overhead_span percentage maximum) len ≤ 63
overhead_most num len percentage maximum few h =
    span_most num (overhead_span percentage maximum) len few (overhead_small percentage maximum h)

pub reckoned_small : ReckonedSmall
reckoned_small = record { of_span = λ num len target. span_most num target len; of_overhead = overhead_most }

-- the span of a choice's rule is a u64
abbrev Fits : Rule → Type 0
Fits (span target maximum) = target < 2 ^ 64
Fits (power l maximum) = ⊤
Fits (overhead percentage maximum) = ⊤
Fits (fixed l m) = ⊤

rule_fits : (choice : Choice) → Fits (rule choice)
rule_fits Default = omega arith
rule_fits (Span target maximum) = omega arith
rule_fits (Power l maximum) = tt
rule_fits (Overhead percentage maximum) = tt
rule_fits (Fixed l m) = tt

module _ (ws : List ℕ) (len : ℕ) (pol : Polarity) (a : Admitted ws len) where
  abbrev num : ℕ
  num = num_selected pol ws len

  with_facts : (l m : ℕ) → l ≤ 63 → m ≤ max_log2_words → PlanFacts ws len pol (plan_with pol len num l m)
  with_facts l m hl hm = record {
    polarity = refl;
    length = refl;
    of = record { admitted = a; num = refl; few = num_le pol ws len; small_l = hl; small_m = hm; spaced = refl };
  }

  capped_facts : (l maximum : ℕ) → l ≤ 63 → maximum ≤ max_log2_words → PlanFacts ws len pol (capped pol len num l maximum)
  unfolding capped_log2_words
  capped_facts l maximum hl hm =
      with_facts l (capped_log2_words num l maximum) hl
      (le_trans (min-le_left maximum (min (l - 2) (clog2 (max 1 num) - 2))) hm)

  rule_facts : (r : Rule) → Fits r → ones_per_inventory_too_large r ≡ false → words_per_subinventory_too_large r ≡ false
      → PlanFacts ws len pol (plan_for pol len num r)
  unfolding plan_for
  rule_facts (span target maximum) f x y =
      capped_facts (span_log2 num target len) maximum (span_most num target len (num_le pol ws len) f) (ltb-false max_log2_words maximum y)
  rule_facts (power l maximum) f x y = capped_facts l maximum (ltb-false 63 l x) (ltb-false max_log2_words maximum y)
  rule_facts (overhead percentage maximum) f x y =
      let h = ltb-false max_log2_words maximum y in
      capped_facts (span_log2 num (overhead_span percentage maximum) len) maximum
      (overhead_most num len percentage maximum (num_le pol ws len) h) h
  rule_facts (fixed l m) f x y = with_facts l m (ltb-false 63 l x) (ltb-false max_log2_words m y)

  chosen_facts : (r : Rule) (p : Parameters) → Fits r → chosen_plan pol len num r ≡ answer p → PlanFacts ws len pol p
  unfolding chosen_plan
  chosen_facts r p f e =
      let t = passed_all (of_rule r) (answer (plan_for pol len num r)) p e in
      subst (λ (q : Parameters). PlanFacts ws len pol q) (answer_is t.1) (rule_facts r f t.0.0 t.0.1.0)

pub plan_facts : (ws : List ℕ) (len : ℕ) (pol : Polarity) (choice : Choice) (p : Parameters) → plan_of ws len pol choice ≡ answer p
    → PlanFacts ws len pol p
unfolding plan_of
plan_facts ws len pol choice p e =
    let n = then_answer (count_of ws len pol) (λ num. chosen_plan pol len num (rule choice)) p e in
    let c = counted ws len pol n.0 n.1 in
    chosen_facts ws len pol c.0 (rule choice) p (rule_fits choice) (rw c.1 n.2)

-- N, by the record's own polarity and len
pub plan_num : (ws : List ℕ) (len : ℕ) (pol : Polarity) (p : Parameters) → PlanFacts ws len pol p → N p ≡ num_selected pol ws len
plan_num ws len pol p c = c.of.num ∙ ap₂ (λ (o : Polarity) (l : ℕ). num_selected o ws l) c.polarity c.length

pub plan_admitted : (ws : List ℕ) (len : ℕ) (pol : Polarity) (p : Parameters) → PlanFacts ws len pol p → Admitted ws len
plan_admitted ws len pol p c = subst (Admitted ws) c.length c.of.admitted

-- a limit that its test let pass
pub within_words : (m : ℕ) → answer tt ≡ test_by ((nat_lt max_log2_words m, 4) ∷ []) → nat_lt max_log2_words m ≡ false
within_words m e = (passed_none ((nat_lt max_log2_words m, 4) ∷ []) e).0
