-- The comparison of summaries is exact.
use denote.Enum.Bare.{sameb}
use mathlib.Core.Bool.{Bool, true, not, ◌&&◌, not-not, and_assoc, and-eq-true_iff}
use mathlib.Core.Path.{◌≡◌, refl, sym, ap, ◌∙◌}
use lib.Dec.{eqb}
use borrow.Author.Tests.{eq-eqb, eqb-true}
use Rattle.bit_record.specs.contracts.Polarity.{the_type}
use Rattle.bit_record.specs.declared.Polarity.{Polarity}
use Rattle.bit_record.specs.declared.Polarity.TheVariants.{Ones, Zeros}
use Rattle.spacing.specs.Spacing.{N, L, M, S}
use Rattle.spacing.specs.declared.Parameters.{Parameters}
use Rattle.inventory.specs.declared.summary.Summary.{Summary}
use Rattle.build_inventory.specs.Build.{same_polarity, same_plan, same_summary}

polarity_is : (a b : Polarity) → same_polarity a b ≡ true → a ≡ b
polarity_is Ones Ones e = refl
polarity_is Ones Zeros e = cc
polarity_is Zeros Ones e = cc
polarity_is Zeros Zeros e = refl

polarity_same : (a : Polarity) → same_polarity a a ≡ true
polarity_same Ones = refl
polarity_same Zeros = refl

-- the derived `==` compares discriminants
by_tag : (a b : Polarity) → sameb the_type a b ≡ same_polarity a b
by_tag Ones Ones = refl
by_tag Ones Zeros = refl
by_tag Zeros Ones = refl
by_tag Zeros Zeros = refl

plan_is : (p q : Parameters) → same_plan p q ≡ true → p ≡ q
unfolding same_plan
plan_is p q e =
    let s = (and-eq-true_iff _ (eqb (S p) (S q))).0 e in
    let m = (and-eq-true_iff _ (eqb (M p) (M q))).0 s.0 in
    let l = (and-eq-true_iff _ (eqb (L p) (L q))).0 m.0 in
    let n = (and-eq-true_iff _ (eqb (N p) (N q))).0 l.0 in
    let k = (and-eq-true_iff (same_polarity p.polarity q.polarity) (eqb p.len q.len)).0 n.0 in
    λ i. record {
      polarity = polarity_is p.polarity q.polarity k.0 i;
      len = eqb-true p.len q.len k.1 i;
      num = eqb-true (N p) (N q) n.1 i;
      log2_ones_per_inventory = eqb-true (L p) (L q) l.1 i;
      log2_words_per_subinventory = eqb-true (M p) (M q) m.1 i;
      log2_ones_per_sub16 = eqb-true (S p) (S q) s.1 i;
    }

-- what the derived `==` of two summaries says, field by field, is `same_summary`
abbrev derived : Summary → Summary → Bool
derived t u =
    let p = t.plan in
    let q = u.plan in
    (sameb the_type p.polarity q.polarity && (eqb p.len q.len && (eqb (N p) (N q) && (eqb (L p) (L q) && (eqb (M p) (M q) && eqb (S p) (S q))))))
    && (eqb t.origin u.origin && (eqb t.inventory_len u.inventory_len && eqb t.spill_len u.spill_len))

derived_same : (t u : Summary) → derived t u ≡ same_summary t u
unfolding same_summary same_plan
derived_same t u = rw (by_tag t.plan.polarity u.plan.polarity) (simp and_assoc refl)

-- so `!=` tells it
pub told_apart : (t u : Summary) (n v : Bool) → n ≡ not (derived t u) → n ≡ v → same_summary t u ≡ not v
told_apart t u n v e f = sym (derived_same t u) ∙ sym (not-not (derived t u)) ∙ ap not (sym e ∙ f)

pub summary_is : (t u : Summary) → same_summary t u ≡ true → t ≡ u
unfolding same_summary
summary_is t u e =
    let s = (and-eq-true_iff _ (eqb t.spill_len u.spill_len)).0 e in
    let v = (and-eq-true_iff _ (eqb t.inventory_len u.inventory_len)).0 s.0 in
    let o = (and-eq-true_iff (same_plan t.plan u.plan) (eqb t.origin u.origin)).0 v.0 in
    λ i. record {
      plan = plan_is t.plan u.plan o.0 i;
      origin = eqb-true t.origin u.origin o.1 i;
      inventory_len = eqb-true t.inventory_len u.inventory_len v.1 i;
      spill_len = eqb-true t.spill_len u.spill_len s.1 i;
    }

pub summary_same : (t : Summary) → same_summary t t ≡ true
unfolding same_summary same_plan
summary_same t =
    rw (
      polarity_same t.plan.polarity,
      eq-eqb t.plan.len _ refl,
      eq-eqb (N t.plan) _ refl,
      eq-eqb (L t.plan) _ refl,
      eq-eqb (M t.plan) _ refl,
      eq-eqb (S t.plan) _ refl,
      eq-eqb t.origin _ refl,
      eq-eqb t.inventory_len _ refl,
      eq-eqb t.spill_len _ refl,
    )
