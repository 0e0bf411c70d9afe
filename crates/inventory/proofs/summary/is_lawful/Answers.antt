-- Each return denies the first rule that is broken; the last leaves the answer to the count.
use mathlib.Core.Bool.{Bool, true, false, not}
use mathlib.Core.Path.{◌≡◌, refl}
use Prim.Native.Nat.{◌-◌}
use native.Mathlib.Omega.{arith}
use borrow.Author.Tests.{le-ltb, lt-ltb, ne_eqb, eq-eqb}
use Rattle.inventory.specs.Lawful.{unlawful}
use Rattle.inventory.proofs.summary.is_lawful.Goals as goal

not_not : (b : Bool) → not (not b) ≡ b
not_not true = refl
not_not false = refl

pub returns-then-plan : goal.returns-then-plan
unfolding unlawful
returns-then-plan c =
    simp (lt-ltb _ _ c.if-plan.true)

pub returns-then-l-gt63 : goal.returns-then-l-gt63
unfolding unlawful
returns-then-l-gt63 c =
    simp (le-ltb _ _ c.if-plan.false, lt-ltb _ _ c.if-l-gt63.true)

pub returns-then-m-gt-MAX_LOG2_WORDS_PER_SUBINVENTORY : goal.returns-then-m-gt-MAX_LOG2_WORDS_PER_SUBINVENTORY
unfolding unlawful
returns-then-m-gt-MAX_LOG2_WORDS_PER_SUBINVENTORY c =
    simp (le-ltb _ _ c.if-plan.false, le-ltb _ _ c.if-l-gt63.false, lt-ltb _ _ c.if-m-gt-MAX_LOG2_WORDS_PER_SUBINVENTORY.true)

pub returns-then-plan-saturating_sub : goal.returns-then-plan-saturating_sub
unfolding unlawful
returns-then-plan-saturating_sub c =
    let p = c.args.summary.plan in
    simp (
      le-ltb _ _ c.if-plan.false,
      le-ltb _ _ c.if-l-gt63.false,
      le-ltb _ _ c.if-m-gt-MAX_LOG2_WORDS_PER_SUBINVENTORY.false,
      ne_eqb p.log2_ones_per_sub16 (p.log2_ones_per_inventory - p.log2_words_per_subinventory - 2)
          (λ h. c.if-plan-saturating_sub.true (omega (arith, c.saturating_sub.ensures))),
    )

pub returns : goal.returns
unfolding unlawful
returns c =
    let p = c.args.summary.plan in
    simp (
      le-ltb _ _ c.if-plan.false,
      le-ltb _ _ c.if-l-gt63.false,
      le-ltb _ _ c.if-m-gt-MAX_LOG2_WORDS_PER_SUBINVENTORY.false,
      eq-eqb p.log2_ones_per_sub16 (p.log2_ones_per_inventory - p.log2_words_per_subinventory - 2)
          (omega (arith, c.if-plan-saturating_sub.false, c.saturating_sub.ensures)),
      not_not,
    )
    c.is_inventory_len.ensures
