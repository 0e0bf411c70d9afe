-- The one test is the definition's.
use borrow.Author.Tests.{eq-eqb, ne_eqb}
use Rattle.inventory.specs.Numbers.{polarity_at}
use Rattle.inventory.proofs.numbers.polarity_at.Goals as goal

pub returns-then-code-eq0 : goal.returns-then-code-eq0
unfolding polarity_at
returns-then-code-eq0 c =
    rw (eq-eqb _ _ c.if-code-eq0.true)

pub returns : goal.returns
unfolding polarity_at
returns c =
    rw (ne_eqb _ _ c.if-code-eq0.false)
