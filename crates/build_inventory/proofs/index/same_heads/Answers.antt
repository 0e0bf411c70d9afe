-- By the cases of the two tests and of the number of heads, which is 0 or 1.
use mathlib.Core.Path.{sym}
use Rattle.build_inventory.proofs.Comparing.{heads_no, heads_one, heads_two}
use Rattle.build_inventory.proofs.index.same_heads.Goals as goal

pub returns-then-a-first : goal.returns-then-a-first
returns-then-a-first c =
    let a = c.args in
    sym (heads_no a.cells.now a.heads a.first a.second c.requires.0 c.requires.1 c.if-a-first.true)

pub returns-then-heads-eq0 : goal.returns-then-heads-eq0
returns-then-heads-eq0 c =
    let a = c.args in
    sym (heads_one a.cells.now a.heads a.first a.second c.if-heads-eq0.true c.requires.1 c.if-a-first.false)

pub returns : goal.returns
returns c =
    let a = c.args in
    let r = c.requires in
    sym (heads_two a.cells.now a.heads a.first a.second r.0 c.if-heads-eq0.false r.1 c.if-a-first.false)
