-- No rank is the largest of none; else the last is.
use native.Mathlib.Omega.{arith}
use Rattle.select_list.proofs.Ranks.{large_none, large_some}
use Rattle.select_list.proofs.tests.is_any_too_large.Goals as goal

pub returns-in-Some : goal.returns-in-Some
returns-in-Some c =
    let a = c.args in
    let h = c.in-Some.ensures.item in
    rw (h.3.1 0) (large_some a.num 0 a.ranks.now c.requires h.3.0)

pub returns-in-None : goal.returns-in-None
returns-in-None c =
    let h = c.in-None.ensures.item in
    large_none c.args.num c.args.ranks.now (omega (arith, h.3))
