-- Above 1 it is one more than the logarithm of n - 1 (`clog2-ilog2`), which is at most 63; up to 1 it is 0.
use Rattle.std.proofs.Common.{◌-◌, arith}
use Rattle.rank_sel.proofs.Numbers.{ilog2_most, clog2_is, clog2-ilog2}
use Rattle.spacing.proofs.numbers.ceil_log2.Goals as goal

pub overflow_add-result : goal.overflow_add-result
overflow_add-result c =
    omega (arith, ilog2_most (c.args.n - 1) 63 (omega arith))

pub returns-then-n-le1 : goal.returns-then-n-le1
returns-then-n-le1 c =
    let h = (clog2_is c.args.n).1 0 (omega arith) in omega arith

pub returns-else-n-le1 : goal.returns-else-n-le1
returns-else-n-le1 c =
    let e = clog2-ilog2 c.args.n (omega arith) in
    omega arith
