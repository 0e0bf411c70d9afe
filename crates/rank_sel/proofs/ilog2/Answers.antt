-- The library's power of two is the highest that n reaches; of 0 the logarithm is 0.
use Rattle.std.proofs.Common.{arith, add-one}
use Rattle.std.proofs.Math.Nat.{pow-suc}
use Rattle.rank_sel.proofs.Numbers.{ilog2_most, ilog2_unique}
use Rattle.rank_sel.proofs.ilog2.Goals as goal

pub returns-then-n-eq0 : goal.returns-then-n-eq0
returns-then-n-eq0 c = let h = ilog2_most c.args.n 0 (omega arith) in omega arith

pub returns-else-n-eq0 : goal.returns-else-n-eq0
returns-else-n-eq0 c =
    let e = ilog2_unique c.args.n c.ilog2.result c.ilog2.ensures.power_le (rw (add-one, pow-suc 2 c.ilog2.result) (omega (arith, c.ilog2.ensures.next_power_gt))) in
    omega arith
