-- The full word shifted down by 64 - residual is the mask (`mask_shr`); for 0 it stays full.
use native.Mathlib.Omega.{arith}
use Rattle.select_in_word.proofs.Tail.{mask_shr}
use Rattle.select_in_word.proofs.tail_mask.Goals as goal

pub returns-else-residual-eq0 : goal.returns-else-residual-eq0
returns-else-residual-eq0 c =
    mask_shr c.args.residual (omega arith) (omega arith)
