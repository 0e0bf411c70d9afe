use Rattle.std.proofs.Common.{◌≡◌, ℕ, List, length, set, refl, ap, ◌∙◌, arith, length-set}
use Rattle.rank_sel.specs.Numbers.{ceil_div}
use Rattle.inventory.specs.Lanes.{tabulate}
use Rattle.inventory.proofs.Lanes.{tab_more}
use Rattle.find_edge_input.specs.Words.{word_of, packed}
use Rattle.find_edge_input.proofs.words.pack.Goals as goal

pub loop-i-init : goal.loop-i-init
unfolding tabulate
loop-i-init c = (refl, refl)

pub loop-i-preserved : goal.loop-i-preserved
loop-i-preserved c =
    let a = c.args in
    let l = c.loop-i in
    (simp length-set l.invariant.0, ap (λ (z : List ℕ). set z l.i c.word_of.result) l.invariant.1 ∙ tab_more (word_of a.bytes.now) a.words.now l.i c.word_of.result (omega arith) c.word_of.ensures)

pub returns : goal.returns
unfolding packed
returns c =
    let e : c.loop-i.i ≡ ceil_div (length c.args.bytes.now) 8 = omega arith in
    rw e at c.loop-i.invariant.1
