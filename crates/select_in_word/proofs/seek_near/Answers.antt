-- With none to pass, a set bit 0 is the one; else `seek_in_word` says.
use mathlib.Core.Path.{sym, ap, ◌∙◌}
use native.Mathlib.Omega.{arith}
use Rattle.rank_sel.specs.Seek.{Sought}
use Rattle.select_in_word.specs.Bit.{bit}
use Rattle.select_in_word.specs.Select.{seek_in_word}
use Rattle.select_in_word.proofs.Bit.{bit-zero}
use Rattle.select_in_word.proofs.Select.{word_seek_at}
use Rattle.select_in_word.proofs.seek_near.Goals as goal

pub returns-then-word-eq1 : goal.returns-then-word-eq1
returns-then-word-eq1 c =
    let w = c.args.word in
    let first : Sought (bit w) 64 0 0 0 =
    record { low = omega arith; high = omega arith; here = bit-zero w ∙ rw c.if-word-eq1.true; before = omega arith } in
    word_seek_at w 0 0 _ first c.ones_above-remaining.ensures ∙ ap (seek_in_word w) (sym c.if-k-eq0.true)
