use mathlib.Core.Path.{◌≡◌, refl, ap, ◌∙◌}
use mathlib.Core.List.{List}
use Prim.Native.Nat.{ℕ, ◌-◌, ◌/◌}
use native.Mathlib.Omega.{arith}
use lib.ListN.{length, length-drop, set, take, drop}
use lib.Seq.{take_all}
use Rattle.inventory.specs.Lanes.{tabulate}
use Rattle.index_image.specs.Bytes.{words_from}
use Rattle.index_image.proofs.Bytes.{chunk_word, words_more}
use Rattle.index_image.proofs.words.read_words.Goals as goal

pub loop-i-init : goal.loop-i-init
unfolding words_from tabulate
loop-i-init c =
    refl

pub loop-i-preserved : goal.loop-i-preserved
loop-i-preserved c =
    let a = c.args in
    let l = c.loop-i in
    let w = c.from_le_bytes.result in
    let long : length (drop a.at a.bytes.now) ≡ length a.bytes.now - a.at = length-drop a.at a.bytes.now in
    let all : take (length a.bytes.now - a.at) (drop a.at a.bytes.now) ≡ drop a.at a.bytes.now =
    take_all (length a.bytes.now - a.at) (drop a.at a.bytes.now) (omega arith) in
    let e = chunk_word a.bytes.now a.at (length (drop a.at a.bytes.now) / 8) l.i w c.as_chunks.result.0.now (omega arith) (rw all at c.as_chunks.ensures.front) c.from_le_bytes.ensures in
    ap (λ (z : List ℕ). set z l.i w) l.invariant
    ∙ words_more a.bytes.now a.at a.cells.now l.i w c.loop-i-test.true e
