-- A selected mark with none to pass is itself what is sought (`record_at`); else `seek_past` says.
use mathlib.Core.Path.{sym, ap, ◌∙◌}
use native.Mathlib.Omega.{arith}
use Rattle.rank_sel.specs.Outcome.{or_refuse}
use Rattle.bit_record.proofs.Selected.{selected_in}
use Rattle.bit_record.proofs.Seek.{record_at}
use Rattle.read_inventory.proofs.jump.seek_mark.Goals as goal

pub returns-then-is_selected : goal.returns-then-is_selected
returns-then-is_selected c =
    let a = c.args in
    let r = a.bits.now in
    rw c.if-residual-eq0.true
    (ap (or_refuse 10)
    (record_at r.polarity r.words.now r.len a.mark 0 a.mark (omega arith)
    (selected_in r.polarity r.words.now r.len a.mark c.requires
    ∙ sym c.is_selected.ensures ∙ c.if-is_selected.true)
    (omega arith)))
