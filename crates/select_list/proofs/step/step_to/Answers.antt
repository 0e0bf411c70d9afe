-- Rank's mark is read: it is refused, is itself the answer, or a reading goes on from it or from the last bit.
use mathlib.Core.Path.{◌≡◌, refl, sym, ◌∙◌}
use Rattle.std.specs.Prelude as std
use Rattle.read_inventory.proofs.Answers.{MarkRead, mark_below}
use Rattle.read_inventory.proofs.Ten.{ten_err, ten_rank}
use Rattle.select_list.specs.Hand.{last_of}
use Rattle.select_list.specs.Step.{from_mark, start_of}
use Rattle.select_list.proofs.Reading.{start_on, start_at, hand_bit, step_none, step_exact, step_read}
use Rattle.select_list.proofs.step.step_to.Goals.{In-Ok, In_default-hand, in_default-hand-via-in-Some+else-mark-last, in_default-hand-via-in_default-hand}
use Rattle.select_list.proofs.step.step_to.Goals as goal

-- the mark is read
module _ (c : In-Ok) where
  read :
      let i = c.args.index.now.cells in
      MarkRead i.summary i.inventory.now i.spill.now c.args.rank c.in-Ok.mark
  read = record { told = c.in-Ok.ensures }

pub returns-in_default : goal.returns-in_default
returns-in_default c =
    let a = c.args in
    step_none _ _ _ _ a.rank a.hand (ten_err (ten_rank _ _ _ _) _ _ c.in_default.is c.mark_of.ensures)

pub returns-then-mark : goal.returns-then-mark
returns-then-mark c =
    let a = c.args in
    step_exact _ _ _ _ a.rank a.hand _ (read (goal.at.returns-then-mark c).In-Ok) c.if-mark.true c.requires.1

-- the reading starts at the mark: there is no last bit, or the mark is at it or behind it
module _ (c : In_default-hand) where
  marked :
      let a = c.args in
      let m = c.in-Ok.mark in
      (c.in_default-hand.hand ≡ a.hand) × (from_mark m ≡ start_of (last_of a.hand) a.rank m)
  marked =
      let a = c.args in
      elim c.in_default-hand.branch [
        | in_default-hand-via-in-Some+else-mark-last w ↦
            (w.hand-is ∙ sym w.in-Some.is, rw w.in-Some.is (start_at w.in-Some.last a.rank c.in-Ok.mark w.if-mark-last.false))
        | in_default-hand-via-in_default-hand w ↦ (w.hand-is, rw w.in_default-hand.is refl)
      ]

pub read_from-requires : goal.read_from-requires
read_from-requires c =
    let a = c.args in
    let e = c.record-record.ensures in
    let at = goal.at.read_from-requires c in
    rw (e.words, e.len, e.polarity, (marked at.In_default-hand).0) (hand_bit _ a.rank a.hand c.requires.1, mark_below (read at.In-Ok))

pub returns-in-Some : goal.returns-in-Some
returns-in-Some c =
    let a = c.args in
    let m = c.in-Ok.mark in
    let b = c.in-Some.last in
    let k = read (goal.at.returns-in-Some c).In-Ok in
    rw c.in-Some.is
    (step_read _ _ _ _ a.rank (std.Some b) m k c.if-mark.false _ c.record-record.ensures _ (start_on b a.rank m c.if-mark-last.true) _ c.read_on.ensures)

pub returns-in_default-hand : goal.returns-in_default-hand
returns-in_default-hand c =
    let a = c.args in
    let at = goal.at.returns-in_default-hand c in
    let k = read at.In-Ok in
    let d = marked at.In_default-hand in
    step_read _ _ _ _ a.rank a.hand _ k c.if-mark.false _ c.record-record.ensures _ d.1 _ (rw (← d.0) c.read_from.ensures)
