-- Refused by the tests, which leaves the bytes; or passed: then the one put is the image, which has room.
use Prim.Native.Nat.{◌+◌, ◌^◌, ◌<◌}
use mathlib.Core.Path.{ap, ◌∙◌}
use native.Mathlib.Omega.{arith}
use lib.ListN.{length}
use lib.Seq.{length-take-le}
use Rattle.inventory.specs.Lawful.{CellsHeld}
use Rattle.inventory.specs.Numbers.{numbers_of}
use Rattle.index_image.specs.Image.{offset_of, header_of}
use Rattle.index_image.proofs.Outcomes.{write_stopped, write_held, write_room, write_done}
use Rattle.index_image.proofs.image.write_image.Goals.{In_ok-test_writing}
use Rattle.index_image.proofs.image.write_image.Goals as goal

-- the tests are passed
module _ (c : In_ok-test_writing) where
  held : let a = c.args in CellsHeld a.summary a.inventory.now a.spill.now
  held = let a = c.args in write_held a.summary a.inventory.now a.spill.now (length a.bytes.now) c.in_ok-test_writing.ensures

  room : let a = c.args in offset_of (a.summary.inventory_len + a.summary.spill_len) < 2 ^ 64
  room = let a = c.args in omega (arith, write_room a.summary a.inventory.now a.spill.now (length a.bytes.now) c.in_ok-test_writing.ensures)

pub returns-in_err-test_writing : goal.returns-in_err-test_writing
returns-in_err-test_writing c =
    let a = c.args in
    write_stopped a.summary a.inventory.now a.spill.now (length a.bytes.now) _ _ c.from_residual.ensures c.in_err-test_writing.ensures a.bytes.now

pub header_of-header-requires : goal.header_of-header-requires
unfolding numbers_of
header_of-header-requires c =
    rw c.numbers_of.ensures (omega (arith, room (goal.at.header_of-header-requires c).In_ok-test_writing))

pub put_image-requires : goal.put_image-requires
put_image-requires c =
    let a = c.args in
    let at = (goal.at.put_image-requires c).In_ok-test_writing in
    let own = length-take-le a.summary.inventory_len a.inventory.now (held at).own in
    let over = length-take-le a.summary.spill_len a.spill.now (held at).over in
    rw (own, over) (write_room a.summary a.inventory.now a.spill.now (length a.bytes.now) c.in_ok-test_writing.ensures)

pub overflow_add-result-2 : goal.overflow_add-result-2
overflow_add-result-2 c =
    omega (arith, room (goal.at.overflow_add-result-2 c).In_ok-test_writing)

pub returns : goal.returns
returns c =
    let a = c.args in
    write_done a.summary a.inventory.now a.spill.now (length a.bytes.now) c.in_ok-test_writing.ensures c.header_of-header.result _ _
    (c.header_of-header.ensures ∙ ap header_of c.numbers_of.ensures) c.put_image.ensures
