-- Refused by the tests, which leaves the places; or passed: then the walk places all.
use lib.ListN.{length}
use Rattle.select_list.proofs.Placed.{list_walkable, list_room, list_placed, list_stopped}
use Rattle.select_list.proofs.list.select_list.Goals as goal

pub returns-in_err-index : goal.returns-in_err-index
returns-in_err-index c =
    let p = list_stopped _ _ _ _ _ _ _ c.in_err-index.ensures _ c.from_residual.ensures c.args.places.now in
    record { total = p.told; places = p.places }

pub place_all-requires : goal.place_all-requires
place_all-requires c =
    let a = c.args in
    let l = list_walkable _ _ _ _ a.ranks.now (length a.places.now) _ c.in_ok-index.ensures in
    (l, list_room _ _ _ _ a.ranks.now (length a.places.now) _ c.in_ok-index.ensures)

pub returns : goal.returns
returns c =
    let a = c.args in
    let p = list_placed _ _ _ _ a.ranks.now (length a.places.now) _ c.in_ok-index.ensures a.places.now _ c.place_all.result
    c.place_all.ensures in
    record { total = p.told; places = p.places }
