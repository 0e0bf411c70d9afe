-- What lies above the place is not 0, and its lowest one is the next (`next_above`).
use mathlib.Core.Logic.{⊎_elim}
use Prim.Native.Nat.{◌≤◌, ◌<◌}
use native.Mathlib.Omega.{arith}
use lib.Count.{ones-le}
use Rattle.std.proofs.lemmas.Bool.{cases_lt}
use Rattle.select_in_word.proofs.Near.{next_above}
use Rattle.select_in_word.proofs.Select.{rest, rest_above}
use Rattle.select_in_word.proofs.next_one.Goals as goal

pub first_one-requires : goal.first_one-requires
first_one-requires c =
    let a = c.args in
    let r = rest a.word a.position in
    let some : 0 < r =
    ⊎_elim (λ (l : 0 < r). l)
    (λ (l : r ≤ 0).
    absurd (omega (arith, ones-le 0 r (omega arith), rest_above a.word a.position c.ranges.word.fits c.requires.0, c.requires.1)))
    (cases_lt 0 r) in
    omega (arith, some)

pub returns : goal.returns
returns c =
    let a = c.args in
    next_above a.word a.position c.first_one.result c.ranges.word.fits c.requires.0 c.first_one.ensures
