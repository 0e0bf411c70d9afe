-- Past the limit, or within it: the origin and what `len` leaves of the limit compare as the sum and the limit do.
use mathlib.Core.Logic.{⊎_elim}
use Prim.Native.Nat.{◌+◌, ◌-◌, ◌≤◌, ◌<◌}
use native.Mathlib.Omega.{arith}
use borrow.Author.Tests.{le-ltb, lt-ltb}
use Rattle.std.proofs.lemmas.Bool.{cases_lt}
use Rattle.bit_record.proofs.is_origin_too_large.Goals as goal

pub returns : goal.returns
returns c =
    let a = c.args in
    let n = a.origin + a.len in ⊎_elim
    (λ (h : 4611686018427387903 < n). simp (lt-ltb _ n h, lt-ltb (4611686018427387903 - a.len) a.origin (omega arith)))
    (λ (h : n ≤ 4611686018427387903). simp (le-ltb _ n h, le-ltb (4611686018427387903 - a.len) a.origin (omega (arith, c.requires))))
    (cases_lt 4611686018427387903 n)
