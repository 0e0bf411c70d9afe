-- What passing the tests shows of a record, and what a count says of it.
use mathlib.Core.Bool.{Bool, true, false}
use mathlib.Core.List.{List, [], ◌∷◌}
use mathlib.Core.Path.{◌≡◌, refl, sym}
use Prim.Native.Nat.{ℕ, ◌+◌, ◌-◌, ◌^◌, ◌≤◌}
use native.Mathlib.Omega.{arith}
use lib.Dec.{ltb}
use lib.ListN.{length}
use borrow.Author.Tests.{le-ltb, ltb-false}
use Rattle.std.proofs.lemmas.Bool.{or_parts}
use Rattle.rank_sel.specs.Numbers.{ceil_div}
use Rattle.rank_sel.specs.Outcome.{Outcome, answer, refuse_if, test_by, NoneOf}
use Rattle.rank_sel.proofs.Outcome.{answer_is, passed_all}
use Rattle.bit_record.specs.Record.{num_selected, len_too_large, too_few_words, of_record, of_record_from, of_sample, position_at, count_of, Admitted, AdmittedFrom}
use Rattle.bit_record.specs.declared.Polarity.{Polarity}

-- neither 1 nor 2 turns the record down
pub admitted : (ws : List ℕ) (len : ℕ) → NoneOf (of_record ws len) → Admitted ws len
admitted ws len h = record {
  short = omega (arith, ltb-false (2 ^ 62 - 1) len h.0);
  held = ltb-false (length ws) (ceil_div len 64) h.1.0;
}

pub admitted_none : (ws : List ℕ) (len : ℕ) → Admitted ws len → NoneOf (of_record ws len)
admitted_none ws len a = (le-ltb (2 ^ 62 - 1) len (omega (arith, a.short)), (le-ltb (length ws) (ceil_div len 64) a.held, tt))

-- nor does 14
pub admitted_from : (ws : List ℕ) (len origin : ℕ) → NoneOf (of_record_from ws len origin) → AdmittedFrom ws len origin
admitted_from ws len origin h = record {
  admitted = admitted ws len (h.0, h.1.1);
  numbered = omega (arith, ltb-false (2 ^ 62 - 1) (origin + len) h.1.0);
}

pub admitted_from_none : (ws : List ℕ) (len origin : ℕ) → AdmittedFrom ws len origin → NoneOf (of_record_from ws len origin)
admitted_from_none ws len origin a =
    let n = admitted_none ws len a.admitted in
    (n.0, (le-ltb (2 ^ 62 - 1) (origin + len) (omega (arith, a.numbered)), n.1))

-- from 0 on, 14 says nothing that 1 did not
pub from_zero : (ws : List ℕ) (len : ℕ) → test_by (of_record_from ws len 0) ≡ test_by (of_record ws len)
from_zero ws len = let z : 0 + len ≡ len = omega arith in rw z (go (len_too_large len) (test_by ((too_few_words ws len, 2) ∷ [])))
  where
    go : (b : Bool) (rest : Outcome (Unit {0})) → refuse_if b 1 (refuse_if b 14 rest) ≡ refuse_if b 1 rest
    go true rest = refl
    go false rest = refl

-- where a count answers, it is N
pub counted : (ws : List ℕ) (len : ℕ) (pol : Polarity) (n : ℕ) → count_of ws len pol ≡ answer n
    → Admitted ws len × (num_selected pol ws len ≡ n)
unfolding count_of
counted ws len pol n e =
    let p = passed_all (of_record ws len) (answer (num_selected pol ws len)) n e in (admitted ws len p.0, answer_is p.1)

-- where a sample has a position, the end is not passed
pub position_within : (origin len x p : ℕ) → answer p ≡ position_at origin len x → p ≤ len
unfolding position_at
position_within origin len x p e =
    let s = passed_all (of_sample origin len x) (answer (x - origin)) p (sym e) in
    let o = or_parts (ltb x origin) (ltb (origin + len) x) s.0.0 in
    omega (arith, answer_is s.1, ltb-false (origin + len) x o.1)
