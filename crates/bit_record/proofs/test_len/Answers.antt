-- Each return tells the first condition that holds; those before it have been passed.
use mathlib.Core.Path.{sym, ◌∙◌}
use native.Mathlib.Omega.{arith}
use borrow.Author.Tests.{le-ltb, lt-ltb}
use Rattle.bit_record.proofs.test_len.Goals as goal

pub returns-then-len-gt-MAX_LEN : goal.returns-then-len-gt-MAX_LEN
returns-then-len-gt-MAX_LEN c =
    simp (lt-ltb _ _ c.if-len-gt-MAX_LEN.true)

pub is_origin_too_large-requires : goal.is_origin_too_large-requires
is_origin_too_large-requires c =
    omega (arith, c.if-len-gt-MAX_LEN.false)

pub returns-then-is_origin_too_large : goal.returns-then-is_origin_too_large
returns-then-is_origin_too_large c =
    simp (le-ltb _ _ c.if-len-gt-MAX_LEN.false, sym c.is_origin_too_large.ensures ∙ c.if-is_origin_too_large.true)

pub returns : goal.returns
returns c =
    simp (le-ltb _ _ c.if-len-gt-MAX_LEN.false, sym c.is_origin_too_large.ensures ∙ c.if-is_origin_too_large.false)
