use Rattle.std.proofs.Common.{◌≡◌, ℕ, ◌+◌, ◌-◌, ◌*◌, ◌<◌, ◌≤◌, List, length, drop, get_or, sym, ap, ◌∙◌, arith, le-ltb, lt-ltb}
use Rattle.std.specs.Prelude.{Err}
use Rattle.find_edge_input.specs.declared.number.NumberError.TheVariants.{TooLarge}
use Rattle.find_edge_input.specs.Number.{value_from, fitting}
use Rattle.find_edge_input.proofs.Digits.{value_go, value_over, value_end}
use Rattle.find_edge_input.proofs.Steps.{handed_on, went_through, stopped}
use Rattle.find_edge_input.proofs.number.value.Goals as goal

-- the byte's digit
module _ (n i d : ℕ) (text : List ℕ) (e : d ≡ get_or text i 0 - 48) (h : i < length text) (v : value_from 0 text ≡ value_from n (drop i text)) where
  over : (m : ℕ) → 18446744073709551616 ≤ m → m ≤ n * 10 + d → Err TooLarge ≡ fitting (value_from 0 text)
  over m a b = simp (le-ltb _ _ (value_over n text i d h e v 18446744073709551616 (omega arith)))

pub returns-in_err-tens : goal.returns-in_err-tens
returns-in_err-tens c =
    let l = c.loop-byte in
    let s = stopped c.checked_mul.result _ c.in_err-tens.field-0.0 _ c.checked_mul.ensures (sym c.in_err-tens.ensures.value) in
    handed_on _ _ c.from_residual.ensures ∙ ap Err s.1 ∙ over l.n l.byte-index c.from-digit.result c.args.text.now (c.from-digit.ensures ∙ c.saturating_sub.ensures) (omega arith) l.invariant.0 (l.n * 10) (omega arith) (omega arith)

pub returns-in_err-n : goal.returns-in_err-n
returns-in_err-n c =
    let l = c.loop-byte in
    let m = went_through c.checked_mul.result _ c.in_ok-tens.tens _ c.checked_mul.ensures (sym c.in_ok-tens.ensures.value) in
    let s = stopped c.checked_add.result _ c.in_err-n.field-0.0 _ c.checked_add.ensures (sym c.in_err-n.ensures.value) in
    handed_on _ _ c.from_residual-in_err-n.ensures ∙ ap Err s.1 ∙ over l.n l.byte-index c.from-digit.result c.args.text.now (c.from-digit.ensures ∙ c.saturating_sub.ensures) (omega arith) l.invariant.0 (l.n * 10 + c.from-digit.result) (omega arith) (omega arith)

pub loop-byte-preserved : goal.loop-byte-preserved
loop-byte-preserved c =
    let l = c.loop-byte in
    let m = went_through c.checked_mul.result _ c.in_ok-tens.tens _ c.checked_mul.ensures (sym c.in_ok-tens.ensures.value) in
    let a = went_through c.checked_add.result _ c.in_ok-n.n _ c.checked_add.ensures (sym c.in_ok-n.ensures.value) in
    let e : c.in_ok-n.n ≡ l.n * 10 + c.from-digit.result = omega arith in
    (rw e (value_go l.n c.args.text.now l.byte-index c.from-digit.result (omega arith) (c.from-digit.ensures ∙ c.saturating_sub.ensures) l.invariant.0), omega arith)

pub returns : goal.returns
returns c =
    let v = c.loop-byte.invariant.0 ∙ value_end c.loop-byte.n c.args.text.now c.loop-byte.byte-index (omega arith) in
    rw v (simp (lt-ltb c.loop-byte.n 18446744073709551616 (omega arith)))
