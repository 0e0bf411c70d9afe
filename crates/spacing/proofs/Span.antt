-- L of a span, by products.
use Rattle.std.proofs.Common.{◌≡◌, ℕ, ◌+◌, ◌-◌, ◌*◌, ◌^◌, ◌<◌, ◌≤◌, max, mul-le-mul_right, mul_comm, le_antisymm, arith, pow_pos, pow_mono}
use Rattle.rank_sel.specs.Numbers.{ceil_div, ilog2}
use Rattle.rank_sel.proofs.Ceil.{below_ceil, ceil_within}
use Rattle.rank_sel.proofs.Numbers.{ilog2_most, ilog2_least}
use Rattle.spacing.specs.Spacing.{span_log2}

-- the logarithm of a ceiling, by a product
module _ (p d l : ℕ) (h : 0 < d) where
  log2_here : (2 ^ l - 1) * d < p → l ≤ ilog2 (max 1 (ceil_div p d))
  log2_here a =
      let c = below_ceil (2 ^ l - 1) p d h a in
      ilog2_least (max 1 (ceil_div p d)) l (omega (arith, pow_pos l))

  log2_below : 0 < l → p ≤ (2 ^ l - 1) * d → ilog2 (max 1 (ceil_div p d)) ≤ l - 1
  log2_below o a =
      let c = ceil_within (2 ^ l - 1) p d h a in
      ilog2_most (max 1 (ceil_div p d)) (l - 1) (let e : l - 1 + 1 ≡ l = omega arith in rw e (omega (arith, pow_mono {i = 1} {j = l} o)))

-- no more than the span is left of it: so L is below 64
pub span_most : (num span len : ℕ) → num ≤ len → span < 2 ^ 64 → span_log2 num span len ≤ 63
unfolding span_log2
span_most num span len h f =
    let m : num * span ≤ span * max 1 len = rw (mul_comm span (max 1 len))
    (mul-le-mul_right span (let g : num ≤ max 1 len = omega arith in g)) in
    let c = ceil_within span (num * span) (max 1 len) (omega arith) m in
    ilog2_most (max 1 (ceil_div (num * span) (max 1 len))) 63 (within (ceil_div (num * span) (max 1 len)) span c f)
  where
    within : (k s : ℕ) → k ≤ s → s < 2 ^ 64 → max 1 k < 2 ^ (63 + 1)
    within k s a b = omega arith

-- what one comparison of products says of L: where it holds, L is l, if it is at most that; else it is less
module _ (num span len l : ℕ) where
  pub span_here : (2 ^ l - 1) * max 1 len < num * span → span_log2 num span len ≤ l → l ≡ span_log2 num span len
  unfolding span_log2
  span_here a u = le_antisymm (log2_here (num * span) (max 1 len) l (omega arith) a) u

  pub span_below : 0 < l → num * span ≤ (2 ^ l - 1) * max 1 len → span_log2 num span len ≤ l - 1
  unfolding span_log2
  span_below o a = log2_below (num * span) (max 1 len) l (omega arith) o a
