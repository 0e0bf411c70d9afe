-- The list of spans by its rule, that each line ends a doubling later: which line has a span, and so the logarithm.
use mathlib.Core.Path.{◌≡◌, refl, sym, ◌∙◌}
use mathlib.Core.Logic.{⊎_elim}
use mathlib.Core.List.{List, [], ◌∷◌}
use Prim.Native.Nat.{ℕ, zero, suc, ◌+◌, ◌-◌, ◌/◌, ◌^◌, ◌≤◌, ◌<◌}
use native.Mathlib.Omega.{arith}
use lib.Pow.{pow_pos, pow_mono, pow-add}
use borrow.Author.Tests.{le-leb, lt-leb}
use Rattle.rank_sel.specs.Numbers.{ilog2}
use Rattle.rank_sel.proofs.Numbers.{ilog2_is, ilog2_least, ilog2_most}
use Rattle.std.proofs.lemmas.Bool.{cases_lt}
use Rattle.inventory.specs.Spans.{Case, to, span_cases, taken_by, taken_off}

-- n lines from that of k on, each a doubling longer
abbrev doublings : ℕ → ℕ → List Case
doublings k zero = []
doublings k (suc n) = to (2 ^ (k + 15) - 1) k ∷ doublings (suc k) n

-- the whole list, by computation
by_doublings : (span : ℕ) → taken_by span_cases span ≡ taken_by (doublings 2 46) span
by_doublings span = refl

-- of n lines from that of j on, the first that reaches the span is that of k
line_of : (n j k span : ℕ) → j ≤ k → k < j + n → (j < k → 2 ^ (k + 14) ≤ span) → span < 2 ^ (k + 15) → taken_by (doublings j n) span ≡ k
line_of zero j k span l h a b = absurd (omega arith)
line_of (suc n) j k span l h a b = ⊎_elim
    (λ (g : j < k).
    rw (lt-leb span (2 ^ (j + 15) - 1) (omega (arith, a g, pow_pos (j + 15), pow_mono {i = j + 15} {j = k + 14} (omega arith))))
    (line_of n (suc j) k span g (omega arith) (λ s. a g) b))
    (λ (g : k ≤ j).
    let e : j ≡ k = omega arith in
    rw (e, le-leb span (2 ^ (k + 15) - 1) (omega arith)))
    (cases_lt j k)

-- and none of them reaches a longer span than the last's
none_of : (n j span : ℕ) → 2 ^ (j + n + 14) ≤ span → taken_by (doublings j n) span ≡ 0
none_of zero j span a = refl
none_of (suc n) j span a =
    let e : suc j + n + 14 ≡ j + suc n + 14 = omega arith in
    rw (lt-leb span (2 ^ (j + 15) - 1) (omega (arith, pow_pos (j + 15), pow_mono {i = j + 15} {j = j + suc n + 14} (omega arith))))
    (none_of n (suc j) span (rw e a))

-- what the tests up to a line of the code tell: it is the line of k, and has the span
pub record Reaches (k span : ℕ) : Type 0 where
  pub first : 2 ≤ k
  pub last : k ≤ 47
  pub past : 2 < k → 2 ^ (k + 14) ≤ span
  pub within : span < 2 ^ (k + 15)

pub in_case : {k span : ℕ} → Reaches k span → k ≡ taken_off span
unfolding taken_off
in_case {k} {span} h = sym (by_doublings span ∙ line_of 46 2 k span h.first (omega (arith, h.last)) h.past h.within)

pub past_cases : {span : ℕ} → 2 ^ 62 ≤ span → 0 ≡ taken_off span
unfolding taken_off
past_cases {span} h = sym (by_doublings span ∙ none_of 46 2 span h)

-- the rule that the list replaces
pub as_logarithm : (span : ℕ) → 65537 ≤ span → span < 2 ^ 62 → taken_off span ≡ ilog2 (span / 32768) + 1
as_logarithm span l h =
    let n = span / 32768 in
    let s = ilog2_is n (omega arith) in
    let a = pow-add 2 (ilog2 n) 15 in
    let b = pow-add 2 (ilog2 n + 1) 15 in
    let e : ilog2 n + 1 + 14 ≡ ilog2 n + 15 = omega arith in
    sym
    (in_case
    (record {
      first = omega (arith, ilog2_least n 1 (omega arith));
      last = omega (arith, ilog2_most n 46 (omega arith));
      past = λ _. rw (e, a) (omega (arith, s.0));
      within = rw b (omega (arith, s.1));
    }))
