-- Whole numbers.
use Rattle.std.specs.Prelude.{Bool, true, false, ℕ, zero, suc, ◌+◌, ◌-◌, ◌/◌, ◌^◌, leb, ltb}

-- a / b, rounded up
abbrev pub ceil_div : ℕ → ℕ → ℕ
ceil_div a b = (a + (b - 1)) / b

-- one number: the answer where it passes; else the search goes on with the next
abbrev pub or_next : Bool → ℕ → (ℕ → ℕ) → ℕ
or_next true c go = c
or_next false c go = go (suc c)

-- the first number from c on that passes the test t, n tried
unfoldable pub first_from : (ℕ → Bool) → ℕ → ℕ → ℕ
first_from t zero c = c
first_from t (suc n) c = or_next (t c) c (λ d. first_from t n d)

-- the whole part of the logarithm to base 2 of an n above 0
unfoldable pub ilog2 : ℕ → ℕ
ilog2 n = first_from (λ l. ltb n (2 ^ (l + 1))) n 0

-- the least c with 2^c ≥ n
unfoldable pub clog2 : ℕ → ℕ
clog2 n = first_from (λ c. leb n (2 ^ c)) n 0

-- v 0 + .. + v (n - 1)
unfoldable pub sum : (ℕ → ℕ) → ℕ → ℕ
sum v zero = 0
sum v (suc n) = sum v n + v n
