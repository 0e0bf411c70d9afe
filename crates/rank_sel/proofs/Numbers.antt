-- The first number that passes a test, and sums.
use mathlib.Core.Path.{◌≡◌, refl, sym, ap, ◌∙◌}
use mathlib.Core.Logic.{⊎_elim}
use mathlib.Core.Bool.{Bool, true, false}
use Prim.Native.Nat.{ℕ, zero, suc, ◌+◌, ◌-◌, ◌^◌, ◌≤◌, ◌<◌}
use native.Mathlib.Nat.{pow-suc, le_antisymm}
use native.Mathlib.Numerals.{add-one}
use native.Mathlib.Decide.{le_ind}
use native.Mathlib.Omega.{arith}
use lib.Dec.{leb, ltb}
use lib.Pow.{pow_pos, pow_mono}
use borrow.Author.Tests.{ltb-true, leb-true, lt-ltb, le-leb}
use Rattle.std.proofs.lemmas.Bool.{cases_lt}
use Rattle.rank_sel.specs.Numbers.{or_next, first_from, ilog2, clog2, sum}

-- r is the first number from c on that passes t
pub record First (t : ℕ → Bool) (c r : ℕ) : Type 0 where
  pub here : t r ≡ true
  pub low : c ≤ r
  pub least : (m : ℕ) → c ≤ m → t m ≡ true → r ≤ m

-- a number that passes is not one that fails
past : (t : ℕ → Bool) (c m : ℕ) → t c ≡ false → t m ≡ true → c ≤ m → suc c ≤ m
past t c m e h l =
    ⊎_elim (λ a. a) (λ a. let s : m ≡ c = omega arith in let f = ap t s in cc) (cases_lt c m)

-- the search finds it, where some number within reach passes
pub first_found : (t : ℕ → Bool) (n c m : ℕ) → c ≤ m → m ≤ c + n → t m ≡ true → First t c (first_from t n c)
unfolding first_from
first_found t zero c m l h e =
    let s : m ≡ c = omega arith in record { here = ap t (sym s) ∙ e; low = omega arith; least = λ k a b. a }
first_found t (suc n) c m l h e = go (λ a. first_found t n (suc c) m a (omega arith) e) (t c) refl
  where
    go : (suc c ≤ m → First t (suc c) (first_from t n (suc c))) → (b : Bool) → t c ≡ b → First t c (or_next b c (λ d. first_from t n d))
    go ih true q = record { here = q; low = omega arith; least = λ k a b. a }
    go ih false q =
        let f = ih (past t c m q e l) in
        record { here = f.here; low = omega (arith, f.low); least = λ k a b. f.least k (past t c k q b a) b }

pub lt_pow : (n : ℕ) → n < 2 ^ n
lt_pow zero = omega arith
lt_pow (suc n) = rw pow-suc (omega (arith, lt_pow n, pow_pos n))

-- a number is below the power after its logarithm, the first such
ilog2_first : (n : ℕ) → First (λ l. ltb n (2 ^ (l + 1))) 0 (ilog2 n)
unfolding ilog2
ilog2_first n =
    first_found (λ l. ltb n (2 ^ (l + 1))) n 0 n (omega arith) (omega arith)
    (lt-ltb n (2 ^ (n + 1)) (omega (arith, lt_pow n, pow_mono {i = n} {j = n + 1} (omega arith))))

pub ilog2_most : (n k : ℕ) → n < 2 ^ (k + 1) → ilog2 n ≤ k
ilog2_most n k h = (ilog2_first n).least k (omega arith) (lt-ltb n (2 ^ (k + 1)) h)

pub ilog2_is : (n : ℕ) → 0 < n → (2 ^ ilog2 n ≤ n) × (n < 2 ^ (ilog2 n + 1))
ilog2_is n h = (low (ilog2 n) (ilog2_first n), ltb-true n (2 ^ (ilog2 n + 1)) (ilog2_first n).here)
  where
    low : (r : ℕ) → First (λ l. ltb n (2 ^ (l + 1))) 0 r → 2 ^ r ≤ n
    low zero f = h
    low (suc r) f =
        ⊎_elim (λ a. absurd (omega (arith, f.least r (omega arith) (lt-ltb n (2 ^ (r + 1)) (rw add-one a))))) (λ a. a)
        (cases_lt n (2 ^ suc r))

pub ilog2_least : (n r : ℕ) → 2 ^ r ≤ n → r ≤ ilog2 n
ilog2_least n r a =
    let s = ilog2_is n (omega (arith, pow_pos r)) in
    ⊎_elim (λ h. absurd (omega (arith, s, pow_mono {i = ilog2 n + 1} {j = r} (omega arith)))) (λ h. h) (cases_lt (ilog2 n) r)

pub ilog2_unique : (n r : ℕ) → 2 ^ r ≤ n → n < 2 ^ (r + 1) → ilog2 n ≡ r
ilog2_unique n r a b = le_antisymm (ilog2_most n r b) (ilog2_least n r a)

clog2_first : (n : ℕ) → First (λ c. leb n (2 ^ c)) 0 (clog2 n)
unfolding clog2
clog2_first n =
    first_found (λ c. leb n (2 ^ c)) n 0 n (omega arith) (omega arith) (le-leb n (2 ^ n) (omega (arith, lt_pow n)))

pub clog2_is : (n : ℕ) → (n ≤ 2 ^ clog2 n) × ((c : ℕ) → n ≤ 2 ^ c → clog2 n ≤ c)
clog2_is n = (leb-true n (2 ^ clog2 n) (clog2_first n).here, λ c h. (clog2_first n).least c (omega arith) (le-leb n (2 ^ c) h))

pub clog2_unique : (n r : ℕ) → n ≤ 2 ^ r → ((c : ℕ) → n ≤ 2 ^ c → r ≤ c) → clog2 n ≡ r
clog2_unique n r a b = le_antisymm ((clog2_is n).1 r a) (b (clog2 n) (clog2_is n).0)

-- one below a number tells the power that the number needs
pub clog2-ilog2 : (n : ℕ) → 1 < n → clog2 n ≡ ilog2 (n - 1) + 1
clog2-ilog2 n h =
    let s = ilog2_is (n - 1) (omega arith) in
    clog2_unique n (ilog2 (n - 1) + 1) (omega (arith, s))
    (λ c a. ⊎_elim (λ l. omega arith) (λ l. absurd (omega (arith, s, pow_mono {i = c} {j = ilog2 (n - 1)} l)))
    (cases_lt (ilog2 (n - 1)) c))

pub sum-zero : (v : ℕ → ℕ) → sum v 0 ≡ 0
unfolding sum
sum-zero v = refl

pub sum-suc : (v : ℕ → ℕ) (n : ℕ) → sum v (suc n) ≡ sum v n + v n
unfolding sum
sum-suc v n = refl

pub sum_mono : (v : ℕ → ℕ) (m n : ℕ) → m ≤ n → sum v m ≤ sum v n
sum_mono v m n h = le_ind (λ (i : ℕ). sum v m ≤ sum v i) (omega arith) (λ i l e. omega (arith, sum-suc v i)) n h
