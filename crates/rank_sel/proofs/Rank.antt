-- Laws of rank.
use mathlib.Core.Path.{◌≡◌, refl, sym, ap, ◌∙◌}
use mathlib.Core.Bool.{Bool, true, false}
use Prim.Native.Nat.{ℕ, zero, suc, ◌+◌, ◌≤◌, ◌<◌}
use native.Mathlib.Nat.{add-zero, add-suc}
use native.Mathlib.Decide.{le_ind}
use native.Mathlib.Omega.{arith}
use Rattle.std.proofs.lemmas.Bool.{false_from_ne_true}
use Rattle.rank_sel.specs.Rank.{ind, rank}

pub rank-suc : (f : ℕ → Bool) (p : ℕ) → rank f (suc p) ≡ rank f p + ind (f p)
unfolding rank
rank-suc f p = refl

pub rank-zero : (f : ℕ → Bool) → rank f 0 ≡ 0
unfolding rank
rank-zero f = refl

pub rank_one : (f : ℕ → Bool) (p : ℕ) → f p ≡ true → rank f (suc p) ≡ rank f p + 1
rank_one f p e = rank-suc f p ∙ ap (λ (b : Bool). rank f p + ind b) e

pub rank_same : (f : ℕ → Bool) (p : ℕ) → f p ≡ false → rank f (suc p) ≡ rank f p
rank_same f p e = rank-suc f p ∙ ap (λ (b : Bool). rank f p + ind b) e ∙ add-zero (rank f p)

pub rank_add : (f : ℕ → Bool) (a n : ℕ) → rank f (a + n) ≡ rank f a + rank (λ j. f (a + j)) n
rank_add f a zero = simp (add-zero, rank-zero)
rank_add f a (suc n) = simp (add-suc, rank-suc, rank_add f a n) (omega arith)

pub rank_mono : (f : ℕ → Bool) (p q : ℕ) → p ≤ q → rank f p ≤ rank f q
rank_mono f p q h = le_ind (λ (m : ℕ). rank f p ≤ rank f m) (omega arith) (λ m k e. omega (arith, rank-suc f m)) q h

-- a selected position below q counts at q
pub rank_lt : (f : ℕ → Bool) (p q : ℕ) → f p ≡ true → p < q → rank f p < rank f q
rank_lt f p q e h = omega (arith, rank_one f p e, rank_mono f (suc p) q h)

pub rank_le : (f : ℕ → Bool) (n : ℕ) → rank f n ≤ n
rank_le f zero = omega (arith, rank-zero f)
rank_le f (suc n) = go (rank_le f n) (f n) refl
  where
    go : rank f n ≤ n → (b : Bool) → f n ≡ b → rank f (suc n) ≤ suc n
    go ih true e = omega (arith, rank_one f n e)
    go ih false e = omega (arith, rank_same f n e)

-- two predicates that agree below n have one rank there
pub rank_ext : (f g : ℕ → Bool) (n : ℕ) → ((q : ℕ) → q < n → f q ≡ g q) → rank f n ≡ rank g n
rank_ext f g zero h = rank-zero f ∙ sym (rank-zero g)
rank_ext f g (suc n) h =
    let ih = rank_ext f g n (λ q l. h q (omega arith)) in
    let e = h n (omega arith) in
    simp (rank-suc, ih, e)

-- nothing selected between: the rank stays
pub rank_still : (f : ℕ → Bool) (a b : ℕ) → a ≤ b → ((q : ℕ) → a ≤ q → q < b → f q ≡ false) → rank f b ≡ rank f a
rank_still f a b h =
    le_ind (λ (m : ℕ). ((q : ℕ) → a ≤ q → q < m → f q ≡ false) → rank f m ≡ rank f a) (λ e. refl)
    (λ m k ih e. rank_same f m (e m k (omega arith)) ∙ ih (λ q l g. e q l (omega arith))) b h

-- and back
pub rank_gap : (f : ℕ → Bool) (a b : ℕ) → rank f a ≡ rank f b → (q : ℕ) → a ≤ q → q < b → f q ≡ false
rank_gap f a b e q l h = false_from_ne_true (f q) (λ d. omega (arith, rank_lt f q b d h, rank_mono f a q l))

-- all selected between
pub rank_full : (f : ℕ → Bool) (a b : ℕ) → a ≤ b → ((q : ℕ) → a ≤ q → q < b → f q ≡ true) → rank f b + a ≡ rank f a + b
rank_full f a b h =
    le_ind (λ (m : ℕ). ((q : ℕ) → a ≤ q → q < m → f q ≡ true) → rank f m + a ≡ rank f a + m) (λ e. refl)
    (λ m k ih e. omega (arith, rank_one f m (e m k (omega arith)), ih (λ q l g. e q l (omega arith)))) b h
