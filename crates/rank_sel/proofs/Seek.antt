-- Laws of seek.
use mathlib.Core.Path.{◌≡◌, refl, sym, ap, ◌∙◌}
use mathlib.Core.Logic.{⊎_elim}
use mathlib.Core.Bool.{Bool, true, false}
use mathlib.Core.Option.{Option, none, some}
use Prim.Native.Nat.{ℕ, zero, suc, ◌+◌, ◌≤◌, ◌<◌}
use native.Mathlib.Nat.{add-zero, add-suc, suc-add}
use native.Mathlib.Omega.{arith}
use Rattle.rank_sel.specs.Outcome.{answer, or_refuse}
use Rattle.rank_sel.specs.Rank.{rank}
use Rattle.rank_sel.specs.Seek.{on_here, seek, Sought, Exact}
use Rattle.std.proofs.lemmas.Bool.{cases_lt}
use Rattle.rank_sel.proofs.Outcome.{is_some}
use Rattle.rank_sel.proofs.Rank.{rank_one, rank_same, rank_lt}

pub sought_unique : (f : ℕ → Bool) (p q : ℕ) → f p ≡ true → f q ≡ true → rank f p ≡ rank f q → p ≡ q
sought_unique f p q ep eq e =
    ⊎_elim (λ l. omega (arith, rank_lt f p q ep l)) (λ g. ⊎_elim (λ l. omega (arith, rank_lt f q p eq l)) (λ l. omega arith) (cases_lt q p))
    (cases_lt p q)

pub seek_found : (f : ℕ → Bool) (n x k p : ℕ) → seek f n x k ≡ some p → Sought f n x k p
unfolding seek
seek_found f zero x k p e = cc
seek_found f (suc n) x k p e = go (λ r. seek_found f n (suc x) r p) (f x) refl k e
  where
    go : ((r : ℕ) → seek f n (suc x) r ≡ some p → Sought f n (suc x) r p) → (b : Bool) → f x ≡ b → (r : ℕ)
        → on_here b r x (λ r. seek f n (suc x) r) ≡ some p → Sought f (suc n) x r p
    go ih true h zero q =
        let s : x ≡ p = cc in
        record { low = omega arith; high = omega arith; here = ap f (sym s) ∙ h; before = ap (rank f) (sym s) ∙ omega arith }
    go ih true h (suc r) q =
        let s = ih r q in
        record { low = omega arith; high = omega arith; here = s.here; before = omega (arith, rank_one f x h) }
    go ih false h r q =
        let s = ih r q in
        record { low = omega arith; high = omega arith; here = s.here; before = omega (arith, rank_same f x h) }

-- an answer that comes from a seek
pub answer_sought : (f : ℕ → Bool) (n x k p m : ℕ) → or_refuse m (seek f n x k) ≡ answer p → Sought f n x k p
answer_sought f n x k p m e = seek_found f n x k p (is_some m (seek f n x k) p e)

pub seek_none : (f : ℕ → Bool) (n x k : ℕ) → seek f n x k ≡ none → rank f (x + n) ≤ rank f x + k
unfolding seek
seek_none f zero x k e = rw add-zero (omega arith)
seek_none f (suc n) x k e = go (λ r. seek_none f n (suc x) r) (f x) refl k e
  where
    go : ((r : ℕ) → seek f n (suc x) r ≡ none → rank f (suc x + n) ≤ rank f (suc x) + r) → (b : Bool) → f x ≡ b → (r : ℕ)
        → on_here b r x (λ r. seek f n (suc x) r) ≡ none → rank f (x + suc n) ≤ rank f x + r
    go ih true h zero q = cc
    go ih true h (suc r) q =
        let s = ih r q in
        rw (add-suc, ← suc-add) (omega (arith, rank_one f x h))
    go ih false h r q =
        let s = ih r q in
        rw (add-suc, ← suc-add) (omega (arith, rank_same f x h))

-- the other way round: each answer is the one that its facts say
pub seek_at : (f : ℕ → Bool) (n x k p : ℕ) → Sought f n x k p → seek f n x k ≡ some p
seek_at f n x k p s = go (seek f n x k) refl
  where
    go : (r : Option ℕ) → seek f n x k ≡ r → seek f n x k ≡ some p
    go (some q) e =
        let t = seek_found f n x k q e in
        e ∙ ap some (sought_unique f q p t.here s.here (t.before ∙ sym s.before))
    go none e = absurd (omega (arith, seek_none f n x k e, rank_lt f p (x + n) s.here s.high, s.before))

pub seek_empty : (f : ℕ → Bool) (n x k : ℕ) → rank f (x + n) ≤ rank f x + k → seek f n x k ≡ none
seek_empty f n x k h = go (seek f n x k) refl
  where
    go : (r : Option ℕ) → seek f n x k ≡ r → seek f n x k ≡ none
    go (some q) e =
        let t = seek_found f n x k q e in
        absurd (omega (arith, rank_lt f q (x + n) t.here t.high, t.before))
    go none e = e

-- where enough are left, there is an answer
pub seek_some : (f : ℕ → Bool) (n x k : ℕ) → rank f x + k < rank f (x + n) → (p : ℕ) × (seek f n x k ≡ some p) × Sought f n x k p
seek_some f n x k h = go (seek f n x k) refl
  where
    go : (r : Option ℕ) → seek f n x k ≡ r → (p : ℕ) × (seek f n x k ≡ some p) × Sought f n x k p
    go (some q) e = (q, e, seek_found f n x k q e)
    go none e = absurd (omega (arith, seek_none f n x k e))

-- the same place, sought over a longer part
pub sought_wider : (f : ℕ → Bool) (n x k m y r p : ℕ) → Sought f n x k p → y ≤ x → x + n ≤ y + m → rank f x + k ≡ rank f y + r
    → Sought f m y r p
sought_wider f n x k m y r p s a b e = record { low = omega arith; high = omega arith; here = s.here; before = omega arith }

-- a seek may start at any place, before or behind: from there it is left with as many to pass
module _ (f : ℕ → Bool) (n x k m y r : ℕ) (end : x + n ≡ y + m) (left : rank f x + k ≡ rank f y + r) where
  pub seek_same : seek f n x k ≡ seek f m y r
  seek_same = go (seek f m y r) refl
    where
      go : (s : Option ℕ) → seek f m y r ≡ s → seek f n x k ≡ seek f m y r
      go (some p) q =
          let s = seek_found f m y r p q in
          let l : x ≤ p = ⊎_elim (λ h. absurd (omega (arith, s.before, rank_lt f p x s.here h))) (λ h. h) (cases_lt p x) in
          seek_at f n x k p (record { low = l; high = omega (arith, s.high); here = s.here; before = omega (arith, s.before) }) ∙ sym q
      go none q =
          let z : rank f (y + m) ≡ rank f (x + n) = ap (rank f) (sym end) in
          seek_empty f n x k (omega (arith, seek_none f m y r q)) ∙ sym q

pub seek_exact : (f : ℕ → Bool) (n x k : ℕ) → Exact f n x k
seek_exact f n x k = record {
  found = λ p. (seek_found f n x k p, seek_at f n x k p);
  unique = λ p q s t. sought_unique f p q s.here t.here (s.before ∙ sym t.before);
  exists = (
    (λ h. ((seek_some f n x k h).0, (seek_some f n x k h).2)),
    (λ s. omega (arith, s.1, rank_lt f s.0 (x + n) s.1.here s.1.high)),
  );
  missing = (seek_none f n x k, seek_empty f n x k);
}
