-- Steps by ranks: the rank is one more at a place than at the last selected position before it, and the same at the first from it on.
use mathlib.Core.Bool.{Bool, true, false, cond}
use mathlib.Core.Logic.{⊎_elim}
use mathlib.Core.Option.{Option, none, some}
use mathlib.Core.Path.{◌≡◌, refl, sym, ap, ◌∙◌}
use Prim.Native.Nat.{ℕ, zero, suc, ◌+◌, ◌-◌, ◌≤◌, ◌<◌}
use native.Mathlib.Omega.{arith}
use Rattle.rank_sel.specs.Rank.{rank}
use Rattle.rank_sel.specs.Seek.{seek, Sought}
use Rattle.rank_sel.specs.Step.{last_before, Last, LastExact, next_from, Next, NextExact}
use Rattle.std.proofs.lemmas.Bool.{cases_lt}
use Rattle.rank_sel.proofs.Rank.{rank-zero, rank_one, rank_same, rank_mono, rank_gap, rank_still}
use Rattle.rank_sel.proofs.Seek.{sought_unique, seek_found, seek_none, seek_at, seek_empty, seek_same}

-- ---- backwards
-- p is the last selected position below x, told by ranks
pub record Topped (f : ℕ → Bool) (x p : ℕ) : Type 0 where
  pub low : p < x
  pub here : f p ≡ true
  pub one : rank f x ≡ rank f p + 1

pub last_found : (f : ℕ → Bool) (x p : ℕ) → last_before f x ≡ some p → Topped f x p
unfolding last_before
last_found f zero p e = cc
last_found f (suc x) p e = go (last_found f x p) (f x) refl e
  where
    go : (last_before f x ≡ some p → Topped f x p) → (b : Bool) → f x ≡ b → cond b (some x) (last_before f x) ≡ some p → Topped f (suc x) p
    go ih true h q =
        let s : x ≡ p = cc in
        let r = ap (rank f) s in
        record { low = omega arith; here = ap f (sym s) ∙ h; one = omega (arith, rank_one f x h) }
    go ih false h q =
        let s = ih q in
        record { low = omega (arith, s.low); here = s.here; one = rank_same f x h ∙ s.one }

last_none : (f : ℕ → Bool) (x : ℕ) → last_before f x ≡ none → rank f x ≡ 0
unfolding last_before
last_none f zero e = rank-zero f
last_none f (suc x) e = go (last_none f x) (f x) refl e
  where
    go : (last_before f x ≡ none → rank f x ≡ 0) → (b : Bool) → f x ≡ b → cond b (some x) (last_before f x) ≡ none → rank f (suc x) ≡ 0
    go ih true h q = cc
    go ih false h q = rank_same f x h ∙ ih q

-- the other way round: each answer is the one that its facts say
pub last_at : (f : ℕ → Bool) (x p : ℕ) → Topped f x p → last_before f x ≡ some p
last_at f x p s = go (last_before f x) refl
  where
    go : (r : Option ℕ) → last_before f x ≡ r → last_before f x ≡ some p
    go (some q) e =
        let t = last_found f x q e in
        e ∙ ap some (sought_unique f q p t.here s.here (omega (arith, t.one, s.one)))
    go none e = absurd (omega (arith, last_none f x e, s.one))

pub last_empty : (f : ℕ → Bool) (x : ℕ) → rank f x ≡ 0 → last_before f x ≡ none
last_empty f x h = go (last_before f x) refl
  where
    go : (r : Option ℕ) → last_before f x ≡ r → last_before f x ≡ none
    go (some q) e = absurd (omega (arith, (last_found f x q e).one))
    go none e = e

-- before a later place of the same rank it is the same
pub last_still : (f : ℕ → Bool) (a b : ℕ) → a ≤ b → rank f a ≡ rank f b → last_before f a ≡ last_before f b
last_still f a b l h = go (last_before f a) refl
  where
    go : (r : Option ℕ) → last_before f a ≡ r → last_before f a ≡ last_before f b
    go (some p) e =
        let s = last_found f a p e in
        e ∙ sym (last_at f b p (record { low = omega (arith, s.low); here = s.here; one = sym h ∙ s.one }))
    go none e = e ∙ sym (last_empty f b (sym h ∙ last_none f a e))

module _ (f : ℕ → Bool) (x : ℕ) where
  topped_last : (p : ℕ) → Topped f x p → Last f x p
  topped_last p s = record { low = s.low; here = s.here; after = rank_gap f (suc p) x (omega (arith, rank_one f p s.here, s.one)) }

  last_topped : (p : ℕ) → Last f x p → Topped f x p
  last_topped p s = record { low = s.low; here = s.here; one = rank_still f (suc p) x s.low s.after ∙ rank_one f p s.here }

  pub last_exact : LastExact f x
  last_exact = record {
    found = λ p. ((λ e. topped_last p (last_found f x p e)), (λ s. last_at f x p (last_topped p s)));
    unique = λ p q s t. sought_unique f p q s.here t.here (omega (arith, (last_topped p s).one, (last_topped q t).one));
    missing = (
      (λ e q l. rank_gap f 0 x (rank-zero f ∙ sym (last_none f x e)) q (omega arith) l),
      (λ e. last_empty f x (rank_still f 0 x (omega arith) (λ q l g. e q g) ∙ rank-zero f)),
    );
  }

-- ---- forwards
-- the jump to the rank at x is the next position
pub next_seek : (f : ℕ → Bool) (n x : ℕ) → x ≤ n → next_from f n x ≡ seek f n 0 (rank f x)
next_seek f n x h = seek_same f (n - x) x 0 n 0 (rank f x) (omega arith) (omega (arith, rank-zero f))

-- from a later place of the same rank it is the same, also where that lies past n
pub next_still : (f : ℕ → Bool) (n a b : ℕ) → a ≤ b → rank f a ≡ rank f b → next_from f n a ≡ next_from f n b
next_still f n a b l h =
    ⊎_elim
    (λ (g : n < b).
    seek_empty f (n - a) a 0 (omega (arith, rank_mono f (a + (n - a)) b (omega arith)))
    ∙ sym (seek_empty f (n - b) b 0 (omega (arith, let e : rank f (b + (n - b)) ≡ rank f b = ap (rank f) (omega arith) in e))))
    (λ (g : b ≤ n). seek_same f (n - a) a 0 (n - b) b 0 (omega arith) (omega arith)) (cases_lt n b)

module _ (f : ℕ → Bool) (n x : ℕ) where
  sought_next : (p : ℕ) → Sought f (n - x) x 0 p → Next f n x p
  sought_next p s = record {
    low = s.low;
    high = omega (arith, s.low, s.high);
    here = s.here;
    before = rank_gap f x p (omega (arith, s.before));
  }

  next_sought : (p : ℕ) → Next f n x p → Sought f (n - x) x 0 p
  next_sought p s = record {
    low = s.low;
    high = omega (arith, s.high);
    here = s.here;
    before = rank_still f x p s.low s.before ∙ omega arith;
  }

  -- x may lie past n: then no position is left
  pub next_exact : NextExact f n x
  next_exact = record {
    found = λ p. ((λ e. sought_next p (seek_found f (n - x) x 0 p e)), (λ s. seek_at f (n - x) x 0 p (next_sought p s)));
    unique = λ p q s t. sought_unique f p q s.here t.here (omega (arith, (next_sought p s).before, (next_sought q t).before));
    missing = (
      (λ e q l h. rank_gap f x (x + (n - x)) (omega (arith, seek_none f (n - x) x 0 e, rank_mono f x (x + (n - x)) (omega arith))) q l (omega arith)),
      (λ e. seek_empty f (n - x) x 0 (omega (arith, rank_still f x (x + (n - x)) (omega arith) (λ q l h. e q l (omega arith))))),
    );
  }
