-- Laws of starts: what their rule says, the search over them, and that the last at or before a position is told by how many are.
use mathlib.Core.Bool.{true, false}
use mathlib.Core.Logic.{⊎_elim, ◌↔◌}
use mathlib.Core.Option.{none, some}
use mathlib.Core.Path.{◌≡◌, refl, sym, ap}
use Prim.Native.Nat.{ℕ, zero, suc, ◌+◌, ◌-◌, ◌≤◌, ◌<◌}
use native.Mathlib.Decide.{le_ind}
use native.Mathlib.Numerals.{add-one}
use native.Mathlib.Omega.{arith}
use borrow.Author.Count.{below_more}
use borrow.Author.Tests.{leb-true, ltb-true, lt-ltb, le-leb, lt-leb}
use Rattle.std.proofs.lemmas.Bool.{cases_lt, and_parts, false_from_ne_true}
use Rattle.rank_sel.specs.Step.{last_before}
use Rattle.rank_sel.proofs.Rank.{rank-zero, rank_le, rank_still, rank_full}
use Rattle.rank_sel.proofs.Step.{last_at, last_empty}
use Rattle.rank_inventory.specs.Starts.{least_start, starts_rise, Rise, starts_by, starts_to, Ordered}

-- ---- the rule
module _ (s : ℕ → ℕ) (len : ℕ) where
  rising_none : starts_rise s len 0 ≡ true
  unfolding starts_rise
  rising_none = refl

  rising_more : (n : ℕ) → starts_rise s len n ≡ true → least_start s n ≤ s n → s n < len → starts_rise s len (suc n) ≡ true
  unfolding starts_rise
  rising_more n e l h = simp (e, le-leb (least_start s n) (s n) l, lt-ltb (s n) len h)

  rising_last : (n : ℕ) → starts_rise s len (suc n) ≡ true → (starts_rise s len n ≡ true) × (least_start s n ≤ s n) × (s n < len)
  unfolding starts_rise
  rising_last n e =
      let a = and_parts _ _ e in
      let b = and_parts _ _ a.1 in
      (a.0, leb-true _ _ b.0, ltb-true _ _ b.1)

  -- as the loop goes: the first e starts keep the rule, and the next may be no less than least
  pub record Passed (e least : ℕ) : Type 0 where
    pub rule : starts_rise s len e ≡ true
    pub behind : least ≡ least_start s e

  pub none_passed : Passed 0 0
  none_passed = record { rule = rising_none; behind = refl }

  pub passed_more : (e least next : ℕ) → Passed e least → least ≤ s e → s e < len → next ≡ s e + 1 → Passed (e + 1) next
  passed_more e least next p l h d = rw (add-one e) (record { rule = rising_more e p.rule (omega (arith, p.behind)) h; behind = d })

  -- a start that breaks the rule breaks it for good
  pub rising_cut : (e n : ℕ) → e < n → (least_start s e ≤ s e → s e < len → ⊥) → false ≡ starts_rise s len n
  rising_cut e n h bad = sym (false_from_ne_true _ (λ t. let a = rising_last e (down n h t) in bad a.1 a.2))
    where
      down : (m : ℕ) → suc e ≤ m → starts_rise s len m ≡ true → starts_rise s len (suc e) ≡ true
      down m l = le_ind (λ (m : ℕ). starts_rise s len m ≡ true → starts_rise s len (suc e) ≡ true) (λ d. d)
          (λ m k ih d. ih (rising_last m d).0) m l

  -- what the rule says
  rising_rise : (n : ℕ) → starts_rise s len n ≡ true → Rise s len n
  rising_rise zero e = record { rise = λ i j l h. absurd (omega arith); within = λ i h. absurd (omega arith) }
  rising_rise (suc n) e =
      let a = rising_last n e in
      let r = rising_rise n a.0 in
      record {
        rise = λ i j l h. below_more (λ (k : ℕ). i < k → s i < s k) n (λ k g d. r.rise i k d g) (top n r a.1 i) j (omega arith) l;
        within = λ i h. below_more (λ (k : ℕ). s k < len) n r.within a.2 i (omega arith);
      }
    where
      top : (n : ℕ) → Rise s len n → least_start s n ≤ s n → (i : ℕ) → i < n → s i < s n
      top zero r h i l = absurd (omega arith)
      top (suc m) r h i l =
          below_more (λ (k : ℕ). s k < s (suc m)) m (λ k g. omega (arith, r.rise k m g (omega arith))) (omega arith) i (omega arith)

  pub rise_rising : (n : ℕ) → Rise s len n → starts_rise s len n ≡ true
  rise_rising zero r = rising_none
  rise_rising (suc n) r =
      rising_more n
      (rise_rising n (record { rise = λ i j l h. r.rise i j l (omega arith); within = λ i h. r.within i (omega arith) }))
      (low n r) (r.within n (omega arith))
    where
      low : (n : ℕ) → Rise s len (suc n) → least_start s n ≤ s n
      low zero r = omega arith
      low (suc m) r = omega (arith, r.rise m (suc m) (omega arith) (omega arith))

  pub rise_exact : (n : ℕ) → (starts_rise s len n ≡ true) ↔ Rise s len n
  rise_exact n = (rising_rise n, rise_rising n)

  pub rising_ordered : (n : ℕ) → starts_rise s len n ≡ true → Ordered s 0 n
  rising_ordered n e =
      let r = rising_rise n e in
      record {
        order = λ i j a b h. ⊎_elim (λ (l : i < j). let t = r.rise i j l h in omega arith)
            (λ (l : j ≤ i). let e : i ≡ j = omega arith in let d = ap s e in omega arith) (cases_lt i j);
      }

-- ---- the count
module _ (s : ℕ → ℕ) (x : ℕ) where
  pub starts_to_none : starts_to s x 0 ≡ 0
  unfolding starts_to
  starts_to_none = rank-zero (starts_by s x)

  starts_to_most : (n : ℕ) → starts_to s x n ≤ n
  unfolding starts_to
  starts_to_most n = rank_le (starts_by s x) n

  -- from a on, below b, all are at or before x
  all_started : (a b : ℕ) → a ≤ b → ((e : ℕ) → a ≤ e → e < b → s e ≤ x) → starts_to s x b + a ≡ starts_to s x a + b
  unfolding starts_to
  all_started a b l h = rank_full (starts_by s x) a b l (λ e p q. le-leb (s e) x (h e p q))

  -- or all are past it
  none_started : (a b : ℕ) → a ≤ b → ((e : ℕ) → a ≤ e → e < b → x < s e) → starts_to s x b ≡ starts_to s x a
  unfolding starts_to
  none_started a b l h = rank_still (starts_by s x) a b l (λ e p q. lt-leb (s e) x (h e p q))

  -- ---- the search
  module _ (from to middle start : ℕ) (o : Ordered s from to) (d : start ≡ s middle) (h : middle < to) where
    -- the middle start is at or before x, and so are all before it: the search may go on with any up to the one after it
    pub search_up : start ≤ x → (next r : ℕ) → starts_to s x next + r ≡ next + starts_to s x to → from ≤ next → next ≤ middle + 1
        → starts_to s x from + r ≡ from + starts_to s x to
    search_up g next r e l k = omega (arith, all_started from next l (λ i p q. omega (arith, o.order i middle p (omega arith) h)))

    -- it is past x, and so are all after it
    pub search_down : x < start → (r : ℕ) → starts_to s x from + r ≡ from + starts_to s x middle → from ≤ middle
        → starts_to s x from + r ≡ from + starts_to s x to
    search_down g r e l = omega (arith, none_started middle to (omega arith) (λ i p q. omega (arith, o.order middle i l p q)))

  -- ---- the last
  -- those counted come first
  starts_before : (n e : ℕ) → Ordered s 0 n → e < starts_to s x n → s e ≤ x
  starts_before n e o l = ⊎_elim
      (λ (h : x < s e).
      let z = none_started e n (omega (arith, starts_to_most n)) (λ i p q. omega (arith, o.order e i (omega arith) p q)) in
      absurd (omega (arith, starts_to_most e)))
      (λ (h : s e ≤ x). h)
      (cases_lt x (s e))

  -- none counted: none is the last
  pub last_none_started : (n : ℕ) → starts_to s x n ≡ 0 → last_before (starts_by s x) n ≡ none
  unfolding starts_to
  last_none_started n e = last_empty (starts_by s x) n e

  -- else the last counted is
  module _ (n r : ℕ) (c : r ≡ starts_to s x n) (h : 0 < r) where
    pub last_below : r - 1 < n
    last_below = omega (arith, starts_to_most n)

    pub last_low : Ordered s 0 n → s (r - 1) ≤ x
    last_low o = starts_before n (r - 1) o (omega arith)

    pub last_started : Ordered s 0 n → last_before (starts_by s x) n ≡ some (r - 1)
    unfolding starts_to
    last_started o =
        let a = all_started 0 (r - 1) (omega arith) (λ e p q. starts_before n e o (omega arith)) in
        last_at (starts_by s x) n (r - 1) (record {
          low = last_below;
          here = le-leb (s (r - 1)) x (last_low o);
          one = omega (arith, starts_to_none);
        })
