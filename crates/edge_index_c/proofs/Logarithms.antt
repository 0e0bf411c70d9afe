-- The cut to 32 bits alters no answer: a logarithm that it alters was over 63, and stays so.
use mathlib.Core.Bool.{Bool, true, false, cond, ◌&&◌, and-false, or-true}
use mathlib.Core.List.{List, ◌++◌}
use mathlib.Core.Logic.{◌⊎◌, ⊎_elim, inl, inr}
use mathlib.Core.Path.{◌≡◌, refl, sym, ap, ap₂, ◌∙◌, fun_ext}
use Prim.Native.Nat.{ℕ, ◌-◌, ◌^◌, ◌≤◌, ◌<◌}
use native.Mathlib.Omega.{arith}
use lib.Dec.{eqb}
use lib.Ieee.{Float}
use lib.ListN.{length, get_or}
use borrow.Author.Tests.{lt-ltb, ne_eqb}
use Rattle.rank_sel.specs.Outcome.{Outcome, answer, refused, refuse_if, Conditions, refuse_by, and_then}
use Rattle.std.proofs.lemmas.Bool.{cases_lt}
use Rattle.bit_record.specs.Record.{len_too_large, origin_too_large, too_few_words, of_record_from, of_sample, count_of}
use Rattle.bit_record.specs.declared.Polarity.{Polarity}
use Rattle.spacing.specs.Spacing.{N, L, M, S, fixed, power, rule, max_log2_words, chosen_plan, plan_of}
use Rattle.spacing.specs.declared.Choice.{Choice}
use Rattle.spacing.specs.declared.Choice.TheVariants.{Default, Span, Power, Overhead, Fixed}
use Rattle.spacing.specs.declared.Parameters.{Parameters}
use Rattle.inventory.specs.Lawful.{unlawful, of_summary, of_cells}
use Rattle.inventory.specs.Numbers.{cut, summary_at}
use Rattle.inventory.specs.declared.summary.Summary.{Summary}
use Rattle.build_inventory.specs.Build.{fitted, size_of, build_from, build_of, same_plan, same_summary, check_of}
use Rattle.build_inventory.specs.Compare.{same_index}
use Rattle.build_inventory.specs.Positions.{pos_in}
use Rattle.build_inventory.proofs.Outcomes.{admission}
use Rattle.read_inventory.specs.Jump.{sample_of, select_of, hint_sample, hint_of, dwell_at, dwell_of, store_of}
use Rattle.read_inventory.specs.Tests.{of_rank, of_ranks}
use Rattle.select_list.specs.List.{of_list, walk_of, list_of}
use Rattle.rank_inventory.specs.Rank.{rank_at, rank_of}
use Rattle.step_knob.specs.Step.{edge_from, edge_before, next_of, previous_of, walker_at, open_of}
use Rattle.index_image.specs.Image.{write_of}
use Rattle.edge_index_c.specs.Codes.{choice_at}
use Rattle.edge_index_c.specs.Logarithms.{uncut, uncut_choice, uncut_summary, SameChoice, SameAnswers}

-- ---- a choice
-- a value that is not small stays so
cut_cases : (n : ℕ) → (cut n ≡ n) ⊎ ((63 < cut n) × (63 < n))
cut_cases n = ⊎_elim (λ (h : n < 64). inl (omega arith)) (λ (h : 64 ≤ n). inr (omega arith, omega arith)) (cases_lt n 64)

module _ (pol : Polarity) (len num : ℕ) where
  power_cut : (l m : ℕ) → chosen_plan pol len num (power (cut l) m) ≡ chosen_plan pol len num (power l m)
  unfolding chosen_plan
  power_cut l m = ⊎_elim (λ (e : cut l ≡ l). ap (λ (z : ℕ). chosen_plan pol len num (power z m)) e)
      (λ (h : (63 < cut l) × (63 < l)). simp (lt-ltb 63 (cut l) h.0, lt-ltb 63 l h.1)) (cut_cases l)

  fixed_cut : (l m : ℕ) → chosen_plan pol len num (fixed (cut l) m) ≡ chosen_plan pol len num (fixed l m)
  unfolding chosen_plan
  fixed_cut l m = ⊎_elim (λ (e : cut l ≡ l). ap (λ (z : ℕ). chosen_plan pol len num (fixed z m)) e)
      (λ (h : (63 < cut l) × (63 < l)). simp (lt-ltb 63 (cut l) h.0, lt-ltb 63 l h.1)) (cut_cases l)

  chosen-cut : (kind value : ℕ) (percentage : Float) (log2 : ℕ)
      → chosen_plan pol len num (rule (choice_at kind value percentage log2))
      ≡ chosen_plan pol len num (rule (uncut_choice kind value percentage log2))
  unfolding choice_at
  chosen-cut kind value percentage log2 = go (eqb kind 0) (eqb kind 1) (eqb kind 2) (eqb kind 3)
    where
      by : (ℕ → ℕ) → Bool → Bool → Bool → Bool → Choice
      by f a b c d =
          cond a Default
          (cond b (Span value log2) (cond c (Power (f value) log2) (cond d (Overhead percentage log2) (Fixed (f value) log2))))

      go : (a b c d : Bool) → chosen_plan pol len num (rule (by cut a b c d)) ≡ chosen_plan pol len num (rule (by uncut a b c d))
      go true b c d = refl
      go false true c d = refl
      go false false true d = power_cut value log2
      go false false false true = refl
      go false false false false = fixed_cut value log2

module _ (kind value : ℕ) (percentage : Float) (log2 : ℕ) where
  plan_cut : (ws : List ℕ) (len : ℕ) (pol : Polarity)
      → plan_of ws len pol (choice_at kind value percentage log2) ≡ plan_of ws len pol (uncut_choice kind value percentage log2)
  unfolding plan_of
  plan_cut ws len pol = ap (and_then (count_of ws len pol)) (fun_ext λ num. chosen-cut pol len num kind value percentage log2)

  build_cut : (ws : List ℕ) (len origin : ℕ) (pol : Polarity) (cells spill : ℕ)
      → build_of ws len origin pol (choice_at kind value percentage log2) cells spill
      ≡ build_of ws len origin pol (uncut_choice kind value percentage log2) cells spill
  unfolding build_of
  build_cut ws len origin pol cells spill =
      ap (λ (o : Outcome Parameters). and_then (refuse_by (of_record_from ws len origin) o) (λ p. build_from ws origin p cells spill))
      (plan_cut ws len pol)

  pub choice_cut : SameChoice (choice_at kind value percentage log2) (uncut_choice kind value percentage log2)
  unfolding size_of check_of
  choice_cut = record {
    plan = plan_cut;
    size = λ ws len pol. ap (λ (o : Outcome Parameters). and_then o (λ p. fitted ws p (2 ^ 64 - 1))) (plan_cut ws len pol);
    build = build_cut;
    check = λ ws len origin pol t inv sp. rw (build_cut ws len origin pol (length inv) (length sp));
  }

-- ---- a summary
-- one of the three is over 63, and so M over the largest too
Over : Summary → Type 0
Over t = (63 < L t.plan) ⊎ ((63 < M t.plan) ⊎ (63 < S t.plan))

over_unlawful : (t : Summary) → Over t → unlawful t ≡ true
unfolding unlawful Over
over_unlawful t o = ⊎_elim (λ (h : 63 < L t.plan). large h)
    (⊎_elim (λ (h : 63 < M t.plan). simp (lt-ltb max_log2_words (M t.plan) (omega arith), or-true))
    (λ (h : 63 < S t.plan). ⊎_elim
    (λ (l : L t.plan < 64). simp (ne_eqb (S t.plan) (L t.plan - M t.plan - 2) (λ e. omega arith), or-true))
    (λ (l : 64 ≤ L t.plan). large (omega arith)) (cases_lt (L t.plan) 64)))
    o
  where
    large : 63 < L t.plan → unlawful t ≡ true
    large h = simp (lt-ltb 63 (L t.plan) h, or-true)

over_differs : (t u : Summary) → Over t → L u.plan ≤ 63 → M u.plan ≤ max_log2_words → S u.plan ≤ 63 → same_summary t u ≡ false
unfolding same_summary same_plan Over
over_differs t u o l m s = ⊎_elim (λ (h : 63 < L t.plan). simp (ne_eqb (L t.plan) (L u.plan) (λ e. omega arith), and-false))
    (⊎_elim (λ (h : 63 < M t.plan). simp (ne_eqb (M t.plan) (M u.plan) (λ e. omega arith), and-false))
    (λ (h : 63 < S t.plan). simp (ne_eqb (S t.plan) (S u.plan) (λ e. omega arith), and-false))) o

-- an unlawful summary is 9, where it is neither 1, 14 nor 2
refusal_of : List ℕ → ℕ → ℕ → ℕ
refusal_of ws len origin = cond (len_too_large len) 1 (cond (origin_too_large origin len) 14 (cond (too_few_words ws len) 2 9))

unlawful_refused : {A : Type 0} (ws : List ℕ) (t : Summary) (cs : Conditions) (rest : Outcome A) → unlawful t ≡ true
    → refuse_by (of_record_from ws t.plan.len t.origin ++ (of_summary t ++ cs)) rest ≡ refused (refusal_of ws t.plan.len t.origin)
unfolding refusal_of
unlawful_refused {A} ws t cs rest e =
    rw e (go (len_too_large t.plan.len) (origin_too_large t.origin t.plan.len) (too_few_words ws t.plan.len))
  where
    go : (a b c : Bool)
        → refuse_if {A = A} a 1 (refuse_if b 14 (refuse_if c 2 (refused 9))) ≡ refused (cond a 1 (cond b 14 (cond c 2 9)))
    go true b c = refl
    go false true c = refl
    go false false true = refl
    go false false false = refl

-- two summaries of one len and origin that are equal, or both over
data Alike (t u : Summary) : Type 0 where
  equal : t ≡ u → Alike t u
  both : t.plan.len ≡ u.plan.len → t.origin ≡ u.origin → Over t → Over u → Alike t u

module _ {t u : Summary} where
  tests_alike : {A : Type 0} → Alike t u → (ws : List ℕ) (cs : Summary → Conditions) (rest : Summary → Outcome A)
      → refuse_by (of_record_from ws t.plan.len t.origin ++ (of_summary t ++ cs t)) (rest t)
      ≡ refuse_by (of_record_from ws u.plan.len u.origin ++ (of_summary u ++ cs u)) (rest u)
  tests_alike (equal e) ws cs rest =
      ap (λ (z : Summary). refuse_by (of_record_from ws z.plan.len z.origin ++ (of_summary z ++ cs z)) (rest z)) e
  tests_alike (both e f o p) ws cs rest =
      unlawful_refused ws t (cs t) (rest t) (over_unlawful t o)
      ∙ ap₂ (λ (n k : ℕ). refused (refusal_of ws n k)) e f
      ∙ sym (unlawful_refused ws u (cs u) (rest u) (over_unlawful u p))

  store_alike : Alike t u → (ws inv sp : List ℕ) (r : ℕ) → store_of ws t inv sp r ≡ store_of ws u inv sp r
  unfolding store_of hint_of
  store_alike (equal e) ws inv sp r = ap (λ (z : Summary). store_of ws z inv sp r) e
  store_alike (both e f o p) ws inv sp r =
      rw (
        unlawful_refused ws t (of_cells t inv sp ++ of_rank (N t.plan) r) (hint_sample t inv sp r) (over_unlawful t o),
        unlawful_refused ws u (of_cells u inv sp ++ of_rank (N u.plan) r) (hint_sample u inv sp r) (over_unlawful u p),
      )
      (ap₂ (λ (n k : ℕ). refused (refusal_of ws n k)) e f)

  write_alike : Alike t u → (inv sp : List ℕ) (lent : ℕ) → write_of t inv sp lent ≡ write_of u inv sp lent
  unfolding write_of
  write_alike (equal e) inv sp lent = ap (λ (z : Summary). write_of z inv sp lent) e
  write_alike (both e f o p) inv sp lent = rw (over_unlawful t o, over_unlawful u p, e, f)

  verdict_alike : Alike t u → (b : Summary → Bool) (o : Outcome Summary)
      → ((v : Summary) → o ≡ answer v → (L v.plan ≤ 63) × (M v.plan ≤ max_log2_words) × (S v.plan ≤ 63))
      → and_then o (λ v. answer (same_summary t v && b v)) ≡ and_then o (λ v. answer (same_summary u v && b v))
  verdict_alike (equal e) b o small = ap (λ (z : Summary). and_then o (λ v. answer (same_summary z v && b v))) e
  verdict_alike (both e f x y) b (answer v) small =
      let s = small v refl in
      rw (over_differs t v x s.0 s.1 s.2, over_differs u v y s.0 s.1 s.2)
  verdict_alike (both e f x y) b (refused n) small = refl

  answers_alike : Alike t u → SameAnswers t u
  unfolding check_of select_of hint_of dwell_of list_of rank_of next_of previous_of open_of
  answers_alike w = record {
    check =
        λ ws len origin pol c inv sp. verdict_alike w (λ v. same_index (pos_in ws v.plan) v.plan inv sp)
        (build_of ws len origin pol c (length inv) (length sp))
        (λ v e. let a = (admission ws len origin pol c (length inv) (length sp) v
        e).plans in (a.small_l, a.small_m, omega (arith, a.spaced, a.small_l)));
    select = λ ws inv sp r. tests_alike w ws (λ z. of_cells z inv sp ++ of_rank (N z.plan) r) (λ z. sample_of ws z inv sp r);
    hint = λ ws inv sp r. tests_alike w ws (λ z. of_cells z inv sp ++ of_rank (N z.plan) r) (λ z. hint_sample z inv sp r);
    store = store_alike w;
    dwell = λ ws inv sp a b. tests_alike w ws (λ z. of_cells z inv sp ++ of_ranks (N z.plan) a b) (λ z. dwell_at ws z inv sp a b);
    list =
        λ ws inv sp ranks lent. tests_alike w ws (λ z. of_cells z inv sp ++ of_list (N z.plan) ranks lent) (λ z. walk_of ws z inv sp ranks);
    rank =
        λ ws inv sp x. tests_alike w ws (λ z. of_cells z inv sp ++ of_sample z.origin z.plan.len x) (λ z. rank_at ws z inv (x - z.origin));
    next =
        λ ws x. tests_alike w ws (λ z. of_sample z.origin z.plan.len x)
        (λ z. answer (edge_from ws z.plan.len z.plan.polarity z.origin x));
    previous =
        λ ws x. tests_alike w ws (λ z. of_sample z.origin z.plan.len x)
        (λ z. answer (edge_before ws z.plan.len z.plan.polarity z.origin x));
    opened =
        λ words x. tests_alike w words.now (λ z. of_sample z.origin z.plan.len x)
        (λ z. answer (walker_at words z.plan.len z.plan.polarity z.origin x));
    write = write_alike w;
  }

pub summary-cut : (s : List ℕ) → SameAnswers (summary_at s) (uncut_summary s)
unfolding summary_at Over
summary-cut s = answers_alike
    (⊎_elim (λ (e : cut (get_or s 4 0) ≡ get_or s 4 0). ⊎_elim
    (λ (f : cut (get_or s 5 0) ≡ get_or s 5 0). ⊎_elim
    (λ (g : cut (get_or s 6 0) ≡ get_or s 6 0). equal (simp (e, f, g)))
    (λ (h : (63 < cut (get_or s 6 0)) × (63 < get_or s 6 0)). both refl refl (inr (inr h.0)) (inr (inr h.1)))
    (cut_cases (get_or s 6 0)))
    (λ (h : (63 < cut (get_or s 5 0)) × (63 < get_or s 5 0)). both refl refl (inr (inl h.0)) (inr (inl h.1)))
    (cut_cases (get_or s 5 0)))
    (λ (h : (63 < cut (get_or s 4 0)) × (63 < get_or s 4 0)). both refl refl (inl h.0) (inl h.1))
    (cut_cases (get_or s 4 0)))
