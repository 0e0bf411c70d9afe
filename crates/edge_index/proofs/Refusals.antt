-- Refusals in their order: a list of tests is passed in its order, and what comes after the tests says 10 alone. Size's 6 needs a count that
-- only a vast record has.
use mathlib.Core.Bool.{Bool, true, false}
use mathlib.Core.List.{List, [], ◌∷◌, ◌++◌}
use mathlib.Core.Option.{Option, none, some}
use mathlib.Core.Path.{◌≡◌, refl, sym, ap, ◌∙◌}
use Prim.Native.Nat.{ℕ, ◌+◌, ◌-◌, ◌*◌, ◌^◌, ◌≤◌, ◌<◌}
use native.Mathlib.Nat.{mul-le-mul}
use native.Mathlib.Omega.{arith}
use lib.Dec.{eqb, ltb}
use lib.Pow.{pow_pos, pow_mono}
use lib.ListN.{length}
use borrow.Author.Tests.{le-ltb, eqb-false}
use Rattle.rank_sel.specs.Numbers.{ceil_div}
use Rattle.rank_sel.specs.Outcome.{Outcome, answer, refused, refuse_if, or_refuse, Conditions, refuse_by, NoneOf, and_then}
use Rattle.rank_sel.specs.Seek.{seek}
use Rattle.rank_sel.proofs.Ceil.{ceil_le}
use Rattle.rank_sel.proofs.Outcome.{tests_more, tests_past}
use Rattle.select_in_word.proofs.Bit.{ones_rank}
use Rattle.select_in_word.proofs.Select.{word_refused, word_missing}
use Rattle.bit_record.specs.Record.{sample_outside, selected, num_selected, count_of}
use Rattle.bit_record.specs.declared.Polarity.{Polarity}
use Rattle.bit_record.proofs.Counted.{admitted_none, admitted_from}
use Rattle.spacing.specs.Spacing.{N, L, max_log2_words, rule, chosen_plan, plan_of}
use Rattle.spacing.specs.declared.Choice.{Choice}
use Rattle.spacing.specs.declared.Parameters.{Parameters}
use Rattle.spacing.proofs.Facts.{PlanFacts, plan_facts}
use Rattle.inventory.specs.Index.{entries_of, stride_by, stride, inventory_len_of, summary_of}
use Rattle.inventory.specs.declared.summary.Summary.{Summary}
use Rattle.build_inventory.specs.Build.{fitted, size_of, build_from, build_of, check_of}
use Rattle.build_inventory.specs.declared.Sizes.{Sizes}
use Rattle.build_inventory.specs.Positions.{spill_len_of}
use Rattle.read_inventory.specs.Jump.{sample_of, select_of, hint_sample, hint_of, dwell_at, dwell_of, store_of, subinventory_of, cells_of}
use Rattle.read_inventory.specs.Read.{mark_of_rank, Hint, hint_at, position_of, Only10}
use Rattle.read_inventory.specs.Tests.{rank_too_large, ranks_fall}
use Rattle.read_inventory.proofs.PartSize.{store_some, store_in, store_length}
use Rattle.read_inventory.proofs.Ten.{ten_answer, ten_refuse, ten_or, ten_then, ten_cond, ten_rank, ten_position}
use Rattle.select_list.specs.List.{Walk, start as begin, after, walk, falls_from, any_too_large, of_list, listed, walk_of, list_of}
use Rattle.select_list.specs.Step.{Reached, Start, start_of, read_from, step_at_mark, step_from, step_of}
use Rattle.rank_inventory.specs.Rank.{starts_unlawful, rank_at, rank_of}
use Rattle.step_knob.specs.Step.{next_of, previous_of, open_of, of_turn, turn_of}
use Rattle.index_image.specs.Image.{image_of, of_writing, write_of, of_reading, read_of}
use Rattle.edge_index.specs.Refusals.{first_of, InOrder, record_order, record_from_order, choice_order, index_order, plan_in, summary_in, to_six, to_seven, Never, MakersRefuse, ReadersRefuse, StepsRefuse, step_order, ImagesRefuse, InWordRefuses}

-- ---- chains of tests
pub in_rest : {A : Type 0} (o : Outcome A) → InOrder o [] o
in_rest o = record { first = λ n e. cc; else = λ e. refl }

pub in_refuse : {A : Type 0} (b : Bool) (n : ℕ) (o rest : Outcome A) (cs : Conditions) → InOrder o cs rest
    → InOrder (refuse_if b n o) ((b, n) ∷ cs) rest
in_refuse true n o rest cs h = record { first = λ m e. let d : n ≡ m = cc in ap refused d; else = λ e. cc }
in_refuse false n o rest cs h = record { first = h.first; else = h.else }

-- tests in their order
in_tests : {A : Type 0} (cs : Conditions) (rest : Outcome A) → InOrder (refuse_by cs rest) cs rest
in_tests [] rest = in_rest rest
in_tests (c ∷ cs) rest = in_refuse c.0 c.1 (refuse_by cs rest) rest cs (in_tests cs rest)

-- an answer goes on with more tests
pub in_then : {A B : Type 0} (o : Outcome A) (cs ds : Conditions) (a : A) (go : A → Outcome B) (rest : Outcome B)
    → InOrder o cs (answer a) → InOrder (go a) ds rest → InOrder (and_then o go) (cs ++ ds) rest
in_then o [] ds a go rest h k = let e = h.else refl in rw e k
in_then o (c ∷ cs) ds a go rest h k =
    step c.0 refl (λ f. in_then o cs ds a go rest (record { first = λ n e. h.first n (rw f e); else = λ e. h.else (rw f e) }) k)
  where
    step : (b : Bool) → c.0 ≡ b → (c.0 ≡ false → InOrder (and_then o go) (cs ++ ds) rest) → InOrder (and_then o go) (c ∷ (cs ++ ds)) rest
    step true f ih =
        let e = h.first c.1 (rw f refl) in
        record { first = λ n g. rw e (let d : c.1 ≡ n = some_is (rw f at g) in ap refused d); else = λ g. cc (rw f at g) }
      where
        some_is : {x y : ℕ} → ◌≡◌ {A = Option ℕ} (some x) (some y) → x ≡ y
        some_is e = cc
    step false f ih = let i = ih f in record { first = λ n g. i.first n (rw f at g); else = λ g. i.else (rw f at g) }

-- a number that none of the conditions has is never said
Unsaid : ℕ → Conditions → Type 0
Unsaid n [] = Unit {0}
Unsaid n (c ∷ cs) = (eqb c.1 n ≡ false) × Unsaid n cs

in_never : {A : Type 0} (n : ℕ) (o : Outcome A) (cs : Conditions) (a : A) → InOrder o cs (answer a) → Unsaid n cs → Never n o
unfolding Unsaid
in_never n o [] a h u e = cc (h.else refl)
in_never {A} n o (c ∷ cs) a h u e =
    go c.0 refl (λ f. in_never n o cs a (record { first = λ m g. h.first m (rw f g); else = λ g. h.else (rw f g) }) u.1 e)
  where
    go : (b : Bool) → c.0 ≡ b → (c.0 ≡ false → ⊥) → ⊥
    go true f ih =
        let d : ◌≡◌ {A = Outcome A} (refused c.1) (refused n) = sym (h.first c.1 (rw f refl)) ∙ e in
        let k : c.1 ≡ n = cc in
        eqb-false c.1 n u.0 k
    go false f ih = ih f

-- ---- the entries that take a choice
module _ (ws : List ℕ) (len origin : ℕ) (pol : Polarity) (choice : Choice) where
  in_plan : InOrder (plan_of ws len pol choice) (record_order ws len ++ choice_order choice) (answer (plan_in ws len pol choice))
  unfolding plan_of count_of chosen_plan
  in_plan = in_then _ _ _ (num_selected pol ws len) _ _ (in_tests (record_order ws len) _) (in_tests (choice_order choice) _)

  -- past the tests of a record from an origin on, plan's own of the record are passed
  plan_past : NoneOf (record_from_order ws len origin) → plan_of ws len pol choice ≡ chosen_plan pol len (num_selected pol ws len) (rule choice)
  unfolding plan_of count_of
  plan_past h = let n = admitted_none ws len (admitted_from ws len origin h).admitted in rw (n.0, n.1.0)

  in_plan_from :
      InOrder (refuse_by (record_from_order ws len origin) (plan_of ws len pol choice))
      (record_from_order ws len origin ++ choice_order choice) (answer (plan_in ws len pol choice))
  unfolding chosen_plan
  in_plan_from =
      let e = tests_past (record_from_order ws len origin) _ _ plan_past
      ∙ sym (tests_more (record_from_order ws len origin) (choice_order choice) _) in
      rw e (in_tests (record_from_order ws len origin ++ choice_order choice) _)

  abbrev p : Parameters
  p = plan_in ws len pol choice

  abbrev sizes : Sizes
  sizes = record { inventory = inventory_len_of p; spill = spill_len_of ws p }

  in_fit : (most : ℕ) → InOrder (fitted ws p most) ((ltb most (inventory_len_of p), 6) ∷ []) (answer sizes)
  unfolding fitted
  in_fit most = in_tests ((ltb most (inventory_len_of p), 6) ∷ []) _

  in_from : (cells spill : ℕ)
      → InOrder (build_from ws origin p cells spill) ((ltb cells (inventory_len_of p), 6) ∷ (ltb spill (spill_len_of ws p), 7) ∷ [])
      (answer (summary_in ws len origin pol choice))
  unfolding build_from
  in_from cells spill = in_then _ _ _ sizes _ _ (in_fit cells) (in_tests ((ltb spill (spill_len_of ws p), 7) ∷ []) _)

  in_build : (cells spill : ℕ)
      → InOrder (build_of ws len origin pol choice cells spill) (to_seven ws len origin pol choice cells spill)
      (answer (summary_in ws len origin pol choice))
  unfolding build_of summary_of
  in_build cells spill =
      in_then _ (record_from_order ws len origin ++ choice_order choice) _ p _ _ in_plan_from (in_from cells spill)

  in_count : InOrder (count_of ws len pol) (record_order ws len) (answer (num_selected pol ws len))
  unfolding count_of
  in_count = in_tests (record_order ws len) _

  in_size : InOrder (size_of ws len pol choice) (to_six ws len origin pol choice (record_order ws len) (2 ^ 64 - 1)) (answer sizes)
  unfolding size_of
  in_size = in_then _ _ _ p _ _ in_plan (in_fit (2 ^ 64 - 1))

  -- entries are at most N, and cells of each at most those of the largest M
  count_small : (q : Parameters) → PlanFacts ws len pol q → len * stride_by max_log2_words + 1 < 2 ^ 64 → inventory_len_of q < 2 ^ 64
  unfolding inventory_len_of entries_of
  count_small q f h =
      let few : ceil_div (N q) (2 ^ L q) ≤ len = omega (arith, ceil_le (N q) (2 ^ L q) (pow_pos (L q)), f.of.few, f.length) in
      let m = mul-le-mul {n₁ = ceil_div (N q) (2 ^ L q)} {m₁ = stride q} {n₂ = len} {m₂ = stride_by max_log2_words}
      few (omega (arith, pow_mono f.of.small_m)) in
      omega (arith, h, m)

  never_six : len * stride_by max_log2_words + 1 < 2 ^ 64 → (o : Outcome Parameters) → plan_of ws len pol choice ≡ o
      → Never 6 (and_then o (λ q. fitted ws q (2 ^ 64 - 1)))
  unfolding fitted Unsaid
  never_six h (answer q) e g =
      cc (rw (le-ltb (2 ^ 64 - 1) (inventory_len_of q) (omega (arith, count_small q (plan_facts ws len pol choice q e) h))) at g)
  never_six h (refused n) e g =
      let d : n ≡ 6 = cc in
      in_never 6 _ _ _ in_plan (refl, (refl, (refl, (refl, (refl, tt))))) (e ∙ ap refused d)

  -- an answer that goes on to no more tests
  in_last : {A B : Type 0} (o : Outcome A) (cs : Conditions) (a : A) (go : A → B) → InOrder o cs (answer a)
      → InOrder (and_then o (λ x. answer (go x))) cs (answer (go a))
  in_last o cs a go h = record { first = λ n e. rw (h.first n e); else = λ e. rw (h.else e) }

  pub makers_refuse : MakersRefuse ws len origin pol choice
  unfolding size_of check_of summary_of Unsaid
  makers_refuse = record {
    count = in_count;
    plan = in_plan;
    size = in_size;
    count_14 = in_never 14 _ _ _ in_count (refl, (refl, tt));
    plan_14 = in_never 14 _ _ _ in_plan (refl, (refl, (refl, (refl, (refl, tt)))));
    size_14 = in_never 14 _ _ _ in_size (refl, (refl, (refl, (refl, (refl, (refl, tt))))));
    size_6 = λ h. never_six h _ refl;
    build = in_build;
    check = λ t inv sp. in_last _ _ (summary_in ws len origin pol choice) _ (in_build (length inv) (length sp));
  }

-- ---- 10 alone
ten_hint : (t : Summary) (inv sp : List ℕ) (r : ℕ) → Only10 (hint_at t inv sp r)
unfolding hint_at
ten_hint t inv sp r = ten_then (mark_of_rank t inv sp r) _ (ten_rank t inv sp r) (λ m. ten_answer _)

ten_dwell : (ws : List ℕ) (t : Summary) (inv sp : List ℕ) (a b : ℕ) → Only10 (dwell_at ws t inv sp a b)
unfolding dwell_at
ten_dwell ws t inv sp a b =
    ten_then (position_of ws t inv sp a) _ (ten_position t inv sp a ws)
    (λ p. ten_then (position_of ws t inv sp b) _ (ten_position t inv sp b ws) (λ o. ten_refuse (ltb o p) (answer (o - p)) (ten_answer _)))

-- a list's step, and all of them
module _ (ws : List ℕ) (t : Summary) (inv sp : List ℕ) where
  abbrev f : ℕ → Bool
  f = selected t.plan.polarity ws t.plan.len

  ten_read : (last : Option Reached) (r : ℕ) (s : Start) → Only10 (read_from f t.plan.len last r s)
  unfolding read_from
  ten_read last r s =
      let o = seek f (t.plan.len - s.from) s.from s.passes in
      ten_then (or_refuse 10 o) _ (ten_or o) (λ p. ten_answer _)

  ten_step : (last : Option Reached) (r : ℕ) → Only10 (step_of ws t inv sp last r)
  unfolding step_of step_from
  ten_step last r =
      ten_then (mark_of_rank t inv sp r) _ (ten_rank t inv sp r)
      (λ m. ten_cond m.exact _ _ (ten_answer (step_at_mark last m)) (ten_read last r (start_of last r m)))

  ten_walk : (rs : List ℕ) (w : Walk) → Only10 (walk ws t inv sp w rs)
  unfolding walk
  ten_walk [] w = ten_answer w
  ten_walk (r ∷ rs) w = ten_then (step_of ws t inv sp w.last r) _ (ten_step w.last r) (λ x. ten_walk rs (after w x))

  ten_list : (ranks : List ℕ) → Only10 (walk_of ws t inv sp ranks)
  unfolding walk_of
  ten_list ranks = ten_then (walk ws t inv sp begin ranks) _ (ten_walk ranks begin) (λ w. ten_answer (listed t.origin w))

ten_at : (ws : List ℕ) (t : Summary) (inv : List ℕ) (x : ℕ) → Only10 (rank_at ws t inv x)
unfolding rank_at
ten_at ws t inv x = ten_refuse (starts_unlawful t inv) _ (ten_answer _)

-- ---- the readers
none_listed : (ws : List ℕ) (t : Summary) (inv sp : List ℕ) (lent : ℕ) → first_of (index_order ws t inv sp) ≡ none
    → list_of ws t inv sp [] lent ≡ answer (record { samples = []; total = 0 })
unfolding list_of walk_of walk falls_from any_too_large
none_listed ws t inv sp lent e =
    tests_more (index_order ws t inv sp) (of_list (N t.plan) [] lent) (walk_of ws t inv sp [])
    ∙ (in_tests (index_order ws t inv sp) _).else e
    ∙ rw (le-ltb lent 0 (omega arith))

store_back : (ws : List ℕ) (t : Summary) (inv sp : List ℕ) (r : ℕ) (o : Outcome Hint) → hint_of ws t inv sp r ≡ o
    → cells_of inv sp (subinventory_of ws t inv sp r) ≡ [] → (n : ℕ) × (o ≡ refused n)
store_back ws t inv sp r (answer h) e d = absurd (omega (arith, store_some ws t inv sp r h e, store_length ws t inv sp r, ap length d))
store_back ws t inv sp r (refused n) e d = (n, refl)

pub readers_refuse : (ws : List ℕ) (t : Summary) (inv sp : List ℕ) → ReadersRefuse ws t inv sp
unfolding select_of sample_of hint_of hint_sample dwell_of subinventory_of store_of rank_of list_of
readers_refuse ws t inv sp = record {
  select = λ r. in_tests (index_order ws t inv sp ++ ((rank_too_large (N t.plan) r, 8) ∷ [])) _;
  select_10 = λ r. ten_then (position_of ws t inv sp r) _ (ten_position t inv sp r ws) (λ p. ten_answer _);
  hint = λ r. in_tests (index_order ws t inv sp ++ ((rank_too_large (N t.plan) r, 8) ∷ [])) _;
  hint_10 = λ r. ten_then (hint_at t inv sp r) _ (ten_hint t inv sp r) (λ h. ten_answer _);
  dwell =
      λ a b. in_tests
      (index_order ws t inv sp ++ ((rank_too_large (N t.plan) a, 8) ∷ (rank_too_large (N t.plan) b, 8) ∷ (ranks_fall a b, 11) ∷ [])) _;
  dwell_10 = ten_dwell ws t inv sp;
  store = λ r. (store_back ws t inv sp r (hint_of ws t inv sp r) refl, λ h. rw h.1);
  store_some = store_some ws t inv sp;
  store_in = store_in ws t inv sp;
  rank = λ x. in_tests (index_order ws t inv sp ++ ((sample_outside t.origin t.plan.len x, 17) ∷ [])) _;
  rank_10 = ten_at ws t inv;
  list = λ ranks lent. in_tests (index_order ws t inv sp ++ of_list (N t.plan) ranks lent) _;
  list_10 = ten_list ws t inv sp;
  list_untouched = λ ranks places n e. rw e;
  list_empty = none_listed ws t inv sp;
}

-- ---- the step knob
pub steps_refuse : StepsRefuse
unfolding next_of previous_of open_of turn_of
steps_refuse = record {
  next = λ ws t x. in_tests (step_order ws t x) _;
  previous = λ ws t x. in_tests (step_order ws t x) _;
  opened = λ words t x. in_tests (step_order words.now t x) _;
  turn = λ ws len pol origin x. in_tests (of_turn ws len origin x) _;
  turn_untouched = λ w n e. rw e;
}

-- ---- images
pub images_refuse : ImagesRefuse
unfolding write_of read_of
images_refuse = record {
  write = λ t inv sp lent. in_tests (of_writing t inv sp lent) (answer (image_of t inv sp));
  write_untouched = λ t inv sp bytes n e. rw e;
  read = λ bytes inv sp. in_tests (of_reading bytes inv sp) _;
  read_untouched = λ bytes inv sp n e. (rw e, rw e);
}

pub in_word_refuses : InWordRefuses
in_word_refuses w k h = (
  λ e. rw (ones_rank 64 w h) (word_missing w k 8 (sym e)),
  λ l. sym (word_refused w k (rw (ones_rank 64 w h) at l)),
)
