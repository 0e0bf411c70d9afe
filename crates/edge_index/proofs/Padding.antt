-- Padding alters nothing: the words come in by what they select, and by whether they suffice.
use mathlib.Core.Bool.{Bool, ◌&&◌}
use mathlib.Core.List.{List, [], ◌∷◌, ◌++◌}
use mathlib.Core.Option.{Option}
use mathlib.Core.Path.{◌≡◌, refl, sym, ap, ◌∙◌, subst}
use Prim.Native.Nat.{ℕ, ◌-◌, ◌^◌}
use lib.Dec.{ltb}
use Rattle.std.specs.Borrow.{Bor}
use lib.ListN.{length, drop}
use Rattle.rank_sel.specs.Outcome.{Outcome, answer, refused, refuse_if, Conditions, refuse_by, and_then}
use Rattle.rank_sel.specs.Seek.{select}
use Rattle.rank_sel.proofs.Outcome.{by_outcome, by_then, passed_all, tests_answer}
use Rattle.bit_record.specs.Record.{of_record_from, of_sample, SameRecord}
use Rattle.bit_record.specs.declared.Polarity.{Polarity}
use Rattle.bit_record.proofs.Same.{selected_same, words_same, count_same}
use Rattle.spacing.specs.Spacing.{N, plan_of}
use Rattle.spacing.specs.declared.Choice.{Choice}
use Rattle.spacing.specs.declared.Parameters.{Parameters}
use Rattle.spacing.proofs.Facts.{plan_facts}
use Rattle.inventory.specs.Index.{entries_of, inventory_len_of, spill_start, inventory_of, spill_of, summary_of}
use Rattle.inventory.specs.declared.summary.Summary.{Summary}
use Rattle.build_inventory.specs.Build.{fitted, size_of, build_from, build_of, inventory_after, spill_after, same_summary, check_of}
use Rattle.build_inventory.specs.declared.Sizes.{Sizes}
use Rattle.build_inventory.specs.Compare.{same_index}
use Rattle.build_inventory.specs.Positions.{pos_in}
use Rattle.build_inventory.proofs.Outcomes.{admission}
use Rattle.read_inventory.specs.Jump.{sample_of, select_of, hint_sample, hint_of, dwell_at, dwell_of, store_of}
use Rattle.read_inventory.specs.Read.{position_of}
use Rattle.read_inventory.specs.Tests.{of_index, of_rank, of_ranks}
use Rattle.select_list.specs.List.{Walk, start, after, walk, of_list, walk_of, list_of}
use Rattle.select_list.specs.Step.{Reached, step_of}
use Rattle.rank_inventory.specs.Rank.{rank_at, rank_of}
use Rattle.step_knob.specs.Step.{next_of, previous_of, of_step, walker_at, open_of, turn_of}
use Rattle.step_knob.specs.declared.walker.Walker.{Walker}
use Rattle.edge_index.specs.Padding.{Alike}
use Rattle.edge_index.specs.Promises.{inventory_holds, spill_holds}

by_inventory : (ws inv : List ℕ) (o : Outcome Summary)
    → inventory_after ws inv o ≡ by_outcome (λ t. inventory_of (pos_in ws t.plan) t.plan ++ drop t.inventory_len inv) (λ n. inv) o
by_inventory ws inv (answer t) = refl
by_inventory ws inv (refused n) = refl

by_spill : (ws sp : List ℕ) (o : Outcome Summary)
    → spill_after ws sp o ≡ by_outcome (λ t. spill_of (pos_in ws t.plan) t.plan ++ drop t.spill_len sp) (λ n. sp) o
by_spill ws sp (answer t) = refl
by_spill ws sp (refused n) = refl

then_alike : {A B : Type 0} (o : Outcome A) (go to : A → Outcome B) → ((a : A) → go a ≡ to a) → and_then o go ≡ and_then o to
then_alike (answer a) go to h = h a
then_alike (refused n) go to h = refl

module _ (len : ℕ) (ws vs : List ℕ) (s : SameRecord len ws vs) where
  -- ---- the entries that take a choice
  plan_same : (pol : Polarity) (choice : Choice) → plan_of ws len pol choice ≡ plan_of vs len pol choice
  unfolding plan_of
  plan_same pol choice = rw (count_same len ws vs s pol)

  -- the bit of each rank
  pos_same : (p : Parameters) → p.len ≡ len → pos_in ws p ≡ pos_in vs p
  pos_same p e =
      ap (λ (f : ℕ → Bool). select f p.len)
      (selected_same p.len ws vs (subst (λ (n : ℕ). SameRecord n ws vs) (sym e) s) p.polarity)

  -- the sizes of an index, by the bit of each rank
  abbrev fit : (ℕ → ℕ) → Parameters → ℕ → Outcome Sizes
  fit f p most =
      refuse_if (ltb most (inventory_len_of p)) 6 (answer (record { inventory = inventory_len_of p; spill = spill_start f p (entries_of p) }))

  -- what follows a plan of the record depends on the words by the bit of each rank
  then_same : {A : Type 0} (x y : Outcome Parameters) → x ≡ y → ((p : Parameters) → x ≡ answer p → p.len ≡ len)
      → (go : (ℕ → ℕ) → Parameters → Outcome A) → and_then x (λ p. go (pos_in ws p) p) ≡ and_then y (λ p. go (pos_in vs p) p)
  then_same (answer p) y e l go = rw (← e) (ap (λ (f : ℕ → ℕ). go f p) (pos_same p (l p refl)))
  then_same (refused n) y e l go = rw (← e)

  plan_len : (pol : Polarity) (choice : Choice) (p : Parameters) → plan_of ws len pol choice ≡ answer p → p.len ≡ len
  plan_len pol choice p e = (plan_facts ws len pol choice p e).length

  build_same : (origin : ℕ) (pol : Polarity) (choice : Choice) (cells spill : ℕ)
      → build_of ws len origin pol choice cells spill ≡ build_of vs len origin pol choice cells spill
  unfolding build_of build_from fitted
  build_same origin pol choice cells spill = then_same
      (refuse_by (of_record_from ws len origin) (plan_of ws len pol choice)) (refuse_by (of_record_from vs len origin) (plan_of vs len pol choice))
      (rw (words_same len ws vs s, plan_same pol choice))
      (λ p e. plan_len pol choice p (passed_all (of_record_from ws len origin) (plan_of ws len pol choice) p e).1)
      (λ f p. and_then (fit f p cells) (λ s. refuse_if (ltb spill s.spill) 7 (answer (summary_of f p origin))))

  -- what follows a build likewise
  after_same : {X : Type 0} (origin : ℕ) (pol : Polarity) (choice : Choice) (cells spill : ℕ) (after : (ℕ → ℕ) → Summary → X) (else : ℕ → X)
      → by_outcome (λ t. after (pos_in ws t.plan) t) else (build_of ws len origin pol choice cells spill)
      ≡ by_outcome (λ t. after (pos_in vs t.plan) t) else (build_of vs len origin pol choice cells spill)
  after_same {X} origin pol choice cells spill after else = at (build_of ws len origin pol choice cells spill) refl (build_same origin pol choice cells spill)
    where
      at : (o : Outcome Summary) → build_of ws len origin pol choice cells spill ≡ o
          → build_of ws len origin pol choice cells spill ≡ build_of vs len origin pol choice cells spill
          → by_outcome (λ t. after (pos_in ws t.plan) t) else (build_of ws len origin pol choice cells spill)
          ≡ by_outcome (λ t. after (pos_in vs t.plan) t) else (build_of vs len origin pol choice cells spill)
      at (answer t) e d =
          let c = plan_facts ws len pol choice t.plan (admission ws len origin pol choice cells spill t e).planned in
          rw (sym d ∙ e, e) (ap (λ (f : ℕ → ℕ). after f t) (pos_same t.plan c.length))
      at (refused n) e d = rw (sym d ∙ e, e)

  check_same : (origin : ℕ) (pol : Polarity) (choice : Choice) (t : Summary) (inv sp : List ℕ)
      → check_of ws len origin pol choice t inv sp ≡ check_of vs len origin pol choice t inv sp
  unfolding check_of
  check_same origin pol choice t inv sp =
      by_then (build_of ws len origin pol choice (length inv) (length sp)) _
      ∙ after_same origin pol choice (length inv) (length sp) (λ f u. answer (same_summary t u && same_index f u.plan inv sp)) refused
      ∙ sym (by_then (build_of vs len origin pol choice (length inv) (length sp)) _)

  inventory_same : (origin : ℕ) (pol : Polarity) (choice : Choice) (inv sp : List ℕ)
      → inventory_holds ws len origin pol choice inv sp ≡ inventory_holds vs len origin pol choice inv sp
  inventory_same origin pol choice inv sp =
      by_inventory ws inv (build_of ws len origin pol choice (length inv) (length sp))
      ∙ after_same origin pol choice (length inv) (length sp) (λ f t. inventory_of f t.plan ++ drop t.inventory_len inv) (λ n. inv)
      ∙ sym (by_inventory vs inv (build_of vs len origin pol choice (length inv) (length sp)))

  spill_same : (origin : ℕ) (pol : Polarity) (choice : Choice) (inv sp : List ℕ)
      → spill_holds ws len origin pol choice inv sp ≡ spill_holds vs len origin pol choice inv sp
  spill_same origin pol choice inv sp =
      by_spill ws sp (build_of ws len origin pol choice (length inv) (length sp))
      ∙ after_same origin pol choice (length inv) (length sp) (λ f t. spill_of f t.plan ++ drop t.spill_len sp) (λ n. sp)
      ∙ sym (by_spill vs sp (build_of vs len origin pol choice (length inv) (length sp)))

  -- ---- the readers
  module _ (t : Summary) (inv sp : List ℕ) (e : t.plan.len ≡ len) where
    here : SameRecord t.plan.len ws vs
    here = subst (λ (n : ℕ). SameRecord n ws vs) (sym e) s

    tests_same : {A : Type 0} (cs : Conditions) (rest : Outcome A)
        → refuse_by (of_index ws t inv sp ++ cs) rest ≡ refuse_by (of_index vs t inv sp ++ cs) rest
    tests_same cs rest = rw (words_same t.plan.len ws vs here)

    position_same : (r : ℕ) → position_of ws t inv sp r ≡ position_of vs t inv sp r
    unfolding position_of
    position_same r = rw (selected_same t.plan.len ws vs here t.plan.polarity)

    hint_same : (r : ℕ) → hint_of ws t inv sp r ≡ hint_of vs t inv sp r
    unfolding hint_of
    hint_same r = tests_same (of_rank (N t.plan) r) (hint_sample t inv sp r)

    select_same : (r : ℕ) → select_of ws t inv sp r ≡ select_of vs t inv sp r
    unfolding select_of sample_of
    select_same r = tests_same (of_rank (N t.plan) r) (sample_of ws t inv sp r) ∙ rw (position_same r)

    store_same : (r : ℕ) → store_of ws t inv sp r ≡ store_of vs t inv sp r
    unfolding store_of
    store_same r = rw (hint_same r)

    dwell_same : (a b : ℕ) → dwell_of ws t inv sp a b ≡ dwell_of vs t inv sp a b
    unfolding dwell_of dwell_at
    dwell_same a b = tests_same (of_ranks (N t.plan) a b) (dwell_at ws t inv sp a b) ∙ rw (position_same a, position_same b)

    step_same : (last : Option Reached) (r : ℕ) → step_of ws t inv sp last r ≡ step_of vs t inv sp last r
    unfolding step_of
    step_same last r = rw (selected_same t.plan.len ws vs here t.plan.polarity)

    walk_same : (ranks : List ℕ) (w : Walk) → walk ws t inv sp w ranks ≡ walk vs t inv sp w ranks
    unfolding walk
    walk_same [] w = refl
    walk_same (r ∷ rs) w = rw (step_same w.last r) (then_alike (step_of vs t inv sp w.last r) _ _ (λ x. walk_same rs (after w x)))

    list_same : (ranks : List ℕ) (lent : ℕ) → list_of ws t inv sp ranks lent ≡ list_of vs t inv sp ranks lent
    unfolding list_of walk_of
    list_same ranks lent = tests_same (of_list (N t.plan) ranks lent) (walk_of ws t inv sp ranks) ∙ rw (walk_same ranks start)

    rank_same : (x : ℕ) → rank_of ws t inv sp x ≡ rank_of vs t inv sp x
    unfolding rank_of rank_at
    rank_same x =
        tests_same (of_sample t.origin t.plan.len x) (rank_at ws t inv (x - t.origin)) ∙ rw (selected_same t.plan.len ws vs here t.plan.polarity)

    next_same : (x : ℕ) → next_of ws t x ≡ next_of vs t x
    unfolding next_of
    next_same x = rw (words_same t.plan.len ws vs here, selected_same t.plan.len ws vs here t.plan.polarity)

    previous_same : (x : ℕ) → previous_of ws t x ≡ previous_of vs t x
    unfolding previous_of
    previous_same x = rw (words_same t.plan.len ws vs here, selected_same t.plan.len ws vs here t.plan.polarity)

  opened_same : (a b : Bor (List ℕ)) (t : Summary) (x : ℕ) → a.now ≡ ws → b.now ≡ vs → t.plan.len ≡ len
      → and_then (open_of a t x) (λ w. answer w.place) ≡ and_then (open_of b t x) (λ w. answer w.place)
  unfolding open_of
  opened_same a b t x f g e =
      let place = λ (y : Walker). answer y.place in
      let p = t.plan in
      tests_answer (of_step a.now t x) (walker_at a p.len p.polarity t.origin x) place
      ∙ rw (f, g, words_same p.len ws vs (here t [] [] e)) refl
      ∙ sym (tests_answer (of_step b.now t x) (walker_at b p.len p.polarity t.origin x) place)

  turn_same : (pol : Polarity) (origin x : ℕ) → turn_of ws len pol origin x ≡ turn_of vs len pol origin x
  unfolding turn_of
  turn_same pol origin x = rw (words_same len ws vs s, selected_same len ws vs s pol)

  pub padding_alike : Alike len ws vs
  unfolding size_of fitted
  padding_alike = record {
    count = count_same len ws vs s;
    plan = plan_same;
    size = λ pol choice. then_same (plan_of ws len pol choice) (plan_of vs len pol choice) (plan_same pol choice) (plan_len pol choice)
        (λ f p. fit f p (2 ^ 64 - 1));
    build = λ origin pol choice inv sp. build_same origin pol choice (length inv) (length sp);
    build_inventory = inventory_same;
    build_spill = spill_same;
    check = check_same;
    select = λ t inv sp r e. select_same t inv sp e r;
    hint = λ t inv sp r e. hint_same t inv sp e r;
    store = λ t inv sp r e. store_same t inv sp e r;
    dwell = λ t inv sp a b e. dwell_same t inv sp e a b;
    list = λ t inv sp ranks lent e. list_same t inv sp e ranks lent;
    rank = λ t inv sp x e. rank_same t inv sp e x;
    next = λ t x e. next_same t [] [] e x;
    previous = λ t x e. previous_same t [] [] e x;
    opened = opened_same;
    turn = turn_same;
  }
