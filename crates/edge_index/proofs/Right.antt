-- Demand 2, from demand 3 alone: a sound index passes the tests, and its marks lead to the bits, singly and in a list.
use mathlib.Core.Bool.{Bool, true, false}
use mathlib.Core.List.{List, ◌++◌}
use mathlib.Core.Logic.{⊎_elim}
use mathlib.Core.Path.{◌≡◌, refl, sym, ap, ap₂, ◌∙◌, subst}
use Prim.Native.Nat.{ℕ, ◌+◌, ◌-◌, ◌/◌, ◌%◌, ◌^◌, ◌≤◌, ◌<◌}
use native.Mathlib.Nat.{mod-one, div-lt_iff_lt-mul}
use native.Mathlib.Omega.{arith}
use lib.ListN.{length, get_or, drop, length-append, length-drop, length-map, get_or-append}
use lib.Seq.{drop_at}
use borrow.Author.Tests.{lt-ltb, le-ltb, lt-leb, le-leb}
use Rattle.rank_sel.specs.Numbers.{sum}
use Rattle.rank_sel.specs.Outcome.{Outcome, answer, refused, or_refuse, Conditions, refuse_by}
use Rattle.rank_sel.specs.Rank.{rank}
use Rattle.rank_sel.specs.Seek.{select}
use Rattle.std.proofs.lemmas.Bool.{cases_lt}
use Rattle.rank_sel.proofs.Outcome.{tests_more, passing}
use Rattle.rank_sel.proofs.Select.{select_le, select-seek}
use Rattle.bit_record.specs.Record.{selected, num_selected, bit_of, sample_at}
use Rattle.bit_record.specs.declared.Polarity.{Polarity}
use Rattle.spacing.specs.Spacing.{N, L, M}
use Rattle.spacing.specs.declared.Choice.{Choice}
use Rattle.spacing.specs.declared.Parameters.{Parameters}
use Rattle.spacing.proofs.Facts.{PlanFacts, plan_facts, plan_num}
use Rattle.inventory.specs.Index.{entries_of, inventory_len_of, kind_of, entry_of}
use Rattle.inventory.specs.Shape.{near_by}
use Rattle.inventory.specs.declared.shape.Shape.{Shape}
use Rattle.inventory.specs.declared.shape.SpanType.{SpanType}
use Rattle.inventory.specs.declared.shape.SpanType.TheVariants.{U16, U32, U64}
use Rattle.inventory.specs.declared.summary.Summary.{Summary}
use Rattle.inventory.proofs.Marks.{start_here}
use Rattle.inventory.proofs.Ranks.{entry_below, rank_entry, rank_sub, rank_in}
use Rattle.inventory.proofs.Entries.{kind_whole, kind_headless, some_lanes, spill_heads, in_mark, mark_in, marks_placed, shape_by, spilled_by_lem}
use Rattle.inventory.proofs.Sums.{sum_part}
use Rattle.read_inventory.specs.Jump.{sample_of, select_of, hint_sample, hint_of, dwell_at, dwell_of, part_by, store_of, subinventory_of}
use Rattle.read_inventory.specs.Read.{cell_at, shape_at, spilled_at, place_at, is_u64, mark_number, residual, Mark, mark_of_rank, finish, position_of}
use Rattle.read_inventory.specs.Tests.{of_index, of_rank, of_ranks}
use Rattle.read_inventory.proofs.Answers.{hint_mark}
use Rattle.read_inventory.proofs.Passing.{IndexHeld, index_none}
use Rattle.select_list.specs.List.{falls, any_too_large, of_list, Listed, walk_of, list_of, places_after}
use Rattle.select_list.proofs.Ranks.{rising_none, below_none}
use Rattle.edge_index.specs.Right.{Within, Answerable, ListRight, Right}
use Rattle.edge_index.specs.Sound.{q_of, marks_of, spilled_of, mark_rank, Sound}
use Rattle.edge_index.proofs.Lists.{mapped, Leading, walk-lists}
use Rattle.edge_index.proofs.Ranks.{Ranking, ranks_right}

-- step 7 from the mark of rank m, past j: an exact mark is the bit itself
finish-mark : (b : Bool) (f : ℕ → Bool) (len m j : ℕ) → m + j < rank f len → (b ≡ true → j ≡ 0)
    → finish f len (record { at = select f len m; residual = j; exact = b }) ≡ answer (select f len (m + j))
finish-mark true f len m j h z = ap (λ (r : ℕ). answer (select f len r)) (omega (arith, z refl))
finish-mark false f len m j h z = ap (or_refuse 10) (select-seek f len m j h)

exact_kind : (k : SpanType) → is_u64 k ≡ true → k ≡ U64
exact_kind U16 e = cc
exact_kind U32 e = cc
exact_kind U64 e = refl

module _ (ws : List ℕ) (len origin : ℕ) (pol : Polarity) (choice : Choice) (t : Summary) (inv sp : List ℕ)
    (s : Sound ws len origin pol choice t inv sp) where
  abbrev f : ℕ → Bool
  f = selected pol ws len

  abbrev pos : ℕ → ℕ
  pos = bit_of ws len pol

  abbrev p : Parameters
  p = t.plan

  c : PlanFacts ws len pol p
  c = plan_facts ws len pol choice p s.plan

  num : (r : ℕ) → r < N p → r < rank f len
  unfolding num_selected
  num r h = omega (arith, plan_num ws len pol p c)

  -- ---- the tests are passed
  index_held : IndexHeld ws t inv sp
  unfolding inventory_len_of
  index_held = record {
    from = record { admitted = c.of.admitted; numbered = omega (arith, s.numbered, s.bit_zero, c.length) };
    legible = record {
      short = c.of.admitted.short;
      lawful = record { few = c.of.few; small_l = c.of.small_l; small_m = c.of.small_m; spaced = c.of.spaced; counted = s.inventory_len };
      held = record { own = s.inventory_held; over = s.spill_held };
    };
  }

  tests_pass : {A : Type 0} (cs : Conditions) (rest : Outcome A) → refuse_by (of_index ws t inv sp ++ cs) rest ≡ refuse_by cs rest
  tests_pass cs rest =
      tests_more (of_index ws t inv sp) cs rest ∙ passing (of_index ws t inv sp) (refuse_by cs rest) (index_none ws t inv sp index_held)

  -- ---- each rank
  abbrev e : ℕ → ℕ
  e r = r / 2 ^ L p

  abbrev sub : ℕ → ℕ
  sub r = r % 2 ^ L p

  abbrev mark_of : ℕ → ℕ
  mark_of r = mark_rank pos p (e r) (sub r / 2 ^ q_of pos p (e r))

  abbrev passes : ℕ → ℕ
  passes r = sub r % 2 ^ q_of pos p (e r)

  entry_of_lem : (r : ℕ) → r < N p → e r < entries_of p
  entry_of_lem r h = rank_entry p r h

  -- a mark's rank is one of the entry's
  mark_number_in : (r : ℕ) → r < N p → sub r / 2 ^ q_of pos p (e r) < marks_of pos p (e r)
  mark_number_in r h = in_mark pos p (e r) (sub r) (rank_sub p r h)

  mark_lt : (r : ℕ) → r < N p → mark_of r < N p
  mark_lt r h = (rank_in p (e r) _ (mark_in pos p (e r) (sub r / 2 ^ q_of pos p (e r)) (mark_number_in r h))).0

  none_passed : (r : ℕ) → is_u64 (kind_of pos p (e r)) ≡ true → passes r ≡ 0
  none_passed r z = ap (λ (q : ℕ). sub r % 2 ^ q) (kind_whole pos p (e r) (exact_kind (kind_of pos p (e r)) z)) ∙ mod-one (sub r)

  record_same : selected p.polarity ws p.len ≡ f
  record_same = ap₂ (λ (o : Polarity) (l : ℕ). selected o ws l) c.polarity c.length

  -- the mark of rank r as it is to be read
  abbrev mark_for : ℕ → Mark
  mark_for r = record { at = pos (mark_of r); residual = passes r; exact = is_u64 (kind_of pos p (e r)) }

  mark-rank : (r : ℕ) → r < N p → mark_of r + passes r ≡ r
  mark-rank r h = omega (arith, (s.met r h).passed, (s.bits r h).before, (s.bits (mark_of r) (mark_lt r h)).before)

  mark_right : (r : ℕ) → r < N p → mark_of_rank t inv sp r ≡ answer (mark_for r)
  unfolding residual
  mark_right r h = hint_mark t inv sp r _ (s.met r h).mark ∙ rw (s.kinds (e r) (entry_of_lem r h), s.quanta (e r) (entry_of_lem r h))

  position_right : (r : ℕ) → r < N p → position_of ws t inv sp r ≡ answer (pos r)
  unfolding position_of
  position_right r h =
      rw (mark_right r h)
      (ap (λ (g : ℕ → Bool). finish g p.len (mark_for r)) record_same
      ∙ ap (λ (l : ℕ). finish f l (mark_for r)) c.length
      ∙ finish-mark (mark_for r).exact f len (mark_of r) (passes r) (rw (mark-rank r h) (num r h)) (none_passed r)
      ∙ ap (λ (i : ℕ). answer (pos i)) (mark-rank r h))

  select_right : (r : ℕ) → r < N p → select_of ws t inv sp r ≡ answer (sample_at origin (pos r))
  unfolding select_of sample_of
  select_right r h = tests_pass (of_rank (N p) r) (sample_of ws t inv sp r) ∙ rw (lt-leb (N p) r h, position_right r h, s.bit_zero)

  rise : (a b : ℕ) → a ≤ b → b < N p → pos a ≤ pos b
  rise a b l h = let d : a + (b - a) ≡ b = omega arith in subst (λ (n : ℕ). pos a ≤ pos n) d (select_le f len a (b - a) (rw d (num b h)))

  hint_right : (r : ℕ) → r < N p → hint_of ws t inv sp r ≡ answer (record { mark = sample_at origin (pos (mark_of r)); rank = mark_of r })
  unfolding hint_of hint_sample
  hint_right r h = tests_pass (of_rank (N p) r) (hint_sample t inv sp r) ∙ rw (lt-leb (N p) r h, (s.met r h).mark, s.bit_zero)

  -- ---- the cells where a mark is recorded
  pub shape_right : (k : ℕ) → k < entries_of p → shape_at t inv k ≡ (entry_of pos p k).shape
  unfolding shape_at
  shape_right k h = rw (s.kinds k h, s.starts k h, ← start_here pos p k (entry_below p k h)) (sym (shape_by pos p k))

  spilled_right : (k : ℕ) → k < entries_of p → spilled_at t inv k ≡ spilled_of pos p k
  unfolding spilled_at
  spilled_right k h = rw (s.kinds k h, s.quanta k h) (sym (spilled_by_lem pos p k))

  pub second_right : (k : ℕ) → k < entries_of p → (entry_of pos p k).shape.heads ≡ 1 → cell_at t inv k 1 ≡ sum (spilled_of pos p) k
  second_right k h d = s.second k h (λ u. omega (arith, d, kind_headless pos p k u))

  place_in : (k i : ℕ) → k < entries_of p → i < marks_of pos p k → Within (place_at t inv k i) (part_by t inv k (place_at t inv k i))
  unfolding place_at
  place_in k i h l = rw (shape_right k h) (⊎_elim
      (λ (a : i < x.from). rw (lt-ltb i x.from a) tt)
      (λ (a : x.from ≤ i). rw (le-ltb i x.from a) (⊎_elim
      (λ (b : i < near_by x (M p)).
      let q : (i - x.from) / x.lanes < 2 ^ M p - x.heads = (div-lt_iff_lt-mul (some_lanes pos p k)).1 (omega arith) in
      rw (lt-ltb i (near_by x (M p)) b) (omega arith))
      (λ (b : near_by x (M p) ≤ i).
      let q : (i - near_by x (M p)) / x.lanes < spilled_of pos p k = (div-lt_iff_lt-mul (some_lanes pos p k)).1
      (omega (arith, marks_placed pos p k c.of.spaced i l)) in
      let d = second_right k h (spill_heads pos p k _ q) in
      rw (le-ltb i (near_by x (M p)) b) (omega (arith, spilled_right k h, d, s.spill_len, sum_part (spilled_of pos p) k (entries_of p) h)))
      (cases_lt i (near_by x (M p)))))
      (cases_lt i x.from))
    where
      x : Shape
      x = (entry_of pos p k).shape

  store_right : (r : ℕ) → r < N p → Within (place_at t inv (e r) (mark_number t inv r)) (subinventory_of ws t inv sp r)
  unfolding subinventory_of store_of mark_number
  store_right r h =
      rw (hint_right r h, s.quanta (e r) (entry_of_lem r h)) (place_in (e r) (sub r / 2 ^ q_of pos p (e r)) (entry_of_lem r h) (mark_number_in r h))

  -- ---- a list
  leading : Leading ws t inv sp f len
  leading = record {
    bits = record_same;
    length = c.length;
    below = num;
    mark = λ r h. (
      mark_for r,
      mark_right r h,
      record { start = record { own = mark_of r; from = refl; passes = mark-rank r h }; exact = none_passed r },
    );
    single = position_right;
  }

  list_tests : (ranks : List ℕ) (lent : ℕ)
      → list_of ws t inv sp ranks lent ≡ refuse_by (of_list (N p) ranks lent) (walk_of ws t inv sp ranks)
  unfolding list_of
  list_tests ranks lent = tests_pass (of_list (N p) ranks lent) (walk_of ws t inv sp ranks)

  list_right : (ranks places : List ℕ) → Answerable (N p) ranks (length places)
      → (x : Listed) × (list_of ws t inv sp ranks (length places) ≡ answer x) × ListRight ws len origin pol t inv sp ranks places x
  list_right ranks places a =
      let u : falls ranks ≡ false = rising_none ranks 0 (λ l. omega arith) a.rising in
      let b : any_too_large (N p) ranks ≡ false = below_none (N p) ranks a.below in
      let v = walk-lists leading ranks u b in
      let x : Listed = v.0 in
      let n : length x.samples ≡ length ranks = ap length v.1.samples ∙ length-map ranks _ in
      let w : (i : ℕ) → i < length ranks → get_or (places_after (answer x) places) i 0 ≡ sample_at origin (pos (get_or ranks i 0)) =
      λ i l. get_or-append x.samples _ 0 i (omega (arith, n))
      ∙ ap (λ (ps : List ℕ). get_or ps i 0) v.1.samples
      ∙ mapped (λ r. sample_at t.origin (pos r)) ranks i l
      ∙ rw s.bit_zero in (
        x,
        list_tests ranks (length places) ∙ rw (u, le-ltb (length places) (length ranks) a.room, b) v.1.found,
        record {
          jumps = λ i l. rw (w i l) (select_right (get_or ranks i 0) (a.below i l));
          bits = λ i l. (pos (get_or ranks i 0), w i l, s.bits (get_or ranks i 0) (a.below i l));
          past = drop_at x.samples _ (length ranks) n ∙ ap (λ (k : ℕ). drop k places) n;
          many = length-append x.samples _ ∙ omega (arith, length-drop (length x.samples) places, n, a.room);
          fewer = v.1.fewer;
        },
      )

  -- ---- ranks
  select_past : (r : ℕ) → N p ≤ r → select_of ws t inv sp r ≡ refused 8
  unfolding select_of
  select_past r h = tests_pass (of_rank (N p) r) (sample_of ws t inv sp r) ∙ rw (le-leb (N p) r h)

  ranking : Ranking ws len origin pol t inv sp
  ranking = record {
    held = index_held;
    polarity = c.polarity;
    length = c.length;
    bit_zero = s.bit_zero;
    num = plan_num ws len pol p c;
    starts = s.starts;
    bits = s.bits;
    jumps = select_right;
    past = select_past;
  }

  pub right : Right ws len origin pol t inv sp
  unfolding select_of hint_of dwell_of dwell_at
  right = record {
    select = λ r h. (pos r, select_right r h, s.bits r h);
    hint = λ r h. (pos (mark_of r), hint_right r h, s.bits (mark_of r) (mark_lt r h));
    dwell = λ a b l h. (
      pos a,
      pos b,
      tests_pass (of_ranks (N p) a b) (dwell_at ws t inv sp a b)
          ∙ rw (
            lt-leb (N p) a (omega arith),
            lt-leb (N p) b h,
            le-ltb b a l,
            position_right a (omega arith),
            position_right b h,
            le-ltb (pos b) (pos a) (rise a b l h),
          ),
      rise a b l h,
      s.bits a (omega arith),
      s.bits b h,
    );
    store = store_right;
    list = list_right;
    ranks = ranks_right ranking;
    select_past = select_past;
    hint_past = λ r h. tests_pass (of_rank (N p) r) (hint_sample t inv sp r) ∙ rw (le-leb (N p) r h);
    dwell_past_a = λ a b h. tests_pass (of_ranks (N p) a b) (dwell_at ws t inv sp a b) ∙ rw (le-leb (N p) a h);
    dwell_past_b = λ a b l h. tests_pass (of_ranks (N p) a b) (dwell_at ws t inv sp a b) ∙ rw (lt-leb (N p) a l, le-leb (N p) b h);
    dwell_falls =
        λ a b l h. tests_pass (of_ranks (N p) a b) (dwell_at ws t inv sp a b)
        ∙ rw (lt-leb (N p) a h, lt-leb (N p) b (omega arith), lt-ltb b a l);
    list_falls = λ ranks lent a. list_tests ranks lent ∙ rw a;
    list_few = λ ranks lent a l. list_tests ranks lent ∙ rw (a, lt-ltb lent (length ranks) l);
    list_past = λ ranks lent a l b. list_tests ranks lent ∙ rw (a, le-ltb lent (length ranks) l, b);
  }
