-- What the entries promise, from what they answer.
use mathlib.Core.Bool.{Bool, true, false}
use mathlib.Core.List.{List, [], ◌∷◌}
use mathlib.Core.Logic.{◌↔◌, ⊎_elim}
use mathlib.Core.Option.{Option as Maybe, none, some}
use mathlib.Core.Path.{◌≡◌, refl, sym, ap, ◌∙◌, subst}
use Prim.Native.Nat.{ℕ, ◌+◌, ◌-◌, ◌*◌, ◌^◌, ◌≤◌, ◌<◌}
use native.Mathlib.Nat.{div-mul-le_self, div-add-mod'}
use native.Mathlib.Omega.{arith}
use lib.Count.{ones}
use lib.ListN.{length, get_or, drop}
use borrow.Author.Tests.{le-ltb, lt-ltb}
use Rattle.std.specs.Prelude.{Option, Some, None, Result, Ok, Err, IfOk, max}
use Rattle.std.proofs.lemmas.Bool.{cases_lt}
use Rattle.rank_sel.specs.Outcome.{Outcome, answer, refused, outcome, number_of, or_refuse}
use Rattle.rank_sel.specs.Rank.{rank}
use Rattle.rank_sel.specs.Seek.{seek, select}
use Rattle.rank_sel.specs.declared.Refusal.{Refusal}
use Rattle.rank_sel.specs.declared.Refusal.TheVariants.{LenTooLarge, TooFewWords, OnesPerInventoryTooLarge, WordsPerSubinventoryTooLarge, OverheadNotPositive, InventoryTooShort, SpillTooShort, RankTooLarge, SummaryUnlawful, CellsUnlawful, RanksFall, ListFalls, TooFewPlaces, OriginTooLarge, ImageUnlawful, PlaceTooShort, SampleOutside}
use Rattle.rank_sel.proofs.Outcome.{answer_is, passed_all, passing, then_answer, then_refused}
use Rattle.rank_sel.proofs.Rank.{rank-zero, rank_lt}
use Rattle.rank_sel.proofs.Seek.{seek_found}
use Rattle.rank_sel.proofs.Select.{select-rank, select_below, select_sought}
use Rattle.select_in_word.specs.Bit.{bit}
use Rattle.select_in_word.specs.Select.{one_at, one_of, select_in_word}
use Rattle.select_in_word.specs.declared.One.{One}
use Rattle.bit_record.specs.Record.{AdmittedFrom, bit_of, count_of, num_selected, of_record_from, selected, sample_outside}
use Rattle.bit_record.specs.declared.Polarity.{Polarity}
use Rattle.bit_record.proofs.Counted.{admitted_from_none, counted}
use Rattle.spacing.specs.Spacing.{L, N, PlanOf, max_log2_words, plan_of}
use Rattle.spacing.specs.declared.Choice.{Choice}
use Rattle.spacing.specs.declared.Choice.TheVariants.{Default}
use Rattle.spacing.specs.declared.Parameters.{Parameters}
use Rattle.spacing.proofs.Facts.{plan_admitted, plan_facts}
use Rattle.inventory.specs.Index.{inventory_len_of, stride_by, summary_of}
use Rattle.inventory.specs.declared.summary.Summary.{Summary}
use Rattle.build_inventory.specs.Build.{BuiltAs, build_from, build_of, check_of, fitted, size_of}
use Rattle.build_inventory.specs.Positions.{pos_in, spill_len_of}
use Rattle.build_inventory.specs.declared.Sizes.{Sizes}
use Rattle.build_inventory.proofs.Outcomes.{fitting}
use Rattle.read_inventory.specs.Jump.{select_of, hint_of, dwell_of, cells_of, or_empty, part_of, store_of, stored, subinventory_of}
use Rattle.read_inventory.specs.declared.jump.CellPart.{CellPart}
use Rattle.read_inventory.specs.Read.{Hint, entry_of_rank, mark_number, place_at, subrank}
use Rattle.select_list.specs.List.{any_too_large, falls, Listed, list_of, places_after, sum_over, total_of}
use Rattle.select_list.specs.Step.{single_words}
use Rattle.rank_inventory.specs.Rank.{rank_of}
use Rattle.step_knob.specs.Step.{next_of, of_step, previous_of}
use Rattle.step_knob.specs.Walk.{FirstExact, LastExact}
use Rattle.step_knob.proofs.Walk.{next_gives, previous_gives}
use Rattle.edge_index.specs.Entries.{IsBit, IsCount, IsOneOf, IsSound, Suffices, rank_of_mark, hint_at_bit}
use Rattle.edge_index.specs.Refusals.{MakersRefuse, Never}
use Rattle.edge_index.specs.Right.{Answerable, ListRight, RankRight, Right, Within}
use Rattle.edge_index.specs.Sound.{Sound, q_of}
use Rattle.edge_index.proofs.Promises.{built_sound, check_exact as checked_exactly, check_refuses as checked_refuses, checked_sound}
use Rattle.edge_index.proofs.Refusals.{in_word_refuses, makers_refuse, readers_refuse}
use Rattle.edge_index.proofs.Right.{right}

-- ---- what an outcome says of the result itself
pub is_ok : {A : Type 0} (r : Result A Refusal) (a : A) → outcome r ≡ answer a → r ≡ Ok a
is_ok (Ok b) a e = cc
is_ok (Err n) a e = cc

-- each refusal has a number of its own
abbrev named : ℕ → Refusal
named n = get_or (LenTooLarge ∷ TooFewWords ∷ OnesPerInventoryTooLarge ∷ WordsPerSubinventoryTooLarge ∷ OverheadNotPositive ∷ InventoryTooShort ∷ SpillTooShort ∷ RankTooLarge ∷ SummaryUnlawful ∷ CellsUnlawful ∷ RanksFall ∷ ListFalls ∷ TooFewPlaces ∷ OriginTooLarge ∷ ImageUnlawful ∷ PlaceTooShort ∷ SampleOutside ∷ []) n SampleOutside

named_is : (e : Refusal) → named (number_of e - 1) ≡ e
named_is LenTooLarge = refl
named_is TooFewWords = refl
named_is OnesPerInventoryTooLarge = refl
named_is WordsPerSubinventoryTooLarge = refl
named_is OverheadNotPositive = refl
named_is InventoryTooShort = refl
named_is SpillTooShort = refl
named_is RankTooLarge = refl
named_is SummaryUnlawful = refl
named_is CellsUnlawful = refl
named_is RanksFall = refl
named_is ListFalls = refl
named_is TooFewPlaces = refl
named_is OriginTooLarge = refl
named_is ImageUnlawful = refl
named_is PlaceTooShort = refl
named_is SampleOutside = refl

pub is_err : {A : Type 0} (r : Result A Refusal) (e : Refusal) → outcome r ≡ refused (number_of e) → r ≡ Err e
is_err (Ok a) e h = cc
is_err (Err n) e h =
    let k : number_of n ≡ number_of e = cc in
    ap Err (sym (named_is n) ∙ ap (λ (m : ℕ). named (m - 1)) k ∙ named_is e)

-- a sound index is one by the summary's own len, origin and polarity
pub sound_is : (ws : List ℕ) (len origin : ℕ) (pol : Polarity) (choice : Choice) (t : Summary) (inv sp : List ℕ)
    → Sound ws len origin pol choice t inv sp → IsSound ws t inv sp
sound_is ws len origin pol choice t inv sp s =
    let f = plan_facts ws len pol choice t.plan s.plan in
    record {
      choice = choice;
      sound = subst (λ (l : ℕ). Sound ws l t.origin t.plan.polarity choice t inv sp) (sym f.length)
          (subst (λ (o : ℕ). Sound ws len o t.plan.polarity choice t inv sp) (sym s.bit_zero)
          (subst (λ (q : Polarity). Sound ws len origin q choice t inv sp) (sym f.polarity) s));
    }

module _ (ws : List ℕ) (len origin : ℕ) (pol : Polarity) (choice : Choice) where
  -- ---- build
  pub build_sound : (inv inv' sp sp' : List ℕ) (r : Result Summary Refusal)
      → BuiltAs ws (build_of ws len origin pol choice (length inv) (length sp)) inv inv' sp sp' r
      → IfOk r (λ t. Sound ws len origin pol choice t inv' sp')
  build_sound inv inv' sp sp' (Ok t) b =
      rw (b.inventory, b.spill) (built_sound ws len origin pol choice t inv sp (sym b.answers))
  build_sound inv inv' sp sp' (Err n) b = tt

  pub build_right : (inv inv' sp sp' : List ℕ) (r : Result Summary Refusal)
      → BuiltAs ws (build_of ws len origin pol choice (length inv) (length sp)) inv inv' sp sp' r
      → IfOk r (λ t. Right ws len origin pol t inv' sp')
  build_right inv inv' sp sp' (Ok t) b = right ws len origin pol choice t inv' sp' (build_sound inv inv' sp sp' (Ok t) b)
  build_right inv inv' sp sp' (Err n) b = tt

  pub build_readable : (inv inv' sp sp' : List ℕ) (r : Result Summary Refusal)
      → BuiltAs ws (build_of ws len origin pol choice (length inv) (length sp)) inv inv' sp sp' r → IfOk r (λ t. IsSound ws t inv' sp')
  build_readable inv inv' sp sp' (Ok t) b = sound_is ws len origin pol choice t inv' sp' (build_sound inv inv' sp sp' (Ok t) b)
  build_readable inv inv' sp sp' (Err n) b = tt

  -- ---- check
  module _ (t : Summary) (inv sp : List ℕ) (r : Result Bool Refusal) (e : outcome r ≡ check_of ws len origin pol choice t inv sp) where
    yes : r ≡ Ok true → check_of ws len origin pol choice t inv sp ≡ answer true
    yes y = sym e ∙ ap outcome y

    pub check_sound : r ≡ Ok true → Sound ws len origin pol choice t inv sp
    check_sound y = checked_sound ws len origin pol choice t inv sp (yes y)

    pub check_right : r ≡ Ok true → Right ws len origin pol t inv sp
    check_right y = right ws len origin pol choice t inv sp (check_sound y)

    pub check_readable : r ≡ Ok true → IsSound ws t inv sp
    check_readable y = sound_is ws len origin pol choice t inv sp (check_sound y)

    pub check_refuses : (n : Refusal) → (r ≡ Err n) ↔ (build_of ws len origin pol choice (length inv) (length sp) ≡ refused (number_of n))
    check_refuses n =
        let c = checked_refuses ws len origin pol choice t inv sp (number_of n) in (
          (λ h. c.0 (sym e ∙ ap outcome h)),
          (λ h. is_err r n (e ∙ c.1 h)),
        )

    pub check_exact : (r ≡ Ok true) ↔ BuiltAs ws (build_of ws len origin pol choice (length inv) (length sp)) inv inv sp sp (Ok t)
    check_exact =
        let p = checked_exactly ws len origin pol choice t inv sp in (
          (λ y. let b = p.0 (yes y) in record { answers = sym b.0; inventory = sym b.1; spill = sym b.2 }),
          (λ b. is_ok r true (e ∙ p.1 (sym b.answers, sym b.inventory, sym b.spill))),
        )

-- ---- readers
module _ (ws : List ℕ) (t : Summary) (inv sp : List ℕ) (s : IsSound ws t inv sp) where
  pub reads : Right ws t.plan.len t.origin t.plan.polarity t inv sp
  reads = right ws t.plan.len t.origin t.plan.polarity s.choice t inv sp s.sound

module _ (ws : List ℕ) (t : Summary) (inv sp : List ℕ) (r : ℕ) (x : Result ℕ Refusal) (e : outcome x ≡ select_of ws t inv sp r) where
  pub select_right : IsSound ws t inv sp → r < N t.plan → (p : ℕ) × (x ≡ Ok (t.origin + p)) × IsBit ws t r p
  select_right s l = let f = (reads ws t inv sp s).select r l in (f.0, is_ok x _ (e ∙ f.1), f.2)

  pub select_past : IsSound ws t inv sp → N t.plan ≤ r → x ≡ Err RankTooLarge
  select_past s l = is_err x RankTooLarge (e ∙ (reads ws t inv sp s).select_past r l)

-- a mark stands at its rank or before it
mark_before : (ws : List ℕ) (t : Summary) (r : ℕ) → rank_of_mark ws t r ≤ r
mark_before ws t r =
    let q = q_of (bit_of ws t.plan.len t.plan.polarity) t.plan (entry_of_rank t r) in
    omega (arith, div-mul-le_self (subrank t r) (2 ^ q), div-add-mod' r (2 ^ L t.plan))

module _ (ws : List ℕ) (t : Summary) (inv sp : List ℕ) (r : ℕ) (x : Result Hint Refusal) (e : outcome x ≡ hint_of ws t inv sp r) where
  pub hint_right : IsSound ws t inv sp → r < N t.plan
      → (p : ℕ) × (x ≡ Ok (hint_at_bit t p (rank_of_mark ws t r))) × IsBit ws t (rank_of_mark ws t r) p × (rank_of_mark ws t r ≤ r)
  hint_right s l = let f = (reads ws t inv sp s).hint r l in (f.0, is_ok x _ (e ∙ f.1), f.2, mark_before ws t r)

  pub hint_past : IsSound ws t inv sp → N t.plan ≤ r → x ≡ Err RankTooLarge
  hint_past s l = is_err x RankTooLarge (e ∙ (reads ws t inv sp s).hint_past r l)

module _ (ws : List ℕ) (t : Summary) (inv sp : List ℕ) (a b : ℕ) (x : Result ℕ Refusal) (e : outcome x ≡ dwell_of ws t inv sp a b) where
  pub dwell_right : IsSound ws t inv sp → a ≤ b → b < N t.plan
      → (p q : ℕ) × (x ≡ Ok (q - p)) × (p ≤ q) × IsBit ws t a p × IsBit ws t b q
  dwell_right s l h = let f = (reads ws t inv sp s).dwell a b l h in (f.0, f.1, is_ok x _ (e ∙ f.2), f.3, f.4, f.5)

  pub dwell_past : IsSound ws t inv sp → N t.plan ≤ max a b → x ≡ Err RankTooLarge
  dwell_past s l =
      let k = reads ws t inv sp s in
      is_err x RankTooLarge (e ∙ ⊎_elim (λ h. k.dwell_past_b a b h (omega arith)) (λ h. k.dwell_past_a a b h) (cases_lt a (N t.plan)))

  pub dwell_falls : IsSound ws t inv sp → b < a → a < N t.plan → x ≡ Err RanksFall
  dwell_falls s l h = is_err x RanksFall (e ∙ (reads ws t inv sp s).dwell_falls a b l h)

module _ (ws : List ℕ) (t : Summary) (inv sp : List ℕ) (r : ℕ) where
  pub store_right : IsSound ws t inv sp → r < N t.plan
      → Within (place_at t inv (entry_of_rank t r) (mark_number t inv r)) (subinventory_of ws t inv sp r)
  store_right s l = (reads ws t inv sp s).store r l

  pub store_past : (x : List ℕ) → x ≡ cells_of inv sp (subinventory_of ws t inv sp r) → IsSound ws t inv sp → N t.plan ≤ r → x ≡ []
  unfolding subinventory_of store_of
  store_past x e s l = e ∙ rw ((reads ws t inv sp s).hint_past r l)

  pub store_none : (x : List ℕ) → x ≡ cells_of inv sp (subinventory_of ws t inv sp r)
      → (x ≡ []) ↔ ((n : ℕ) × (hint_of ws t inv sp r ≡ refused n))
  store_none x e = rw e ((readers_refuse ws t inv sp).store r)

  pub part_right : (x : Result CellPart Refusal) → stored x ≡ store_of ws t inv sp r → IsSound ws t inv sp → r < N t.plan
      → Within (place_at t inv (entry_of_rank t r) (mark_number t inv r)) (or_empty (stored x))
  unfolding subinventory_of
  part_right x e s l = rw e (store_right s l)

  pub part_refuses : (x : Result CellPart Refusal) → stored x ≡ store_of ws t inv sp r → (n : ℕ)
      → (stored x ≡ refused n) ↔ (hint_of ws t inv sp r ≡ refused n)
  unfolding store_of
  part_refuses x e n = rw e (then_refused (hint_of ws t inv sp r) _ n)

  pub part_past : (x : Result CellPart Refusal) → stored x ≡ store_of ws t inv sp r → IsSound ws t inv sp → N t.plan ≤ r
      → x ≡ Err RankTooLarge
  unfolding store_of
  part_past x e s l = is_err x RankTooLarge ((then_refused (outcome x) part_of 8).0 (e ∙ rw ((reads ws t inv sp s).hint_past r l)))

-- ---- lists
module _ (ws : List ℕ) (t : Summary) (inv sp ranks places : List ℕ) where
  abbrev listed_as : Outcome Listed
  listed_as = list_of ws t inv sp ranks (length places)

  module _ (s : IsSound ws t inv sp) (a : Answerable (N t.plan) ranks (length places)) where
    abbrev f : (y : Listed) × (listed_as ≡ answer y) × ListRight ws t.plan.len t.origin t.plan.polarity t inv sp ranks places y
    f = (reads ws t inv sp s).list ranks places a

  -- what the places hold
  module _ (left : List ℕ) (d : left ≡ places_after listed_as places) where
    module _ (s : IsSound ws t inv sp) (a : Answerable (N t.plan) ranks (length places)) where
      is_left : left ≡ places_after (answer (f s a).0) places
      is_left = d ∙ ap (λ (o : Outcome Listed). places_after o places) (f s a).1

      pub list_right : (i : ℕ) → i < length ranks → (p : ℕ) × (get_or left i 0 ≡ t.origin + p) × IsBit ws t (get_or ranks i 0) p
      list_right i l = let b = (f s a).2.bits i l in (b.0, ap (λ (z : List ℕ). get_or z i 0) is_left ∙ b.1, b.2)

      pub list_jumps : (i : ℕ) → i < length ranks → select_of ws t inv sp (get_or ranks i 0) ≡ answer (get_or left i 0)
      list_jumps i l = (f s a).2.jumps i l ∙ ap (λ (z : List ℕ). answer (get_or z i 0)) (sym is_left)

      pub list_rest : drop (length ranks) left ≡ drop (length ranks) places
      list_rest = ap (drop (length ranks)) is_left ∙ (f s a).2.past

  -- how many words are read
  pub list_fewer : (x : Result ℕ Refusal) → outcome x ≡ total_of listed_as → IsSound ws t inv sp
      → Answerable (N t.plan) ranks (length places) → (n : ℕ) × (x ≡ Ok n) × (n ≤ sum_over (single_words ws t inv sp) ranks)
  list_fewer x e s a = ((f s a).0.total, is_ok x _ (e ∙ ap total_of (f s a).1), (f s a).2.fewer)

-- and by what number a list is refused
module _ (ws : List ℕ) (t : Summary) (inv sp ranks : List ℕ) (lent : ℕ) (x : Result ℕ Refusal)
    (e : outcome x ≡ total_of (list_of ws t inv sp ranks lent)) (s : IsSound ws t inv sp) where
  pub list_falls : falls ranks ≡ true → x ≡ Err ListFalls
  list_falls h = is_err x ListFalls (e ∙ ap total_of ((reads ws t inv sp s).list_falls ranks lent h))

  pub list_few : falls ranks ≡ false → lent < length ranks → x ≡ Err TooFewPlaces
  list_few h l = is_err x TooFewPlaces (e ∙ ap total_of ((reads ws t inv sp s).list_few ranks lent h l))

  pub list_past : falls ranks ≡ false → length ranks ≤ lent → any_too_large (N t.plan) ranks ≡ true → x ≡ Err RankTooLarge
  list_past h l k = is_err x RankTooLarge (e ∙ ap total_of ((reads ws t inv sp s).list_past ranks lent h l k))

-- ---- rank
module _ (ws : List ℕ) (t : Summary) (inv sp : List ℕ) (y : ℕ) (x : Result ℕ Refusal) (e : outcome x ≡ rank_of ws t inv sp y) where
  pub rank_right : IsSound ws t inv sp → sample_outside t.origin t.plan.len y ≡ false
      → x ≡ Ok (rank (selected t.plan.polarity ws t.plan.len) (y - t.origin))
  rank_right s h = is_ok x _ (e ∙ (reads ws t inv sp s).ranks.exact y h)

  pub rank_outside : IsSound ws t inv sp → sample_outside t.origin t.plan.len y ≡ true → x ≡ Err SampleOutside
  rank_outside s h = is_err x SampleOutside (e ∙ (reads ws t inv sp s).ranks.outside y h)

  -- ---- rank and jump
  module _ (s : IsSound ws t inv sp) where
    abbrev ranks : RankRight ws t.plan.len t.origin t.plan.polarity t inv sp
    ranks = (reads ws t inv sp s).ranks

    pub rank_at_the_end : y ≡ t.origin + t.plan.len → x ≡ Ok (N t.plan)
    rank_at_the_end h = is_ok x (N t.plan) (e ∙ ap (rank_of ws t inv sp) h ∙ ranks.end)

    pub rank_jumped : (r : ℕ) → select_of ws t inv sp r ≡ answer y → x ≡ Ok r
    rank_jumped r h = is_ok x r (e ∙ ranks.jumped r y h)

    pub rank_next : (r f : ℕ) → x ≡ Ok r → (next_of ws t y ≡ answer (Some f)) ↔ (select_of ws t inv sp r ≡ answer f)
    rank_next r f h = ranks.next y r f (sym e ∙ ap outcome h)

    pub rank_none : (r : ℕ) → x ≡ Ok r → (next_of ws t y ≡ answer None) ↔ (r ≡ N t.plan)
    rank_none r h = ranks.none y r (sym e ∙ ap outcome h)

-- ---- steps
module _ (ws : List ℕ) (t : Summary) (y : ℕ) where
  pub next_first : (r : Result (Option ℕ) Refusal) → outcome r ≡ next_of ws t y
      → IfOk r (λ f. FirstExact ws t.plan.len t.plan.polarity t.origin y (answer f))
  unfolding next_of
  next_first (Ok f) e =
      let p = passed_all (of_step ws t y) _ f (sym e) in
      subst (FirstExact ws t.plan.len t.plan.polarity t.origin y) (sym e) (next_gives ws t y p.0)
  next_first (Err n) e = tt

  pub previous_last : (r : Result (Option ℕ) Refusal) → outcome r ≡ previous_of ws t y
      → IfOk r (λ f. LastExact ws t.plan.len t.plan.polarity t.origin y (answer f))
  unfolding previous_of
  previous_last (Ok f) e =
      let p = passed_all (of_step ws t y) _ f (sym e) in
      subst (LastExact ws t.plan.len t.plan.polarity t.origin y) (sym e) (previous_gives ws t y p.0)
  previous_last (Err n) e = tt

-- ---- a record and a choice
-- a number that is never said
never : {A : Type 0} (r : Result A Refusal) (o : Outcome A) (n : Refusal) → outcome r ≡ o → Never (number_of n) o → r ≡ Err n → ⊥
never r o n e h d = h (sym e ∙ ap outcome d)

module _ (ws : List ℕ) (len : ℕ) (pol : Polarity) where
  abbrev chosen : ℕ → Bool
  chosen = selected pol ws len

  counts : IsCount ws len pol (num_selected pol ws len)
  unfolding num_selected
  counts r = (
    (λ h. (
      select chosen len r,
      record {
        below = select_below chosen len r h;
        here = (select_sought chosen len r h).here;
        before = select-rank chosen len r h;
      },
    )),
    (λ b. let d = b.1 in omega (arith, rank_lt chosen b.0 len d.here d.below, d.before)),
  )

  pub count_bits : (r : Result ℕ Refusal) → outcome r ≡ count_of ws len pol → IfOk r (λ n. IsCount ws len pol n)
  count_bits (Ok n) e = subst (IsCount ws len pol) (counted ws len pol n (sym e)).1 counts
  count_bits (Err n) e = tt

  pub count_no_origin : (r : Result ℕ Refusal) → outcome r ≡ count_of ws len pol → r ≡ Err OriginTooLarge → ⊥
  count_no_origin r e = never r _ OriginTooLarge e (makers_refuse ws len 0 pol Default).count_14

module _ (ws : List ℕ) (len : ℕ) (pol : Polarity) (choice : Choice) where
  abbrev turned : MakersRefuse ws len 0 pol choice
  turned = makers_refuse ws len 0 pol choice

  pub plan_record : (r : Result Parameters Refusal) → outcome r ≡ plan_of ws len pol choice
      → IfOk r (λ p. (p.polarity ≡ pol) × (p.len ≡ len))
  plan_record (Ok p) e = let k = plan_facts ws len pol choice p (sym e) in (k.polarity, k.length)
  plan_record (Err n) e = tt

  pub plan_rule : (r : Result Parameters Refusal) → outcome r ≡ plan_of ws len pol choice → IfOk r (λ p. PlanOf ws p)
  plan_rule (Ok p) e = (plan_facts ws len pol choice p (sym e)).of
  plan_rule (Err n) e = tt

  pub plan_no_origin : (r : Result Parameters Refusal) → outcome r ≡ plan_of ws len pol choice → r ≡ Err OriginTooLarge → ⊥
  plan_no_origin r e = never r _ OriginTooLarge e turned.plan_14

  pub size_no_origin : (r : Result Sizes Refusal) → outcome r ≡ size_of ws len pol choice → r ≡ Err OriginTooLarge → ⊥
  size_no_origin r e = never r _ OriginTooLarge e turned.size_14

  pub size_not_six : (r : Result Sizes Refusal) → outcome r ≡ size_of ws len pol choice
      → len * stride_by max_log2_words + 1 < 2 ^ 64 → r ≡ Err InventoryTooShort → ⊥
  size_not_six r e h = never r _ InventoryTooShort e (turned.size_6 h)

  -- the sizes of a plan's index are what its builds take
  module _ (p : Parameters) (s : Sizes) (planned : plan_of ws len pol choice ≡ answer p) (i : s.inventory ≡ inventory_len_of p)
      (k : s.spill ≡ spill_len_of ws p) where
    from : (origin cells spill : ℕ) → origin + len < 2 ^ 62 → build_of ws len origin pol choice cells spill ≡ build_from ws origin p cells spill
    unfolding build_of
    from origin cells spill h =
        let a : AdmittedFrom ws len origin = record {
          admitted = plan_admitted ws len pol p (plan_facts ws len pol choice p planned);
          numbered = h;
        } in
        rw (passing (of_record_from ws len origin) (plan_of ws len pol choice) (admitted_from_none ws len origin a), planned)

    sufficient : Suffices ws len pol choice s
    unfolding build_from fitted summary_of
    sufficient = record {
      enough = λ origin cells spill h a b. (
        summary_of (pos_in ws p) p origin,
        from origin cells spill h ∙ rw (
          le-ltb cells (inventory_len_of p) (omega (arith, a, i)),
          le-ltb spill (spill_len_of ws p) (omega (arith, b, k)),
        ),
        sym i,
        sym k,
      );
      six = λ origin cells spill h a. from origin cells spill h ∙ rw (lt-ltb cells (inventory_len_of p) (omega (arith, a, i)));
      seven = λ origin cells spill h a b. from origin cells spill h ∙ rw (
        le-ltb cells (inventory_len_of p) (omega (arith, a, i)),
        lt-ltb spill (spill_len_of ws p) (omega (arith, b, k)),
      );
    }

  pub size_suffices : (r : Result Sizes Refusal) → outcome r ≡ size_of ws len pol choice → IfOk r (λ s. Suffices ws len pol choice s)
  unfolding size_of
  size_suffices (Ok s) e =
      let a = then_answer (plan_of ws len pol choice) _ s (sym e) in
      let g = fitting a.2 in
      sufficient a.0 s a.1 g.inventory g.spill
  size_suffices (Err n) e = tt

-- ---- a word
module _ (w r : ℕ) where
  pub in_word_right : (x : Result One Refusal) → outcome x ≡ select_in_word w r → IfOk x (λ o. IsOneOf w r o)
  unfolding select_in_word
  in_word_right (Ok o) e = go (seek (bit w) 64 0 r) refl e
    where
      go : (p : Maybe ℕ) → seek (bit w) 64 0 r ≡ p → answer o ≡ or_refuse 8 (one_of w p) → IsOneOf w r o
      go (some p) h d =
          let is : o ≡ one_at w p = answer_is d in
          let s = seek_found (bit w) 64 0 r p h in
          subst (IsOneOf w r) (sym is) record {
            low = omega (arith, s.high);
            here = s.here;
            below = omega (arith, s.before, rank-zero (bit w));
            above = refl;
          }
      go none h d = cc
  in_word_right (Err n) e = tt

  pub in_word_past : (x : Result One Refusal) → outcome x ≡ select_in_word w r → w < 2 ^ 64 → (x ≡ Err RankTooLarge) ↔ (ones w ≤ r)
  in_word_past x e h =
      let k = in_word_refuses w r h in (
        (λ d. k.0 (sym e ∙ ap outcome d)),
        (λ l. is_err x RankTooLarge (e ∙ k.1 l)),
      )
