-- Laws of steps and walks. A position found from a sample's on is the first edge from there, so a turn gives the first edge from its
-- place; one past it the next turn begins, and so the turns list the edges.
use mathlib.Core.Bool.{Bool, true, false}
use mathlib.Core.List.{List, [], ◌∷◌}
use mathlib.Core.Logic.{◌↔◌, ⊎_elim}
use mathlib.Core.Option.{Option, none, some}
use mathlib.Core.Path.{◌≡◌, refl, sym, ap, subst, ◌∙◌}
use Prim.Native.Nat.{ℕ, zero, suc, ◌+◌, ◌-◌, ◌^◌, ◌≤◌, ◌<◌}
use native.Mathlib.Omega.{arith}
use lib.ListN.{length, get_or}
use borrow.Author.Tests.{le-ltb}
use Rattle.std.specs.Borrow.{Bor}
use Rattle.std.specs.Prelude as std
use Rattle.rank_sel.specs.Outcome.{Outcome, answer, refused, outcome, refuse_by, refuse_if, Conditions, NoneOf}
use Rattle.rank_sel.specs.declared.Refusal.{Refusal}
use Rattle.rank_sel.specs.Step.{last_before, next_from, Last, Next}
use Rattle.rank_sel.proofs.Outcome.{answer_is, none_join, none_split, passed_all, passing}
use Rattle.rank_sel.proofs.Step.{last_exact, next_exact}
use Rattle.std.proofs.lemmas.Bool.{cases_lt, false_from_ne_true}
use Rattle.bit_record.specs.Record.{sample_at, selected, of_record_from, of_sample, AdmittedFrom}
use Rattle.bit_record.specs.declared.Polarity.{Polarity}
use Rattle.bit_record.proofs.Counted.{admitted_from, admitted_from_none}
use Rattle.bit_record.proofs.Selected.{selected_lt}
use Rattle.inventory.specs.declared.summary.Summary.{Summary}
use Rattle.step_knob.specs.Step.{edge_at, edge_before, edge_from, next_of, of_step, of_turn, open_of, place_after, previous_of, turn_of, walker_after}
use Rattle.step_knob.specs.Walk.{Edge, FirstEdge, FirstExact, IsAdmitted, IsFirst, LastEdge, LastExact, ListsEdges, WalkExact, Walks, turn_from}
use Rattle.step_knob.specs.declared.walker.Walker.{Walker}

-- ---- an edge that is answered
module _ (origin : ℕ) where
  edge_found : (o : Option ℕ) (e : ℕ) → edge_at origin o ≡ std.Some e → (p : ℕ) × (o ≡ some p) × (sample_at origin p ≡ e)
  edge_found (some p) e h = (p, refl, cc)
  edge_found none e h = cc

  edge_missed : (o : Option ℕ) → edge_at origin o ≡ std.None → o ≡ none
  edge_missed (some p) h = cc
  edge_missed none h = refl

  module _ (o : Option ℕ) where
    -- what describes the position describes its edge
    edge_some : (P E : ℕ → Type 0) → ((p : ℕ) → (o ≡ some p) ↔ P p) → ((p : ℕ) → P p → E (sample_at origin p))
        → ((e : ℕ) → E e → (origin ≤ e) × P (e - origin)) → (e : ℕ) → (answer (edge_at origin o) ≡ answer (std.Some e)) ↔ E e
    edge_some P E exact here back e = (
      (λ h. let (p, found, at) = edge_found o e (answer_is h) in subst E at (here p ((exact p).0 found))),
      (λ h.
          let (low, found) = back e h in
          let at : sample_at origin (e - origin) ≡ e = omega arith in
          ap (λ (o : Option ℕ). answer (edge_at origin o)) ((exact (e - origin)).1 found) ∙ ap (λ (e : ℕ). answer (std.Some e)) at),
    )

    -- and what tells that there is none
    edge_none : {C D : Type 0} → (o ≡ none) ↔ C → C ↔ D → (answer (edge_at origin o) ≡ answer std.None) ↔ D
    edge_none exact same = (
      (λ h. same.0 (exact.0 (edge_missed o (answer_is h)))),
      (λ h. ap (λ (o : Option ℕ). answer (edge_at origin o)) (exact.1 (same.1 h))),
    )

module _ (ws : List ℕ) (len : ℕ) (pol : Polarity) (origin : ℕ) where
  abbrev f : ℕ → Bool
  f = selected pol ws len

  -- ---- positions and edges
  edge_of : (p : ℕ) → f p ≡ true → Edge ws len pol origin (sample_at origin p)
  edge_of p h =
      let at : sample_at origin p - origin ≡ p = omega arith in
      record { from = omega arith; to = omega (arith, selected_lt pol ws len p h); here = ap f at ∙ h }

  not_edge : (e : ℕ) → f (e - origin) ≡ false → Edge ws len pol origin e → ⊥
  not_edge e h d = let t = d.here in cc

  not_selected : (p : ℕ) → (Edge ws len pol origin (sample_at origin p) → ⊥) → f p ≡ false
  not_selected p h = false_from_ne_true (f p) (λ t. h (edge_of p t))

  module _ (x : ℕ) where
    first_edge : (p : ℕ) → Next f len (x - origin) p → FirstEdge ws len pol origin x (sample_at origin p)
    first_edge p s = record {
      edge = edge_of p s.here;
      low = omega (arith, s.low);
      before = λ y l h d. not_edge y (s.before (y - origin) (omega arith) (omega (arith, d.from))) d;
    }

    edge_next : (e : ℕ) → FirstEdge ws len pol origin x e → (origin ≤ e) × Next f len (x - origin) (e - origin)
    edge_next e s = (
      s.edge.from,
      record {
        low = omega (arith, s.low);
        high = omega (arith, s.edge.from, s.edge.to);
        here = s.edge.here;
        before = λ q l h. not_selected q (s.before (sample_at origin q) (omega arith) (omega arith));
      },
    )

    last_edge : (p : ℕ) → Last f (x - origin) p → LastEdge ws len pol origin x (sample_at origin p)
    last_edge p s = record {
      edge = edge_of p s.here;
      low = omega (arith, s.low);
      after = λ y l h d. not_edge y (s.after (y - origin) (omega arith) (omega (arith, d.from))) d;
    }

    edge_last : (e : ℕ) → LastEdge ws len pol origin x e → (origin ≤ e) × Last f (x - origin) (e - origin)
    edge_last e s = (
      s.edge.from,
      record {
        low = omega (arith, s.edge.from, s.low);
        here = s.edge.here;
        after = λ q l h. not_selected q (s.after (sample_at origin q) (omega (arith, s.edge.from)) (omega arith));
      },
    )

    from_exact : FirstExact ws len pol origin x (answer (edge_from ws len pol origin x))
    from_exact = let n = next_exact f len (x - origin) in record {
      found = edge_some origin (next_from f len (x - origin)) (Next f len (x - origin)) (FirstEdge ws len pol origin x) n.found first_edge edge_next;
      missing = edge_none origin (next_from f len (x - origin)) n.missing (
        (λ h e l d. not_edge e (h (e - origin) (omega arith) (omega (arith, d.from, d.to))) d),
        (λ h q l k. not_selected q (h (sample_at origin q) (omega arith))),
      );
    }

    before_exact : LastExact ws len pol origin x (answer (edge_before ws len pol origin x))
    before_exact = let n = last_exact f (x - origin) in record {
      found = edge_some origin (last_before f (x - origin)) (Last f (x - origin)) (LastEdge ws len pol origin x) n.found last_edge edge_last;
      missing = edge_none origin (last_before f (x - origin)) n.missing (
        (λ h e l d. not_edge e (h (e - origin) (omega (arith, d.from))) d),
        (λ h q l. not_selected q (h (sample_at origin q) (omega arith))),
      );
    }

  -- ---- turns
  abbrev turn : ℕ → Outcome (std.Option ℕ)
  turn = turn_of ws len pol origin

  -- a place that a turn's tests pass: in an admitted record, any from its origin to its end
  abbrev Free : ℕ → Type 0
  Free x = NoneOf (of_turn ws len origin x)

  free : AdmittedFrom ws len origin → (x : ℕ) → origin ≤ x → x ≤ sample_at origin len → Free x
  free a x l h =
      none_join (of_record_from ws len origin) (of_sample origin len x) (admitted_from_none ws len origin a)
      (simp (le-ltb x origin l, le-ltb (origin + len) x h), tt)

  admitted : (x : ℕ) → Free x → AdmittedFrom ws len origin
  admitted x h = admitted_from ws len origin (none_split (of_record_from ws len origin) (of_sample origin len x) h).0

  turn_is : (x : ℕ) → Free x → turn x ≡ answer (edge_from ws len pol origin x)
  unfolding turn_of
  turn_is x h = passing (of_turn ws len origin x) (answer (edge_from ws len pol origin x)) h

  turn_passed : (x : ℕ) (r : std.Option ℕ) → turn x ≡ answer r → Free x
  unfolding turn_of
  turn_passed x r h = (passed_all (of_turn ws len origin x) (answer (edge_from ws len pol origin x)) r h).0

  pub turn_gives : (x : ℕ) → Free x → FirstExact ws len pol origin x (turn x)
  turn_gives x h = subst (FirstExact ws len pol origin x) (sym (turn_is x h)) (from_exact x)

  -- an edge that a turn gives is a sample number: there is room for one past it
  pub turn_below : (x e : ℕ) → answer (std.Some e) ≡ turn x → e < 2 ^ 62
  turn_below x e told =
      let h = turn_passed x (std.Some e) (sym told) in
      omega (arith, (admitted x h).numbered, (((turn_gives x h).found e).0 (sym told)).edge.to)

  place_past : (x e : ℕ) → turn x ≡ answer (std.Some e) → place_after (turn x) x ≡ e + 1
  place_past x e told = ap (λ (o : Outcome (std.Option ℕ)). place_after o x) told

  module _ (x : ℕ) (h : Free x) where
    -- one past an edge there is no refusal either
    past : (e : ℕ) → turn x ≡ answer (std.Some e) → Free (e + 1)
    past e told =
        let s = ((turn_gives x h).found e).0 told in
        free (admitted x h) (e + 1) (omega (arith, s.edge.from)) (omega (arith, s.edge.to))

    -- so no turn after an admitted one is refused
    pub turn_stays : Free (place_after (turn x) x)
    turn_stays = go (turn x) refl
      where
        go : (o : Outcome (std.Option ℕ)) → turn x ≡ o → Free (place_after o x)
        go (answer (std.Some e)) told = past e told
        go (answer std.None) told = h
        go (refused n) told = h

  -- ---- walks
  -- the first edge, and those from one past it on
  module _ (x e : ℕ) (es : List ℕ) (first : FirstEdge ws len pol origin x e) (rest : ListsEdges ws len pol origin (e + 1) es) where
    one_more : ListsEdges ws len pol origin x (e ∷ es)
    one_more = record { rising = rising; edges = edges; all = all }
      where
        rising : (i j : ℕ) → i < j → j < suc (length es) → get_or (e ∷ es) i 0 < get_or (e ∷ es) j 0
        rising i zero l h = absurd (omega arith)
        rising zero (suc j) l h = omega (arith, (rest.edges j (omega arith)).0)
        rising (suc i) (suc j) l h = rest.rising i j (omega arith) (omega arith)

        edges : (i : ℕ) → i < suc (length es) → (x ≤ get_or (e ∷ es) i 0) × Edge ws len pol origin (get_or (e ∷ es) i 0)
        edges zero h = (first.low, first.edge)
        edges (suc i) h = let r = rest.edges i (omega arith) in (omega (arith, first.low, r.0), r.1)

        all : (y : ℕ) → x ≤ y → Edge ws len pol origin y → (i : ℕ) × (i < suc (length es)) × (get_or (e ∷ es) i 0 ≡ y)
        all y l d = ⊎_elim (λ (h : y < e). absurd (first.before y l h d))
            (λ (h : e ≤ y). ⊎_elim (λ (k : e < y). let (i, b, at) = rest.all y (omega arith) d in (suc i, omega arith, at))
            (λ (k : y ≤ e). (zero, omega arith, omega arith)) (cases_lt e y)) (cases_lt y e)

  walk_lists : (es : List ℕ) (x : ℕ) → Walks ws len pol origin x es → ListsEdges ws len pol origin x es
  walk_lists [] x w =
      let none = (turn_gives x (turn_passed x std.None w)).missing.0 w in
      record {
        rising = λ i j l h. absurd (omega arith);
        edges = λ i h. absurd (omega arith);
        all = λ e l d. absurd (none e l d);
      }
  walk_lists (e ∷ es) x w =
      let first = ((turn_gives x (turn_passed x (std.Some e) w.0)).found e).0 w.0 in
      one_more x e es first (walk_lists es (e + 1) (subst (λ (y : ℕ). Walks ws len pol origin y es) (place_past x e w.0) w.1))

  -- a turn that gives none ends a walk; one that gives an edge begins one where there is a walk from one past the edge on
  ends_by : (x : ℕ) → Free x
      → ((e : ℕ) → x ≤ e → e < sample_at origin len → Free (e + 1) → (es : List ℕ) × Walks ws len pol origin (e + 1) es)
      → (es : List ℕ) × Walks ws len pol origin x es
  ends_by x h on = go (edge_from ws len pol origin x) (turn_is x h)
    where
      go : (r : std.Option ℕ) → turn x ≡ answer r → (es : List ℕ) × Walks ws len pol origin x es
      go std.None told = ([], told)
      go (std.Some e) told =
          let s = ((turn_gives x h).found e).0 told in
          let (es, w) = on e s.low s.edge.to (past x h e told) in
          (e ∷ es, (told, subst (λ (y : ℕ). Walks ws len pol origin y es) (sym (place_past x e told)) w))

  -- with n samples left there are n turns at most before it ends
  walk_ends : (n x : ℕ) → Free x → sample_at origin len ≤ x + n → (es : List ℕ) × Walks ws len pol origin x es
  walk_ends zero x h l = ends_by x h (λ e a b k. absurd (omega arith))
  walk_ends (suc n) x h l = ends_by x h (λ e a b k. walk_ends n (e + 1) k (omega arith))

  pub walk_exact : (x : ℕ) → Free x → WalkExact ws len pol origin x
  walk_exact x h = record { ends = walk_ends (sample_at origin len) x h (omega arith); lists = λ es w. walk_lists es x w }

-- ---- by words and summary alone
module _ (ws : List ℕ) (t : Summary) (x : ℕ) (h : NoneOf (of_step ws t x)) where
  next_is : let p = t.plan in next_of ws t x ≡ answer (edge_from ws p.len p.polarity t.origin x)
  unfolding next_of
  next_is = let p = t.plan in passing (of_step ws t x) (answer (edge_from ws p.len p.polarity t.origin x)) h

  previous_is : let p = t.plan in previous_of ws t x ≡ answer (edge_before ws p.len p.polarity t.origin x)
  unfolding previous_of
  previous_is = let p = t.plan in passing (of_step ws t x) (answer (edge_before ws p.len p.polarity t.origin x)) h

  pub next_gives : let p = t.plan in FirstExact ws p.len p.polarity t.origin x (next_of ws t x)
  next_gives = let p = t.plan in subst (FirstExact ws p.len p.polarity t.origin x) (sym next_is) (from_exact ws p.len p.polarity t.origin x)

  pub previous_gives : let p = t.plan in LastExact ws p.len p.polarity t.origin x (previous_of ws t x)
  previous_gives =
      let p = t.plan in
      subst (LastExact ws p.len p.polarity t.origin x) (sym previous_is) (before_exact ws p.len p.polarity t.origin x)

  -- a sample that a step's tests pass is a place that a turn's do, and the turn gives the same
  pub step_turn : NoneOf (of_turn ws t.plan.len t.origin x)
  step_turn = (h.0, (h.1.0, (h.1.1.0, h.1.1.1.1)))

  pub next_turn : let p = t.plan in next_of ws t x ≡ turn_of ws p.len p.polarity t.origin x
  next_turn = let p = t.plan in next_is ∙ sym (turn_is ws p.len p.polarity t.origin x step_turn)

-- ---- of a walker
-- the edge of an answered turn is the first from the walker's place on
pub turned_first : (w : Walker) (r : std.Result (std.Option ℕ) Refusal) → outcome r ≡ turn_from w → std.IfOk r (λ found. IsFirst w found)
turned_first w (std.Ok found) told =
    let h = turn_passed w.words.now w.len w.polarity w.origin w.place found (sym told) in
    subst (FirstExact w.words.now w.len w.polarity w.origin w.place) (sym told)
    (turn_gives w.words.now w.len w.polarity w.origin w.place h)
turned_first w (std.Err n) told = tt

-- and no turn of the walker handed back is turned down
pub turned_on : (w v : Walker) (r : std.Result (std.Option ℕ) Refusal) → outcome r ≡ turn_from w → v ≡ walker_after w
    → std.OnOk r (IsAdmitted v)
turned_on w v (std.Ok found) told after =
    let h = turn_passed w.words.now w.len w.polarity w.origin w.place found (sym told) in
    subst IsAdmitted (sym after) (turn_stays w.words.now w.len w.polarity w.origin w.place h)
turned_on w v (std.Err n) told after = tt

-- ---- what is turned down
-- tests that stop one answer stop another, by the same number
stopped_alike : {A B : Type 0} (cs : Conditions) (a : A) (b : B) (n : ℕ) → refuse_by cs (answer a) ≡ refused n
    → refuse_by cs (answer b) ≡ refused n
stopped_alike [] a b n e = cc
stopped_alike {A} {B} (c ∷ cs) a b n e = go (stopped_alike cs a b n) c.0 e
  where
    go : (refuse_by cs (answer a) ≡ refused n → refuse_by cs (answer b) ≡ refused n) → (t : Bool)
        → refuse_if t c.1 (refuse_by cs (answer a)) ≡ refused n → refuse_if t c.1 (refuse_by cs (answer b)) ≡ refused n
    go ih true e = let d : c.1 ≡ n = cc in ap refused d
    go ih false e = ih e

-- a walker is turned down exactly where next is
pub open_refuses : (words : Bor (List ℕ)) (t : Summary) (x : ℕ) (o : Outcome Walker) → o ≡ open_of words t x → (n : ℕ)
    → (o ≡ refused n) ↔ (next_of words.now t x ≡ refused n)
unfolding open_of next_of
open_refuses words t x o e n =
    let cs = of_step words.now t x in (
      (λ h. stopped_alike cs _ _ n (sym e ∙ h)),
      (λ h. e ∙ stopped_alike cs _ _ n h),
    )
