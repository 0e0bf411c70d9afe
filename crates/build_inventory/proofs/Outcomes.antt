-- What the outcomes say: of a plan that is fitted, of a build that is not turned down, and of the cells that it leaves.
use mathlib.Core.Path.{◌≡◌, refl, sym, ap, subst, ◌∙◌}
use mathlib.Core.List.{List, ◌++◌}
use Prim.Native.Nat.{ℕ, ◌≤◌}
use native.Mathlib.Omega.{arith}
use lib.Dec.{ltb}
use lib.ListN.{drop}
use borrow.Author.Tests.{le-ltb, ltb-false}
use Rattle.std.specs.Prelude.{Ok}
use Rattle.rank_sel.specs.Outcome.{Outcome, answer, refuse_if, refuse_by, and_then}
use Rattle.rank_sel.proofs.Outcome.{answer_is, then_answer, not_refused, refuse_then, passed_all, passing}
use Rattle.bit_record.specs.Record.{of_record_from, AdmittedFrom}
use Rattle.bit_record.specs.declared.Polarity.{Polarity}
use Rattle.bit_record.proofs.Counted.{admitted_from, admitted_from_none}
use Rattle.spacing.specs.Spacing.{PlanOf, plan_of}
use Rattle.spacing.specs.declared.Choice.{Choice}
use Rattle.spacing.specs.declared.Parameters.{Parameters}
use Rattle.spacing.proofs.Facts.{plan_facts}
use Rattle.inventory.specs.Index.{inventory_len_of, inventory_of, spill_of, summary_of}
use Rattle.inventory.specs.declared.summary.Summary.{Summary}
use Rattle.build_inventory.specs.declared.Sizes.{Sizes}
use Rattle.build_inventory.specs.Build.{fitted, build_from, build_of, BuiltAs}
use Rattle.build_inventory.specs.Positions.{pos_in, spill_len_of}
use Rattle.build_inventory.specs.Stream.{Filled}

-- ---- a plan's sizes, and its summary
-- the count of the inventory's cells decides on 6
pub fitted_by : (ws : List ℕ) (p : Parameters) (most : ℕ) {o : Outcome ℕ} {k : ℕ}
    → o ≡ refuse_if (ltb most (inventory_len_of p)) 6 (answer (inventory_len_of p)) → k ≡ spill_len_of ws p
    → and_then o (λ n. answer (record { inventory = n; spill = k })) ≡ fitted ws p most
unfolding fitted
fitted_by ws p most e ek = rw (e, ek) (sym (refuse_then (ltb most (inventory_len_of p)) 6 (answer (inventory_len_of p)) _))

-- the counts of a plan that is not turned down by 6
pub record Fitting (ws : List ℕ) (p : Parameters) (most : ℕ) (s : Sizes) : Type 0 where
  pub room : inventory_len_of p ≤ most
  pub inventory : s.inventory ≡ inventory_len_of p
  pub spill : s.spill ≡ spill_len_of ws p

pub fitting : {ws : List ℕ} {p : Parameters} {most : ℕ} {s : Sizes} → fitted ws p most ≡ answer s → Fitting ws p most s
unfolding fitted
fitting {ws} {p} {most} {s} e =
    let f = not_refused (ltb most (inventory_len_of p)) 6 (answer (record { inventory = inventory_len_of p; spill = spill_len_of ws p })) s e in
    let is = sym (answer_is f.1) in
    record {
      room = ltb-false most (inventory_len_of p) f.0;
      inventory = ap (λ (z : Sizes). z.inventory) is;
      spill = ap (λ (z : Sizes). z.spill) is;
    }

-- the summary of a plan, by its counts
pub summary_made : (ws : List ℕ) (origin : ℕ) (p : Parameters) (n k : ℕ) → n ≡ inventory_len_of p → k ≡ spill_len_of ws p
    → ◌≡◌ {A = Summary} (record { plan = p; origin = origin; inventory_len = n; spill_len = k }) (summary_of (pos_in ws p) p origin)
unfolding summary_of
summary_made ws origin p n k en ek = rw (en, ek)

-- ---- a build that is not turned down: its summary is that of the record and the choice, and its cells have room
module _ (ws : List ℕ) (len origin : ℕ) (pol : Polarity) (choice : Choice) (cells spill : ℕ) (t : Summary) where
  pub record Admission : Type 0 where
    pub from : AdmittedFrom ws len origin
    pub planned : plan_of ws len pol choice ≡ answer t.plan
    pub plans : PlanOf ws t.plan
    pub is : t ≡ summary_of (pos_in ws t.plan) t.plan origin
    pub room : inventory_len_of t.plan ≤ cells
    pub spill_room : spill_len_of ws t.plan ≤ spill

module _ (ws : List ℕ) (len origin : ℕ) (pol : Polarity) (choice : Choice) (cells spill : ℕ) (t : Summary) where
  pub admission : build_of ws len origin pol choice cells spill ≡ answer t → Admission ws len origin pol choice cells spill t
  unfolding build_of build_from summary_of
  admission e =
      let p = then_answer (refuse_by (of_record_from ws len origin) (plan_of ws len pol choice)) (λ q. build_from ws origin q cells spill) t e in
      let a = passed_all (of_record_from ws len origin) (plan_of ws len pol choice) p.0 p.1 in
      let s = then_answer (fitted ws p.0 cells) _ t p.2 in
      let h = fitting s.1 in
      let g = not_refused (ltb spill s.0.spill) 7 (answer (summary_of (pos_in ws p.0) p.0 origin)) t s.2 in
      subst (λ (z : Summary). Admission ws len origin pol choice cells spill z) (answer_is g.1) record {
        from = admitted_from ws len origin a.0;
        planned = a.1;
        plans = (plan_facts ws len pol choice p.0 a.1).of;
        is = refl;
        room = h.room;
        spill_room = omega (arith, h.spill, ltb-false spill s.0.spill g.0);
      }

-- the origin and the counts in a summary of the record and the choice
module _ (ws : List ℕ) (origin : ℕ) (t : Summary) (is : t ≡ summary_of (pos_in ws t.plan) t.plan origin) where
  pub origin_handed : t.origin ≡ origin
  unfolding summary_of
  origin_handed = ap (λ (z : Summary). z.origin) is

  pub inventory_counted : inventory_len_of t.plan ≡ t.inventory_len
  unfolding summary_of
  inventory_counted = ap (λ (z : Summary). z.inventory_len) (sym is)

  pub spill_counted : spill_len_of ws t.plan ≡ t.spill_len
  unfolding summary_of
  spill_counted = ap (λ (z : Summary). z.spill_len) (sym is)

-- a build of the same record and choice that is lent as many cells answers the same
pub admitted_on : (ws : List ℕ) (len origin : ℕ) (pol : Polarity) (choice : Choice) (cells spill : ℕ) (t : Summary)
    → Admission ws len origin pol choice cells spill t
    → (c k : ℕ) → t.inventory_len ≤ c → t.spill_len ≤ k → build_of ws len origin pol choice c k ≡ answer t
unfolding build_of build_from fitted
admitted_on ws len origin pol choice cells spill t m c k a b =
    let n = inventory_counted ws origin t m.is in
    let d = spill_counted ws origin t m.is in
    let f = passing (of_record_from ws len origin) (plan_of ws len pol choice) (admitted_from_none ws len origin m.from) in
    rw (f, m.planned, n, le-ltb c t.inventory_len a, d, le-ltb k t.spill_len b, ← m.is)

-- ---- what a build leaves
module _ (ws inv₀ sp₀ : List ℕ) (o : Outcome Summary) where
  pub built_as : (origin : ℕ) (t : Summary) (inv sp : List ℕ) → answer t ≡ o → t ≡ summary_of (pos_in ws t.plan) t.plan origin
      → Filled (pos_in ws t.plan) t.plan inv₀ inv sp₀ sp
      → BuiltAs ws o inv₀ inv sp₀ sp (Ok t)
  built_as origin t inv sp e is w =
      subst (λ (z : Outcome Summary). BuiltAs ws z inv₀ inv sp₀ sp (Ok t)) e record {
        answers = refl;
        inventory = w.inventory ∙ ap (λ (z : ℕ). inventory_of (pos_in ws t.plan) t.plan ++ drop z inv₀) (inventory_counted ws origin t is);
        spill = w.spill ∙ ap (λ (z : ℕ). spill_of (pos_in ws t.plan) t.plan ++ drop z sp₀) (spill_counted ws origin t is);
      }
