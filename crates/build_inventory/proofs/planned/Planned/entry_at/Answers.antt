-- Each field is reckoned as `entry_of` says it (`entry_made`); the span is no wrapped difference, since the starts rise.
use mathlib.Core.Path.{◌≡◌, sym, ap, ◌∙◌}
use Prim.Native.Nat.{ℕ, ◌+◌, ◌*◌, ◌^◌, ◌≤◌, ◌<◌}
use native.Mathlib.Omega.{arith}
use lib.Pow.{pow_pos}
use Rattle.rank_sel.proofs.Ceil.{ceil_le}
use Rattle.spacing.specs.Spacing.{N, L}
use Rattle.inventory.specs.Index.{bound, entry_of, ranks_of}
use Rattle.inventory.specs.declared.entry.Entry.{Entry}
use Rattle.inventory.proofs.Marks.{rising, start_here, start_next, bound_gt, entry_made}
use Rattle.build_inventory.specs.Placed.{pos_of}
use Rattle.build_inventory.proofs.planned.Planned.entry_at.Goals.{After-entry_ranks-ranks, After-next_start-next, After-pow2-ones, After-spilled_by-spilled}
use Rattle.build_inventory.proofs.planned.Planned.entry_at.Goals as goal

-- the entry's first rank, with its power
module _ (c : After-pow2-ones) where
  first : c.args.e * c.pow2-ones.result ≡ c.args.e * 2 ^ L c.args.self.now.plan
  first = ap (λ (z : ℕ). c.args.e * z) c.pow2-ones.ensures

  -- N is small
  few : N c.args.self.now.plan < 2 ^ 62
  few = let r = c.args.self.now.of in omega (arith, r.admitted.short, r.few)

-- where the next entry starts
module _ (c : After-next_start-next) where
  next :
      let a = c.args in
      c.next_start-next.result ≡ bound (pos_of a.self.now) a.self.now.plan (a.e * 2 ^ L a.self.now.plan + 2 ^ L a.self.now.plan)
  next =
      let a = c.args in
      c.next_start-next.ensures ∙ ap (λ (z : ℕ). bound (pos_of a.self.now) a.self.now.plan (z + 2 ^ L a.self.now.plan)) (first (goal.at.After-next_start-next c).After-pow2-ones)

-- no more ranks than N
few_ranks : (c : After-entry_ranks-ranks) → c.entry_ranks-ranks.result ≤ N c.args.self.now.plan
unfolding ranks_of
few_ranks c = omega (arith, c.entry_ranks-ranks.ensures)

pub next_start-next-requires : goal.next_start-next-requires
next_start-next-requires c =
    let a = c.args in
    let r = c.requires in
    rw c.pow2-ones.ensures (r.0, r.1 ∙ start_here (pos_of a.self.now) a.self.now.plan a.e r.0)

pub overflow_sub-span : goal.overflow_sub-span
overflow_sub-span c =
    let a = c.args in
    let r = c.requires in
    let pos = pos_of a.self.now in
    let k = a.e * 2 ^ L a.self.now.plan in
    let two = pow_pos (L a.self.now.plan) in
    let g = bound_gt pos a.self.now.plan (rising a.self.now.words.now a.self.now.plan a.self.now.of) k (k + 2 ^ L a.self.now.plan) (omega arith) r.0 in
    omega (arith, r.1, start_here pos a.self.now.plan a.e r.0, next (goal.at.overflow_sub-span c).After-next_start-next)

pub ceil_shift-marks-requires : goal.ceil_shift-marks-requires
ceil_shift-marks-requires c =
    let r = c.args.self.now.of in
    (omega (arith, few_ranks (goal.at.ceil_shift-marks-requires c).After-entry_ranks-ranks, few (goal.at.ceil_shift-marks-requires c).After-pow2-ones), omega (arith, c.log2_quantum-log2_quantum.ensures.1, r.spaced, r.small_l))

pub spilled_by-spilled-requires : goal.spilled_by-spilled-requires
spilled_by-spilled-requires c =
    let q = c.log2_quantum-log2_quantum.result in
    let m = ceil_le c.entry_ranks-ranks.result (2 ^ q) (pow_pos q) in
    (omega (arith, c.ceil_shift-marks.ensures, few_ranks (goal.at.spilled_by-spilled-requires c).After-entry_ranks-ranks, few (goal.at.spilled_by-spilled-requires c).After-pow2-ones), omega (arith, c.args.self.now.of.small_m))

-- what is reckoned is the entry
made : (c : After-spilled_by-spilled) → ◌≡◌ {A = Entry} (record {
  first = c.args.e * c.pow2-ones.result;
  start = c.args.start;
  next = c.next_start-next.result;
  log2_quantum = c.log2_quantum-log2_quantum.result;
  marks = c.ceil_shift-marks.result;
  spilled = c.spilled_by-spilled.result;
  shape = c.shape_of-shape.result;
}) (entry_of (pos_of c.args.self.now) c.args.self.now.plan c.args.e)
made c =
    let a = c.args in
    let pos = pos_of a.self.now in
    entry_made pos a.self.now.plan a.e _ a.start c.next_start-next.result c.entry_ranks-ranks.result c.from_span-kind.result
    c.log2_quantum-log2_quantum.result c.ceil_shift-marks.result c.spilled_by-spilled.result c.shape_of-shape.result
    (first (goal.at.After-spilled_by-spilled c).After-pow2-ones) c.requires.1
    (next (goal.at.After-spilled_by-spilled c).After-next_start-next ∙ sym (start_next pos a.self.now.plan a.e)) c.entry_ranks-ranks.ensures
    c.from_span-kind.ensures c.log2_quantum-log2_quantum.ensures.0 c.ceil_shift-marks.ensures
    c.shape_of-shape.ensures c.spilled_by-spilled.ensures

pub invariant_of-result : goal.invariant_of-result
invariant_of-result c =
    record { within = c.requires.0; is = made (goal.at.invariant_of-result c).After-spilled_by-spilled }
