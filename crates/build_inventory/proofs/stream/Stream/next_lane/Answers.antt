-- Past the marks a lane is zero. At mark k it is the mark less the base, and the next mark is found by a seek where there is one.
use Rattle.std.specs.Prelude.{Option, Some, None, IfSome}
use mathlib.Core.Option.{some}
use mathlib.Core.Path.{◌≡◌, refl, sym, ap, ◌∙◌}
use Prim.Native.Nat.{ℕ, ◌+◌, ◌-◌, ◌<◌}
use native.Mathlib.Omega.{arith}
use Rattle.bit_record.specs.Record.{found, FoundIn, Finds}
use Rattle.bit_record.specs.Selects.{selects}
use Rattle.bit_record.specs.declared.seeks.Found.{Found}
use Rattle.bit_record.proofs.Seek.{finds_of}
use Rattle.inventory.specs.Index.{lane, mark}
use Rattle.inventory.proofs.Marks.{Streamable, lane_in, lane_past}
use Rattle.build_inventory.specs.Placed.{bits_at, pos_at}
use Rattle.build_inventory.specs.declared.stream.Stream.{Stream}
use Rattle.build_inventory.proofs.Positions.{streams, mark_next}
use Rattle.build_inventory.proofs.stream.Stream.next_lane.Goals.{Start, After-seek_on}
use Rattle.build_inventory.proofs.stream.Stream.next_lane.Goals as goal

marks : (c : Start) → Streamable (pos_at c.args.self.now.placed.now) c.args.self.now.placed.now.planned.plan c.args.self.now.placed.now.entry
marks c = streams c.args.self.now.placed.now

-- the lane at a mark
at_mark : (s : Stream) → s.k < s.placed.now.entry.marks → s.at.position - s.placed.now.entry.shape.base ≡ lane (pos_at s.placed.now) s.placed.now.entry s.k
at_mark s l =
    let r = s.placed.now in
    ap (λ (z : ℕ). z - r.entry.shape.base) (s.stands l).place ∙ sym (lane_in (pos_at r) r.entry s.k l)

pub returns-then-k-x : goal.returns-then-k-x
returns-then-k-x c =
    let s = c.args.self.now in
    record { gave = sym (lane_past (pos_at s.placed.now) s.placed.now.entry s.k c.if-k-x.true); entry = refl; number = refl }

pub overflow_sub-value : goal.overflow_sub-value
overflow_sub-value c =
    let s = c.args.self.now in
    let l = c.if-k-x.false in
    omega (arith, (marks (goal.at.overflow_sub-value c).Start).low s.k l, (s.stands l).place)

pub returns-then-next-x : goal.returns-then-next-x
returns-then-next-x c =
    record { gave = at_mark c.args.self.now c.if-k-x.false; entry = refl; number = refl }

pub pow2-requires : goal.pow2-requires
pow2-requires c =
    (marks (goal.at.pow2-requires c).Start).close

pub seek_on-requires : goal.seek_on-requires
seek_on-requires c =
    let e = c.record-record.ensures in
    rw (e.words, e.len, e.polarity) (c.args.self.now.stands c.if-k-x.false).bit

-- the next mark, where there is one, is found
module _ (c : After-seek_on) where
  abbrev next : ℕ
  next = c.args.self.now.k + 1

  finds : let s = c.args.self.now in
      (r : Option Found) → Finds (selects c.record-record.result) (c.record-record.result.len - s.at.position) s.at.position c.pow2.result r
      → next < s.placed.now.entry.marks → (found r ≡ some (mark (pos_at s.placed.now) s.placed.now.entry next)) × IfSome r (FoundIn (bits_at s.placed.now))
  finds r f m =
      let s = c.args.self.now in
      let p = s.placed.now.planned in
      let g = finds_of p.words.now p.plan.len p.plan.polarity _ c.record-record.ensures _ _ r f in (
        g.position
            ∙ mark_next p.words.now p.plan p.of s.placed.now.entry (streams s.placed.now) s.k s.at.position c.pow2.result m (s.stands c.if-k-x.false).place c.pow2.ensures,
        g.bit,
      )

pub invariant_of-self-in-Some : goal.invariant_of-self-in-Some
invariant_of-self-in-Some c =
    record {
      stands = λ m.
          let g = finds (goal.at.invariant_of-self-in-Some c).After-seek_on (Some c.in-Some.found) c.in-Some.ensures m in
          record { place = cc; bit = g.1 };
    }

pub invariant_of-self-in_default : goal.invariant_of-self-in_default
invariant_of-self-in_default c =
    record {
      stands = λ m.
          let g = (finds (goal.at.invariant_of-self-in_default c).After-seek_on None c.in_default.ensures m).0 in
          cc;
    }

pub returns-in-Some : goal.returns-in-Some
returns-in-Some c =
    record { gave = at_mark c.args.self.now c.if-k-x.false; entry = refl; number = refl }

pub returns-in_default : goal.returns-in_default
returns-in_default c =
    record { gave = at_mark c.args.self.now c.if-k-x.false; entry = refl; number = refl }
