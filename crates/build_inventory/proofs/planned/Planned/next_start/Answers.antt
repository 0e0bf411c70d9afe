-- 2^L selected bits on from the entry's first one stands the next entry's, or there is none (`bound_next`).
use mathlib.Core.Path.{ap, ◌∙◌}
use Prim.Native.Nat.{◌^◌}
use lib.Pow.{pow_mono}
use Rattle.bit_record.proofs.Seek.{finds_of}
use Rattle.spacing.specs.Spacing.{L}
use Rattle.build_inventory.specs.Positions.{or_end}
use Rattle.build_inventory.proofs.Positions.{bound_next}
use Rattle.build_inventory.proofs.planned.Planned.next_start.Goals as goal

pub seek_far-requires : goal.seek_far-requires
seek_far-requires c =
    rw c.pow2-ones.ensures (pow_mono c.args.self.now.of.small_l)

pub returns : goal.returns
returns c =
    let a = c.args in
    let r = c.requires in
    let o = c.pow2-ones in
    c.or_end.ensures
    ∙ ap (or_end a.self.now.plan) (finds_of _ _ _ _ c.record-record.ensures _ _ _ c.seek_far.ensures).position
    ∙ bound_next a.self.now.words.now a.self.now.plan a.self.now.of a.first (2 ^ L a.self.now.plan) a.start o.result r.0 r.1 o.ensures
