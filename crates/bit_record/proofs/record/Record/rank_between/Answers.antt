-- The words from one place's word to the other's are counted whole (`count_between`); before each place lies the rest (`between`).
use mathlib.Core.Path.{◌≡◌}
use Prim.Native.Nat.{◌+◌, ◌-◌, ◌*◌, ◌/◌, ◌≤◌}
use native.Mathlib.Omega.{arith}
use Rattle.rank_sel.specs.Rank.{rank, rank_between}
use Rattle.rank_sel.proofs.Rank.{rank_le}
use Rattle.bit_record.specs.Selects.{selects}
use Rattle.bit_record.proofs.Selected.{count_between}
use Rattle.bit_record.proofs.Step.{between}
use Rattle.bit_record.proofs.record.Record.rank_between.Goals.{After-count_words}
use Rattle.bit_record.proofs.record.Record.rank_between.Goals as goal

module _ (c : After-count_words) where
  words : let f = selects c.args.self.now in rank f (64 * (c.args.from / 64)) + c.count_words.result ≡ rank f (64 * (c.args.to / 64))
  words =
      let r = c.args.self.now in
      omega (arith, count_between r.polarity r.words.now r.len _ _ _ (omega arith) (omega arith) r.admitted.held c.count_words.ensures)

  counts : (c.count_ones-skipped.result ≤ c.count_words.result + c.count_ones-tail.result)
      × (c.count_words.result + c.count_ones-tail.result - c.count_ones-skipped.result ≡ rank_between (selects c.args.self.now) c.args.from c.args.to)
  counts =
      let a = c.args in
      rw (c.count_ones-skipped.ensures.exact, c.count_ones-tail.ensures.exact)
      (between (selects a.self.now) a.from a.to c.bits_before.result c.bits_before-2.result c.count_words.result c.requires.0
      c.bits_before.ensures c.bits_before-2.ensures words)

pub overflow_add-result : goal.overflow_add-result
overflow_add-result c =
    let a = c.args in
    omega (
      arith,
      a.self.now.admitted.short,
      c.count_ones-tail.ensures.most,
      words (goal.at.overflow_add-result c).After-count_words,
      rank_le (selects a.self.now) (64 * (a.to / 64)),
    )

pub overflow_sub-result : goal.overflow_sub-result
overflow_sub-result c =
    (counts (goal.at.overflow_sub-result c).After-count_words).0

pub returns : goal.returns
returns c =
    (counts (goal.at.returns c).After-count_words).1
