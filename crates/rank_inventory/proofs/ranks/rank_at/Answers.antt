-- The entries' cells are lent, and the count of starts found tells the last at or before the position (`rank_none`, `rank_some`).
use mathlib.Core.Bool.{true}
use mathlib.Core.Path.{◌≡◌, sym, ap, ◌∙◌}
use Prim.Native.Nat.{◌-◌, ◌<◌}
use native.Mathlib.Omega.{arith}
use Rattle.rank_sel.proofs.Rank.{rank_le}
use Rattle.bit_record.specs.Selects.{selects}
use Rattle.inventory.specs.Index.{entries_of}
use Rattle.inventory.proofs.Ranks.{entry_below}
use Rattle.read_inventory.specs.Read.{start_at}
use Rattle.read_inventory.proofs.Decoding.{entry_held}
use Rattle.rank_inventory.specs.Read.{EntriesLent}
use Rattle.rank_inventory.specs.Starts.{starts_rise, starts_to}
use Rattle.rank_inventory.proofs.Ranking.{rank_refused, rank_none, rank_some}
use Rattle.rank_inventory.proofs.Rising.{rising_ordered, starts_to_none, last_below, last_low}
use Rattle.rank_inventory.proofs.ranks.rank_at.Goals.{After-entry_count-entries, After-record-record, After-search_starts-started, Else-started-eq0}
use Rattle.rank_inventory.proofs.ranks.rank_at.Goals as goal

module _ (c : After-entry_count-entries) where
  lent : EntriesLent c.args.index.now.cells c.entry_count-entries.result
  lent e h = entry_held _ _ _ e c.args.index.now.cells.legible (omega (arith, c.entry_count-entries.ensures))

module _ (c : After-record-record) where
  rises : let i = c.args.index.now.cells in
      starts_rise (start_at i.summary i.inventory.now) i.summary.plan.len (entries_of i.summary.plan) ≡ true
  rises =
      let i = c.args.index.now.cells in
      ap (starts_rise (start_at i.summary i.inventory.now) i.summary.plan.len) (sym c.entry_count-entries.ensures)
      ∙ sym c.starts_rise.ensures ∙ c.if-not-starts_rise.false

module _ (c : After-search_starts-started) where
  counted : let i = c.args.index.now.cells in
      c.search_starts-started.result ≡ starts_to (start_at i.summary i.inventory.now) c.args.position (entries_of i.summary.plan)
  counted =
      let i = c.args.index.now.cells in
      let found = rw c.entry_count-entries.ensures at c.search_starts-started.ensures in
      omega (arith, starts_to_none (start_at i.summary i.inventory.now) c.args.position)

-- some entry starts at or before the position
module _ (c : Else-started-eq0) where
  some : 0 < c.search_starts-started.result
  some = omega arith

  below : c.search_starts-started.result - 1 < entries_of c.args.index.now.cells.summary.plan
  below = last_below _ _ _ _ (counted (goal.at.Else-started-eq0 c).After-search_starts-started) some

pub starts_rise-requires : goal.starts_rise-requires
starts_rise-requires c =
    lent c

pub returns-then-not-starts_rise : goal.returns-then-not-starts_rise
returns-then-not-starts_rise c =
    rank_refused _ _ _ _ (sym (rw c.entry_count-entries.ensures at c.starts_rise.ensures) ∙ c.if-not-starts_rise.true)

pub search_starts-started-requires : goal.search_starts-started-requires
search_starts-started-requires c = (
  omega arith,
  lent (goal.at.search_starts-started-requires c).After-entry_count-entries,
  rw c.entry_count-entries.ensures (rising_ordered _ _ _ (rises c)),
)

pub returns-then-started-eq0 : goal.returns-then-started-eq0
returns-then-started-eq0 c =
    let r = c.record-record.ensures in
    let g = goal.at.returns-then-started-eq0 c in
    rank_none _ _ _ _ (rises g.After-record-record) _ (sym (counted g.After-search_starts-started) ∙ c.if-started-eq0.true)
    (rw (r.words, r.len, r.polarity) at c.rank_between.ensures)

pub start_at-start-requires : goal.start_at-start-requires
start_at-start-requires c =
    entry_held _ _ _ _ c.args.index.now.cells.legible (below c)

pub overflow_mul-result : goal.overflow_mul-result
overflow_mul-result c =
    let i = c.args.index.now.cells in
    rw c.pow2.ensures
    (record {
      fits = omega (
        arith,
        entry_below i.summary.plan _ (below (goal.at.overflow_mul-result c).Else-started-eq0),
        i.legible.lawful.few,
        i.legible.short,
      );
    })

pub rank_between-requires-2 : goal.rank_between-requires-2
rank_between-requires-2 c =
    let g = goal.at.rank_between-requires-2 c in
    let o = rising_ordered _ _ _ (rises g.After-record-record) in
    let l = last_low _ _ _ _ (counted g.After-search_starts-started) (some g.Else-started-eq0) o in
    (omega (arith, c.start_at-start.ensures), omega (arith, c.record-record.ensures.len))

pub overflow_add-result : goal.overflow_add-result
overflow_add-result c =
    let i = c.args.index.now.cells in
    rw c.pow2.ensures
    (record {
      fits = omega (
        arith,
        entry_below i.summary.plan _ (below (goal.at.overflow_add-result c).Else-started-eq0),
        i.legible.lawful.few,
        i.legible.short,
        c.rank_between-2.ensures,
        rank_le (selects c.record-record.result) c.args.position,
      );
    })

pub returns : goal.returns
returns c =
    let r = c.record-record.ensures in
    let g = goal.at.returns c in
    rank_some _ _ _ _ (rises g.After-record-record) _ _ _ _ (counted g.After-search_starts-started) (some g.Else-started-eq0) c.pow2.ensures
    c.start_at-start.ensures (rw (r.words, r.len, r.polarity) at c.rank_between-2.ensures)
