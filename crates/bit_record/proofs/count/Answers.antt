-- Past the test the record's whole words are counted, and the bits of a last word beyond them; from len on the rank is N.
use mathlib.Core.Path.{◌≡◌, sym, ap, ◌∙◌}
use Prim.Native.Nat.{ℕ, ◌+◌, ◌*◌, ◌/◌}
use native.Mathlib.Nat.{sub-zero}
use native.Mathlib.Omega.{arith}
use Rattle.std.proofs.lemmas.List.{length-take-le}
use Rattle.rank_sel.specs.Outcome.{answer, NoneOf}
use Rattle.rank_sel.specs.Rank.{rank}
use Rattle.rank_sel.proofs.Outcome.{passing, passed_none, tests_handed_on}
use Rattle.rank_sel.proofs.Rank.{rank-zero, rank_le}
use Rattle.select_in_word.proofs.Holds.{holds_ones}
use Rattle.bit_record.specs.Record.{selected, num_selected, of_record, count_of, Admitted}
use Rattle.bit_record.proofs.Counted.{admitted, from_zero}
use Rattle.bit_record.proofs.Selected.{count_between, rank_num}
use Rattle.bit_record.proofs.count.Goals.{After-count_words-total, In_ok-test_record}
use Rattle.bit_record.proofs.count.Goals as goal

-- the test was passed
module _ (c : In_ok-test_record) where
  none : NoneOf (of_record c.args.words.now c.args.len)
  none = passed_none (of_record c.args.words.now c.args.len) (c.in_ok-test_record.ensures ∙ from_zero c.args.words.now c.args.len)

  held : Admitted c.args.words.now c.args.len
  held = admitted _ _ none

  answers : let a = c.args in
      (n : ℕ) → n ≡ num_selected a.polarity a.words.now a.len → answer n ≡ count_of a.words.now a.len a.polarity
  unfolding count_of
  answers n e = let a = c.args in ap answer e ∙ sym (passing (of_record a.words.now a.len) _ none)

-- the whole words are counted
module _ (c : After-count_words-total) where
  whole : c.count_words-total.result ≡ rank (selected c.args.polarity c.args.words.now c.args.len) (64 * (c.args.len / 64))
  whole =
      let a = c.args in
      let h = held (goal.at.After-count_words-total c).In_ok-test_record in
      omega (
        arith,
        count_between a.polarity a.words.now a.len 0 (a.len / 64) c.count_words-total.result (omega arith) (omega arith) h.held
            (rw sub-zero c.count_words-total.ensures),
        rank-zero (selected a.polarity a.words.now a.len),
      )

pub returns-in_err-test_record : goal.returns-in_err-test_record
unfolding count_of
returns-in_err-test_record c =
    let a = c.args in
    tests_handed_on _ _ c.from_residual.ensures (of_record a.words.now a.len) (c.in_err-test_record.ensures ∙ from_zero a.words.now a.len) _

pub slice_bounds-count_words-end : goal.slice_bounds-count_words-end
slice_bounds-count_words-end c =
    let a = c.args in
    let h = held (goal.at.slice_bounds-count_words-end c).In_ok-test_record in
    omega (arith, length-take-le (a.len / 64) a.words.now (omega (arith, h.held)))

pub count_words-total-requires : goal.count_words-total-requires
count_words-total-requires c =
    let a = c.args in
    let h = held (goal.at.count_words-total-requires c).In_ok-test_record in
    omega (arith, h.short, length-take-le (a.len / 64) a.words.now (omega (arith, h.held)))

pub returns-then-len-eq0 : goal.returns-then-len-eq0
returns-then-len-eq0 c =
    let a = c.args in
    answers (goal.at.returns-then-len-eq0 c).In_ok-test_record c.count_words-total.result
    (whole (goal.at.returns-then-len-eq0 c).After-count_words-total ∙ rank_num a.polarity a.words.now a.len (64 * (a.len / 64)) (omega arith))

pub selected_word-requires : goal.selected_word-requires
selected_word-requires c =
    let h = held (goal.at.selected_word-requires c).In_ok-test_record in omega (arith, h.short, h.held)

pub overflow_add-result : goal.overflow_add-result
overflow_add-result c =
    let a = c.args in
    omega (
      arith,
      (held (goal.at.overflow_add-result c).In_ok-test_record).short,
      c.count_ones.ensures.most,
      whole (goal.at.overflow_add-result c).After-count_words-total,
      rank_le (selected a.polarity a.words.now a.len) (64 * (a.len / 64)),
    )

pub returns : goal.returns
returns c =
    let a = c.args in
    let f = selected a.polarity a.words.now a.len in
    let h = holds_ones 64 f (64 * (a.len / 64)) c.selected_word.result c.selected_word.ensures in
    answers (goal.at.returns c).In_ok-test_record _
    (omega (
      arith,
      h,
      whole (goal.at.returns c).After-count_words-total,
      c.count_ones.ensures.exact,
      rank_num a.polarity a.words.now a.len (64 * (a.len / 64) + 64) (omega arith),
    ))
