-- Bytes are an image exactly where they are `Formed`: each no denies one of its rules, and the yes has them all.
use mathlib.Core.Bool.{not}
use mathlib.Core.List.{List}
use mathlib.Core.Logic.{inl, inr}
use mathlib.Core.Path.{◌≡◌, sym, ap, ◌∙◌}
use Prim.Native.Nat.{ℕ, ◌+◌, ◌*◌, ◌^◌, ◌<◌}
use native.Mathlib.Omega.{arith}
use lib.ListN.{length, get_or}
use borrow.Author.Rules.{rules}
use borrow.Author.Tests.{eqb-true, eqb-false}
use Rattle.std.specs.Prelude.{Result, Ok, Err}
use Rattle.std.specs.Result.{is_ok}
use Rattle.rank_sel.specs.Lists.{Below}
use Rattle.rank_sel.specs.Outcome.{answer, outcome, test_by, NoneOf}
use Rattle.rank_sel.specs.declared.Refusal.{Refusal}
use Rattle.rank_sel.proofs.Outcome.{passed_none, passing}
use Rattle.inventory.proofs.Lanes.{tab_at}
use Rattle.index_image.specs.Bytes.{word_from, words_from}
use Rattle.index_image.specs.Image.{offset_of, of_summary_alone, summary_in, image_unlawful}
use Rattle.index_image.proofs.Formed.{field, Formed, is_no, is_yes}
use Rattle.index_image.proofs.header.is_image.Goals.{After-read_header, then-inventory-eq-HEADER_LEN, else-inventory-eq-HEADER_LEN, then-is_end, else-is_end}
use Rattle.index_image.proofs.header.is_image.Goals as goal

-- where the other rules hold, the test of the summary speaks for all
summary_says : (bs : List ℕ) (h : Below 256 bs) → length bs < 2 ^ 64 → (r : Result (Unit {0}) Refusal)
    → outcome r ≡ test_by (of_summary_alone (summary_in bs)) → (NoneOf (of_summary_alone (summary_in bs)) → Formed bs)
    → is_ok r ≡ not (image_unlawful bs)
summary_says bs h k (Ok u) e f = is_yes bs h (f (passed_none (of_summary_alone (summary_in bs)) e))
summary_says bs h k (Err x) e f = is_no bs h k (λ w. cc (passing (of_summary_alone (summary_in bs)) (answer (tt {0})) w.free))

-- the header is read
module _ (c : After-read_header) where
  abbrev bs : List ℕ
  bs = c.args.bytes.now

  small : Below 256 bs
  small i = omega (arith, c.type_inv.bytes i)

  short : length bs < 2 ^ 64
  short = search rules

  read : (i : ℕ) → i < 11 → get_or c.read_header.result i 0 ≡ field bs i
  unfolding words_from
  read i l = ap (λ (z : List ℕ). get_or z i 0) c.read_header.ensures ∙ tab_at (λ j. word_from bs (0 + 8 * j)) 11 i l

pub returns-then-len-lt-HEADER_LEN : goal.returns-then-len-lt-HEADER_LEN
returns-then-len-lt-HEADER_LEN c =
    is_no c.args.bytes.now (λ i. omega (arith, c.type_inv.bytes i)) (search rules) (λ w. omega (arith, w.end, c.if-len-lt-HEADER_LEN.true))

pub returns-then-is_end-2 : goal.returns-then-is_end-2
returns-then-is_end-2 c =
    let at = (goal.at.returns-then-is_end-2 c).After-read_header in
    elim c.if-is_end.branch [
      | then-is_end v ↦
          elim c.if-inventory-eq-HEADER_LEN.branch [
            | then-inventory-eq-HEADER_LEN w ↦
                let n = get_or c.read_header.result 7 0 in
                let first = eqb-true (get_or c.read_header.result 10 0) (offset_of (n + 0)) (sym w.is_end.ensures ∙ sym w.value-is ∙ v.if-is_end.true) in
                let last = eqb-true (length (bs at)) (offset_of (n + get_or c.read_header.result 9 0)) (sym v.is_end-then-is_end.ensures ∙ sym v.value-is ∙ c.if-is_end-2.true) in
                let seven = read at 7 (omega arith) in
                c.is_ok.ensures.value
                ∙ summary_says (bs at) (small at) (short at) c.test_alone.result (rw (sym c.summary_in.ensures) c.test_alone.ensures)
                (λ none.
                record {
                  polarity = omega (arith, read at 0 (omega arith), w.if-inventory-eq-HEADER_LEN.true.0);
                  first = sym (read at 8 (omega arith)) ∙ w.if-inventory-eq-HEADER_LEN.true.1;
                  second = omega (arith, first, seven, read at 10 (omega arith));
                  end = omega (arith, last, seven, read at 9 (omega arith));
                  free = none;
                })
            | else-inventory-eq-HEADER_LEN w ↦ cc
          ]
      | else-is_end v ↦ cc
    ]

pub returns-else-is_end-2 : goal.returns-else-is_end-2
returns-else-is_end-2 c =
    let at = (goal.at.returns-else-is_end-2 c).After-read_header in
    c.if-is_end-2.false
    ∙ is_no (bs at) (small at) (short at)
    (λ f.
    let n = get_or c.read_header.result 7 0 in
    let seven = read at 7 (omega arith) in
    elim c.if-is_end.branch [
      | then-is_end v ↦
          let no = eqb-false (length (bs at)) (offset_of (n + get_or c.read_header.result 9 0)) (sym v.is_end-then-is_end.ensures ∙ sym v.value-is ∙ c.if-is_end-2.false) in
          no (omega (arith, f.end, seven, read at 9 (omega arith)))
      | else-is_end v ↦
          elim c.if-inventory-eq-HEADER_LEN.branch [
            | then-inventory-eq-HEADER_LEN w ↦
                let no = eqb-false (get_or c.read_header.result 10 0) (offset_of (n + 0)) (sym w.is_end.ensures ∙ sym w.value-is ∙ v.if-is_end.false) in
                no (omega (arith, f.second, seven, read at 10 (omega arith)))
            | else-inventory-eq-HEADER_LEN w ↦
                elim w.if-inventory-eq-HEADER_LEN.either as (λ _. ⊥) [ inl h ↦ h.1 (read at 8 (omega arith) ∙ f.first) | inr h ↦ omega (arith, h, f.polarity, read at 0 (omega arith)) ]
          ]
    ])
