-- Each part is split off what was left, so that they join to the list again (`joined`), behind its six numbers (`six`).
use Rattle.std.proofs.Common.{◌≡◌, ℕ, ◌-◌, ◌≤◌, List, [], ◌∷◌, ◌++◌, length, take, drop, slice_index_or, refl, sym, ap, ◌∙◌, arith}
use Rattle.std.proofs.lemmas.List.{take-append-drop, take_all, length-drop}
use Rattle.replay.proofs.list.read_answered.Goals as goal

joined : (xs front back : List ℕ) (mid : ℕ) → front ≡ take mid xs → back ≡ drop mid xs → xs ≡ front ++ back
joined xs front back mid f b = rw (f, b) (sym (take-append-drop mid xs))

whole : (xs : List ℕ) (n : ℕ) → take (length xs - n) (drop n xs) ≡ drop n xs
whole xs n = take_all _ _ (omega (arith, length-drop n xs))

six : (xs t : List ℕ) (a b : ℕ) → 6 ≤ length xs → drop 6 xs ≡ t → a ≡ slice_index_or xs 4 0 → b ≡ slice_index_or xs 5 0
    → xs ≡ slice_index_or xs 0 0 ∷ slice_index_or xs 1 0 ∷ slice_index_or xs 2 0 ∷ slice_index_or xs 3 0 ∷ a ∷ b ∷ t
six [] t a b l e f g = absurd (omega arith)
six (p ∷ []) t a b l e f g = absurd (omega arith)
six (p ∷ q ∷ []) t a b l e f g = absurd (omega arith)
six (p ∷ q ∷ r ∷ []) t a b l e f g = absurd (omega arith)
six (p ∷ q ∷ r ∷ s ∷ []) t a b l e f g = absurd (omega arith)
six (p ∷ q ∷ r ∷ s ∷ u ∷ []) t a b l e f g = absurd (omega arith)
six (p ∷ q ∷ r ∷ s ∷ u ∷ v ∷ xs) t a b l e f g = rw (f, g, sym e) refl

pub returns-clause-read : goal.returns-clause-read
returns-clause-read c =
    let words = c.in_ok-words.ensures.cases in
    let inventory = c.in_ok-inventory.ensures.cases in
    let spill = c.in_ok-spill.ensures.cases in
    let selects = c.in_ok-selects.ensures.cases in
    let behind_pairs = c.in_ok-pairs.ensures.cases.0 ∙ ap (λ l. c.in_ok-pairs.pairs.now ∷ l) (joined _ _ _ _ selects.1 selects.2) in
    let behind_spill = joined _ _ _ _ spill.1 spill.2 ∙ ap (λ l. c.in_ok-spill.spill.now ++ l) behind_pairs in
    let behind_inventory = joined _ _ _ _ inventory.1 inventory.2 ∙ ap (λ l. c.in_ok-inventory.inventory.now ++ l) behind_spill in
    record {
      question = refl;
      refusal = refl;
      words = words.3;
      pairs = c.in_ok-pairs.pairs.now;
      selects = selects.3 ∙ c.saturating_mul.ensures;
      numbers = six _ _ _ _ c.in-len6-up.len_at_least
          (sym (whole c.args.list.now 6) ∙ joined _ _ _ _ words.1 words.2 ∙ ap (λ l. c.in_ok-words.words.now ++ l) behind_inventory) inventory.3 spill.3;
    }
