-- Bits at or past len, and later words, alter no answer: a definition that takes the words by what they select, and by
-- whether they suffice, has one value on both lists.
use mathlib.Core.Path.{◌≡◌, sym, ap, ◌∙◌, fun_ext}
use mathlib.Core.Logic.{⊎_elim}
use mathlib.Core.Bool.{Bool}
use mathlib.Core.List.{List}
use Prim.Native.Nat.{ℕ, ◌≤◌, ◌<◌}
use borrow.Author.Tests.{le-ltb}
use Rattle.rank_sel.specs.Rank.{rank}
use Rattle.std.proofs.lemmas.Bool.{cases_lt}
use Rattle.bit_record.specs.Record.{chosen, selected, num_selected, too_few_words, count_of, SameRecord}
use Rattle.bit_record.proofs.Selected.{selected_in, selected_out}
use Rattle.bit_record.specs.declared.Polarity.{Polarity}

module _ (len : ℕ) (ws vs : List ℕ) (s : SameRecord len ws vs) where
  pub selected_same : (pol : Polarity) → selected pol ws len ≡ selected pol vs len
  selected_same pol = fun_ext λ p. ⊎_elim
      (λ (h : p < len). selected_in pol ws len p h ∙ ap (chosen pol) (s.bits p h) ∙ sym (selected_in pol vs len p h))
      (λ (h : len ≤ p). selected_out pol ws len p h ∙ sym (selected_out pol vs len p h))
      (cases_lt p len)

  pub words_same : too_few_words ws len ≡ too_few_words vs len
  words_same = le-ltb _ _ s.held ∙ sym (le-ltb _ _ s.held')

  pub num_same : (pol : Polarity) → num_selected pol ws len ≡ num_selected pol vs len
  unfolding num_selected
  num_same pol = ap (λ (f : ℕ → Bool). rank f len) (selected_same pol)

  pub count_same : (pol : Polarity) → count_of ws len pol ≡ count_of vs len pol
  unfolding count_of
  count_same pol = simp (words_same, num_same)
