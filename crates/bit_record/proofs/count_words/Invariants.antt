-- After so many words the total counts them, each turn one more (`words_more`); it is at most 64 a word, so that it fits.
use Rattle.bit_record.specs.Record.{CountsWords}
use Rattle.bit_record.proofs.count_words.Given as goal

abbrev pub invariant-loop-word : goal.invariant-loop-word
invariant-loop-word l = CountsWords l.polarity l.words 0 l.word-index l.total
