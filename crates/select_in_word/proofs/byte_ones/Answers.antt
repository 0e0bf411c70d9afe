-- Nibbles stay at most twice their mask, so that the additions fit; `byte_ones` says what each byte then holds.
use Rattle.select_in_word.proofs.ByteOnes.{byte_ones}
use Rattle.select_in_word.proofs.byte_ones.Goals as goal

pub returns : goal.returns
returns c =
    byte_ones c.args.word
