-- The number so far and the digits from here on make the text's value. Where the next digit makes it too large, so is the whole,
-- since more digits make it no smaller (`value_over`).
use Rattle.std.proofs.Common.{◌≡◌, ◌<◌, drop}
use Rattle.find_edge_input.specs.Number.{value_from}
use Rattle.find_edge_input.proofs.number.value.Given as goal

abbrev pub invariant-loop-byte : goal.invariant-loop-byte
invariant-loop-byte l = (value_from 0 l.text ≡ value_from l.n (drop l.byte-index l.text)) × (l.n < 18446744073709551616)
