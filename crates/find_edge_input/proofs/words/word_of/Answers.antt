-- The eight bytes are those from 8i on, and 0 behind the last; as a number, lowest first, they are lanes of 8 bits.
use Rattle.std.proofs.Common.{◌≡◌, ℕ, ◌+◌, ◌-◌, ◌*◌, ◌<◌, min, List, ◌++◌, length, take, drop, replicate, get_or, w64, ap, ◌∙◌, arith}
use Rattle.std.proofs.lemmas.Grind.{common_steps}
use Rattle.std.specs.Int.{from_le_bytes}
use Rattle.inventory.specs.Lanes.{pack}
use Rattle.inventory.proofs.Lanes.{pack_ext}
use Rattle.find_edge_input.specs.Words.{word_of}
use Rattle.find_edge_input.proofs.words.word_of.Goals as goal

from_lanes : (bytes : List ℕ) → from_le_bytes w64 bytes ≡ pack 8 (λ t. get_or bytes t 0) 8
unfolding pack
from_lanes bytes = omega arith

-- the first n of a list, and 0 from there to eight
padded : ℕ → List ℕ → List ℕ
padded n xs = xs ++ drop n (replicate 8 0)

lane : (bytes : List ℕ) (k n t : ℕ) → k < length bytes → n ≡ min (length (take (length bytes - k) (drop k bytes))) 8 → t < 8
    → get_or (padded n (take n (take (length bytes - k) (drop k bytes)))) t 0 ≡ get_or bytes (k + t) 0
unfolding padded
lane bytes k n t h e l = grind (arith, common_steps)

pub returns : goal.returns
unfolding word_of padded
returns c =
    let bytes = c.args.bytes.now in
    let k = 8 * c.args.i in
    let n = c.min-n.result in
    let h : c.from_le_bytes.result ≡ from_le_bytes w64 (padded n c.copy_from_slice.new.self) = c.from_le_bytes.ensures in
    h ∙ ap (λ xs. from_le_bytes w64 (padded n xs)) c.copy_from_slice.ensures.after ∙ from_lanes _
    ∙ pack_ext 8 _ (λ t. get_or bytes (k + t) 0) 8 (λ t l. lane bytes k n t c.requires c.min-n.ensures l)
