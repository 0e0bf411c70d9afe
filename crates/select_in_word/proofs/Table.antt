-- Rules proved by computation: where two list the same, they say the same at each place. So the rule of SELECT_IN_BYTE holds at each entry.
use mathlib.Core.List.{List}
use mathlib.Core.Path.{◌≡◌, sym, ap, ap₂, ◌∙◌}
use Prim.Native.Nat.{ℕ, ◌+◌, ◌*◌, ◌/◌, ◌%◌, ◌^◌, ◌<◌}
use native.Mathlib.Nat.{zero-add}
use native.Mathlib.Omega.{arith}
use lib.Bits.{bit_or, or_shifted_r}
use lib.ListN.{get_or}
use Rattle.std.specs.Prelude.{map}
use Rattle.std.specs.List.{range_with_len}
use Rattle.std.proofs.lemmas.List.FromFn.{get_or-map-range_with_len}
use Rattle.select_in_word.specs.Select.{select_in_byte}

-- g 0, g 1, .., n of them
unfoldable pub list : (ℕ → ℕ) → ℕ → List ℕ
list g n = map g (range_with_len 0 n)

list_at : (g : ℕ → ℕ) (n k : ℕ) → k < n → get_or (list g n) k 0 ≡ g k
unfolding list
list_at g n k h = get_or-map-range_with_len g 0 n k k 0 h (zero-add k)

-- what two rules list by computation they say at each place
pub same_list_lem : (g h : ℕ → ℕ) (n k : ℕ) → list g n ≡ list h n → k < n → g k ≡ h k
same_list_lem g h n k e l = sym (list_at g n k l) ∙ ap (λ (xs : List ℕ). get_or xs k 0) e ∙ list_at h n k l

-- the same of rules over a byte and a number below 8
pub same_table : (g h : ℕ → ℕ → ℕ) → list (λ i. g (i / 8) (i % 8)) 2048 ≡ list (λ i. h (i / 8) (i % 8)) 2048 → (b j : ℕ) → b < 256 → j < 8 → g b j ≡ h b j
same_table g h e b j hb hj =
    let d : (b * 8 + j) / 8 ≡ b = omega arith in
    let m : (b * 8 + j) % 8 ≡ j = omega arith in
    ap₂ g (sym d) (sym m) ∙ same_list_lem (λ i. g (i / 8) (i % 8)) (λ i. h (i / 8) (i % 8)) 2048 (b * 8 + j) e (omega arith) ∙ ap₂ h d m

-- what the table lists: entry b + 256r
unfoldable pub entry : ℕ → ℕ
entry k = select_in_byte (k % 256) (k / 256)

abbrev pub table : List ℕ
table = list entry 2048

pub slot : (b r : ℕ) → b < 256 → r < 8 → bit_or b ((r * 2 ^ 8) % 2 ^ 64) ≡ r * 256 + b
slot b r hb hr =
    let e : (r * 2 ^ 8) % 2 ^ 64 ≡ r * 2 ^ 8 = omega arith in
    ap (bit_or b) e ∙ or_shifted_r r 8 b hb

pub table_at : (b r : ℕ) → b < 256 → r < 8 → get_or table (bit_or b ((r * 2 ^ 8) % 2 ^ 64)) 0 ≡ select_in_byte b r
unfolding entry
table_at b r hb hr =
    let d : (r * 256 + b) / 256 ≡ r = omega arith in
    let m : (r * 256 + b) % 256 ≡ b = omega arith in
    ap (λ (k : ℕ). get_or table k 0) (slot b r hb hr) ∙ list_at entry 2048 (r * 256 + b) (omega arith) ∙ ap₂ select_in_byte m d
