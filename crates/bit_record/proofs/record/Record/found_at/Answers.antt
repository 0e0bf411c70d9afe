-- What remains above the position in its word is what remains above its place there (`found_one`).
use mathlib.Core.Path.{◌≡◌, refl, sym, ap, subst, ◌∙◌}
use Prim.Native.Nat.{ℕ, ◌+◌, ◌*◌, ◌/◌, ◌%◌}
use native.Mathlib.Omega.{arith}
use Rattle.select_in_word.specs.Select.{OneAbove}
use Rattle.select_in_word.specs.declared.One.{One}
use Rattle.bit_record.specs.Record.{FoundIn}
use Rattle.bit_record.specs.Selects.{selects}
use Rattle.bit_record.proofs.Seek.{found_one}
use Rattle.bit_record.proofs.Selected.{selected_lt}
use Rattle.bit_record.proofs.record.Record.found_at.Goals as goal

pub selected_word-word-requires : goal.selected_word-word-requires
selected_word-word-requires c =
    let a = c.args in
    let r = a.self.now in
    omega (arith, r.admitted.held, selected_lt r.polarity r.words.now r.len a.position c.requires)

pub returns : goal.returns
returns c =
    let a = c.args in
    let f = selects a.self.now in
    let i = a.position / 64 in
    let x : One = record { position = a.position % 64; remaining = c.ones_above-remaining.result } in
    let w = c.selected_word-word.result in
    let held = c.selected_word-word.ensures in
    let p : 64 * i + a.position % 64 ≡ a.position = omega arith in
    let o : OneAbove w x.remaining x.position =
    record {
      low = omega arith;
      here = held.bits (a.position % 64) (omega arith) ∙ ap f p ∙ c.requires;
      above = sym c.ones_above-remaining.ensures;
    } in
    (subst (λ (q : ℕ). FoundIn f (record { position = q; index = i; word = w; remaining = x.remaining })) p (found_one f i w x held o), refl)
