-- A walker with a polarity over 1 is turned down, and stays; else the turn's edge goes out by `give_edge`, and its place into the walker.
use mathlib.Core.List.{List}
use mathlib.Core.Path.{◌≡◌, refl, sym, ap, ◌∙◌}
use Prim.Native.Nat.{ℕ, ◌<◌, ◌≤◌}
use lib.ListN.{set, get_or}
use borrow.Author.Tests.{lt-ltb, le-ltb}
use Rattle.std.proofs.lemmas.List.{set-get_or}
use Rattle.rank_sel.specs.Outcome.{refused}
use Rattle.bit_record.specs.declared.Polarity.{Polarity}
use Rattle.inventory.specs.Numbers.{polarity_at}
use Rattle.step_knob.specs.Step.{turn_of, place_after}
use Rattle.step_knob.specs.declared.walker.Walker.{Walker}
use Rattle.edge_index_c.specs.Calls.{turn_c}
use Rattle.edge_index_c.specs.Codes.{bad_code}
use Rattle.edge_index_c.proofs.Returns.{returned_edge}
use Rattle.edge_index_c.proofs.edge_index_turn.Goals as goal

module _ (ws w : List ℕ) where
  known : get_or w 1 0 ≤ 1 → turn_c ws w ≡ turn_of ws (get_or w 0 0) (polarity_at (get_or w 1 0)) (get_or w 2 0) (get_or w 3 0)
  unfolding turn_c
  known l = rw (le-ltb 1 (get_or w 1 0) l) refl

  unknown : 1 < get_or w 1 0 → turn_c ws w ≡ refused bad_code
  unfolding turn_c
  unknown l = rw (lt-ltb 1 (get_or w 1 0) l) refl

pub returns-then-code-gt1 : goal.returns-then-code-gt1
returns-then-code-gt1 c =
    let w = c.args.walker.now in
    let told = unknown c.args.words.now w c.if-code-gt1.true in
    record { returned = returned_edge (sym told) (record { status = refl; out = refl }); walker = rw told (sym (set-get_or w 3 0)) }

pub returns : goal.returns
returns c =
    let w = c.args.walker.now in
    let ws = c.args.words.now in
    let same =
    ap (λ (p : Polarity). turn_of ws (get_or w 0 0) p (get_or w 2 0) (get_or w 3 0)) c.polarity_at.ensures
    ∙ sym (known ws w c.if-code-gt1.false) in
    record {
      returned = returned_edge (c.turn-turn.ensures.edge ∙ same) c.give_edge.ensures;
      walker = ap (set w 3) (ap (λ (x : Walker). x.place) c.turn-turn.ensures.walker ∙ ap (λ o. place_after o (get_or w 3 0)) same);
    }
