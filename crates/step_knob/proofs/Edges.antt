-- Laws of edges: what a step's tests hand on, and that the edge of a position found is a sample number.
use mathlib.Core.Bool.{Bool, true}
use mathlib.Core.List.{List, ◌++◌}
use mathlib.Core.Option.{Option, some}
use mathlib.Core.Path.{◌≡◌, sym, ap, ◌∙◌}
use Prim.Native.Nat.{ℕ, ◌-◌, ◌^◌, ◌<◌}
use native.Mathlib.Omega.{arith}
use Rattle.std.specs.Prelude as std
use Rattle.std.specs.Prelude.{Result, IsErr, IsErrAnd, IfSome}
use Rattle.rank_sel.specs.Outcome.{answer, Conditions, refuse_by}
use Rattle.rank_sel.specs.Step.{last_before, next_from, option_of}
use Rattle.rank_sel.proofs.Outcome.{answer_passed, none_split, passed_all}
use Rattle.rank_sel.proofs.Seek.{seek_found}
use Rattle.rank_sel.proofs.Step.{last_found}
use Rattle.bit_record.specs.Record.{sample_at, selected, of_record_from}
use Rattle.bit_record.specs.declared.Polarity.{Polarity}
use Rattle.bit_record.proofs.Counted.{admitted_from}
use Rattle.bit_record.proofs.Selected.{selected_lt}
use Rattle.step_knob.specs.Step.{edge_at}

-- ---- positions found
-- they are selected
abbrev Picks : (ℕ → Bool) → Option ℕ → Type 0
Picks f o = (p : ℕ) → o ≡ some p → f p ≡ true

pub next_picks : (f : ℕ → Bool) (n x : ℕ) → Picks f (next_from f n x)
next_picks f n x p e = (seek_found f (n - x) x 0 p e).here

pub last_picks : (f : ℕ → Bool) (x : ℕ) → Picks f (last_before f x)
last_picks f x p e = (last_found f x p e).here

-- past 14, the edge of a position found is a sample number
module _ (ws : List ℕ) (len origin : ℕ) (cs : Conditions) (p a : ℕ) (told : answer p ≡ refuse_by (of_record_from ws len origin ++ cs) (answer a)) where
  pub edge_numbered : (pol : Polarity) (o : Option ℕ) → Picks (selected pol ws len) o → (r : std.Option ℕ) → option_of r ≡ o
      → IfSome r (λ q. sample_at origin q < 2 ^ 62)
  edge_numbered pol o picks (std.Some q) e =
      let passed = (passed_all (of_record_from ws len origin ++ cs) (answer a) p (sym told)).0 in
      let from = admitted_from ws len origin (none_split (of_record_from ws len origin) cs passed).0 in
      omega (arith, from.numbered, selected_lt pol ws len q (picks q (sym e)))
  edge_numbered pol o picks std.None e = tt

-- and behind the tests it is the answer
pub edge_told : (cs : Conditions) (origin p a : ℕ) → answer p ≡ refuse_by cs (answer a) → (go : ℕ → Option ℕ) (r s : std.Option ℕ)
    → option_of r ≡ go p → s ≡ edge_at origin (option_of r) → answer s ≡ refuse_by cs (answer (edge_at origin (go a)))
edge_told cs origin p a told go r s found at =
    ap answer (at ∙ ap (edge_at origin) found) ∙ answer_passed cs p a told (λ q. answer (edge_at origin (go q)))
