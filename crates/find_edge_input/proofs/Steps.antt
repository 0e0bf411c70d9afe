-- What a `?` hands on, and what a checked sum or product that went through says.
use Rattle.std.proofs.Common.{◌≡◌, ℕ, sym, ap, ◌∙◌, arith}
use Rattle.std.specs.Prelude.{Result, Ok, Err, Option, Some, None, IsErr, IsErrAnd, SomeIff}
use Rattle.std.specs.Option.{ok_or}
use Rattle.find_edge_input.specs.declared.number.NumberError.{NumberError}

-- the error that stopped the call before is the error told
pub handed_on : {A : Type 0} (r : Result A NumberError) (e : NumberError) → IsErr r × IsErrAnd r (λ x. x ≡ e) → r ≡ Err e
handed_on (Err x) e h = ap Err h.1
handed_on (Ok a) e h = absurd h.1

-- a value that fits was there
pub went_through : {P : Type 0} (o : Option ℕ) (v x : ℕ) (d : NumberError) → SomeIff o P v → ok_or o d ≡ Ok x → P × (x ≡ v)
went_through (Some y) v x d h e = let same : y ≡ x = cc in (h.0, sym same ∙ h.1)
went_through None v x d h e = grind arith

-- none was, and the error is the one given
pub stopped : {P : Type 0} (o : Option ℕ) (v : ℕ) (e d : NumberError) → SomeIff o P v → ok_or o d ≡ Err e → (P → ⊥) × (e ≡ d)
stopped (Some y) v e d h q = grind arith
stopped None v e d h q = let same : d ≡ e = cc in (h, sym same)
