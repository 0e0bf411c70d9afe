-- How what a call leaves follows from what the entry told.
use Rattle.std.specs.Prelude.{Option, Result, Ok, Err, IsOkAnd, MatchResult}
use mathlib.Core.List.{List}
use mathlib.Core.Path.{◌≡◌, ap, ◌∙◌}
use Prim.Native.Nat.{ℕ}
use Rattle.rank_sel.specs.Outcome.{Outcome, answer, refused, outcome, and_then}
use Rattle.rank_sel.specs.declared.Refusal.{Refusal}
use Rattle.inventory.specs.Numbers.{numbers_of}
use Rattle.inventory.specs.declared.summary.Summary.{Summary}
use Rattle.build_inventory.specs.Build.{BuiltAs, inventory_after, spill_after}
use Rattle.edge_index_c.specs.Calls.{Returned, ReturnedEdge, edge_out, BuiltC, status_of, out_of}

module _ {A : Type 0} {o : Outcome A} where
  pub returned_no : {n r : ℕ} {x : A} → refused n ≡ o → r ≡ n → Returned o r x x
  returned_no {x = x} e er = record { status = er ∙ ap status_of e; out = ap (λ (q : Outcome A). out_of q x) e }

  pub returned_yes : {a x₀ x : A} → answer a ≡ o → x ≡ a → Returned o 0 x₀ x
  returned_yes {x₀ = x₀} e ex = record { status = ap status_of e; out = ex ∙ ap (λ (q : Outcome A). out_of q x₀) e }

  pub returned_as : {q : Outcome A} {r : ℕ} {x₀ x : A} → q ≡ o → Returned q r x₀ x → Returned o r x₀ x
  returned_as {x₀ = x₀} e w = record { status = w.status ∙ ap status_of e; out = w.out ∙ ap (λ (q : Outcome A). out_of q x₀) e }

-- an edge likewise
pub returned_edge : {o q : Outcome (Option ℕ)} {r e₀ f₀ e f : ℕ} → q ≡ o → ReturnedEdge q r e₀ f₀ e f → ReturnedEdge o r e₀ f₀ e f
returned_edge {e₀ = e₀} same w = returned_as (ap (λ z. and_then z (λ x. answer (edge_out e₀ x))) same) w

-- an answer that is mapped, and a refusal that is not
pub mapped : {A B : Type 0} (f : A → B) (r : Result A Refusal) (s : Result B Refusal)
    → MatchResult r (λ x. IsOkAnd s (λ y. y ≡ f x)) (λ e. s ≡ Err e) → outcome s ≡ and_then (outcome r) (λ a. answer (f a))
mapped f (Ok x) (Ok y) h = ap answer h
mapped f (Ok x) (Err e) h = absurd h
mapped f (Err e) s h = ap outcome h

-- a summary goes out as its numbers
abbrev numbers : Outcome Summary → Outcome (List ℕ)
numbers o = and_then o (λ t. answer (numbers_of t))

module _ {ws : List ℕ} {o q : Outcome Summary} {inv₀ inv sp₀ sp : List ℕ} {b : Result Summary Refusal} (same : q ≡ o) (w : BuiltAs ws q inv₀ inv sp₀ sp b) where
  pub built_goes : {m : Outcome (List ℕ)} {out₀ out : List ℕ} {r : ℕ} → m ≡ numbers (outcome b) → Returned m r out₀ out
      → BuiltC ws o inv₀ inv sp₀ sp out₀ out r
  built_goes e g = record {
    returned = returned_as (e ∙ ap numbers (w.answers ∙ same)) g;
    inventory = w.inventory ∙ ap (inventory_after ws inv₀) same;
    spill = w.spill ∙ ap (spill_after ws sp₀) same;
  }
