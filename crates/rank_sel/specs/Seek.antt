-- Seek, over any set of positions: Vigna's select, counted from any place on.
use Rattle.std.specs.Prelude.{Bool, true, false, ◌↔◌, ◌≡◌, ℕ, zero, suc, ◌+◌, ◌≤◌, ◌<◌}
use Rattle.std.proofs.Math.Option.{Option, none, some, get_or}
use Rattle.rank_sel.specs.Rank.{rank}

-- one position: the answer where it is selected and none is left to pass; else the search goes on with what is left to pass
abbrev pub on_here : Bool → ℕ → ℕ → (ℕ → Option ℕ) → Option ℕ
on_here true zero x go = some x
on_here true (suc k) x go = go k
on_here false k x go = go k

-- among the n positions from x on, the selected one with exactly k selected between x, included, and it
unfoldable pub seek : (ℕ → Bool) → ℕ → ℕ → ℕ → Option ℕ
seek f zero x k = none
seek f (suc n) x k = on_here (f x) k x (λ r. seek f n (suc x) r)

-- Vigna's select: the selected position below n with exactly r others before it; 0 where there is none
unfoldable pub select : (ℕ → Bool) → ℕ → ℕ → ℕ
select f n r = get_or (seek f n 0 r) 0

-- the facts that describe the sought position, p
pub record Sought (f : ℕ → Bool) (n x k p : ℕ) : Type 0 where
  pub low : x ≤ p
  pub high : p < x + n
  pub here : f p ≡ true
  pub before : rank f p ≡ rank f x + k

-- What seek is held to: it finds exactly the position that these facts describe, there is at most one, and there is one
-- exactly where enough selected positions are left.
pub record Exact (f : ℕ → Bool) (n x k : ℕ) : Type 0 where
  pub found : (p : ℕ) → (seek f n x k ≡ some p) ↔ Sought f n x k p
  pub unique : (p q : ℕ) → Sought f n x k p → Sought f n x k q → p ≡ q
  pub exists : (rank f x + k < rank f (x + n)) ↔ ((p : ℕ) × Sought f n x k p)
  pub missing : (seek f n x k ≡ none) ↔ (rank f (x + n) ≤ rank f x + k)
