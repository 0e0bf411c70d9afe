-- Steps, over any set of positions: the last selected position before a place, and the first from a place on. Document 02, W-206.
use Rattle.std.specs.Prelude as std
use Rattle.std.specs.Prelude.{Bool, true, false, cond, ◌↔◌, ◌≡◌, ℕ, zero, suc, ◌-◌, ◌≤◌, ◌<◌}
use Rattle.std.proofs.Math.Option.{Option, none, some}
use Rattle.rank_sel.specs.Seek.{seek}

-- the last selected position below x
unfoldable pub last_before : (ℕ → Bool) → ℕ → Option ℕ
last_before f zero = none
last_before f (suc x) = cond (f x) (some x) (last_before f x)

-- the facts that describe it
pub record Last (f : ℕ → Bool) (x p : ℕ) : Type 0 where
  pub low : p < x
  pub here : f p ≡ true
  pub after : (q : ℕ) → p < q → q < x → f q ≡ false

-- the first selected position from x on, below n: the sought one with none to pass
abbrev pub next_from : (ℕ → Bool) → ℕ → ℕ → Option ℕ
next_from f n x = seek f (n - x) x 0

pub record Next (f : ℕ → Bool) (n x p : ℕ) : Type 0 where
  pub low : x ≤ p
  pub high : p < n
  pub here : f p ≡ true
  pub before : (q : ℕ) → x ≤ q → q < p → f q ≡ false

-- What both are held to: each finds exactly the position that its facts describe, there is at most one, and there is none
-- exactly where no position is selected there.
pub record LastExact (f : ℕ → Bool) (x : ℕ) : Type 0 where
  pub found : (p : ℕ) → (last_before f x ≡ some p) ↔ Last f x p
  pub unique : (p q : ℕ) → Last f x p → Last f x q → p ≡ q
  pub missing : (last_before f x ≡ none) ↔ ((q : ℕ) → q < x → f q ≡ false)

pub record NextExact (f : ℕ → Bool) (n x : ℕ) : Type 0 where
  pub found : (p : ℕ) → (next_from f n x ≡ some p) ↔ Next f n x p
  pub unique : (p q : ℕ) → Next f n x p → Next f n x q → p ≡ q
  pub missing : (next_from f n x ≡ none) ↔ ((q : ℕ) → x ≤ q → q < n → f q ≡ false)

-- what a call says, as an Option
abbrev pub option_of : {A : Type 0} → std.Option A → Option A
option_of (std.Some a) = some a
option_of std.None = none
