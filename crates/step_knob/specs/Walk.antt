-- What steps and walks are held to: the first edge from a sample on, the last before it, and the turns that list them.
use Rattle.std.specs.Prelude as std
use Rattle.std.specs.Prelude.{true, List, [], ◌∷◌, ◌↔◌, ◌≡◌, ℕ, ◌-◌, ◌≤◌, ◌<◌, length, get_or}
use Rattle.rank_sel.specs.Outcome.{Outcome, answer, NoneOf}
use Rattle.bit_record.specs.Record.{selected, sample_at}
use Rattle.bit_record.specs.declared.Polarity.{Polarity}
use Rattle.step_knob.specs.Step.{of_turn, turn_of, place_after}
use Rattle.step_knob.specs.declared.walker.Walker.{Walker}

module _ (ws : List ℕ) (len : ℕ) (pol : Polarity) (origin : ℕ) where
  -- an edge: the sample number of a selected position
  pub record Edge (e : ℕ) : Type 0 where
    pub from : origin ≤ e
    pub to : e < sample_at origin len
    pub here : selected pol ws len (e - origin) ≡ true

  -- the facts that describe the first edge from sample x on, and the last before it
  pub record FirstEdge (x e : ℕ) : Type 0 where
    pub edge : Edge e
    pub low : x ≤ e
    pub before : (y : ℕ) → x ≤ y → y < e → Edge y → ⊥

  pub record LastEdge (x e : ℕ) : Type 0 where
    pub edge : Edge e
    pub low : e < x
    pub after : (y : ℕ) → e < y → y < x → Edge y → ⊥

  -- the answer is exactly that edge, and none exactly where there is none
  pub record FirstExact (x : ℕ) (o : Outcome (std.Option ℕ)) : Type 0 where
    pub found : (e : ℕ) → (o ≡ answer (std.Some e)) ↔ FirstEdge x e
    pub missing : (o ≡ answer std.None) ↔ ((e : ℕ) → x ≤ e → Edge e → ⊥)

  pub record LastExact (x : ℕ) (o : Outcome (std.Option ℕ)) : Type 0 where
    pub found : (e : ℕ) → (o ≡ answer (std.Some e)) ↔ LastEdge x e
    pub missing : (o ≡ answer std.None) ↔ ((e : ℕ) → e < x → Edge e → ⊥)

  -- turns from sample x on, from place to place, give these edges, and then none
  abbrev pub Walks : ℕ → List ℕ → Type 0
  Walks x [] = turn_of ws len pol origin x ≡ answer std.None
  Walks x (e ∷ es) = (turn_of ws len pol origin x ≡ answer (std.Some e)) × Walks (place_after (turn_of ws len pol origin x) x) es

  -- the edges from sample x on, each once, rising
  pub record ListsEdges (x : ℕ) (es : List ℕ) : Type 0 where
    pub rising : (i j : ℕ) → i < j → j < length es → get_or es i 0 < get_or es j 0
    pub edges : (i : ℕ) → i < length es → (x ≤ get_or es i 0) × Edge (get_or es i 0)
    pub all : (e : ℕ) → x ≤ e → Edge e → (i : ℕ) × (i < length es) × (get_or es i 0 ≡ e)

  -- there is such a walk, and every one lists exactly these
  pub record WalkExact (x : ℕ) : Type 0 where
    pub ends : (es : List ℕ) × Walks x es
    pub lists : (es : List ℕ) → Walks x es → ListsEdges x es

-- ---- of a walker
-- what a turn of it gives
abbrev pub turn_from : Walker → Outcome (std.Option ℕ)
turn_from w = turn_of w.words.now w.len w.polarity w.origin w.place

-- its turn is not turned down
abbrev pub IsAdmitted : Walker → Type 0
IsAdmitted w = NoneOf (of_turn w.words.now w.len w.origin w.place)

-- this is the first edge from its place on, or none is left there
abbrev pub IsFirst : Walker → std.Option ℕ → Type 0
IsFirst w found = FirstExact w.words.now w.len w.polarity w.origin w.place (answer found)

-- from any walker that is not turned down, turns list the edges from its place on
abbrev pub TurnsListTheEdges : Type 0
TurnsListTheEdges = (ws : List ℕ) (len : ℕ) (pol : Polarity) (origin place : ℕ) → NoneOf (of_turn ws len origin place)
    → WalkExact ws len pol origin place
