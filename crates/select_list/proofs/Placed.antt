-- All samples are written, or none: what a walk wrote aside or into the places is what the definition leaves there, and a list
-- that passes its tests can be walked.
use mathlib.Core.List.{List, [], ◌∷◌, ◌++◌}
use mathlib.Core.Path.{◌≡◌, sym, ap, subst, ◌∙◌}
use Prim.Native.Nat.{ℕ, ◌+◌, ◌≤◌}
use native.Mathlib.Numerals.{add-one}
use native.Mathlib.Omega.{arith}
use lib.ListN.{length, take, length-append, length-map}
use borrow.Author.Tests.{ltb-false}
use Rattle.std.specs.Prelude.{Result, Ok, Err, IsErr, IsErrAnd}
use Rattle.rank_sel.specs.Outcome.{Outcome, answer, refused, number_of, test_by, NoneOf, and_then, outcome}
use Rattle.rank_sel.specs.declared.Refusal.{Refusal}
use Rattle.rank_sel.proofs.Outcome.{answer_is, then_answer, tests_then, none_split, passed_none}
use Rattle.bit_record.specs.Record.{sample_at}
use Rattle.spacing.specs.Spacing.{N}
use Rattle.inventory.specs.declared.summary.Summary.{Summary}
use Rattle.read_inventory.specs.Tested.{Tested}
use Rattle.read_inventory.specs.Tests.{of_index}
use Rattle.read_inventory.specs.declared.index.Index.{Index}
use Rattle.read_inventory.proofs.Passing.{tested_then}
use Rattle.select_list.specs.Hand.{Walkable, written, Wrote, Placed}
use Rattle.select_list.specs.List.{Walk, start, after, walk, of_list, Listed, samples_from, walk_of, list_of}
use Rattle.select_list.specs.Step.{Step, step_of}
use Rattle.select_list.proofs.Ranks.{rise_next, below_all}
use Rattle.select_list.proofs.Written.{written_front, written_back}

-- a walk that tells a refusal is refused
total_none : (o : Outcome Walk) (n : ℕ) → refused n ≡ and_then o (λ w. answer w.total) → o ≡ refused n
total_none (answer w) n e = cc
total_none (refused k) n e =
    let d : n ≡ k = cc in
    ap refused (sym d)

module _ (ws : List ℕ) (t : Summary) (inv sp : List ℕ) where
  -- as many positions as ranks
  walk_long : (rs : List ℕ) (w v : Walk) → walk ws t inv sp w rs ≡ answer v → length v.positions ≡ length w.positions + length rs
  unfolding walk
  walk_long [] w v e = ap (λ (u : Walk). length u.positions) (sym (answer_is e)) ∙ omega arith
  walk_long (r ∷ rs) w v e =
      let a = then_answer (step_of ws t inv sp w.last r) (λ (x : Step). walk ws t inv sp (after w x) rs) v e in
      omega (arith, walk_long rs (after w a.0) v a.2, length-append w.positions (a.0.position ∷ []))

  module _ (ranks : List ℕ) where
    abbrev o : Outcome Walk
    o = walk ws t inv sp start ranks

    abbrev samples : Walk → List ℕ
    samples w = samples_from t.origin w

    found : (w : Walk) → o ≡ answer w → length (samples w) ≡ length ranks
    found w e = length-map w.positions (sample_at t.origin) ∙ walk_long ranks start w e ∙ omega arith

    placed_at : (l₀ l : List ℕ) (r : Result ℕ Refusal) (w : Walk) → o ≡ answer w → outcome r ≡ and_then o (λ w. answer w.total)
        → length ranks ≤ length l₀ → l ≡ written (samples w) l₀ → Placed (walk_of ws t inv sp ranks) l₀ l r
    unfolding walk_of
    placed_at l₀ l r w e a h b =
        record { told = a ∙ rw e; places = b ∙ written_front (samples w) l₀ (omega (arith, found w e)) ∙ rw e }

    pub placed_refused : (h₀ h l₀ : List ℕ) (y : Refusal) → Wrote t.origin o h₀ h (Err y) → (r : Result ℕ Refusal)
        → IsErr r × IsErrAnd r (λ z. z ≡ y) → Placed (walk_of ws t inv sp ranks) l₀ l₀ r
    unfolding walk_of
    placed_refused h₀ h l₀ y b (Err z) k =
        let e = total_none o (number_of y) b.told in
        record { told = ap (λ (x : Refusal). refused (number_of x)) k.1 ∙ b.told ∙ rw e; places = rw e }
    placed_refused h₀ h l₀ y b (Ok z) k = absurd k.1

    -- a first walk told that it is answered
    module _ (h₀ h : List ℕ) (k : ℕ) (b : Wrote t.origin o h₀ h (Ok k)) where
      walked : (w : Walk) × (o ≡ answer w)
      walked =
          let w = then_answer o (λ w. answer w.total) k (sym b.told) in
          (w.0, w.1)

      pub placed_again : (l₀ l : List ℕ) (q : Result ℕ Refusal) → Wrote t.origin o l₀ l q → length ranks ≤ length l₀
          → Placed (walk_of ws t inv sp ranks) l₀ l q
      placed_again l₀ l q c g = placed_at l₀ l q walked.0 walked.1 c.told g (c.places walked.0 walked.1)

      pub placed_aside : (l₀ l : List ℕ) → length ranks ≤ length h₀ → length ranks ≤ length l₀
          → l ≡ written (take (length ranks) h) l₀ → Placed (walk_of ws t inv sp ranks) l₀ l (Ok k)
      placed_aside l₀ l d g c =
          let n = found walked.0 walked.1 in
          let e : take (length ranks) h ≡ samples walked.0 = ap (take (length ranks)) (b.places walked.0 walked.1)
          ∙ ap (λ (m : ℕ). take m (written (samples walked.0) h₀)) (sym n) ∙ written_back (samples walked.0) h₀ (omega arith) in
          placed_at l₀ l (Ok k) walked.0 walked.1 b.told g (c ∙ ap (λ (ps : List ℕ). written ps l₀) e)

-- ---- an index that passed the tests of what was handed in, a list of ranks and so many places
module _ (ws : List ℕ) (t : Summary) (inv sp ranks : List ℕ) (lent : ℕ) (x : Index)
    (w : Tested (of_index ws t inv sp ++ of_list (N t.plan) ranks lent) ws t inv sp (Ok x)) where
  of_ranks : NoneOf (of_list (N t.plan) ranks lent)
  of_ranks =
      (none_split (of_index ws t inv sp) (of_list (N t.plan) ranks lent)
      (passed_none (of_index ws t inv sp ++ of_list (N t.plan) ranks lent) w.0)).1

  pub list_walkable : Walkable (N x.cells.summary.plan) ranks
  list_walkable =
      let s = of_ranks in
      rw w.1.summary record {
        below = λ i h. below_all (N t.plan) ranks i s.1.1.0 h;
        rising = λ i h. rw (add-one i) (rise_next ranks 0 i s.0 (omega arith));
      }

  pub list_room : length ranks ≤ lent
  list_room = ltb-false lent (length ranks) of_ranks.1.0

  pub list_placed : (l₀ l : List ℕ) (r : Result ℕ Refusal) → Placed (walk_of x.words.now x.cells.summary x.cells.inventory.now x.cells.spill.now ranks) l₀ l r
      → Placed (list_of ws t inv sp ranks lent) l₀ l r
  unfolding list_of
  list_placed l₀ l r p =
      subst (λ (q : Outcome Listed). Placed q l₀ l r) (tested_then ws t inv sp x (of_index ws t inv sp ++ of_list (N t.plan) ranks lent) w (λ ws t inv sp. walk_of ws t inv sp ranks)) p

-- and one that did not
pub list_stopped : (ws : List ℕ) (t : Summary) (inv sp ranks : List ℕ) (lent : ℕ) (y : Refusal)
    → refused (number_of y) ≡ test_by (of_index ws t inv sp ++ of_list (N t.plan) ranks lent) → (r : Result ℕ Refusal)
    → IsErr r × IsErrAnd r (λ z. z ≡ y) → (l : List ℕ) → Placed (list_of ws t inv sp ranks lent) l l r
unfolding list_of
list_stopped ws t inv sp ranks lent y e (Err z) k l =
    let cs = of_index ws t inv sp ++ of_list (N t.plan) ranks lent in
    let d : refused (number_of y) ≡ list_of ws t inv sp ranks lent =
    ap (λ (o : Outcome (Unit {0})). and_then o (λ u. walk_of ws t inv sp ranks)) e ∙ sym (tests_then cs (walk_of ws t inv sp ranks)) in
    record { told = ap (λ (x : Refusal). refused (number_of x)) k.1 ∙ rw (← d); places = rw (← d) }
list_stopped ws t inv sp ranks lent y e (Ok z) k l = absurd k.1
