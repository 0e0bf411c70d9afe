-- The tests of a summary and its cells: what passing them shows, and how the inventory count is held to its rule without being reckoned.
use mathlib.Core.Bool.{Bool, true, false}
use mathlib.Core.List.{List}
use mathlib.Core.Path.{◌≡◌, refl, sym, ap, ◌∙◌}
use Prim.Native.Nat.{ℕ, ◌+◌, ◌-◌, ◌*◌, ◌/◌, ◌%◌, ◌^◌, ◌≤◌, ◌<◌}
use native.Mathlib.Nat.{mul-div_left, div-mul-le_self, mod-eq_of_lt}
use native.Mathlib.Omega.{arith}
use lib.Dec.{eqb}
use borrow.Author.Tests.{ltb-false, le-ltb, eqb-true, eqb-false, eq-eqb, ne_eqb, not-false}
use Rattle.std.proofs.lemmas.Bool.{or_parts}
use Rattle.rank_sel.specs.Outcome.{NoneOf}
use Rattle.spacing.specs.Spacing.{N, L, M, S, max_log2_words}
use Rattle.inventory.specs.Index.{inventory_len_of}
use Rattle.inventory.specs.Lawful.{unlawful, of_cells, Lawful, CellsHeld}
use Rattle.inventory.specs.declared.summary.Summary.{Summary}

-- ---- both ways between the condition and the rules
pub lawful : (t : Summary) → unlawful t ≡ false → Lawful t
unfolding unlawful
lawful t e =
    let counted = or_parts _ _ e in
    let spaced = or_parts _ _ counted.0 in
    let small_m = or_parts _ _ spaced.0 in
    let small_l = or_parts _ _ small_m.0 in
    record {
      few = ltb-false _ _ small_l.0;
      small_l = ltb-false _ _ small_l.1;
      small_m = ltb-false _ _ small_m.1;
      spaced = eqb-true _ _ (not-false _ spaced.1);
      counted = eqb-true _ _ (not-false _ counted.1);
    }

pub lawful_none : (t : Summary) → Lawful t → unlawful t ≡ false
unfolding unlawful
lawful_none t w =
    rw (
      le-ltb t.plan.len (N t.plan) w.few,
      le-ltb 63 (L t.plan) w.small_l,
      le-ltb max_log2_words (M t.plan) w.small_m,
      eq-eqb (S t.plan) (L t.plan - M t.plan - 2) w.spaced,
      eq-eqb t.inventory_len (inventory_len_of t.plan) w.counted,
    )

-- ---- and between those of the cells and what they ask for
module _ (t : Summary) (inv sp : List ℕ) where
  pub cells_held : NoneOf (of_cells t inv sp) → CellsHeld t inv sp
  cells_held h = record { own = ltb-false _ _ h.0; over = ltb-false _ _ h.1.0 }

  pub cells_none : CellsHeld t inv sp → NoneOf (of_cells t inv sp)
  cells_none w = (le-ltb _ _ w.own, (le-ltb _ _ w.over, tt))

-- ---- n is e * (m + 1) + 1, tested on what is left of n without e and 1
module _ (n e m : ℕ) where
  taken_off_lem : n ≡ e * (m + 1) + 1 → n - e - 1 ≡ e * m
  taken_off_lem h = omega arith

  pub count_few : n ≤ e → eqb n (e * (m + 1) + 1) ≡ false
  count_few l = ne_eqb n (e * (m + 1) + 1) (λ h. omega arith)

  pub count_other : 0 < m → ((n - e - 1) / m ≡ e → ⊥) → eqb n (e * (m + 1) + 1) ≡ false
  count_other z f = ne_eqb n (e * (m + 1) + 1) (λ h. f (ap (λ (x : ℕ). x / m) (taken_off_lem h) ∙ mul-div_left e z))

  -- a shift of e drops no bit, since e * m is at most n
  pub count_is : n < 2 ^ 64 → e < n → (n - e - 1) / m ≡ e → eqb (e * m % 2 ^ 64) (n - e - 1) ≡ eqb n (e * (m + 1) + 1)
  count_is u l q =
      let d = div-mul-le_self (n - e - 1) m in
      let k : e * m ≤ n - e - 1 = rw q at d in
      rw (mod-eq_of_lt {n = e * m} {m = 2 ^ 64} (omega arith)) (go (eqb (e * m) (n - e - 1)) refl)
    where
      go : (b : Bool) → eqb (e * m) (n - e - 1) ≡ b → b ≡ eqb n (e * (m + 1) + 1)
      go true h = sym (eq-eqb n (e * (m + 1) + 1) (omega (arith, eqb-true (e * m) (n - e - 1) h)))
      go false h = sym (ne_eqb n (e * (m + 1) + 1) (λ g. eqb-false (e * m) (n - e - 1) h (sym (taken_off_lem g))))
