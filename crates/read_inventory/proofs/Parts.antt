-- The part that store answers with, and that it lies in its slice: the place of the mark says which part, and the tests and
-- the decoding say that its cells are lent.
use mathlib.Core.Bool.{true, false}
use mathlib.Core.List.{List}
use mathlib.Core.Path.{◌≡◌, refl, sym, ap, ◌∙◌}
use Prim.Native.Nat.{ℕ, ◌+◌, ◌-◌, ◌*◌, ◌^◌, ◌≤◌, ◌<◌, min}
use native.Mathlib.Nat.{div-add-mod'}
use native.Mathlib.Omega.{arith}
use lib.ListN.{length, get_or}
use lib.Pow.{pow_pos}
use Rattle.rank_sel.specs.Numbers.{ceil_div}
use Rattle.std.specs.Prelude.{Result, Ok, Err, IsErr, IsErrAnd}
use Rattle.rank_sel.specs.Outcome.{Outcome, answer, refused, number_of}
use Rattle.rank_sel.specs.declared.Refusal.{Refusal}
use Rattle.spacing.specs.Spacing.{L, M}
use Rattle.inventory.specs.Index.{stride, ranks_of}
use Rattle.inventory.specs.Shape.{spilled_by}
use Rattle.inventory.specs.declared.summary.Summary.{Summary}
use Rattle.read_inventory.specs.Jump.{hint_of, Part, of_inventory, of_spill, part_by, store_of, or_empty, stored, PartIn}
use Rattle.read_inventory.specs.Read.{cell_at, quantum_at, Place, start, own, over, place_at, spilled_at, entry_of_rank, mark_number, Hint}
use Rattle.read_inventory.specs.Steps.{Countable, head_of, is_over}
use Rattle.read_inventory.specs.declared.decode.Decoded.{Decoded}
use Rattle.read_inventory.specs.declared.decode.Head.{Head}
use Rattle.read_inventory.specs.declared.jump.CellPart.{CellPart}
use Rattle.read_inventory.proofs.Answers.{ReadAs, over_low}
use Rattle.read_inventory.proofs.Decoding.{entry_lent, quantum_at_low}
use Rattle.read_inventory.proofs.Passing.{Readable}

-- the entry's own cells, or its spilled ones
part_near : (t : Summary) (inv : List ℕ) (e : ℕ) (p : Place) → is_over p ≡ false
    → part_by t inv e p ≡ of_inventory (e * stride t.plan + 1) (2 ^ M t.plan)
part_near t inv e start f = refl
part_near t inv e (own c j) f = refl
part_near t inv e (over c j) f = cc

part_far : (t : Summary) (inv : List ℕ) (e : ℕ) (p : Place) → is_over p ≡ true
    → part_by t inv e p ≡ of_spill (cell_at t inv e 1) (min (spilled_at t inv e) (t.spill_len - cell_at t inv e 1))
part_far t inv e start f = cc
part_far t inv e (own c j) f = cc
part_far t inv e (over c j) f = refl

-- store refuses as hint does
pub store_refused : (ws : List ℕ) (t : Summary) (inv sp : List ℕ) (r n : ℕ) → refused n ≡ hint_of ws t inv sp r
    → refused n ≡ store_of ws t inv sp r
unfolding store_of
store_refused ws t inv sp r n e = rw (← e)

pub stored_refused : (x : Result CellPart Refusal) (e : Refusal) → IsErr x × IsErrAnd x (λ y. y ≡ e) → (o : Outcome Part)
    → refused (number_of e) ≡ o → (inv sp : List ℕ) → (stored x ≡ o) × PartIn inv sp (or_empty (stored x))
stored_refused (Err y) e h o eo inv sp = (ap (λ (z : Refusal). refused (number_of z)) h.1 ∙ eo, tt)
stored_refused (Ok b) e h o eo inv sp = absurd h.1

-- hint answers, and d is what was decoded
pub record Stored (ws : List ℕ) (t : Summary) (inv sp : List ℕ) (r : ℕ) (d : Decoded) : Type 0 where
  pub readable : Readable t inv sp r
  pub read : ReadAs t inv sp r d
  pub hint : Hint
  pub hinted : hint_of ws t inv sp r ≡ answer hint

module _ {ws : List ℕ} {t : Summary} {inv sp : List ℕ} {r : ℕ} {d : Decoded} (s : Stored ws t inv sp r d) where
  head_is : d.head ≡ head_of t inv (entry_of_rank t r)
  head_is = ap (λ (x : Decoded). x.head) s.read.is

  cell_is : d.head.cell ≡ entry_of_rank t r * stride t.plan
  cell_is = ap (λ (x : Head). x.cell) head_is

  quantum_is : d.log2_quantum ≡ quantum_at t inv (entry_of_rank t r)
  quantum_is = ap (λ (x : Decoded). x.log2_quantum) s.read.is

  abbrev place : Place
  place = place_at t inv (entry_of_rank t r) (mark_number t inv r)

  spilled_is : d.spilled ≡ is_over place
  spilled_is = ap (λ (x : Decoded). x.spilled) s.read.is

  store_is : store_of ws t inv sp r ≡ answer (part_by t inv (entry_of_rank t r) place)
  unfolding store_of
  store_is = rw s.hinted

  -- ---- its own cells
  pub store_own : d.spilled ≡ false → answer (of_inventory (d.head.cell + 1) (2 ^ M t.plan)) ≡ store_of ws t inv sp r
  store_own f =
      let e : of_inventory (d.head.cell + 1) (2 ^ M t.plan) ≡ of_inventory (entry_of_rank t r * stride t.plan + 1) (2 ^ M t.plan) =
      rw cell_is in
      ap answer (e ∙ sym (part_near t inv (entry_of_rank t r) place (sym spilled_is ∙ f))) ∙ sym store_is

  small_m_lem : M t.plan < 64
  small_m_lem = omega (arith, s.readable.legible.lawful.small_m)

  pub own_end : d.head.cell + 1 + 2 ^ M t.plan ≤ length inv
  own_end = omega (arith, cell_is, (entry_lent t inv sp r s.readable).within)

  pub own_start : d.head.cell + 1 < length inv
  own_start = omega (arith, own_end, pow_pos (M t.plan))

  second_cell : get_or inv (d.head.cell + 1) 0 ≡ cell_at t inv (entry_of_rank t r) 1
  unfolding cell_at
  second_cell = rw cell_is

  -- ---- its spilled cells: n by the build's rule, k cut at the spill count, as they were reckoned
  abbrev rule : ℕ
  rule = spilled_by d.head.kind (ceil_div (ranks_of t.plan d.head.entry) (2 ^ d.log2_quantum)) (M t.plan)

  pub rule_is : rule ≡ spilled_at t inv (entry_of_rank t r)
  unfolding spilled_at
  rule_is = simp (head_is, quantum_is)

  pub store_over : d.spilled ≡ true → (n k : ℕ) → n ≡ rule → k ≡ min n (t.spill_len - get_or inv (d.head.cell + 1) 0)
      → answer (of_spill (get_or inv (d.head.cell + 1) 0) k) ≡ store_of ws t inv sp r
  store_over f n k en ek =
      let second = cell_at t inv (entry_of_rank t r) 1 in
      let e : of_spill (get_or inv (d.head.cell + 1) 0) k ≡ of_spill second
      (min (spilled_at t inv (entry_of_rank t r)) (t.spill_len - second)) =
      rw (ek, en, rule_is, second_cell) in
      ap answer (e ∙ sym (part_far t inv (entry_of_rank t r) place (sym spilled_is ∙ f))) ∙ sym store_is

  pub over_start : d.spilled ≡ true → get_or inv (d.head.cell + 1) 0 < t.spill_len
  over_start f = rw second_cell (over_low s.read f)

  pub over_end : d.spilled ≡ true → (n k : ℕ) → k ≡ min n (t.spill_len - get_or inv (d.head.cell + 1) 0)
      → get_or inv (d.head.cell + 1) 0 + k ≤ length sp
  over_end f n k ek = omega (arith, over_start f, s.readable.legible.held.over)

  pub countable : Countable t.plan d
  countable =
      let a = s.readable in
      let e = ap (λ (x : Head). x.entry) head_is in
      record {
        few = omega (arith, a.legible.lawful.few, a.legible.short);
        small_l = a.legible.lawful.small_l;
        small_m = small_m_lem;
        small_q = omega (arith, quantum_is, quantum_at_low t inv (entry_of_rank t r), a.legible.lawful.spaced, a.legible.lawful.small_l);
        begun = rw e (omega (arith, a.below, div-add-mod' r (2 ^ L t.plan)));
      }
