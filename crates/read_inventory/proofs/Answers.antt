-- A mark as it was read lies below len and passes no more bits than its rank, and leads to the defined position and hint.
use mathlib.Core.Bool.{Bool, true, false, cond}
use mathlib.Core.List.{List}
use mathlib.Core.Path.{◌≡◌, refl, sym, ap, subst, ◌∙◌}
use Prim.Native.Nat.{ℕ, ◌+◌, ◌-◌, ◌*◌, ◌/◌, ◌%◌, ◌^◌, ◌≤◌, ◌<◌}
use native.Mathlib.Nat.{mod-le}
use native.Mathlib.Omega.{arith}
use lib.Dec.{leb, ltb}
use borrow.Author.Tests.{ltb-false, leb-false}
use Rattle.rank_sel.specs.Outcome.{Outcome, answer, refused, or_refuse, and_then}
use Rattle.rank_sel.specs.Seek.{seek}
use Rattle.rank_sel.proofs.Outcome.{answer_is, not_refused, then_answer}
use Rattle.rank_sel.proofs.Seek.{answer_sought}
use Rattle.bit_record.specs.Record.{selected, sample_at}
use Rattle.spacing.specs.Spacing.{L, M}
use Rattle.inventory.specs.Index.{stride}
use Rattle.inventory.specs.Shape.{near_by}
use Rattle.inventory.specs.declared.shape.Shape.{Shape}
use Rattle.inventory.specs.declared.summary.Summary.{Summary}
use Rattle.read_inventory.specs.Jump.{sample_of, hint_sample, dwell_by, dwell_at}
use Rattle.read_inventory.specs.Read.{cell_at, kind_at, span_at, quantum_at, shape_at, start, own, over, place_by, place_at, number_at, span_too_small, mark_at, entry_of_rank, mark_number, residual, is_u64, Mark, mark_of_rank, Hint, hint_at, finish, position_of}
use Rattle.read_inventory.specs.Steps.{is_over, decoded_by, decode_of}
use Rattle.read_inventory.specs.declared.decode.Decoded.{Decoded}
use Rattle.read_inventory.proofs.Decoding.{decoded_marks}

-- ---- a mark
-- a mark that was read is the number at its place and the base, and lies below len
pub mark_back : (t : Summary) (inv sp : List ℕ) (e i p : ℕ) → mark_at t inv sp e i ≡ answer p
    → (n : ℕ) × (number_at t inv sp e (place_at t inv e i) ≡ answer n) × ((shape_at t inv e).base + n ≡ p) × (p < t.plan.len)
unfolding mark_at
mark_back t inv sp e i p m =
    let k = not_refused (span_too_small (kind_at t inv e) (span_at t inv e)) 10 _ p m in
    let a = then_answer (number_at t inv sp e (place_at t inv e i)) _ p k.1 in
    let q : ℕ = (shape_at t inv e).base + a.0 in
    let f = not_refused (leb t.plan.len q) 10 (answer q) p a.2 in
    (a.0, a.1, answer_is f.1, omega (arith, answer_is f.1, leb-false t.plan.len q f.0))

module _ (t : Summary) (inv sp : List ℕ) (r : ℕ) (m : Mark) (e : mark_of_rank t inv sp r ≡ answer m) where
  mark_of : (p : ℕ) × (mark_at t inv sp (entry_of_rank t r) (mark_number t inv r) ≡ answer p) × (m.at ≡ p) × (m.residual ≡ residual t inv r)
  unfolding mark_of_rank
  mark_of =
      let a = then_answer (mark_at t inv sp (entry_of_rank t r) (mark_number t inv r)) _ m e in
      (a.0, a.1, ap (λ (x : Mark). x.at) (sym (answer_is a.2)), ap (λ (x : Mark). x.residual) (sym (answer_is a.2)))

  pub mark_low : m.at < t.plan.len
  mark_low = omega (arith, mark_of.2, (mark_back t inv sp (entry_of_rank t r) (mark_number t inv r) mark_of.0 mark_of.1).3)

  pub residue_low : m.residual ≤ r
  unfolding residual
  residue_low = omega (arith, mark_of.3, mod-le (r % 2 ^ L t.plan) (2 ^ quantum_at t inv (entry_of_rank t r)), mod-le r (2 ^ L t.plan))

-- m is rank r's mark as it was read
pub record MarkRead (t : Summary) (inv sp : List ℕ) (r : ℕ) (m : Mark) : Type 0 where
  pub told : answer m ≡ mark_of_rank t inv sp r

module _ {t : Summary} {inv sp : List ℕ} {r : ℕ} {m : Mark} (w : MarkRead t inv sp r m) where
  pub position_by : (ws : List ℕ) → finish (selected t.plan.polarity ws t.plan.len) t.plan.len m ≡ position_of ws t inv sp r
  unfolding position_of
  position_by ws = ap (λ (x : Outcome Mark). and_then x (finish (selected t.plan.polarity ws t.plan.len) t.plan.len)) w.told

  pub hint_by : answer (record { mark = sample_at t.origin m.at; rank = r - m.residual }) ≡ hint_sample t inv sp r
  unfolding hint_at hint_sample
  hint_by = rw (← w.told)

  pub mark_below : m.at < t.plan.len
  mark_below = mark_low t inv sp r m (sym w.told)

  pub passes_few : m.residual ≤ r
  passes_few = residue_low t inv sp r m (sym w.told)

-- a mark that is refused
module _ (t : Summary) (inv sp : List ℕ) (r k : ℕ) (e : refused k ≡ mark_of_rank t inv sp r) where
  pub position_none : (ws : List ℕ) → refused k ≡ position_of ws t inv sp r
  unfolding position_of
  position_none ws = ap (λ (x : Outcome Mark). and_then x (finish (selected t.plan.polarity ws t.plan.len) t.plan.len)) e

  pub hint_none : refused k ≡ hint_sample t inv sp r
  unfolding hint_at hint_sample
  hint_none = rw (← e)

-- ---- a position, and its sample number
module _ (ws : List ℕ) (t : Summary) (inv sp : List ℕ) (r : ℕ) where
  pub position_low : (p : ℕ) → position_of ws t inv sp r ≡ answer p → p < t.plan.len
  unfolding position_of
  position_low p e =
      let a = then_answer (mark_of_rank t inv sp r) (finish f len) p e in
      go a.0 (mark_low t inv sp r a.0 a.1) a.0.exact a.2
    where
      len : ℕ
      len = t.plan.len

      f : ℕ → Bool
      f = selected t.plan.polarity ws len

      go : (m : Mark) → m.at < len → (b : Bool)
          → cond b (answer m.at) (or_refuse 10 (seek f (len - m.at) m.at m.residual)) ≡ answer p → p < len
      go m l true d = omega (arith, answer_is d)
      go m l false d =
          let s = answer_sought f (len - m.at) m.at m.residual p 10 d in
          omega (arith, s.high)

  pub sample_stops : (n : ℕ) → refused n ≡ position_of ws t inv sp r → refused n ≡ sample_of ws t inv sp r
  unfolding sample_of
  sample_stops n e = rw (← e)

  pub sample_is : (p : ℕ) → answer p ≡ position_of ws t inv sp r → answer (sample_at t.origin p) ≡ sample_of ws t inv sp r
  unfolding sample_of
  sample_is p e = rw (← e)

-- ---- the positions of two ranks
module _ (ws : List ℕ) (t : Summary) (inv sp : List ℕ) (a b : ℕ) where
  pub dwell_stops : (n : ℕ) → refused n ≡ position_of ws t inv sp a → refused n ≡ dwell_at ws t inv sp a b
  unfolding dwell_at
  dwell_stops n e = rw (← e)

  pub dwell_stops_late : (p n : ℕ) → answer p ≡ position_of ws t inv sp a → refused n ≡ position_of ws t inv sp b
      → refused n ≡ dwell_at ws t inv sp a b
  unfolding dwell_at
  dwell_stops_late p n ea eb = rw (← ea, ← eb)

  pub dwell_both : (p q : ℕ) → answer p ≡ position_of ws t inv sp a → answer q ≡ position_of ws t inv sp b
      → dwell_by p q ≡ dwell_at ws t inv sp a b
  unfolding dwell_at
  dwell_both p q ea eb = rw (← ea, ← eb)

-- ---- a decoding
-- d is what is decoded of rank r
pub record ReadAs (t : Summary) (inv sp : List ℕ) (r : ℕ) (d : Decoded) : Type 0 where
  pub mark : mark_at t inv sp (entry_of_rank t r) (mark_number t inv r) ≡ answer d.mark
  pub is : d ≡ decoded_by t inv r d.mark

pub read_by : (t : Summary) (inv sp : List ℕ) (r : ℕ) (d : Decoded) → decode_of t inv sp r ≡ answer d → ReadAs t inv sp r d
unfolding decode_of
read_by t inv sp r d e =
    let a = then_answer (mark_at t inv sp (entry_of_rank t r) (mark_number t inv r)) _ d e in
    subst (λ (x : Decoded). ReadAs t inv sp r x) (answer_is a.2) (record { mark = a.1; is = refl })

-- where a number's place is in the spill, it is past the entry's own lanes
over_place : (s : Shape) (m c o i : ℕ) → is_over (place_by s m c o i) ≡ true
    → (k : ℕ) × (j : ℕ) × (place_by s m c o i ≡ over (o + k) j) × (near_by s m ≤ i)
over_place s m c o i e = go (ltb i s.from) (ltb i (near_by s m)) refl e
  where
    go : (a b : Bool) → ltb i (near_by s m) ≡ b
        → is_over (cond a start (cond b (own (c + (i - s.from) / s.lanes) ((i - s.from) % s.lanes)) (over (o + (i - near_by s m) / s.lanes) ((i - near_by s m) % s.lanes)))) ≡ true
        → (k : ℕ) × (j : ℕ) × (cond a start (cond b (own (c + (i - s.from) / s.lanes) ((i - s.from) % s.lanes)) (over (o + (i - near_by s m) / s.lanes) ((i - near_by s m) % s.lanes))) ≡ over (o + k) j) × (near_by s m ≤ i)
    go true b g f = cc
    go false true g f = cc
    go false false g f = ((i - near_by s m) / s.lanes, (i - near_by s m) % s.lanes, refl, ltb-false i (near_by s m) g)

module _ {t : Summary} {inv sp : List ℕ} {r : ℕ} {d : Decoded} (w : ReadAs t inv sp r d) where
  -- a spilled mark stands at or after the cell that the second cell numbers, and its number past the entry's own lanes
  over_at : d.spilled ≡ true
      → (k : ℕ) × (j : ℕ) × (place_at t inv (entry_of_rank t r) (mark_number t inv r) ≡ over (cell_at t inv (entry_of_rank t r) 1 + k) j) × (near_by (shape_at t inv (entry_of_rank t r)) (M t.plan) ≤ mark_number t inv r)
  unfolding place_at
  over_at e =
      let s = shape_at t inv (entry_of_rank t r) in
      over_place s (M t.plan) (entry_of_rank t r * stride t.plan + 1 + s.heads) (cell_at t inv (entry_of_rank t r) 1) (mark_number t inv r)
      (sym (ap (λ (x : Decoded). x.spilled) w.is) ∙ e)

  pub over_past : d.spilled ≡ true → near_by (shape_at t inv (entry_of_rank t r)) (M t.plan) ≤ mark_number t inv r
  over_past e = (over_at e).3

  pub over_low : d.spilled ≡ true → cell_at t inv (entry_of_rank t r) 1 < t.spill_len
  unfolding number_at
  over_low e =
      let o = over_at e in
      let m = mark_back t inv sp (entry_of_rank t r) (mark_number t inv r) d.mark w.mark in
      let n : number_at t inv sp (entry_of_rank t r) (over (cell_at t inv (entry_of_rank t r) 1 + o.0) o.1) ≡ answer m.0 = rw o.2 at
      m.1 in
      let f = not_refused (leb t.spill_len (cell_at t inv (entry_of_rank t r) 1 + o.0)) 10 _ m.0 n in
      omega (arith, leb-false t.spill_len (cell_at t inv (entry_of_rank t r) 1 + o.0) f.0)

-- ---- hint by what is decoded
module _ (t : Summary) (inv sp : List ℕ) (r : ℕ) where
  pub hint_decoded : (d : Decoded) → decode_of t inv sp r ≡ answer d
      → hint_sample t inv sp r ≡ answer (record { mark = sample_at t.origin d.mark; rank = r - d.residual })
  unfolding hint_at hint_sample
  hint_decoded d e = rw (← decoded_marks t inv sp r (answer d) (sym e))

  pub hint_undecoded : (k : ℕ) → refused k ≡ decode_of t inv sp r → refused k ≡ hint_sample t inv sp r
  hint_undecoded k e = hint_none t inv sp r k (decoded_marks t inv sp r (refused k) e)

  -- and the mark by the hint
  pub hint_back : (h : Hint) → hint_at t inv sp r ≡ answer h → mark_at t inv sp (entry_of_rank t r) (mark_number t inv r) ≡ answer h.mark
  unfolding hint_at mark_of_rank
  hint_back h e =
      let m = then_answer (mark_of_rank t inv sp r) _ h e in
      let p = then_answer (mark_at t inv sp (entry_of_rank t r) (mark_number t inv r)) _ m.0 m.1 in
      p.1 ∙ ap answer (ap (λ (x : Mark). x.at) (answer_is p.2) ∙ ap (λ (x : Hint). x.mark) (answer_is m.2))

  pub hint_mark : (h : Hint) → hint_at t inv sp r ≡ answer h
      → mark_of_rank t inv sp r
      ≡ answer (record { at = h.mark; residual = residual t inv r; exact = is_u64 (kind_at t inv (entry_of_rank t r)) })
  unfolding mark_of_rank
  hint_mark h e = rw (hint_back h e)
