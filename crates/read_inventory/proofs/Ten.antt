-- 10 is the only refusal of a number, of a mark, of a decoded rank and of a position: the steps of a call, past its tests, say no other.
use mathlib.Core.Bool.{Bool, true, false, cond}
use mathlib.Core.List.{List}
use mathlib.Core.Option.{Option, none, some}
use mathlib.Core.Path.{◌≡◌, sym, ap, ◌∙◌}
use Prim.Native.Nat.{ℕ, ◌+◌, ◌-◌}
use lib.Dec.{leb}
use lib.ListN.{get_or}
use Rattle.std.specs.Prelude.{Result, Err}
use Rattle.rank_sel.specs.Outcome.{Outcome, answer, refused, refuse_if, or_refuse, and_then, outcome}
use Rattle.rank_sel.specs.Seek.{seek}
use Rattle.rank_sel.specs.declared.Refusal.{Refusal}
use Rattle.bit_record.specs.Record.{selected}
use Rattle.inventory.specs.Lanes.{lane_of}
use Rattle.inventory.specs.declared.summary.Summary.{Summary}
use Rattle.read_inventory.specs.Read.{Place, start, own, over, place_at, shape_at, span_at, kind_at, number_at, span_too_small, mark_at, entry_of_rank, mark_number, mark_of_rank, position_of, Only10}
use Rattle.read_inventory.specs.Steps.{decode_of}

-- ---- by steps
pub ten_answer : {A : Type 0} (a : A) → Only10 (answer a)
ten_answer a n e = cc

pub ten_refuse : {A : Type 0} (b : Bool) (o : Outcome A) → Only10 o → Only10 (refuse_if b 10 o)
ten_refuse true o h n e = cc
ten_refuse false o h n e = h n e

pub ten_or : {A : Type 0} (o : Option A) → Only10 (or_refuse 10 o)
ten_or none n e = cc
ten_or (some a) n e = ten_answer a n e

pub ten_then : {A B : Type 0} (o : Outcome A) (go : A → Outcome B) → Only10 o → ((a : A) → Only10 (go a)) → Only10 (and_then o go)
ten_then (answer a) go h k n e = k a n e
ten_then (refused m) go h k n e = h n (let d : m ≡ n = cc in ap refused d)

pub ten_cond : {A : Type 0} (b : Bool) (x y : Outcome A) → Only10 x → Only10 y → Only10 (cond b x y)
ten_cond true x y h k = h
ten_cond false x y h k = k

-- ---- of what is read
ten_number : (t : Summary) (inv sp : List ℕ) (e : ℕ) (l : Place) → Only10 (number_at t inv sp e l)
unfolding number_at
ten_number t inv sp e start = ten_answer _
ten_number t inv sp e (own c j) = ten_answer _
ten_number t inv sp e (over c j) =
    ten_refuse (leb t.spill_len c) (answer (lane_of (shape_at t inv e).width (get_or sp c 0) j)) (ten_answer _)

ten_mark : (t : Summary) (inv sp : List ℕ) (e i : ℕ) → Only10 (mark_at t inv sp e i)
unfolding mark_at
ten_mark t inv sp e i =
    ten_refuse (span_too_small (kind_at t inv e) (span_at t inv e)) _
    (ten_then (number_at t inv sp e (place_at t inv e i)) _ (ten_number t inv sp e (place_at t inv e i))
    (λ n. ten_refuse (leb t.plan.len ((shape_at t inv e).base + n)) (answer ((shape_at t inv e).base + n)) (ten_answer _)))

module _ (t : Summary) (inv sp : List ℕ) (r : ℕ) where
  pub ten_decoded : Only10 (decode_of t inv sp r)
  unfolding decode_of
  ten_decoded =
      ten_then (mark_at t inv sp (entry_of_rank t r) (mark_number t inv r)) _ (ten_mark t inv sp (entry_of_rank t r) (mark_number t inv r))
      (λ p. ten_answer _)

  pub ten_rank : Only10 (mark_of_rank t inv sp r)
  unfolding mark_of_rank
  ten_rank =
      ten_then (mark_at t inv sp (entry_of_rank t r) (mark_number t inv r)) _ (ten_mark t inv sp (entry_of_rank t r) (mark_number t inv r))
      (λ p. ten_answer _)

  pub ten_position : (ws : List ℕ) → Only10 (position_of ws t inv sp r)
  unfolding position_of
  ten_position ws =
      ten_then (mark_of_rank t inv sp r) _ ten_rank
      (λ m. ten_cond m.exact _ _ (ten_answer m.at)
      (ten_or (seek (selected t.plan.polarity ws t.plan.len) (t.plan.len - m.at) m.at m.residual)))

-- ---- so an error is 10, by whatever it was read
refused_ten : {A : Type 0} (o : Outcome A) → Only10 o → (n : ℕ) → refused n ≡ o → refused 10 ≡ o
refused_ten o h n e = ap refused (sym (h n (sym e))) ∙ e

pub ten_err : {A : Type 0} {o : Outcome A} → Only10 o → (x : Result A Refusal) (e : Refusal) → x ≡ Err e → outcome x ≡ o → refused 10 ≡ o
ten_err {o = o} h x e is told = refused_ten o h _ (sym (ap outcome is) ∙ told)
