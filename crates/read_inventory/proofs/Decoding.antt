-- Steps 2 to 6 as one decoding: an entry's cells lie in the inventory, and each return of `decode` is what is defined.
use mathlib.Core.Bool.{false}
use mathlib.Core.List.{List}
use mathlib.Core.Path.{◌≡◌, refl, sym, ap, ◌∙◌}
use Prim.Native.Nat.{ℕ, ◌+◌, ◌*◌, ◌/◌, ◌%◌, ◌^◌, ◌≤◌, ◌<◌}
use native.Mathlib.Nat.{add-zero, sub-zero, lt_of_lt_of_le, mod-lt, mul-le-mul_right}
use native.Mathlib.Omega.{arith}
use lib.ListN.{length, get_or}
use lib.Pow.{pow_pos, pow_mono, pow-add, shr_lt}
use borrow.Author.Tests.{le-leb, lt-leb}
use Rattle.rank_sel.specs.Outcome.{Outcome, answer, refused, and_then}
use Rattle.rank_sel.proofs.Outcome.{answer_is, not_refused, refused_holds, then_answer, then_refused, then_then}
use Rattle.spacing.specs.Spacing.{L, M, S}
use Rattle.inventory.specs.Index.{entries_of, stride, inventory_len_of}
use Rattle.inventory.specs.Lanes.{lane_of}
use Rattle.inventory.specs.Shape.{shape_of}
use Rattle.inventory.specs.declared.shape.Shape.{Shape}
use Rattle.inventory.specs.declared.shape.SpanType.TheVariants.{U16}
use Rattle.inventory.specs.declared.summary.Summary.{Summary}
use Rattle.inventory.proofs.Marks.{quantum_le}
use Rattle.inventory.proofs.Ranks.{rank_entry}
use Rattle.inventory.proofs.Shapes.{shaped}
use Rattle.read_inventory.specs.Read.{tagged, kind_at, span_at, quantum_at, shape_at, Place, place_at, number_at, span_too_small, mark_at, entry_of_rank, mark_number, residual, mark_of_rank}
use Rattle.read_inventory.specs.Steps.{head_of, EntryLent, is_over, number_of_mark, spacing_at, decoded_by, decode_of, mark_by}
use Rattle.read_inventory.specs.Tests.{Legible}
use Rattle.read_inventory.specs.declared.decode.Decoded.{Decoded}
use Rattle.read_inventory.specs.declared.decode.Head.{Head}
use Rattle.read_inventory.specs.declared.decode.Number.{Number}
use Rattle.read_inventory.specs.declared.decode.Spot.TheVariants.{Own}
use Rattle.read_inventory.proofs.Reading.{tagged_16, spot_own, head_read, kind_as, spacing_16, Spotted, own_in, number_own}
use Rattle.read_inventory.proofs.Passing.{Readable}

-- ---- an entry's cells are lent
pub entry_held : (t : Summary) (inv sp : List ℕ) (e : ℕ) → Legible t inv sp → e < entries_of t.plan → EntryLent t inv e
unfolding inventory_len_of
entry_held t inv sp e a l = record {
  small_m = a.lawful.small_m;
  within = omega (arith, mul-le-mul_right (stride t.plan) l, a.lawful.counted, a.held.own);
}

-- and so are those of the entry of a rank below N
pub entry_lent : (t : Summary) (inv sp : List ℕ) (r : ℕ) → Readable t inv sp r → EntryLent t inv (entry_of_rank t r)
entry_lent t inv sp r a = entry_held t inv sp (entry_of_rank t r) a.legible (rank_entry t.plan r a.below)

refused_is : {m n : ℕ} → ◌≡◌ {A = Outcome ℕ} (refused m) (refused n) → m ≡ n
refused_is e = cc

-- ---- what is decoded says the mark
module _ (t : Summary) (inv sp : List ℕ) (r : ℕ) where
  pub decoded_marks : (o : Outcome Decoded) → o ≡ decode_of t inv sp r → and_then o (λ d. answer (mark_by d)) ≡ mark_of_rank t inv sp r
  unfolding decode_of mark_of_rank
  decoded_marks o e =
      ap (λ (x : Outcome Decoded). and_then x (λ d. answer (mark_by d))) e
      ∙ then_then (mark_at t inv sp (entry_of_rank t r) (mark_number t inv r)) (λ p. answer (decoded_by t inv r p)) (λ d. answer (mark_by d))

-- ---- the spacing
pub quantum_at_low : (t : Summary) (inv : List ℕ) (e : ℕ) → quantum_at t inv e ≤ S t.plan
unfolding quantum_at
quantum_at_low t inv e = quantum_le (kind_at t inv e) (span_at t inv e) (S t.plan)

-- ---- the returns
-- h is the head of r's entry
pub record Headed (t : Summary) (inv sp : List ℕ) (r : ℕ) (h : Head) : Type 0 where
  pub readable : Readable t inv sp r
  pub read : h ≡ head_of t inv (entry_of_rank t r)

-- q is the entry's spacing, and sub the subrank of r
pub record Divided (t : Summary) (inv sp : List ℕ) (r : ℕ) (h : Head) (q sub : ℕ) : Type 0 where
  pub head : Headed t inv sp r h
  pub spacing : answer q ≡ spacing_at t inv h.entry
  pub subrank : sub ≡ r % 2 ^ L t.plan

-- the number n at a place
abbrev number_there : Place → ℕ → Number
number_there p n = record { value = n; spilled = is_over p }

-- n is the number of r's mark, and s is the entry's shape
pub record Numbered (t : Summary) (inv sp : List ℕ) (r : ℕ) (h : Head) (q sub : ℕ) (n : Number) (s : Shape) : Type 0 where
  pub divided : Divided t inv sp r h q sub
  pub number : answer n ≡ number_of_mark t inv sp h.entry (sub / 2 ^ q)
  pub shape : s ≡ shape_of h.kind h.start

module _ {t : Summary} {inv sp : List ℕ} {r : ℕ} {h : Head} (w : Headed t inv sp r h) where
  entry_is : h.entry ≡ entry_of_rank t r
  entry_is = ap (λ (x : Head). x.entry) w.read

  pub reading_small : (k : ℕ) → refused k ≡ spacing_at t inv h.entry → refused k ≡ decode_of t inv sp r
  unfolding decode_of mark_at spacing_at
  reading_small k f =
      let b = refused_holds (span_too_small (kind_at t inv h.entry) (span_at t inv h.entry)) 10 (quantum_at t inv h.entry) k (sym f) in
      let d : k ≡ 10 = refused_is (f ∙ rw b) in
      simp (d, rw entry_is at b)

module _ {t : Summary} {inv sp : List ℕ} {r : ℕ} {h : Head} {q sub : ℕ} (w : Divided t inv sp r h q sub) where
  spaced_is : (span_too_small (kind_at t inv (entry_of_rank t r)) (span_at t inv (entry_of_rank t r)) ≡ false) × (q ≡ quantum_at t inv (entry_of_rank t r))
  unfolding spacing_at
  spaced_is =
      let f = not_refused (span_too_small (kind_at t inv (entry_of_rank t r)) (span_at t inv (entry_of_rank t r))) 10
      (answer (quantum_at t inv (entry_of_rank t r))) q
      (sym (rw (entry_is w.head) at w.spacing)) in
      (f.0, sym (answer_is f.1))

  pub quantum_low : q < 64
  quantum_low =
      let a = w.head.readable in
      omega (arith, spaced_is.1, quantum_at_low t inv (entry_of_rank t r), a.legible.lawful.spaced, a.legible.lawful.small_l)

  number_is : sub / 2 ^ q ≡ mark_number t inv r
  unfolding mark_number
  number_is = simp (w.subrank, spaced_is.1)

  pub reading_none : (k : ℕ) → refused k ≡ number_of_mark t inv sp h.entry (sub / 2 ^ q) → refused k ≡ decode_of t inv sp r
  unfolding decode_of mark_at
  reading_none k f =
      let p = place_at t inv (entry_of_rank t r) (mark_number t inv r) in
      let g = (then_refused (number_at t inv sp (entry_of_rank t r) p) (number_there p) k).0 (sym (rw (entry_is w.head, number_is) at f)) in
      simp (spaced_is.0, g)

module _ {t : Summary} {inv sp : List ℕ} {r : ℕ} {h : Head} {q sub : ℕ} {n : Number} {s : Shape} (w : Numbered t inv sp r h q sub n s) where
  abbrev place : Place
  place = place_at t inv (entry_of_rank t r) (mark_number t inv r)

  found : (number_at t inv sp (entry_of_rank t r) place ≡ answer n.value) × (n.spilled ≡ is_over place)
  found =
      let f = rw (entry_is w.divided.head, number_is w.divided) at w.number in
      let a = then_answer (number_at t inv sp (entry_of_rank t r) place) (λ m. answer (number_there place m)) n (sym f) in
      let d = answer_is a.2 in
      (a.1 ∙ ap (λ (x : Number). answer x.value) d, sym (ap (λ (x : Number). x.spilled) d))

  shape_is : s ≡ shape_at t inv (entry_of_rank t r)
  unfolding shape_at
  shape_is = w.shape ∙ ap (λ (x : Head). shape_of x.kind x.start) w.divided.head.read

  pub reading_past : t.plan.len ≤ s.base + n.value → refused 10 ≡ decode_of t inv sp r
  unfolding decode_of mark_at
  reading_past l = simp ((spaced_is w.divided).0, found.0, ← shape_is, le-leb t.plan.len (s.base + n.value) l)

  pub reading_is : s.base + n.value < t.plan.len → (res : ℕ) → res ≡ sub % 2 ^ q
      → answer (record { head = h; log2_quantum = q; mark = s.base + n.value; residual = res; spilled = n.spilled }) ≡ decode_of t inv sp r
  unfolding decode_of mark_at residual
  reading_is l res er =
      simp (
        (spaced_is w.divided).0,
        found.0,
        ← shape_is,
        lt-leb t.plan.len (s.base + n.value) l,
        er,
        w.divided.subrank,
        w.divided.head.read,
        (spaced_is w.divided).1,
        found.1,
      )

-- ---- a U16 entry
-- c is the number of the first cell of r's entry, which is U16, and sub the subrank of r
pub record Quartered (t : Summary) (inv sp : List ℕ) (r c sub : ℕ) : Type 0 where
  pub readable : Readable t inv sp r
  pub cell : c ≡ entry_of_rank t r * stride t.plan
  pub kind : U16 ≡ tagged (get_or inv c 0 / 2 ^ 62)
  pub subrank : sub ≡ r % 2 ^ L t.plan

abbrev head_u16 : List ℕ → ℕ → ℕ → Head
head_u16 inv e c = record { entry = e; cell = c; kind = U16; start = get_or inv c 0 }

module _ {t : Summary} {inv sp : List ℕ} {r c sub : ℕ} (w : Quartered t inv sp r c sub) where
  quarter_head : Headed t inv sp r (head_u16 inv (entry_of_rank t r) c)
  quarter_head = record { readable = w.readable; read = head_read t inv (entry_of_rank t r) c U16 (get_or inv c 0) w.cell w.kind refl }

  -- its marks all stand in its own cells
  quarter_near : sub / 2 ^ S t.plan < 2 ^ M t.plan * 4
  quarter_near =
      let l : sub < 2 ^ (M t.plan + 2 + S t.plan) = lt_of_lt_of_le (omega (arith, w.subrank, mod-lt r (pow_pos (L t.plan))))
      (pow_mono {i = L t.plan} {j = M t.plan + 2 + S t.plan} (omega (arith, w.readable.legible.lawful.spaced))) in
      rw pow-add at (shr_lt (M t.plan + 2) (S t.plan) l)

  quarter_spot : Spotted t inv (entry_of_rank t r) (sub / 2 ^ S t.plan) (head_u16 inv (entry_of_rank t r) c) (shape_of U16 (get_or inv c 0)) (Own (sub / 2 ^ S t.plan / 4) (sub / 2 ^ S t.plan % 4))
  quarter_spot = record {
    head = quarter_head.read;
    shape = refl;
    place =
        simp sub-zero at
        (spot_own (shape_of U16 (get_or inv c 0)) (M t.plan) (sub / 2 ^ S t.plan) (shaped U16 (get_or inv c 0)) (2 ^ M t.plan)
        refl (omega arith) (omega (arith, quarter_near)) _ refl);
    lent = entry_lent t inv sp r w.readable;
  }

  pub quarter_in : c + 1 + sub / 2 ^ S t.plan / 4 < length inv
  quarter_in = simp add-zero at (own_in quarter_spot _ _ refl)

  module _ (n : ℕ) (en : n ≡ lane_of 16 (get_or inv (c + 1 + sub / 2 ^ S t.plan / 4) 0) (sub / 2 ^ S t.plan % 4)) where
    pub quarter_fits : get_or inv c 0 + n < 2 ^ 64
    unfolding lane_of
    quarter_fits = omega (arith, en, tagged_16 (get_or inv c 0 / 2 ^ 62) (sym w.kind))

    quarter_number : Numbered t inv sp r (head_u16 inv (entry_of_rank t r) c) (S t.plan) sub (record { value = n; spilled = false })
        (shape_of U16 (get_or inv c 0))
    quarter_number = record {
      divided = record {
        head = quarter_head;
        spacing = spacing_16 t inv (entry_of_rank t r) (kind_as t inv (entry_of_rank t r) _ U16 quarter_head.read refl);
        subrank = w.subrank;
      };
      number = number_own quarter_spot sp _ _ n refl (simp add-zero en);
      shape = refl;
    }

    pub quarter_past : t.plan.len ≤ get_or inv c 0 + n → refused 10 ≡ mark_of_rank t inv sp r
    quarter_past l = decoded_marks t inv sp r (refused 10) (reading_past quarter_number l)

    pub quarter_is : get_or inv c 0 + n < t.plan.len → (res : ℕ) → res ≡ sub % 2 ^ S t.plan
        → answer (record { at = get_or inv c 0 + n; residual = res; exact = false }) ≡ mark_of_rank t inv sp r
    quarter_is l res er = decoded_marks t inv sp r _ (reading_is quarter_number l res er)
