-- What a reader reads from the index is what was reckoned: the first cell says kind and start, the next one the span, and
-- each lane its mark. And a cell is what is read from it.
use mathlib.Core.Path.{◌≡◌, refl, sym, ap, ◌∙◌, subst}
use mathlib.Core.Logic.{⊎_elim}
use mathlib.Core.Bool.{Bool, true, false, cond}
use mathlib.Core.List.{List}
use Prim.Native.Nat.{ℕ, zero, suc, ◌+◌, ◌-◌, ◌*◌, ◌/◌, ◌%◌, ◌^◌, ◌≤◌, ◌<◌}
use native.Mathlib.Nat.{add-mul, div-add-mod', mod-lt, mod-eq_of_lt, div-lt_iff_lt-mul}
use native.Mathlib.Omega.{arith}
use lib.Arith.{digits_div, digits_mod, digits_lt}
use lib.Dec.{leb}
use lib.ListN.{get_or}
use lib.Pow.{pow_pos}
use borrow.Author.Tests.{lt-ltb, le-ltb, lt-leb, leb-false}
use Rattle.rank_sel.specs.Outcome.{answer}
use Rattle.std.proofs.lemmas.Bool.{cases_lt}
use Rattle.rank_sel.proofs.Outcome.{answer_is, not_refused}
use Rattle.spacing.specs.Spacing.{L, M, S}
use Rattle.spacing.specs.declared.Parameters.{Parameters}
use Rattle.inventory.specs.Index.{entries_of, stride, ranks_of, mark, lane, packed, start_of, span_of, kind_of, entry_of, spill_start, summary_of}
use Rattle.inventory.specs.Lanes.{lane_of}
use Rattle.inventory.specs.Shape.{near_by, from_span, shape_of}
use Rattle.inventory.specs.declared.entry.Entry.{Entry}
use Rattle.inventory.specs.declared.shape.Shape.{Shape}
use Rattle.inventory.specs.declared.shape.SpanType.{SpanType}
use Rattle.inventory.specs.declared.shape.SpanType.TheVariants.{U16, U32, U64}
use Rattle.inventory.specs.declared.summary.Summary.{Summary}
use Rattle.inventory.proofs.Marks.{Rising, Streamable, entry_streamable, lane_in, lane_past, lane_lt, mark_first, bound_small}
use Rattle.inventory.proofs.Entries.{entry_by_lem, first_mark, some_lanes, spill_heads, in_mark, marks_placed}
use Rattle.inventory.proofs.Index.{spill_start_more, spill_start_mono}
use Rattle.inventory.proofs.Placed.{own_first, own_second, own_cell, spill_cell, Placed}
use Rattle.inventory.proofs.Ranks.{entry_below, ranks_most}
use Rattle.inventory.proofs.Unpack.{pack-lane}
use Rattle.read_inventory.specs.Read.{tagged, start_by, cell_at, kind_at, start_at, span_at, quantum_at, shape_at, own, over, place_by, place_at, number_at, span_too_small, mark_at, mark_number, residual, is_u64, mark_of_rank, hint_at}

-- ---- the first cell
tag_back : (k : SpanType) (s : ℕ) → s < 2 ^ 62 → tagged ((s + (shape_of k s).tag) / 2 ^ 62) ≡ k
tag_back U16 s h = let d : (s + 0) / 2 ^ 62 ≡ 0 = omega arith in rw d
tag_back U32 s h = let d : (s + 2 ^ 63) / 2 ^ 62 ≡ 2 = omega arith in rw d
tag_back U64 s h = let d : (s + (2 ^ 63 + 2 ^ 62)) / 2 ^ 62 ≡ 3 = omega arith in rw d

start_back : (k : SpanType) (s : ℕ) → s < 2 ^ 62 → start_by k (s + (shape_of k s).tag) ≡ s
start_back U16 s h = omega arith
start_back U32 s h = omega arith
start_back U64 s h = omega arith

low_back : (k : SpanType) (s : ℕ) → s < 2 ^ 62 → (s + (shape_of k s).tag) % 2 ^ 62 ≡ s
low_back U16 s h = omega arith
low_back U32 s h = omega arith
low_back U64 s h = omega arith

-- a U32 span is not too small
pub span_fits : (span : ℕ) → span_too_small (from_span span) span ≡ false
span_fits span = go (leb span 65536) refl (leb span (2 ^ 32))
  where
    go : (a : Bool) → leb span 65536 ≡ a → (b : Bool) → span_too_small (cond a U16 (cond b U32 U64)) span ≡ false
    go true d b = refl
    go false d true = le-ltb span 65537 (leb-false span 65536 d)
    go false d false = refl

module _ (pos : ℕ → ℕ) (p : Parameters) (g : Rising pos p) (spaced : S p ≡ L p - M p - 2) where
  start_small : (e : ℕ) → start_of pos p e < 2 ^ 62
  unfolding start_of
  start_small e = bound_small pos p g (e * 2 ^ L p)

  -- from any origin on: what the cells say goes by none
  module _ (origin : ℕ) (inv sp : List ℕ) (w : Placed pos p inv sp) where
    abbrev t : Summary
    t = summary_of pos p origin

    first_cell : (e : ℕ) → e < entries_of p
        → get_or inv (e * stride p + 0) 0 ≡ start_of pos p e + (shape_of (kind_of pos p e) (start_of pos p e)).tag
    first_cell e h = w.own e 0 h (omega arith)
        ∙ own_first pos (entry_of pos p e) (entry_streamable pos p g e (entry_below p e h)).shaped.heads (spill_start pos p e) (2 ^ M p)
        ∙ ap (λ (x : Entry). x.start + x.shape.tag) (entry_by_lem pos p e)

    low_cell : (e : ℕ) → e ≤ entries_of p → get_or inv (e * stride p + 0) 0 % 2 ^ 62 ≡ start_of pos p e
    low_cell e h = ⊎_elim
        (λ (l : e < entries_of p). rw (first_cell e l) (low_back (kind_of pos p e) (start_of pos p e) (start_small e)))
        (λ (l : entries_of p ≤ e).
        let d : e ≡ entries_of p = omega arith in
        let c : get_or inv (entries_of p * stride p + 0) 0 ≡ start_of pos p (entries_of p) = ap (λ (n : ℕ). get_or inv n 0) (omega arith)
        ∙ w.closing in
        rw (d, c) (mod-eq_of_lt (start_small (entries_of p))))
        (cases_lt e (entries_of p))

    module _ (e : ℕ) (h : e < entries_of p) where
      abbrev x : Entry
      x = entry_of pos p e

      streams : Streamable pos p x
      streams = entry_streamable pos p g e (entry_below p e h)

      -- ---- the entry as read
      pub kind_read : kind_at t inv e ≡ kind_of pos p e
      unfolding kind_at cell_at summary_of
      kind_read = rw (first_cell e h) (tag_back (kind_of pos p e) (start_of pos p e) (start_small e))

      pub start_read : start_at t inv e ≡ start_of pos p e
      unfolding start_at cell_at summary_of
      start_read = rw (kind_read, first_cell e h) (start_back (kind_of pos p e) (start_of pos p e) (start_small e))

      pub span_read : span_at t inv e ≡ span_of pos p e
      unfolding span_at span_of cell_at summary_of
      span_read =
          let n : e * stride p + stride p ≡ (e + 1) * stride p + 0 = omega (arith, add-mul e 1 (stride p)) in
          rw (start_read, n, low_cell (e + 1) (omega arith))

      pub quantum_read : quantum_at t inv e ≡ x.log2_quantum
      unfolding quantum_at summary_of
      quantum_read = rw (kind_read, span_read, entry_by_lem pos p e)

      pub shape_read : shape_at t inv e ≡ x.shape
      unfolding shape_at
      shape_read = rw (kind_read, start_read, entry_by_lem pos p e)

      pub second_read : x.shape.heads ≡ 1 → cell_at t inv e 1 ≡ spill_start pos p e
      unfolding cell_at summary_of
      second_read d =
          w.own e 1 h (omega (arith, pow_pos (M p))) ∙ own_second pos x streams.shaped.heads (spill_start pos p e) (2 ^ M p) d

      -- ---- numbers
      -- the lanes of the entry's own cells
      abbrev near : ℕ
      near = near_by x.shape (M p)

      abbrev lanes : ℕ
      lanes = x.shape.lanes

      -- lane j of a packed cell
      packed-lane : (i j : ℕ) → j < lanes → lane_of x.shape.width (packed pos x i) j ≡ lane pos x (i + j)
      unfolding packed
      packed-lane i j l = pack-lane x.shape.width (λ t. lane pos x (i + t)) (λ t. lane_lt pos p x streams (i + t)) lanes j l

      -- lane number i of the cells that begin with lane number a
      lane_of_lem : (a i : ℕ) → a ≤ i → lane_of x.shape.width (packed pos x (a + (i - a) / lanes * lanes)) ((i - a) % lanes) ≡ lane pos x i
      lane_of_lem a i l =
          packed-lane (a + (i - a) / lanes * lanes) ((i - a) % lanes) (mod-lt (i - a) (some_lanes pos p e))
          ∙ ap (lane pos x) (omega (arith, div-add-mod' (i - a) lanes))

      own_number : (i : ℕ) → x.shape.from ≤ i → i < near
          → lane_of x.shape.width (get_or inv (e * stride p + 1 + x.shape.heads + (i - x.shape.from) / lanes) 0) ((i - x.shape.from) % lanes) ≡ lane pos x i
      own_number i l b =
          let j : ℕ = (i - x.shape.from) / lanes in
          let k : j < 2 ^ M p - x.shape.heads = (div-lt_iff_lt-mul (some_lanes pos p e)).1 (omega arith) in
          let c : get_or inv (e * stride p + 1 + x.shape.heads + j) 0 ≡ packed pos x (x.shape.from + j * lanes) =
          ap (λ (n : ℕ). get_or inv n 0) (omega arith) ∙ w.own e (1 + x.shape.heads + j) h (omega arith)
          ∙ own_cell pos x streams.shaped.heads (spill_start pos p e) (2 ^ M p) j k in
          rw c (lane_of_lem x.shape.from i l)

      over_number : (i : ℕ) → near ≤ i → (i - near) / lanes < x.spilled
          → lane_of x.shape.width (get_or sp (spill_start pos p e + (i - near) / lanes) 0) ((i - near) % lanes) ≡ lane pos x i
      over_number i l b = rw (w.over e ((i - near) / lanes) h b, spill_cell pos x (2 ^ M p) ((i - near) / lanes) b) (lane_of_lem near i l)

      spill_in_lem : (j : ℕ) → j < x.spilled → spill_start pos p e + j < spill_start pos p (entries_of p)
      spill_in_lem j l = omega (arith, spill_start_more pos p e, spill_start_mono pos p (e + 1) (entries_of p) (omega arith))

      -- number i as read is lane i
      pub number_read : (i : ℕ) → x.shape.from ≤ i → i < near + x.spilled * lanes
          → number_at t inv sp e (place_at t inv e i) ≡ answer (lane pos x i)
      unfolding place_at summary_of
      number_read i l b = rw (shape_read, le-ltb i x.shape.from l) (⊎_elim
          (λ (k : i < near). rw (lt-ltb i near k) (unfold number_at in (rw shape_read (ap answer (own_number i l k)))))
          (λ (k : near ≤ i).
          let q : (i - near) / lanes < x.spilled = (div-lt_iff_lt-mul (some_lanes pos p e)).1 (omega arith) in
          rw (le-ltb i near k, second_read (spill_heads pos p e ((i - near) / lanes) q))
          (unfold number_at in (rw (
            lt-leb (spill_start pos p (entries_of p)) (spill_start pos p e + (i - near) / lanes) (spill_in_lem ((i - near) / lanes) q),
            shape_read,
          )
          (ap answer (over_number i k q)))))
          (cases_lt i near))

      -- ---- marks
      mark-zero : mark pos x 0 ≡ start_of pos p e
      mark-zero = sym (mark_first pos x streams.begins) ∙ ap (λ (y : Entry). y.start) (entry_by_lem pos p e)

      -- before the first lane stands mark 0, which is the start
      first_number : (i : ℕ) → i < x.shape.from → (i ≡ 0) × (x.shape.base ≡ 0)
      first_number i =
          subst (λ (y : Entry). i < y.shape.from → (i ≡ 0) × (y.shape.base ≡ 0)) (sym (entry_by_lem pos p e))
          (first_mark (kind_of pos p e) (start_of pos p e) i)

      mark_below : (i : ℕ) → i < x.marks → mark pos x i < p.len
      unfolding mark
      mark_below i l = g.below (x.first + i * 2 ^ x.log2_quantum) (streams.within i l)

      start_number : (i : ℕ) → i < x.shape.from → number_at t inv sp e (place_at t inv e i) ≡ answer (start_of pos p e)
      unfolding place_at number_at
      start_number i k = rw (shape_read, lt-ltb i x.shape.from k, start_read)

      mark_number_lem : (i : ℕ) → i < x.marks
          → (n : ℕ) × (number_at t inv sp e (place_at t inv e i) ≡ answer n) × (x.shape.base + n ≡ mark pos x i)
      mark_number_lem i l = ⊎_elim
          (λ (k : i < x.shape.from).
          let f = first_number i k in
          (start_of pos p e, start_number i k, omega (arith, f.1, mark-zero, ap (mark pos x) f.0)))
          (λ (k : x.shape.from ≤ i). (
            lane pos x i,
            number_read i k (marks_placed pos p e spaced i l),
            omega (arith, lane_in pos x i l, streams.low i l),
          ))
          (cases_lt i x.shape.from)

      span_lawful : span_too_small (kind_of pos p e) (span_of pos p e) ≡ false
      unfolding kind_of
      span_lawful = span_fits (span_of pos p e)

      -- mark i as read is mark i as reckoned: no refusal
      pub mark_read : (i : ℕ) → i < x.marks → mark_at t inv sp e i ≡ answer (mark pos x i)
      unfolding mark_at summary_of
      mark_read i l =
          let n = mark_number_lem i l in
          rw (kind_read, span_read, span_lawful, n.1, shape_read, n.2, lt-leb p.len (mark pos x i) (mark_below i l))

      -- an entry has a mark
      some_marks : 0 < x.marks
      unfolding ranks_of
      some_marks = omega (arith, in_mark pos p e 0 (omega (arith, entry_below p e h, pow_pos (L p))))

      -- unused lanes are zero
      pub unused_read : (i : ℕ) → x.marks ≤ i → i < near + x.spilled * lanes → number_at t inv sp e (place_at t inv e i) ≡ answer 0
      unused_read i m b = number_read i (omega (arith, streams.shaped.from, some_marks)) b ∙ ap answer (lane_past pos x i m)

      -- subrank s: the mark before it, and the mark's rank
      abbrev q : ℕ
      q = x.log2_quantum

      rank_read : (s : ℕ) → s < ranks_of p e
          → mark_of_rank t inv sp (e * 2 ^ L p + s)
          ≡ answer (record { at = mark pos x (s / 2 ^ q); residual = s % 2 ^ q; exact = is_u64 (kind_of pos p e) })
      unfolding mark_of_rank mark_number residual summary_of
      rank_read s l =
          let small : s < 2 ^ L p = omega (arith, ranks_most p e) in
          rw (digits_div e small, digits_mod e small, quantum_read, mark_read (s / 2 ^ q) (in_mark pos p e s l), kind_read)

      pub hint_read : (s : ℕ) → s < ranks_of p e
          → hint_at t inv sp (e * 2 ^ L p + s) ≡ answer (record { mark = mark pos x (s / 2 ^ q); rank = e * 2 ^ L p + s / 2 ^ q * 2 ^ q })
      unfolding hint_at
      hint_read s l =
          let n : e * 2 ^ L p + s - s % 2 ^ q ≡ e * 2 ^ L p + s / 2 ^ q * 2 ^ q = omega (arith, div-add-mod' s (2 ^ q)) in
          rw (rank_read s l, n)

-- ---- and back: the cells, by what is read from them
-- a first cell is the start and the tag of the kind that it says
cell_back : (d c s : ℕ) → c / 2 ^ 62 ≡ d → c < 2 ^ 64 → start_by (tagged d) c + (shape_of (tagged d) s).tag ≡ c
cell_back zero c s e h = omega arith
cell_back (suc zero) c s e h = omega arith
cell_back (suc (suc zero)) c s e h = omega arith
cell_back (suc (suc (suc d))) c s e h = omega arith

pub first_back : (t : Summary) (inv : List ℕ) (e s : ℕ) → cell_at t inv e 0 < 2 ^ 64
    → start_at t inv e + (shape_of (kind_at t inv e) s).tag ≡ cell_at t inv e 0
unfolding start_at kind_at
first_back t inv e s h = cell_back (cell_at t inv e 0 / 2 ^ 62) (cell_at t inv e 0) s refl h

-- the number of lane u in cell j of the entry's own, or of its spilled ones
module _ (x : Shape) (m c o j u : ℕ) (l : u < x.lanes) where
  place_own : j < 2 ^ m - x.heads → place_by x m c o (x.from + j * x.lanes + u) ≡ own (c + j) u
  place_own h =
      let i : ℕ = x.from + j * x.lanes + u in
      let n : i - x.from ≡ j * x.lanes + u = omega arith in
      let b : i < near_by x m = omega (arith, digits_lt {q = j} {m = 2 ^ m - x.heads} {r = u} {c = x.lanes} h l) in
      rw (le-ltb i x.from (omega arith), lt-ltb i (near_by x m) b, n, digits_div j l, digits_mod j l)

  place_over : place_by x m c o (near_by x m + j * x.lanes + u) ≡ over (o + j) u
  place_over =
      let i : ℕ = near_by x m + j * x.lanes + u in
      let n : i - near_by x m ≡ j * x.lanes + u = omega arith in
      rw (le-ltb i x.from (omega arith), le-ltb i (near_by x m) (omega arith), n, digits_div j l, digits_mod j l)

module _ (t : Summary) (inv sp : List ℕ) (e j u n : ℕ) where
  abbrev shape : Shape
  shape = shape_at t inv e

  pub own_back : u < shape.lanes → j < 2 ^ M t.plan - shape.heads
      → number_at t inv sp e (place_at t inv e (shape.from + j * shape.lanes + u)) ≡ answer n
      → lane_of shape.width (get_or inv (e * stride t.plan + 1 + shape.heads + j) 0) u ≡ n
  unfolding place_at number_at
  own_back l h d = answer_is (sym (ap (number_at t inv sp e) (place_own shape (M t.plan) _ _ j u l h)) ∙ d)

  pub over_back : u < shape.lanes → number_at t inv sp e (place_at t inv e (near_by shape (M t.plan) + j * shape.lanes + u)) ≡ answer n
      → lane_of shape.width (get_or sp (cell_at t inv e 1 + j) 0) u ≡ n
  unfolding place_at number_at
  over_back l d =
      answer_is (not_refused (leb t.spill_len (cell_at t inv e 1 + j)) 10 _ n
      (sym (ap (number_at t inv sp e) (place_over shape (M t.plan) _ _ j u l)) ∙ d)).1
