-- Cells that hold the index have demand 3: what is read from them is what was reckoned, and that is algebra on ranks.
use mathlib.Core.Bool.{Bool, true, false, cond}
use mathlib.Core.List.{List}
use mathlib.Core.Logic.{⊎_elim}
use mathlib.Core.Path.{◌≡◌, refl, sym, ap, ap₂, ◌∙◌, subst}
use Prim.Native.Nat.{ℕ, suc, ◌+◌, ◌-◌, ◌*◌, ◌/◌, ◌%◌, ◌^◌, ◌≤◌, ◌<◌, max}
use native.Mathlib.Nat.{add-mul, mul-div_cancel, div-add-mod', mod-lt, div-eq_of_lt-le}
use native.Mathlib.Omega.{arith}
use lib.Dec.{ltb}
use lib.ListN.{length, get_or}
use lib.Pow.{pow_pos}
use borrow.Author.Tests.{le-ltb}
use Rattle.rank_sel.specs.Outcome.{answer}
use Rattle.rank_sel.specs.Rank.{rank}
use Rattle.std.proofs.lemmas.Bool.{cases_lt}
use Rattle.rank_sel.proofs.Rank.{rank_one}
use Rattle.rank_sel.proofs.Select.{select_sought, select-rank, select_below, select_le}
use Rattle.bit_record.specs.Record.{selected, num_selected, bit_of, sample_at}
use Rattle.bit_record.specs.declared.Polarity.{Polarity}
use Rattle.spacing.specs.Spacing.{N, L, plan_of}
use Rattle.spacing.specs.declared.Choice.{Choice}
use Rattle.spacing.specs.declared.Parameters.{Parameters}
use Rattle.spacing.proofs.Facts.{PlanFacts, plan_facts, plan_num}
use Rattle.inventory.specs.Index.{entries_of, inventory_len_of, ranks_of, mark, bound, start_of, spill_start, summary_of}
use Rattle.inventory.specs.declared.summary.Summary.{Summary}
use Rattle.inventory.proofs.Marks.{Rising, rising, start_here}
use Rattle.inventory.proofs.Placed.{Placed}
use Rattle.inventory.proofs.Entries.{kind_heads, kind_spills, first_rank, mark_in}
use Rattle.inventory.proofs.Ranks.{entry_below, in_entry, rank_entry, rank_sub, rank_in}
use Rattle.inventory.proofs.Sums.{tile, tile_one}
use Rattle.build_inventory.specs.Positions.{pos_in}
use Rattle.read_inventory.specs.Read.{start_at, hint_at}
use Rattle.read_inventory.proofs.ReadBack.{kind_read, start_read, quantum_read, second_read, unused_read, hint_read}
use Rattle.edge_index.specs.Sound.{Bit, EntryHolds, q_of, marks_of, spilled_of, mark_rank, next_rank, Met, Sound}

-- each rank lies in one entry
pub holds_rank : (p : Parameters) (r : ℕ) → r < N p → EntryHolds p (r / 2 ^ L p) r
holds_rank p r h =
    let d = div-add-mod' r (2 ^ L p) in
    let m = mod-lt r (pow_pos (L p)) in
    record { from = omega arith; to = omega (arith, add-mul (r / 2 ^ L p) 1 (2 ^ L p)) }

pub holds_one : (p : Parameters) (r e : ℕ) → EntryHolds p e r → r / 2 ^ L p ≡ e
holds_one p r e h = div-eq_of_lt-le (2 ^ L p) h.from (omega arith)

module _ (ws : List ℕ) (len : ℕ) (pol : Polarity) (choice : Choice) (p : Parameters) (planned : plan_of ws len pol choice ≡ answer p) where
  abbrev f : ℕ → Bool
  f = selected pol ws len

  abbrev pos : ℕ → ℕ
  pos = bit_of ws len pol

  facts : PlanFacts ws len pol p
  facts = plan_facts ws len pol choice p planned

  -- the plan's polarity and len are the record's
  pub pos_same : pos_in ws p ≡ pos
  pos_same = ap₂ (λ (o : Polarity) (l : ℕ). bit_of ws l o) facts.polarity facts.length

  g : Rising pos p
  g = subst (λ (h : ℕ → ℕ). Rising h p) pos_same (rising ws p facts.of)

  -- the bit of a rank below N
  num : (r : ℕ) → r < N p → r < rank f len
  unfolding num_selected
  num r h = omega (arith, plan_num ws len pol p facts)

  bits : (r : ℕ) → r < N p → Bit ws len pol r (pos r)
  bits r h = record {
    below = select_below f len r (num r h);
    here = (select_sought f len r (num r h)).here;
    before = select-rank f len r (num r h);
  }

  bit-rank : (r : ℕ) → r < N p → rank f (pos r) ≡ r
  bit-rank r h = (bits r h).before

  -- the entries hold every rank
  covered : N p ≤ entries_of p * 2 ^ L p
  covered = ⊎_elim
      (λ (h : entries_of p * 2 ^ L p < N p). absurd (omega (arith, in_entry p (entries_of p) h)))
      (λ (h : N p ≤ entries_of p * 2 ^ L p). h)
      (cases_lt (entries_of p * 2 ^ L p) (N p))

  -- a rank stands before the next mark's
  before_next : (e s : ℕ) → s < ranks_of p e → e * 2 ^ L p + s < next_rank pos p e (s / 2 ^ q_of pos p e)
  before_next e s l = go (ltb (s / 2 ^ q_of pos p e + 1) (marks_of pos p e))
    where
      go : (b : Bool) → e * 2 ^ L p + s < cond b (mark_rank pos p e (s / 2 ^ q_of pos p e + 1)) (mark_rank pos p (e + 1) 0)
      go true =
          omega
          (arith, add-mul (s / 2 ^ q_of pos p e) 1 (2 ^ q_of pos p e), div-add-mod' s (2 ^ q_of pos p e), mod-lt s (pow_pos (q_of pos p e)))
      go false = omega (arith, add-mul e 1 (2 ^ L p), rank_in p e s l)

  -- past the last entry stands what the closing cell says
  pub start_closing : start_of pos p (entries_of p) ≡ max 1 len
  unfolding start_of bound
  start_closing = rw (le-ltb (entries_of p * 2 ^ L p) (N p) covered, facts.length)

  module _ (origin : ℕ) (inv sp : List ℕ) (w : Placed pos p inv sp) where
    abbrev t : Summary
    t = summary_of pos p origin

    -- the mark of subrank s, by its rank
    hint_here : (e s : ℕ) → e < entries_of p → s < ranks_of p e
        → hint_at t inv sp (e * 2 ^ L p + s)
        ≡ answer (record { mark = pos (mark_rank pos p e (s / 2 ^ q_of pos p e)); rank = mark_rank pos p e (s / 2 ^ q_of pos p e) })
    unfolding mark
    hint_here e s h l = hint_read pos p g facts.of.spaced origin inv sp w e h s l ∙ rw (first_rank pos p e)

    marked : (e k : ℕ) → e < entries_of p → k < marks_of pos p e
        → hint_at t inv sp (mark_rank pos p e k) ≡ answer (record { mark = pos (mark_rank pos p e k); rank = mark_rank pos p e k })
    marked e k h l = rw (mul-div_cancel k (pow_pos (q_of pos p e))) at (hint_here e (k * 2 ^ q_of pos p e) h (mark_in pos p e k l))

    between : (e k : ℕ) → e < entries_of p → k + 1 < marks_of pos p e
        → rank f (pos (mark_rank pos p e (k + 1))) ≡ rank f (suc (pos (mark_rank pos p e k))) + (2 ^ q_of pos p e - 1)
    between e k h l =
        let a = (rank_in p e ((k + 1) * 2 ^ q_of pos p e) (mark_in pos p e (k + 1) l)).0 in
        let m = add-mul k 1 (2 ^ q_of pos p e) in
        let b : mark_rank pos p e k < N p = omega arith in
        omega (
          arith,
          bit-rank (mark_rank pos p e (k + 1)) a,
          bit-rank (mark_rank pos p e k) b,
          rank_one f (pos (mark_rank pos p e k)) (select_sought f len (mark_rank pos p e k) (num (mark_rank pos p e k) b)).here,
          pow_pos (q_of pos p e),
        )

    met_at : (e s : ℕ) → e < entries_of p → s < ranks_of p e → Met f pos p t inv sp (e * 2 ^ L p + s) e s
    met_at e s h l =
        let a = (rank_in p e s l).0 in
        let q : ℕ = q_of pos p e in
        let d = div-add-mod' s (2 ^ q) in
        let m : mark_rank pos p e (s / 2 ^ q) + s % 2 ^ q ≡ e * 2 ^ L p + s = omega arith in
        record {
          mark = hint_here e s h l;
          from =
              subst (λ (r : ℕ). pos (mark_rank pos p e (s / 2 ^ q)) ≤ pos r) m
              (select_le f len (mark_rank pos p e (s / 2 ^ q)) (s % 2 ^ q) (rw m (num (e * 2 ^ L p + s) a)));
          next = λ n. g.rises (e * 2 ^ L p + s) (next_rank pos p e (s / 2 ^ q)) (before_next e s l) n;
          passed = omega (arith, bit-rank (e * 2 ^ L p + s) a, bit-rank (mark_rank pos p e (s / 2 ^ q)) (omega arith));
          few = mod-lt s (pow_pos q);
        }

    met : (r : ℕ) → r < N p → Met f pos p t inv sp r (r / 2 ^ L p) (r % 2 ^ L p)
    met r h =
        subst (λ (n : ℕ). Met f pos p t inv sp n (r / 2 ^ L p) (r % 2 ^ L p)) (div-add-mod' r (2 ^ L p))
        (met_at (r / 2 ^ L p) (r % 2 ^ L p) (rank_entry p r h) (rank_sub p r h))

    -- an entry's start as read, and the selected bits from it on
    starts : (e : ℕ) → e < entries_of p → start_at t inv e ≡ pos (e * 2 ^ L p)
    starts e h = start_read pos p g facts.of.spaced origin inv sp w e h ∙ start_here pos p e (entry_below p e h)

    start-rank : (e : ℕ) → e < entries_of p → rank f (start_at t inv e) ≡ e * 2 ^ L p
    start-rank e h = ap (rank f) (starts e h) ∙ bit-rank (e * 2 ^ L p) (entry_below p e h)

    whole : (e : ℕ) → e + 1 < entries_of p
        → (rank f (start_at t inv (e + 1)) ≡ rank f (start_at t inv e) + ranks_of p e) × (ranks_of p e ≡ 2 ^ L p)
    unfolding ranks_of
    whole e h =
        let m = add-mul e 1 (2 ^ L p) in
        let n = entry_below p (e + 1) h in
        let r : ranks_of p e ≡ 2 ^ L p = omega arith in
        (omega (arith, start-rank e (omega arith), start-rank (e + 1) h), r)

    last : (e : ℕ) → e + 1 ≡ entries_of p
        → (rank f len ≡ rank f (start_at t inv e) + ranks_of p e) × (1 ≤ ranks_of p e) × (ranks_of p e ≤ 2 ^ L p)
    unfolding ranks_of num_selected
    last e h =
        let m = add-mul e 1 (2 ^ L p) in
        let n = entry_below p e (omega arith) in
        let l : N p ≤ (e + 1) * 2 ^ L p = rw h covered in
        (omega (arith, start-rank e (omega arith), plan_num ws len pol p facts), omega arith, omega arith)

    -- cells placed, and long enough, have demand 3
    pub placed_sound : sample_at origin len < 2 ^ 62 → inventory_len_of p ≤ length inv → spill_start pos p (entries_of p) ≤ length sp
        → Sound ws len origin pol choice t inv sp
    unfolding inventory_len_of spill_start summary_of
    placed_sound n a b = record {
      plan = planned;
      bit_zero = refl;
      numbered = n;
      inventory_len = refl;
      inventory_held = a;
      spill_held = b;
      bits = bits;
      held = λ r h. (r / 2 ^ L p, rank_entry p r h, holds_rank p r h);
      alone = λ r d e h k. sym (holds_one p r d h) ∙ holds_one p r e k;
      marked = marked;
      between = between;
      starts = starts;
      kinds = kind_read pos p g facts.of.spaced origin inv sp w;
      quanta = quantum_read pos p g facts.of.spaced origin inv sp w;
      whole = whole;
      last = last;
      closing = ap (λ (n : ℕ). get_or inv n 0) (omega arith) ∙ w.closing ∙ start_closing;
      none16 = kind_spills pos p;
      second = λ e h k. second_read pos p g facts.of.spaced origin inv sp w e h (kind_heads pos p e k);
      spill_len = refl;
      tiled = λ c h. let i = tile (spilled_of pos p) (entries_of p) c h in (i.0, i.1, record { from = i.2; to = i.3 });
      apart = λ c d e x y. tile_one (spilled_of pos p) c d e x.from x.to y.from y.to;
      unused = λ e i h m. unused_read pos p g facts.of.spaced origin inv sp w e h i m;
      met = met;
    }
