-- The rank of a sample on an index whose entries start at the bits of their first ranks: it is the count of edges before it, so the bit
-- of that rank is the next edge, and the rank of rank r's bit is r.
use mathlib.Core.Bool.{Bool, true, false}
use mathlib.Core.List.{List}
use mathlib.Core.Logic.{◌↔◌, ⊎_elim}
use mathlib.Core.Option.{Option}
use mathlib.Core.Path.{◌≡◌, refl, sym, ap, ◌∙◌}
use Prim.Native.Nat.{ℕ, ◌+◌, ◌-◌, ◌*◌, ◌^◌, ◌≤◌, ◌<◌}
use native.Mathlib.Omega.{arith}
use lib.Dec.{ltb}
use borrow.Author.Tests.{le-ltb, ltb-false}
use Rattle.std.specs.Prelude as std
use Rattle.std.proofs.lemmas.Bool.{cases_lt, or_parts}
use Rattle.rank_sel.specs.Outcome.{answer, refused, refuse_by}
use Rattle.rank_sel.specs.Rank.{rank}
use Rattle.rank_sel.specs.Seek.{seek}
use Rattle.rank_sel.proofs.Outcome.{answer_is, passing, tests_more}
use Rattle.rank_sel.proofs.Rank.{rank-zero, rank_mono}
use Rattle.rank_sel.proofs.Seek.{seek_at, seek_empty}
use Rattle.rank_sel.proofs.Step.{next_seek}
use Rattle.bit_record.specs.Record.{selected, num_selected, bit_of, sample_at, sample_outside, of_sample}
use Rattle.bit_record.specs.declared.Polarity.{Polarity}
use Rattle.spacing.specs.Spacing.{N, L}
use Rattle.inventory.specs.Index.{entries_of}
use Rattle.inventory.specs.declared.summary.Summary.{Summary}
use Rattle.read_inventory.specs.Jump.{select_of}
use Rattle.read_inventory.specs.Read.{start_at}
use Rattle.read_inventory.specs.Tests.{of_index}
use Rattle.read_inventory.proofs.Passing.{IndexHeld, index_none}
use Rattle.rank_inventory.specs.Rank.{rank_at, rank_of}
use Rattle.rank_inventory.proofs.Sound.{sound_rank}
use Rattle.step_knob.specs.Step.{edge_at, edge_from, next_of, of_step}
use Rattle.edge_index.specs.Right.{RankRight}
use Rattle.edge_index.specs.Sound.{Bit}

-- what a rank goes by: an index past its tests, whose jumps are right and whose entries start at the bits of their first ranks
pub record Ranking (ws : List ℕ) (len origin : ℕ) (pol : Polarity) (t : Summary) (inv sp : List ℕ) : Type 0 where
  pub held : IndexHeld ws t inv sp
  pub polarity : t.plan.polarity ≡ pol
  pub length : t.plan.len ≡ len
  pub bit_zero : t.origin ≡ origin
  pub num : N t.plan ≡ num_selected pol ws len
  pub starts : (e : ℕ) → e < entries_of t.plan → start_at t inv e ≡ bit_of ws len pol (e * 2 ^ L t.plan)
  pub bits : (r : ℕ) → r < N t.plan → Bit ws len pol r (bit_of ws len pol r)
  pub jumps : (r : ℕ) → r < N t.plan → select_of ws t inv sp r ≡ answer (sample_at origin (bit_of ws len pol r))
  pub past : (r : ℕ) → N t.plan ≤ r → select_of ws t inv sp r ≡ refused 8

some_none : {b : ℕ} → ◌≡◌ {A = std.Option ℕ} (std.Some b) std.None → ⊥
some_none e = cc

module _ {ws : List ℕ} {len origin : ℕ} {pol : Polarity} {t : Summary} {inv sp : List ℕ} (k : Ranking ws len origin pol t inv sp) where
  abbrev f : ℕ → Bool
  f = selected pol ws len

  -- the edge of rank r's bit
  abbrev edge : ℕ → ℕ
  edge r = sample_at origin (bit_of ws len pol r)

  inside : (x : ℕ) → origin ≤ x → x ≤ sample_at origin len → sample_outside origin len x ≡ false
  inside x l h = rw (le-ltb x origin l, le-ltb (sample_at origin len) x h) refl

  -- ---- past the tests
  rank_tests : (x : ℕ) → rank_of ws t inv sp x ≡ refuse_by (of_sample origin len x) (rank_at ws t inv (x - origin))
  unfolding rank_of
  rank_tests x =
      tests_more (of_index ws t inv sp) (of_sample t.origin t.plan.len x) (rank_at ws t inv (x - t.origin))
      ∙ passing (of_index ws t inv sp) _ (index_none ws t inv sp k.held)
      ∙ rw (k.bit_zero, k.length) refl

  rank_in : (x : ℕ) → sample_outside origin len x ≡ false → rank_of ws t inv sp x ≡ answer (rank f (x - origin))
  rank_in x o = rank_tests x ∙ rw o (sound_rank ws len pol t inv k.polarity k.length k.num k.starts (x - origin))

  rank_out : (x : ℕ) → sample_outside origin len x ≡ true → rank_of ws t inv sp x ≡ refused 17
  rank_out x o = rank_tests x ∙ rw o refl

  rank_only : (x n : ℕ) → rank_of ws t inv sp x ≡ refused n → n ≡ 17
  rank_only x n e = go (sample_outside origin len x) refl
    where
      go : (b : Bool) → sample_outside origin len x ≡ b → n ≡ 17
      go true o = let d = sym e ∙ rank_out x o in cc
      go false o = let d = sym (rank_in x o) ∙ e in cc

  -- what is answered is of a sample of the record
  record Answered (x r : ℕ) : Type 0 where
    pub inside : sample_outside origin len x ≡ false
    pub most : x - origin ≤ len
    pub counted : rank f (x - origin) ≡ r

  answered : (x r : ℕ) → rank_of ws t inv sp x ≡ answer r → Answered x r
  answered x r e = go (sample_outside origin len x) refl
    where
      go : (b : Bool) → sample_outside origin len x ≡ b → Answered x r
      go true o = let d = sym (rank_out x o) ∙ e in cc
      go false o =
          let l = or_parts (ltb x origin) (ltb (sample_at origin len) x) o in
          record { inside = o; most = omega (arith, ltb-false (sample_at origin len) x l.1); counted = answer_is (sym (rank_in x o) ∙ e) }

  next_in : (x : ℕ) → sample_outside origin len x ≡ false → next_of ws t x ≡ answer (edge_from ws len pol origin x)
  unfolding next_of
  next_in x o =
      let h = index_none ws t inv sp k.held in
      let out : sample_outside t.origin t.plan.len x ≡ false = rw (k.bit_zero, k.length) o in
      passing (of_step ws t x) _ (h.0, (h.1.0, (h.1.1.0, (h.1.1.1.0, (out, tt)))))
      ∙ rw (k.bit_zero, k.length, k.polarity) refl

  -- ---- the next edge of a sample with r edges before it
  module _ (x r : ℕ) (a : Answered x r) where
    sought : (o : Option ℕ) → seek f len 0 (rank f (x - origin)) ≡ o → next_of ws t x ≡ answer (edge_at origin o)
    sought o h = next_in x a.inside ∙ ap (λ (o : Option ℕ). answer (edge_at origin o)) (next_seek f len (x - origin) a.most ∙ h)

    next_found : r < N t.plan → next_of ws t x ≡ answer (std.Some (edge r))
    next_found h =
        let b = k.bits r h in
        sought _ (seek_at f len 0 _ (bit_of ws len pol r) (record {
          low = omega arith;
          high = omega (arith, b.below);
          here = b.here;
          before = omega (arith, rank-zero f, b.before, a.counted);
        }))

    next_missing : N t.plan ≤ r → next_of ws t x ≡ answer std.None
    unfolding num_selected
    next_missing h =
        let z : rank f (0 + len) ≡ rank f len = ap (rank f) (omega arith) in
        sought _ (seek_empty f len 0 _ (omega (arith, rank-zero f, z, k.num, a.counted)))

    next_jump : (e : ℕ) → (next_of ws t x ≡ answer (std.Some e)) ↔ (select_of ws t inv sp r ≡ answer e)
    next_jump e = ⊎_elim
        (λ (h : r < N t.plan). (
          (λ d. k.jumps r h ∙ ap answer (some_is (answer_is (sym (next_found h) ∙ d)))),
          (λ d. next_found h ∙ ap (λ (z : ℕ). answer (std.Some z)) (answer_is (sym (k.jumps r h) ∙ d))),
        ))
        (λ (h : N t.plan ≤ r). (
          (λ d. absurd (some_none (answer_is (sym d ∙ next_missing h)))),
          (λ d. let z = sym (k.past r h) ∙ d in cc),
        ))
        (cases_lt r (N t.plan))
      where
        some_is : {a b : ℕ} → std.Some a ≡ std.Some b → a ≡ b
        some_is e = cc

    next_none : (next_of ws t x ≡ answer std.None) ↔ (r ≡ N t.plan)
    unfolding num_selected
    next_none = ⊎_elim
        (λ (h : r < N t.plan). (
          (λ d. absurd (some_none (answer_is (sym (next_found h) ∙ d)))),
          (λ d. absurd (omega arith)),
        ))
        (λ (h : N t.plan ≤ r). (
          (λ d. omega (arith, k.num, a.counted, rank_mono f (x - origin) len a.most)),
          (λ d. next_missing h),
        ))
        (cases_lt r (N t.plan))

  rank_jumped : (r x : ℕ) → select_of ws t inv sp r ≡ answer x → rank_of ws t inv sp x ≡ answer r
  rank_jumped r x e = ⊎_elim
      (λ (h : r < N t.plan).
      let b = k.bits r h in
      let d : edge r ≡ x = answer_is (sym (k.jumps r h) ∙ e) in
      let z : x - origin ≡ bit_of ws len pol r = omega arith in
      rank_in x (inside x (omega arith) (omega (arith, b.below))) ∙ ap answer (ap (rank f) z ∙ b.before))
      (λ (h : N t.plan ≤ r). let z = sym (k.past r h) ∙ e in cc)
      (cases_lt r (N t.plan))

  rank_end : rank_of ws t inv sp (sample_at origin len) ≡ answer (N t.plan)
  unfolding num_selected
  rank_end =
      let z : sample_at origin len - origin ≡ len = omega arith in
      rank_in (sample_at origin len) (inside (sample_at origin len) (omega arith) (omega arith)) ∙ ap answer (ap (rank f) z ∙ sym k.num)

  pub ranks_right : RankRight ws len origin pol t inv sp
  ranks_right = record {
    exact = rank_in;
    outside = rank_out;
    only_17 = rank_only;
    end = rank_end;
    jumped = rank_jumped;
    next = λ x r e h. next_jump x r (answered x r h) e;
    none = λ x r h. next_none x r (answered x r h);
  }
