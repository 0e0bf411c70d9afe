-- Where each entry starts at the bit of its rank, the starts rise, and the rank by them is the rank.
use mathlib.Core.Bool.{Bool, true}
use mathlib.Core.List.{List}
use mathlib.Core.Option.{Option, none, some}
use mathlib.Core.Path.{◌≡◌, refl, ap, ap₂, ◌∙◌}
use Prim.Native.Nat.{ℕ, ◌*◌, ◌^◌, ◌<◌}
use native.Mathlib.Nat.{mul-lt-mul_of_pos_right}
use native.Mathlib.Omega.{arith}
use lib.Pow.{pow_pos}
use borrow.Author.Tests.{leb-true}
use Rattle.rank_sel.specs.Outcome.{answer}
use Rattle.rank_sel.specs.Rank.{rank}
use Rattle.rank_sel.specs.Seek.{select}
use Rattle.rank_sel.specs.Step.{last_before}
use Rattle.rank_sel.proofs.Rank.{rank-zero, rank_mono}
use Rattle.rank_sel.proofs.Select.{select_lt, select_below, select-rank}
use Rattle.rank_sel.proofs.Step.{last_found}
use Rattle.bit_record.specs.Record.{selected, num_selected, bit_of}
use Rattle.bit_record.specs.declared.Polarity.{Polarity}
use Rattle.spacing.specs.Spacing.{N, L}
use Rattle.inventory.specs.Index.{entries_of}
use Rattle.inventory.specs.declared.summary.Summary.{Summary}
use Rattle.inventory.proofs.Ranks.{entry_below}
use Rattle.read_inventory.specs.Read.{start_at}
use Rattle.rank_inventory.specs.Rank.{rank_from, rank_at}
use Rattle.rank_inventory.specs.Starts.{starts_rise, starts_by}
use Rattle.rank_inventory.proofs.Ranking.{rank_risen}
use Rattle.rank_inventory.proofs.Rising.{rise_rising}

-- n entries of per ranks
module _ (f : ℕ → Bool) (len : ℕ) (s : ℕ → ℕ) (per n : ℕ) (held : (e : ℕ) → e < n → e * per < rank f len)
    (starts : (e : ℕ) → e < n → s e ≡ select f len (e * per)) where
  sound_rise : 0 < per → starts_rise s len n ≡ true
  sound_rise h = rise_rising s len n (record {
    rise = λ i j l k.
        let g : i * per < j * per = mul-lt-mul_of_pos_right l h in
        omega (arith, starts i (omega arith), starts j k, select_lt f len (i * per) (j * per) g (held j k));
    within = λ e k. omega (arith, starts e k, select_below f len (e * per) (held e k));
  })

  sound_from : (x : ℕ) → rank_from f s per x (last_before (starts_by s x) n) ≡ rank f x
  sound_from x = go (last_before (starts_by s x) n) refl
    where
      go : (o : Option ℕ) → last_before (starts_by s x) n ≡ o → rank_from f s per x o ≡ rank f x
      go none h = omega (arith, rank-zero f)
      go (some e) h =
          let p = last_found (starts_by s x) n e h in
          let k : rank f (s e) ≡ e * per = ap (rank f) (starts e p.low) ∙ select-rank f len (e * per) (held e p.low) in
          omega (arith, rank_mono f (s e) x (leb-true (s e) x p.here))

-- with a summary's own numbers
module _ (ws : List ℕ) (len : ℕ) (pol : Polarity) (t : Summary) (inv : List ℕ)
    (same_pol : t.plan.polarity ≡ pol) (same_len : t.plan.len ≡ len) (num : N t.plan ≡ num_selected pol ws len)
    (starts : (e : ℕ) → e < entries_of t.plan → start_at t inv e ≡ bit_of ws len pol (e * 2 ^ L t.plan)) where
  pub sound_rank : (x : ℕ) → rank_at ws t inv x ≡ answer (rank (selected pol ws len) x)
  unfolding num_selected
  sound_rank x =
      let f = selected pol ws len in
      let s = start_at t inv in
      let per = 2 ^ L t.plan in
      let n = entries_of t.plan in
      let held : (e : ℕ) → e < n → e * per < rank f len = λ e l. omega (arith, entry_below t.plan e l, num) in
      rank_risen ws t inv x (ap (λ (m : ℕ). starts_rise s m n) same_len ∙ sound_rise f len s per n held starts (pow_pos (L t.plan)))
      ∙ ap₂ (λ (p : Polarity) (m : ℕ). answer (rank_from (selected p ws m) s per x (last_before (starts_by s x) n))) same_pol same_len
      ∙ ap answer (sound_from f len s per n held starts x)
