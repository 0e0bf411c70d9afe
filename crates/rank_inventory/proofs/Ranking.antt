-- What the code answers is the rank as it is defined: the count of starts at or before a position tells which is the last of them.
use mathlib.Core.Bool.{Bool, true, false}
use mathlib.Core.List.{List}
use mathlib.Core.Option.{Option}
use mathlib.Core.Path.{◌≡◌, refl, sym, ap, ◌∙◌}
use Prim.Native.Nat.{ℕ, ◌+◌, ◌-◌, ◌*◌, ◌^◌, ◌<◌}
use Rattle.rank_sel.specs.Outcome.{answer, refused, refuse_by, and_then}
use Rattle.rank_sel.specs.Rank.{rank_between}
use Rattle.rank_sel.specs.Step.{last_before}
use Rattle.rank_sel.proofs.Outcome.{tests_answer, tests_more}
use Rattle.bit_record.specs.Record.{selected, of_sample, position_at}
use Rattle.spacing.specs.Spacing.{L}
use Rattle.inventory.specs.Index.{entries_of}
use Rattle.inventory.specs.declared.summary.Summary.{Summary}
use Rattle.read_inventory.specs.Read.{start_at}
use Rattle.read_inventory.specs.Tests.{of_index}
use Rattle.rank_inventory.specs.Rank.{rank_from, starts_unlawful, rank_at, rank_of}
use Rattle.rank_inventory.specs.Starts.{starts_rise, starts_by, starts_to}
use Rattle.rank_inventory.proofs.Rising.{rising_ordered, last_none_started, last_started}

module _ (ws : List ℕ) (t : Summary) (inv : List ℕ) (x : ℕ) where
  abbrev f : ℕ → Bool
  f = selected t.plan.polarity ws t.plan.len

  abbrev s : ℕ → ℕ
  s = start_at t inv

  abbrev n : ℕ
  n = entries_of t.plan

  pub rank_refused : starts_rise s t.plan.len n ≡ false → refused 10 ≡ rank_at ws t inv x
  unfolding rank_at starts_unlawful
  rank_refused e = rw e refl

  module _ (e : starts_rise s t.plan.len n ≡ true) where
    pub rank_risen : rank_at ws t inv x ≡ answer (rank_from f s (2 ^ L t.plan) x (last_before (starts_by s x) n))
    unfolding rank_at starts_unlawful
    rank_risen = rw e refl

    answers : (o : Option ℕ) → last_before (starts_by s x) n ≡ o → answer (rank_from f s (2 ^ L t.plan) x o) ≡ rank_at ws t inv x
    answers o h = rw (rank_risen, h) refl

    -- no start is at or before it: from bit 0 on
    pub rank_none : (count : ℕ) → starts_to s x n ≡ 0 → count ≡ rank_between f 0 x → answer count ≡ rank_at ws t inv x
    rank_none count z ec = ap answer ec ∙ answers _ (last_none_started s x n z)

    -- from the last of r starts on
    pub rank_some : (r per start count : ℕ) → r ≡ starts_to s x n → 0 < r → per ≡ 2 ^ L t.plan → start ≡ s (r - 1)
        → count ≡ rank_between f start x → answer ((r - 1) * per + count) ≡ rank_at ws t inv x
    rank_some r per start count c h ep es ec = rw (ec, es, ep) (answers _ (last_started s x n r c h (rising_ordered s t.plan.len n e)))

-- the tests of the index, and then those of the sample, which tell its position
pub rank_tested : (ws : List ℕ) (t : Summary) (inv sp : List ℕ) (x : ℕ)
    → refuse_by (of_index ws t inv sp) (and_then (position_at t.origin t.plan.len x) (rank_at ws t inv)) ≡ rank_of ws t inv sp x
unfolding rank_of position_at
rank_tested ws t inv sp x =
    let cs = of_index ws t inv sp in
    let o = t.origin in
    let l = t.plan.len in
    ap (refuse_by cs) (tests_answer (of_sample o l x) (x - o) (rank_at ws t inv))
    ∙ sym (tests_more cs (of_sample o l x) (rank_at ws t inv (x - o)))
