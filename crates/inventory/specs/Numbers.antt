-- A summary as nine numbers, in the order of the image and of include/edge_index.h. Document 02, W-203.
use Rattle.std.specs.Prelude.{cond, List, [], ◌∷◌, ℕ, ◌-◌, ◌^◌, min, eqb, get_or}
use Rattle.bit_record.specs.declared.Polarity.{Polarity}
use Rattle.bit_record.specs.declared.Polarity.TheVariants.{Ones, Zeros}
use Rattle.spacing.specs.Spacing.{N, L, M, S}
use Rattle.inventory.specs.declared.summary.Summary.{Summary}

-- 0: ones; 1: zeros. Any other is turned down where it is handed in
unfoldable pub polarity_at : ℕ → Polarity
polarity_at code = cond (eqb code 0) Ones Zeros

abbrev pub polarity_code : Polarity → ℕ
polarity_code Ones = 0
polarity_code Zeros = 1

-- the library's logarithms are u32, and those handed in are u64
abbrev pub cut : ℕ → ℕ
cut n = min n (2 ^ 32 - 1)

-- the summary of nine numbers. The three logarithms are handed on by f
abbrev pub summary_by : (ℕ → ℕ) → List ℕ → Summary
summary_by f s = record {
  plan = record {
    polarity = polarity_at (get_or s 0 0);
    len = get_or s 1 0;
    num = get_or s 2 0;
    log2_ones_per_inventory = f (get_or s 4 0);
    log2_words_per_subinventory = f (get_or s 5 0);
    log2_ones_per_sub16 = f (get_or s 6 0);
  };
  origin = get_or s 3 0;
  inventory_len = get_or s 7 0;
  spill_len = get_or s 8 0;
}

unfoldable pub summary_at : List ℕ → Summary
summary_at s = summary_by cut s

unfoldable pub numbers_of : Summary → List ℕ
numbers_of t =
    polarity_code t.plan.polarity
    ∷ t.plan.len
    ∷ N t.plan
    ∷ t.origin
    ∷ L t.plan
    ∷ M t.plan
    ∷ S t.plan
    ∷ t.inventory_len
    ∷ t.spill_len
    ∷ []
