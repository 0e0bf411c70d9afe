-- Laws of lanes in a cell, over the width, and of cells in a list.
use mathlib.Core.Path.{◌≡◌, refl, ap, ◌∙◌, subst}
use mathlib.Core.Logic.{⊎_elim}
use mathlib.Core.List.{List, [], ◌∷◌, ◌++◌, append_assoc}
use Prim.Native.Nat.{ℕ, zero, suc, ◌+◌, ◌*◌, ◌%◌, ◌^◌, ◌≤◌, ◌<◌}
use native.Mathlib.Nat.{mul-zero, lt_of_lt_of_le, mul-le-mul_left}
use native.Mathlib.Numerals.{add-one}
use native.Mathlib.Omega.{arith}
use lib.Arith.{digits_lt}
use lib.ListN.{length, drop, get_or, set, length-append, get_or-append}
use lib.Pow.{pow_mono, pow-add, shl_exact}
use lib.Seq.{drop-cons, set_at, get_or_at}
use Rattle.rank_sel.specs.Lists.{Below}
use Rattle.rank_sel.proofs.Lists.{below_append, below_none, below_cons}
use Rattle.std.proofs.lemmas.Bool.{cases_lt}
use Rattle.inventory.specs.Lanes.{pack, tabulate}

-- ---- lanes in a cell
pub pack-zero : (w : ℕ) (v : ℕ → ℕ) → pack w v 0 ≡ 0
unfolding pack
pack-zero w v = refl

pub pack_more : (w : ℕ) (v : ℕ → ℕ) (n : ℕ) → pack w v (n + 1) ≡ pack w v n + v n * 2 ^ (w * n)
unfolding pack
pack_more w v n = rw add-one

pub pack_lt : (w : ℕ) (v : ℕ → ℕ) → ((t : ℕ) → v t < 2 ^ w) → (n : ℕ) → pack w v n < 2 ^ (w * n)
unfolding pack
pack_lt w v h zero = rw mul-zero (omega arith)
pack_lt w v h (suc n) =
    let e : 2 ^ (w * suc n) ≡ 2 ^ w * 2 ^ (w * n) = ap (λ (z : ℕ). 2 ^ z) (omega arith) ∙ pow-add 2 w (w * n) in
    let d = digits_lt {q = v n} {m = 2 ^ w} {r = pack w v n} {c = 2 ^ (w * n)} (h n) (pack_lt w v h n) in
    rw e (omega arith)

pub pack_ext : (w : ℕ) (u v : ℕ → ℕ) (n : ℕ) → ((t : ℕ) → t < n → u t ≡ v t) → pack w u n ≡ pack w v n
unfolding pack
pack_ext w u v zero h = refl
pack_ext w u v (suc n) h = rw (pack_ext w u v n (λ t l. h t (omega arith)), h n (omega arith))

-- lane t of w bits stands in a cell of 64
pub lane_fits : (w n t : ℕ) → w * n ≡ 64 → t < n → w + w * t ≤ 64
lane_fits w n t e l = omega (arith, mul-le-mul_left {m = suc t} {n = n} w l)

pub some_width : (w n : ℕ) → w * n ≡ 64 → 0 < w
some_width zero n e = absurd (omega arith)
some_width (suc w) n e = omega arith

lane_put : (w n t shift v : ℕ) → w * n ≡ 64 → t < n → shift ≡ w * t → v < 2 ^ w → v * 2 ^ shift % 2 ^ 64 ≡ v * 2 ^ (w * t)
lane_put w n t shift v e l es hv = rw es (shl_exact w (w * t) 64 hv (lane_fits w n t e l))

lane_room : (w n t a v : ℕ) → w * n ≡ 64 → t < n → a < 2 ^ (w * t) → v < 2 ^ w → a + v * 2 ^ (w * t) < 2 ^ 64
lane_room w n t a v e l ha hv =
    let d = digits_lt {q = v} {m = 2 ^ w} {r = a} {c = 2 ^ (w * t)} hv ha in
    let k : 2 ^ w * 2 ^ (w * t) ≤ 2 ^ 64 =
    subst (λ (z : ℕ). z ≤ 2 ^ 64) (pow-add 2 w (w * t)) (pow_mono {i = w + w * t} {j = 64} (lane_fits w n t e l)) in
    lt_of_lt_of_le (subst (λ (z : ℕ). z < 2 ^ w * 2 ^ (w * t)) (omega arith) d) k

-- one lane more in a cell, as a shift puts it there
module _ (w n t shift a v : ℕ) (f : ℕ → ℕ) (e : w * n ≡ 64) (l : t < n) (es : shift ≡ w * t) (ea : a ≡ pack w f t) (ev : v ≡ f t)
    (hf : (i : ℕ) → f i < 2 ^ w) where
  pub cell_fits : a + v * 2 ^ shift % 2 ^ 64 < 2 ^ 64
  cell_fits = rw (lane_put w n t shift v e l es (rw ev (hf t))) (lane_room w n t a v e l (rw ea (pack_lt w f hf t)) (rw ev (hf t)))

  pub cell_more : a + v * 2 ^ shift % 2 ^ 64 ≡ pack w f (t + 1)
  cell_more = rw (lane_put w n t shift v e l es (rw ev (hf t)), ea, ev, pack_more w f t)

-- ---- cells in a list
pub tab_length : (v : ℕ → ℕ) (n : ℕ) → length (tabulate v n) ≡ n
unfolding tabulate
tab_length v zero = refl
tab_length v (suc n) = simp (length-append, tab_length v n) (omega arith)

pub tab_at : (v : ℕ → ℕ) (n i : ℕ) → i < n → get_or (tabulate v n) i 0 ≡ v i
unfolding tabulate
tab_at v zero i h = absurd (omega arith)
tab_at v (suc n) i h = ⊎_elim
    (λ (l : i < n). get_or-append (tabulate v n) (v n ∷ []) 0 i (rw (tab_length v n) l) ∙ tab_at v n i l)
    (λ (l : n ≤ i).
    let e : n ≡ i = omega arith in
    get_or_at (tabulate v n) (v n) [] 0 i (tab_length v n ∙ e) ∙ ap v e)
    (cases_lt i n)

pub tab_below : (m : ℕ) (v : ℕ → ℕ) → 0 < m → ((i : ℕ) → v i < m) → (n : ℕ) → Below m (tabulate v n)
unfolding tabulate
tab_below m v z h zero = below_none m z
tab_below m v z h (suc n) =
    below_append m (tabulate v n) (v n ∷ []) (tab_below m v z h n) (below_cons m (v n) [] (h n) (below_none m z))

-- a store just behind what is done
pub push : (p l : List ℕ) (k v : ℕ) → length p ≡ k → k < length l → set (p ++ drop k l) k v ≡ (p ++ (v ∷ [])) ++ drop (suc k) l
push p l k v e h = rw (drop-cons l k 0 h, set_at p (get_or l k 0) (drop (suc k) l) v k e, append_assoc)

pub tab_more : (v : ℕ → ℕ) (l : List ℕ) (i c : ℕ) → i < length l → c ≡ v i
    → set (tabulate v i ++ drop i l) i c ≡ tabulate v (i + 1) ++ drop (i + 1) l
unfolding tabulate
tab_more v l i c h e = rw (e, push (tabulate v i) l i (v i) (tab_length v i) h, add-one)
