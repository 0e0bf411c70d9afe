-- Laws of outcomes.
use mathlib.Core.Bool.{Bool, true, false, ◌||◌}
use mathlib.Core.Logic.{◌↔◌}
use mathlib.Core.List.{[], ◌∷◌, ◌++◌}
use mathlib.Core.Option.{Option, none, some}
use mathlib.Core.Path.{◌≡◌, refl, sym, ap, ◌∙◌}
use Prim.Native.Nat.{ℕ}
use Rattle.rank_sel.specs.Outcome.{Outcome, answer, refused, number_of, refuse_if, or_refuse, Conditions, refuse_by, test_by, any_of, NoneOf, outcome, and_then}
use Rattle.rank_sel.specs.declared.Refusal.{Refusal}
use Rattle.std.specs.Prelude.{Result, Ok, Err, IsErr, IsErrAnd}

pub answer_is : {A : Type 0} {a b : A} → answer a ≡ answer b → a ≡ b
answer_is e = cc

-- an answer goes on, a refusal stays
pub then_answer : {A B : Type 0} (o : Outcome A) (go : A → Outcome B) (b : B) → and_then o go ≡ answer b
    → (a : A) × (o ≡ answer a) × (go a ≡ answer b)
then_answer (answer a) go b e = (a, refl, e)
then_answer (refused n) go b e = cc

-- a test that was passed
pub not_refused : {A : Type 0} (t : Bool) (n : ℕ) (o : Outcome A) (a : A) → refuse_if t n o ≡ answer a → (t ≡ false) × (o ≡ answer a)
not_refused true n o a e = cc
not_refused false n o a e = (refl, e)

-- a test that was not
pub refused_holds : {A : Type 0} (t : Bool) (n : ℕ) (a : A) (m : ℕ) → refuse_if t n (answer a) ≡ refused m → t ≡ true
refused_holds true n a m e = refl
refused_holds false n a m e = cc

-- an answer was there
pub is_some : {A : Type 0} (n : ℕ) (o : Option A) (a : A) → or_refuse n o ≡ answer a → o ≡ some a
is_some n (some b) a e = ap some (answer_is e)
is_some n none a e = cc

-- one step after another
pub then_then : {A B C : Type 0} (o : Outcome A) (f : A → Outcome B) (g : B → Outcome C)
    → and_then (and_then o f) g ≡ and_then o (λ a. and_then (f a) g)
then_then (answer a) f g = refl
then_then (refused n) f g = refl

-- by cases on an outcome
abbrev pub by_outcome : {A X : Type 0} → (A → X) → (ℕ → X) → Outcome A → X
by_outcome f g (answer a) = f a
by_outcome f g (refused n) = g n

pub by_then : {A B : Type 0} (o : Outcome A) (go : A → Outcome B) → and_then o go ≡ by_outcome go refused o
by_then (answer a) go = refl
by_then (refused n) go = refl

-- a refusal's number stays, whatever an answer would be
refused_as : {A B : Type 0} {m n : ℕ} → ◌≡◌ {A = Outcome A} (refused m) (refused n) → ◌≡◌ {A = Outcome B} (refused m) (refused n)
refused_as {m = m} {n = n} e = let k : m ≡ n = cc in ap refused k

-- what only alters an answer is refused exactly as that is
pub then_refused : {A B : Type 0} (o : Outcome A) (f : A → B) (n : ℕ) → (and_then o (λ a. answer (f a)) ≡ refused n) ↔ (o ≡ refused n)
then_refused (answer a) f n = (λ e. cc, λ e. cc)
then_refused (refused m) f n = (refused_as, refused_as)

-- behind a test too
pub refused_on : {A B : Type 0} (t : Bool) (k : ℕ) (o : Outcome A) (f : A → B) (n : ℕ)
    → (refuse_if t k (and_then o (λ a. answer (f a))) ≡ refused n) ↔ (refuse_if t k o ≡ refused n)
refused_on true k o f n = (refused_as, refused_as)
refused_on false k o f n = then_refused o f n

-- ---- tests in their order
-- what comes after the tests comes after their answer
pub refuse_then : {A B : Type 0} (b : Bool) (n : ℕ) (o : Outcome A) (go : A → Outcome B)
    → refuse_if b n (and_then o go) ≡ and_then (refuse_if b n o) go
refuse_then true n o go = refl
refuse_then false n o go = refl

pub tests_answer : {A B : Type 0} (cs : Conditions) (a : A) (go : A → Outcome B) → and_then (refuse_by cs (answer a)) go ≡ refuse_by cs (go a)
tests_answer [] a go = refl
tests_answer (c ∷ cs) a go = sym (refuse_then c.0 c.1 (refuse_by cs (answer a)) go) ∙ ap (refuse_if c.0 c.1) (tests_answer cs a go)

pub tests_then : {A : Type 0} (cs : Conditions) (rest : Outcome A) → refuse_by cs rest ≡ and_then (test_by cs) (λ u. rest)
tests_then cs rest = sym (tests_answer cs tt (λ u. rest))

-- some tests, and then others
pub tests_more : {A : Type 0} (cs ds : Conditions) (rest : Outcome A) → refuse_by (cs ++ ds) rest ≡ refuse_by cs (refuse_by ds rest)
tests_more [] ds rest = refl
tests_more (c ∷ cs) ds rest = ap (refuse_if c.0 c.1) (tests_more cs ds rest)

-- an answer passed them all
pub passed_all : {A : Type 0} (cs : Conditions) (o : Outcome A) (a : A) → refuse_by cs o ≡ answer a → NoneOf cs × (o ≡ answer a)
passed_all [] o a e = (tt, e)
passed_all (c ∷ cs) o a e =
    let f = not_refused c.0 c.1 (refuse_by cs o) a e in
    let g = passed_all cs o a f.1 in
    ((f.0, g.0), g.1)

pub passing : {A : Type 0} (cs : Conditions) (rest : Outcome A) → NoneOf cs → refuse_by cs rest ≡ rest
passing [] rest h = refl
passing (c ∷ cs) rest h = rw h.0 (passing cs rest h.1)

-- what comes after them matters only where they are passed
pub tests_past : {A : Type 0} (cs : Conditions) (o q : Outcome A) → (NoneOf cs → o ≡ q) → refuse_by cs o ≡ refuse_by cs q
tests_past [] o q h = h tt
tests_past (c ∷ cs) o q h = go c.0 (λ e. tests_past cs o q (λ k. h (e, k))) refl
  where
    go : (b : Bool) → (c.0 ≡ false → refuse_by cs o ≡ refuse_by cs q) → c.0 ≡ b
        → refuse_if c.0 c.1 (refuse_by cs o) ≡ refuse_if c.0 c.1 (refuse_by cs q)
    go true ih e = rw e
    go false ih e = rw e (ih e)

pub none_split : (cs ds : Conditions) → NoneOf (cs ++ ds) → NoneOf cs × NoneOf ds
none_split [] ds h = (tt, h)
none_split (c ∷ cs) ds h = let i = none_split cs ds h.1 in ((h.0, i.0), i.1)

pub none_join : (cs ds : Conditions) → NoneOf cs → NoneOf ds → NoneOf (cs ++ ds)
none_join [] ds h k = k
none_join (c ∷ cs) ds h k = (h.0, none_join cs ds h.1 k)

pub any_none : (cs : Conditions) → any_of cs ≡ false → NoneOf cs
any_none [] e = tt
any_none (c ∷ cs) e = go c.0 refl (any_none cs) e
  where
    go : (b : Bool) → c.0 ≡ b → (any_of cs ≡ false → NoneOf cs) → (b || any_of cs) ≡ false → (c.0 ≡ false) × NoneOf cs
    go true h ih k = cc
    go false h ih k = (h, ih k)

pub none_any : (cs : Conditions) → NoneOf cs → any_of cs ≡ false
none_any [] h = refl
none_any (c ∷ cs) h = rw h.0 (none_any cs h.1)

-- ---- what `?` hands on
-- a refusal, whatever an answer would have gone on to
pub handed_on : {A B : Type 0} (r : Result B Refusal) (e : Refusal) → IsErr r × IsErrAnd r (λ x. x ≡ e) → (o : Outcome A)
    → refused (number_of e) ≡ o → (go : A → Outcome B) → outcome r ≡ and_then o go
handed_on {A = A} (Err x) e h o eo go = ap (λ (z : Refusal). refused (number_of z)) h.1 ∙ ap (λ (p : Outcome A). and_then p go) eo
handed_on {A = A} (Ok b) e h o eo go = absurd h.1

-- of tests that answer, whatever comes after them
pub answer_stopped : {A B : Type 0} (cs : Conditions) (a : A) (rest : Outcome B) (r : Result B Refusal) (e : Refusal)
    → IsErr r × IsErrAnd r (λ x. x ≡ e) → refused (number_of e) ≡ refuse_by cs (answer a) → outcome r ≡ refuse_by cs rest
answer_stopped cs a rest r e h told = handed_on r e h (refuse_by cs (answer a)) told (λ a. rest) ∙ tests_answer cs a (λ a. rest)

-- their answer goes on
pub answer_passed : {A B : Type 0} (cs : Conditions) (p a : A) → answer p ≡ refuse_by cs (answer a) → (go : A → Outcome B)
    → go p ≡ refuse_by cs (go a)
answer_passed {A = A} cs p a told go = ap (λ (o : Outcome A). and_then o go) told ∙ tests_answer cs a go

-- of tests alone
pub tests_handed_on : {B : Type 0} (r : Result B Refusal) (e : Refusal) → IsErr r × IsErrAnd r (λ x. x ≡ e) → (cs : Conditions)
    → refused (number_of e) ≡ test_by cs → (rest : Outcome B) → outcome r ≡ refuse_by cs rest
tests_handed_on r e h cs ecs rest = answer_stopped cs tt rest r e h ecs

-- tests that were passed: none of the conditions holds
pub passed_none : (cs : Conditions) → answer tt ≡ test_by cs → NoneOf cs
passed_none cs e = (passed_all cs (answer tt) tt (sym e)).0

pub through_where_none : (cs : Conditions) → (test_by cs ≡ answer tt) ↔ NoneOf cs
through_where_none cs = ((λ e. passed_none cs (sym e)), passing cs (answer tt))

-- and what comes after them is the answer
pub passed_then : {A : Type 0} (cs : Conditions) → answer tt ≡ test_by cs → (rest : Outcome A) → rest ≡ refuse_by cs rest
passed_then cs e rest = sym (passing cs rest (passed_none cs e))
