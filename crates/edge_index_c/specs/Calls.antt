-- What each call of include/edge_index.h returns and writes, by the definitions of the entry that it stands for.
use Rattle.std.specs.Prelude.{Bool, true, false, not, List, [], ◌∷◌, ◌⊎◌, ◌↔◌, ◌≡◌, ℕ, ◌+◌, ◌≤◌, ◌<◌, ltb, Float, length, get_or, set, Option, Some, None}
use Rattle.std.specs.Borrow.{Bor}
use Rattle.rank_sel.specs.Outcome.{Outcome, answer, refused, refuse_if, and_then}
use Rattle.select_in_word.specs.declared.One.{One}
use Rattle.bit_record.specs.Record.{count_of}
use Rattle.spacing.specs.Spacing.{plan_of}
use Rattle.inventory.specs.Numbers.{polarity_at, polarity_code, summary_at, numbers_of}
use Rattle.inventory.specs.declared.summary.Summary.{Summary}
use Rattle.build_inventory.specs.Build.{size_of, build_of, check_of, inventory_after, spill_after}
use Rattle.build_inventory.specs.declared.Sizes.{Sizes}
use Rattle.read_inventory.specs.Read.{Hint}
use Rattle.read_inventory.specs.Jump.{Part, of_inventory, of_spill, empty, select_of, hint_of, dwell_of, store_of}
use Rattle.select_list.specs.List.{Listed, list_of, total_of, places_after}
use Rattle.rank_inventory.specs.Rank.{rank_of}
use Rattle.step_knob.specs.Step.{next_of, previous_of, open_of, turn_of, place_after}
use Rattle.step_knob.specs.declared.walker.Walker.{Walker}
use Rattle.index_image.specs.Image.{write_of, length_of, bytes_after, read_of, cells_after, inventory_in, spill_in}
use Rattle.edge_index_c.specs.Codes.{bad_code, known, choice_at, uncounted}

-- ---- what a call whose outcome is o leaves
-- 0 for an answer, else the refusal's number
abbrev pub status_of : {A : Type 0} → Outcome A → ℕ
status_of (answer a) = 0
status_of (refused n) = n

-- an answer is written; a refusal writes nothing
abbrev pub out_of : {A : Type 0} → Outcome A → A → A
out_of (answer a) x = a
out_of (refused n) x = x

-- it returned r, and behind the out-parameters stood x₀ and stands x
pub record Returned {A : Type 0} (o : Outcome A) (r : ℕ) (x₀ x : A) : Type 0 where
  pub status : r ≡ status_of o
  pub out : x ≡ out_of o x₀

-- ---- calls on a record
unfoldable pub count_c : List ℕ → ℕ → ℕ → Outcome ℕ
count_c ws len pol = refuse_if (ltb 1 pol) bad_code (count_of ws len (polarity_at pol))

-- polarity and kind are tested before all else
abbrev pub if_known : {A : Type 0} → ℕ → ℕ → Outcome A → Outcome A
if_known pol kind rest = refuse_if (not (known pol kind)) bad_code rest

unfoldable pub plan_c : List ℕ → ℕ → ℕ → ℕ → ℕ → Float → ℕ → Outcome (List ℕ)
plan_c ws len pol kind value percentage log2 =
    if_known pol kind
    (and_then (plan_of ws len (polarity_at pol) (choice_at kind value percentage log2)) (λ p. answer (numbers_of (uncounted p))))

unfoldable pub size_c : List ℕ → ℕ → ℕ → ℕ → ℕ → Float → ℕ → Outcome Sizes
size_c ws len pol kind value percentage log2 = if_known pol kind (size_of ws len (polarity_at pol) (choice_at kind value percentage log2))

abbrev pub sizes_as : ℕ → ℕ → Sizes
sizes_as inventory spill = record { inventory = inventory; spill = spill }

-- build, where so many cells are lent
unfoldable pub build_c : List ℕ → ℕ → ℕ → ℕ → ℕ → ℕ → Float → ℕ → ℕ → ℕ → Outcome Summary
build_c ws len origin pol kind value percentage log2 cells spill =
    if_known pol kind (build_of ws len origin (polarity_at pol) (choice_at kind value percentage log2) cells spill)

-- a build whose outcome is o returned r and left these cells and numbers
pub record BuiltC (ws : List ℕ) (o : Outcome Summary) (inv₀ inv sp₀ sp out₀ out : List ℕ) (r : ℕ) : Type 0 where
  pub returned : Returned (and_then o (λ t. answer (numbers_of t))) r out₀ out
  pub inventory : inv ≡ inventory_after ws inv₀ o
  pub spill : sp ≡ spill_after ws sp₀ o

-- a summary's polarity is tested before all else
abbrev pub if_read : {A : Type 0} → List ℕ → Outcome A → Outcome A
if_read s rest = refuse_if (ltb 1 (get_or s 0 0)) bad_code rest

-- a yes is 1, a no 0
abbrev pub verdict_of : Outcome Bool → Outcome ℕ
verdict_of (answer true) = answer 1
verdict_of (answer false) = answer 0
verdict_of (refused n) = refused n

unfoldable pub check_c : List ℕ → ℕ → ℕ → ℕ → ℕ → ℕ → Float → ℕ → List ℕ → List ℕ → List ℕ → Outcome ℕ
check_c ws len origin pol kind value percentage log2 s inv sp =
    if_known pol kind
    (if_read s (verdict_of (check_of ws len origin (polarity_at pol) (choice_at kind value percentage log2) (summary_at s) inv sp)))

-- ---- calls on an index
unfoldable pub select_c : List ℕ → List ℕ → List ℕ → List ℕ → ℕ → Outcome ℕ
select_c ws s inv sp r = if_read s (select_of ws (summary_at s) inv sp r)

unfoldable pub hint_c : List ℕ → List ℕ → List ℕ → List ℕ → ℕ → Outcome Hint
hint_c ws s inv sp r = if_read s (hint_of ws (summary_at s) inv sp r)

abbrev pub hint_as : ℕ → ℕ → Hint
hint_as mark rank = record { mark = mark; rank = rank }

unfoldable pub dwell_c : List ℕ → List ℕ → List ℕ → List ℕ → ℕ → ℕ → Outcome ℕ
dwell_c ws s inv sp a b = if_read s (dwell_of ws (summary_at s) inv sp a b)

-- a list, where so many places are lent
unfoldable pub list_c : List ℕ → List ℕ → List ℕ → List ℕ → List ℕ → ℕ → Outcome Listed
list_c ws s inv sp ranks lent = if_read s (list_of ws (summary_at s) inv sp ranks lent)

-- a list whose outcome is o returned r and left these places and total
pub record ListedC (o : Outcome Listed) (l₀ l : List ℕ) (r out₀ out : ℕ) : Type 0 where
  pub returned : Returned (total_of o) r out₀ out
  pub places : l ≡ places_after o l₀

unfoldable pub rank_c : List ℕ → List ℕ → List ℕ → List ℕ → ℕ → Outcome ℕ
rank_c ws s inv sp x = if_read s (rank_of ws (summary_at s) inv sp x)

-- ---- steps
-- an edge and whether there is one, as C has them
pub record EdgeOut : Type 0 where
  pub edge : ℕ
  pub found : ℕ

abbrev pub edge_as : ℕ → ℕ → EdgeOut
edge_as edge found = record { edge = edge; found = found }

-- an edge goes out with a 1; none is a 0, and leaves the edge e₀ that stood there
abbrev pub edge_out : ℕ → Option ℕ → EdgeOut
edge_out e₀ (Some e) = edge_as e 1
edge_out e₀ None = edge_as e₀ 0

-- a call whose outcome is o returned r, and behind its out-parameters stood e₀ and f₀ and stand e and f
abbrev pub ReturnedEdge : Outcome (Option ℕ) → ℕ → ℕ → ℕ → ℕ → ℕ → Type 0
ReturnedEdge o r e₀ f₀ e f = Returned (and_then o (λ x. answer (edge_out e₀ x))) r (edge_as e₀ f₀) (edge_as e f)

unfoldable pub next_c : List ℕ → List ℕ → ℕ → Outcome (Option ℕ)
next_c ws s x = if_read s (next_of ws (summary_at s) x)

unfoldable pub previous_c : List ℕ → List ℕ → ℕ → Outcome (Option ℕ)
previous_c ws s x = if_read s (previous_of ws (summary_at s) x)

-- a walker without its words is four numbers
abbrev pub walker_numbers : Walker → List ℕ
walker_numbers w = w.len ∷ polarity_code w.polarity ∷ w.origin ∷ w.place ∷ []

unfoldable pub open_c : Bor (List ℕ) → List ℕ → ℕ → Outcome (List ℕ)
open_c ws s x = if_read s (and_then (open_of ws (summary_at s) x) (λ w. answer (walker_numbers w)))

-- a walker's polarity is tested before all else
unfoldable pub turn_c : List ℕ → List ℕ → Outcome (Option ℕ)
turn_c ws w =
    refuse_if (ltb 1 (get_or w 1 0)) bad_code
    (turn_of ws (get_or w 0 0) (polarity_at (get_or w 1 0)) (get_or w 2 0) (get_or w 3 0))

-- a turn of the walker w₀ returned r, and left w, e and f
pub record TurnedC (ws w₀ w : List ℕ) (r e₀ f₀ e f : ℕ) : Type 0 where
  pub returned : ReturnedEdge (turn_c ws w₀) r e₀ f₀ e f
  pub walker : w ≡ set w₀ 3 (place_after (turn_c ws w₀) (get_or w₀ 3 0))

-- ---- images
-- where so many bytes are lent
unfoldable pub write_c : List ℕ → List ℕ → List ℕ → ℕ → Outcome (List ℕ)
write_c s inv sp lent = if_read s (write_of (summary_at s) inv sp lent)

-- a writing whose outcome is o returned r and left these bytes and this length
pub record WroteC (o : Outcome (List ℕ)) (bytes₀ bytes : List ℕ) (r out₀ out : ℕ) : Type 0 where
  pub returned : Returned (length_of o) r out₀ out
  pub image : bytes ≡ bytes_after o bytes₀

-- a reading of these bytes returned r and left these cells and numbers; a polarity over 1 is 15, not a bad code
pub record ReadC (bytes inv₀ inv sp₀ sp out₀ out : List ℕ) (r : ℕ) : Type 0 where
  pub returned : Returned (and_then (read_of bytes inv₀ sp₀) (λ t. answer (numbers_of t))) r out₀ out
  pub inventory : inv ≡ cells_after (read_of bytes inv₀ sp₀) (inventory_in bytes) inv₀
  pub spill : sp ≡ cells_after (read_of bytes inv₀ sp₀) (spill_in bytes) sp₀

-- ---- in-word select
abbrev pub one_as : ℕ → ℕ → One
one_as position remaining = record { position = position; remaining = remaining }

-- ---- store
-- a part as numbers: its slice, 1 the inventory, 2 the spill; its first cell; how many
pub record Cells : Type 0 where
  pub slice : ℕ
  pub first : ℕ
  pub cells : ℕ

abbrev pub cells_as : ℕ → ℕ → ℕ → Cells
cells_as slice first cells = record { slice = slice; first = first; cells = cells }

-- an empty part is never handed out: StoreNames
abbrev pub part_numbers : Part → Cells
part_numbers (of_inventory c n) = cells_as 1 c n
part_numbers (of_spill c n) = cells_as 2 c n
part_numbers empty = cells_as 0 0 0

unfoldable pub subinventory_c : List ℕ → List ℕ → List ℕ → List ℕ → ℕ → Outcome Cells
subinventory_c ws s inv sp r =
    if_read s (and_then (store_of ws (summary_at s) inv sp r) (λ p. answer (part_numbers p)))

-- one of the two slices, a cell of it or more, and none past its end
pub record Named (inv sp : List ℕ) (c : Cells) : Type 0 where
  pub some : 0 < c.cells
  pub lent : ((c.slice ≡ 1) × (c.first + c.cells ≤ length inv)) ⊎ ((c.slice ≡ 2) × (c.first + c.cells ≤ length sp))

-- any store that is answered names such cells
abbrev pub StoreNames : Type 0
StoreNames = (ws s inv sp : List ℕ) (r : ℕ) (c : Cells) → subinventory_c ws s inv sp r ≡ answer c → Named inv sp c

-- store refuses exactly where hint does, by the same number
abbrev pub StoreRefuses : Type 0
StoreRefuses = (ws s inv sp : List ℕ) (r n : ℕ) → (subinventory_c ws s inv sp r ≡ refused n) ↔ (hint_c ws s inv sp r ≡ refused n)
