-- The image of an index, and what writing and reading one answer and leave. Document 02, W-203.
use Rattle.std.specs.Prelude.{Bool, not, ◌||◌, List, [], ◌∷◌, ◌++◌, ◌≡◌, ℕ, ◌+◌, ◌*◌, ltb, length, take, drop, get_or, Result}
use Rattle.rank_sel.specs.Lists.{same_list}
use Rattle.rank_sel.specs.Outcome.{Outcome, answer, refused, outcome, Conditions, any_of, refuse_by, and_then}
use Rattle.rank_sel.specs.declared.Refusal.{Refusal}
use Rattle.bit_record.specs.Record.{of_len}
use Rattle.inventory.specs.Lawful.{of_summary, of_cells}
use Rattle.inventory.specs.Numbers.{summary_at, numbers_of}
use Rattle.inventory.specs.declared.summary.Summary.{Summary}
use Rattle.index_image.specs.Bytes.{bytes_of, words_from}

-- ---- the image
-- the bytes of the header, and where cells so many after it stand
abbrev pub header_len : ℕ
header_len = 88

abbrev pub offset_of : ℕ → ℕ
offset_of cells = header_len + 8 * cells

-- the eleven fields: a summary's nine numbers, each of the two counts followed by the byte offset of its cells
unfoldable pub header_of : List ℕ → List ℕ
header_of numbers = take 8 numbers ++ (offset_of 0 ∷ get_or numbers 8 0 ∷ offset_of (get_or numbers 7 0) ∷ [])

-- the bytes of a summary and cells: the header, the counted cells of the inventory, those of the spill
unfoldable pub image_of : Summary → List ℕ → List ℕ → List ℕ
image_of t inv sp = bytes_of (header_of (numbers_of t) ++ (take t.inventory_len inv ++ take t.spill_len sp))

-- ---- writing: 1, 14, 9, 6, 7, 16, where so many bytes are lent
-- a summary without a record: 1, 14, 9
abbrev pub of_summary_alone : Summary → Conditions
of_summary_alone t = of_len t.plan.len t.origin ++ of_summary t

abbrev pub place_too_short : Summary → List ℕ → List ℕ → ℕ → Bool
place_too_short t inv sp lent = ltb lent (length (image_of t inv sp))

abbrev pub of_writing : Summary → List ℕ → List ℕ → ℕ → Conditions
of_writing t inv sp lent = of_summary_alone t ++ (of_cells t inv sp ++ ((place_too_short t inv sp lent, 16) ∷ []))

unfoldable pub write_of : Summary → List ℕ → List ℕ → ℕ → Outcome (List ℕ)
write_of t inv sp lent = refuse_by (of_writing t inv sp lent) (answer (image_of t inv sp))

-- what is answered: the image's byte length
abbrev pub length_of : Outcome (List ℕ) → Outcome ℕ
length_of o = and_then o (λ image. answer (length image))

-- what the lent bytes hold afterwards: the image, and behind it what stood there; all as it was on a refusal
abbrev pub bytes_after : Outcome (List ℕ) → List ℕ → List ℕ
bytes_after (answer image) bytes = image ++ drop (length image) bytes
bytes_after (refused n) bytes = bytes

-- a writing whose outcome is o left these bytes and answered r
pub record Wrote (o : Outcome (List ℕ)) (bytes₀ bytes : List ℕ) (r : Result ℕ Refusal) : Type 0 where
  pub told : outcome r ≡ length_of o
  pub bytes_are : bytes ≡ bytes_after o bytes₀

-- ---- reading: 15, 6, 7
-- what bytes say, be they an image or not: a summary, by the header's fields but the offsets; its cells
abbrev pub numbers_in : List ℕ → List ℕ
numbers_in header = take 8 header ++ (get_or header 9 0 ∷ [])

unfoldable pub summary_in : List ℕ → Summary
summary_in bytes = summary_at (numbers_in (words_from bytes 0 11))

unfoldable pub inventory_in : List ℕ → List ℕ
inventory_in bytes = words_from bytes (offset_of 0) (summary_in bytes).inventory_len

unfoldable pub spill_in : List ℕ → List ℕ
spill_in bytes = words_from bytes (offset_of (summary_in bytes).inventory_len) (summary_in bytes).spill_len

-- 15: what they say is turned down by 1, 14 or 9, or has other bytes as its image. So no summary free of these, with any
-- cells, has these bytes (edge_index/specs/Images)
unfoldable pub image_unlawful : List ℕ → Bool
image_unlawful bytes =
    any_of (of_summary_alone (summary_in bytes)) || not (same_list (image_of (summary_in bytes) (inventory_in bytes) (spill_in bytes)) bytes)

abbrev pub of_reading : List ℕ → List ℕ → List ℕ → Conditions
of_reading bytes inv sp = (image_unlawful bytes, 15) ∷ of_cells (summary_in bytes) inv sp

-- into these cells
unfoldable pub read_of : List ℕ → List ℕ → List ℕ → Outcome Summary
read_of bytes inv sp = refuse_by (of_reading bytes inv sp) (answer (summary_in bytes))

-- what lent cells hold after a reading whose outcome is o: the image's, and behind them what stood there; all as it was on a refusal
abbrev pub cells_after : Outcome Summary → List ℕ → List ℕ → List ℕ
cells_after (answer t) cells lent = cells ++ drop (length cells) lent
cells_after (refused n) cells lent = lent

-- a reading of these bytes left these cells and answered r
pub record Read (bytes inv₀ inv sp₀ sp : List ℕ) (r : Result Summary Refusal) : Type 0 where
  pub told : outcome r ≡ read_of bytes inv₀ sp₀
  pub inventory : inv ≡ cells_after (read_of bytes inv₀ sp₀) (inventory_in bytes) inv₀
  pub spill : sp ≡ cells_after (read_of bytes inv₀ sp₀) (spill_in bytes) sp₀
