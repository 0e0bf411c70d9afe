-- The numbers are those of the header, and the summary is theirs.
use mathlib.Core.List.{List}
use mathlib.Core.Path.{ap, ◌∙◌}
use Prim.Native.Nat.{ℕ}
use Rattle.inventory.specs.Numbers.{summary_at}
use Rattle.index_image.specs.Image.{numbers_in, summary_in}
use Rattle.index_image.proofs.header.summary_in.Goals as goal

pub returns : goal.returns
unfolding summary_in
returns c =
    c.summary_at.ensures
    ∙ ap summary_at c.numbers_in.ensures
    ∙ ap (λ (z : List ℕ). summary_at (numbers_in z)) c.read_header.ensures
