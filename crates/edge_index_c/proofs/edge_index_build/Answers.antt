-- An unknown code leaves all as it was. Else the codes stand for the entry's arguments, and its summary goes out as nine
-- numbers or its refusal as its own, with the cells that it left (`built_goes`).
use mathlib.Core.Path.{refl, ap₂}
use lib.ListN.{length}
use Rattle.bit_record.specs.declared.Polarity.{Polarity}
use Rattle.spacing.specs.declared.Choice.{Choice}
use Rattle.inventory.specs.Numbers.{numbers_of}
use Rattle.build_inventory.specs.Build.{build_of}
use Rattle.edge_index_c.specs.Calls.{build_c}
use Rattle.edge_index_c.proofs.Returns.{mapped, built_goes}
use Rattle.edge_index_c.proofs.edge_index_build.Goals as goal

pub returns-in_default : goal.returns-in_default
unfolding build_c
returns-in_default c =
    rw (c.in_default.ensures)
    (record { returned = record { status = refl; out = refl }; inventory = refl; spill = refl })

pub returns : goal.returns
unfolding build_c
returns c =
    let a = c.args in
    rw (c.in-Some.ensures.0)
    (built_goes
    (ap₂ (λ (p : Polarity) (k : Choice). build_of a.words.now a.len a.origin p k (length a.inventory.now) (length a.spill.now))
    c.in-Some.ensures.1 c.in-Some.ensures.2)
    c.build-told.ensures.built (mapped numbers_of _ _ c.map.ensures.cases) c.give.ensures)
