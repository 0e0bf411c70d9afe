-- The bytes together stay below 256, so that the three additions fit and, by `sums`, each byte is its running sum.
use Rattle.select_in_word.proofs.Sums.{pairs_fits, quads_fits, sums_fits, sums}
use Rattle.select_in_word.proofs.running_sums.Goals as goal

pub overflow_add-pairs : goal.overflow_add-pairs
overflow_add-pairs c =
    record { fits = pairs_fits c.args.bytes c.requires c.ranges.bytes.fits }

pub overflow_add-quads : goal.overflow_add-quads
overflow_add-quads c =
    record { fits = quads_fits c.args.bytes c.requires c.ranges.bytes.fits }

pub overflow_add-result : goal.overflow_add-result
overflow_add-result c =
    record { fits = sums_fits c.args.bytes c.requires c.ranges.bytes.fits }

pub returns : goal.returns
returns c =
    sums c.args.bytes c.requires c.ranges.bytes.fits
