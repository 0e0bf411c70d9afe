use Rattle.bit_record.proofs.Same.{selected_same, count_same}
use Rattle.bit_record.proofs.laws.padding_alters_no_selection.Goals as goal

pub returns-clause-bits : goal.returns-clause-bits
returns-clause-bits c len ws vs pol s = selected_same len ws vs s pol

pub returns-clause-number : goal.returns-clause-number
returns-clause-number c len ws vs pol s = count_same len ws vs s pol
