use Rattle.outside_io.proofs.Spares.{spare_is_no_file}
use Rattle.outside_io.proofs.laws.spares_are_no_files.Goals as goal

pub returns-clause-spares : goal.returns-clause-spares
returns-clause-spares c = spare_is_no_file
