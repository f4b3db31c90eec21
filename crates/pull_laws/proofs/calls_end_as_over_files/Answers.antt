use Rattle.pull_laws.proofs.OverFiles.{ends_over_files}
use Rattle.pull_laws.proofs.calls_end_as_over_files.Goals as goal

pub returns : goal.returns
returns c = ends_over_files
