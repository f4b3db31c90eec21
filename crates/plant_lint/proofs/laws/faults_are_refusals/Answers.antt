use Rattle.plant_lint.proofs.DraftLints.{errors-records}
use Rattle.plant_lint.proofs.SoundFiles.{sound_where_read}
use Rattle.plant_lint.proofs.laws.faults_are_refusals.Goals as goal

pub returns-clause-files : goal.returns-clause-files
returns-clause-files c = sound_where_read

pub returns-clause-records : goal.returns-clause-records
returns-clause-records c = errors-records
