use Rattle.pull_laws.proofs.ResumingRecorded.{ends_resumed_recorded, resuming_recorded_writes_the_same}
use Rattle.pull_laws.proofs.resuming_writes_that_same_report_by_the_records.Goals as goal

pub returns-clause-reports : goal.returns-clause-reports
returns-clause-reports c = ends_resumed_recorded

pub returns-clause-same : goal.returns-clause-same
returns-clause-same c = resuming_recorded_writes_the_same
