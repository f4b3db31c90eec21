use Rattle.pull_laws.proofs.ResumeEnds.{ends_resumed}
use Rattle.pull_laws.proofs.ResumedReports.{resuming_writes_the_same}
use Rattle.pull_laws.proofs.resuming_writes_that_same_report.Goals as goal

pub returns-clause-reports : goal.returns-clause-reports
returns-clause-reports c = ends_resumed

pub returns-clause-same : goal.returns-clause-same
returns-clause-same c = resuming_writes_the_same
