use Rattle.line_report.proofs.SameReports.{one_report, one_text}
use Rattle.line_report.proofs.laws.schedules_agree.Goals as goal

pub returns-clause-tables : goal.returns-clause-tables
returns-clause-tables c = one_report

pub returns-clause-reports : goal.returns-clause-reports
returns-clause-reports c = one_text
