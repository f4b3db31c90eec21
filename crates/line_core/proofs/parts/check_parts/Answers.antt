use Rattle.line_core.proofs.parts.check_parts.Goals as goal

pub check_dates-requires-clause-logs : goal.check_dates-requires-clause-logs
check_dates-requires-clause-logs c = record { a_log_each = c.requires.a_log_each; early = c.requires.early }
