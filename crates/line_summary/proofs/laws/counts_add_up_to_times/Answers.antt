use Rattle.line_summary.proofs.Stays.{dates-add_up, stays-add_up, parts-add_up, backlog-adds_up}
use Rattle.line_summary.proofs.laws.counts_add_up_to_times.Goals as goal

pub returns-clause-dates : goal.returns-clause-dates
returns-clause-dates c = dates-add_up

pub returns-clause-stays : goal.returns-clause-stays
returns-clause-stays c = stays-add_up

pub returns-clause-process : goal.returns-clause-process
returns-clause-process c = λ p sound x solves i below. parts-add_up p x sound solves i below

pub returns-clause-backlog : goal.returns-clause-backlog
returns-clause-backlog c = λ p sound x solves. backlog-adds_up p x sound solves
