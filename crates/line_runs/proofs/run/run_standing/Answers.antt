use Rattle.line_runs.proofs.run.run_standing.Goals as goal

pub returns-clause-ends : goal.returns-clause-ends
returns-clause-ends g c = record {
  last = c.stand-line.result;
  goes_on = c.stand-line.ensures.goes_on;
  done = c.stand-line.ensures.finished;
  dates = c.table_of.ensures.dates;
}
