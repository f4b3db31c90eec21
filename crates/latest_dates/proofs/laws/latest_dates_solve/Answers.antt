use Rattle.latest_dates.proofs.Ordered.{ordered, upward}
use Rattle.latest_dates.proofs.LatestSolution.{latest_solve, latest_solve_as_table}
use Rattle.latest_dates.proofs.laws.latest_dates_solve.Goals as goal

pub returns-clause-solve : goal.returns-clause-solve
returns-clause-solve c = λ g some graph live may x solves served y latest.
    latest_solve (ordered g graph live) (upward g graph live) graph may x solves served y latest some

pub returns-clause-as_table : goal.returns-clause-as_table
returns-clause-as_table c = λ g some graph live may x solves served y latest z dates.
    latest_solve_as_table (ordered g graph live) (upward g graph live) graph may x solves served y latest some z dates
