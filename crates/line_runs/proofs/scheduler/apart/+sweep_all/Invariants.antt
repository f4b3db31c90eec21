use Rattle.std.proofs.Common.{vec_len}
use Rattle.line_runs.proofs.scheduler.apart.+sweep_all.Given as goal

abbrev pub decreases-sweep_all : goal.decreases-sweep_all
decreases-sweep_all g l = vec_len l.workers
