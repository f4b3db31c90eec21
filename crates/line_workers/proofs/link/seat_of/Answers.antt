use Rattle.std.proofs.Common.{◌≤◌, ap, ◌∙◌, arith}
use Rattle.line_worker.specs.Share.{first_of}
use Rattle.line_worker.proofs.Share.{first-le}
use Rattle.line_workers.proofs.link.seat_of.Goals as goal

pub overflow_sub-result : goal.overflow_sub-result
overflow_sub-result c =
    let W = c.args.worker_count in
    let T = c.args.stations in
    let any : 1 ≤ T = omega (arith, c.requires.station) in
    omega (arith, c.first_of.ensures ∙ ap (first_of W T) c.worker_of-worker_number.ensures, first-le W T c.requires.some any c.args.t)
