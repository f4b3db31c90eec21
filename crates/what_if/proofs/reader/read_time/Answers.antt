use Rattle.std.proofs.Common.{◌≡◌, sym, ap, subst, ◌∙◌, arith}
use Rattle.std.specs.Prelude.{Some, decimal}
use Rattle.event_graph.specs.Network.{label}
use Rattle.what_if.specs.declared.edit.Edit.{Edit}
use Rattle.what_if.specs.declared.edit.Edit.TheVariants.{Time}
use Rattle.what_if.specs.Edits.{before_space, machine_with, HasNoSpace}
use Rattle.what_if.proofs.WordsOfEdits.{has_space, time-writes, time-split, time-parts, none-some, nothing-is, some-is}
use Rattle.what_if.proofs.reader.read_time.Goals as goal

pub returns-in_err-label-clause-tells : goal.returns-in_err-label-clause-tells
returns-in_err-label-clause-tells c edit writes =
    let g = c.args.graph.now in
    time-writes g c.args.text.now edit (λ e. c.from_residual.result ≡ Some e) writes (λ t n time valid is.
    absurd (has_space (label g t) (before_space (decimal n) (decimal time)) (subst HasNoSpace is c.in_err-label.ensures)))

pub returns-in_err-job-clause-tells : goal.returns-in_err-job-clause-tells
returns-in_err-job-clause-tells c edit writes =
    time-split c.args.graph.now c.args.text.now c.in_ok-label.label.now c.in_ok-label.rest.now edit (λ e. c.from_residual-in_err-job.result ≡ Some e) c.in_ok-label.ensures writes (λ t n time valid named follows.
    absurd (has_space (decimal n) (decimal time) (subst HasNoSpace follows c.in_err-job.ensures)))

pub returns-in_err-station-clause-tells : goal.returns-in_err-station-clause-tells
returns-in_err-station-clause-tells c edit writes =
    let g = c.args.graph.now in
    time-split g c.args.text.now c.in_ok-label.label.now c.in_ok-label.rest.now edit (λ e. c.from_residual-in_err-station.result ≡ Some e) c.in_ok-label.ensures writes (λ t n time valid named follows.
    absurd (none-some (machine_with g (label g t)) t (ap (machine_with g) (sym named) ∙ sym c.in_err-station.ensures.found) valid.machine))

pub returns-in_err-job-2-clause-tells : goal.returns-in_err-job-2-clause-tells
returns-in_err-job-2-clause-tells c edit writes =
    time-parts c.args.graph.now c.args.text.now c.in_ok-label.label.now c.in_ok-label.rest.now c.in_ok-job.job.now c.in_ok-job.time.now edit (λ e. c.from_residual-in_err-job-2.result ≡ Some e) c.in_ok-label.ensures c.in_ok-job.ensures (omega (arith, c.in_err-job-2.ensures.few)) writes (λ t n time valid named job_is last_is.
    absurd (nothing-is n (c.in_err-job-2.ensures.tells n valid.from_one valid.job job_is)))

pub returns-in_err-time-clause-tells : goal.returns-in_err-time-clause-tells
returns-in_err-time-clause-tells c edit writes =
    time-parts c.args.graph.now c.args.text.now c.in_ok-label.label.now c.in_ok-label.rest.now c.in_ok-job.job.now c.in_ok-job.time.now edit (λ e. c.from_residual-in_err-time.result ≡ Some e) c.in_ok-label.ensures c.in_ok-job.ensures (omega (arith, c.in_ok-job-2.ensures.few)) writes (λ t n time valid named job_is last_is.
    absurd (nothing-is time (c.in_err-time.ensures.tells time valid.short last_is)))

pub returns-clause-tells : goal.returns-clause-tells
returns-clause-tells c edit writes =
    let g = c.args.graph.now in
    let station = c.in_ok-station.station in
    let job = c.in_ok-job-2.job in
    let last = c.in_ok-time.time in
    let Same : Edit → Type 0 = λ e. Some (Time station job last) ≡ Some e in
    time-parts g c.args.text.now c.in_ok-label.label.now c.in_ok-label.rest.now c.in_ok-job.job.now c.in_ok-job.time.now edit Same c.in_ok-label.ensures c.in_ok-job.ensures (omega (arith, c.in_ok-job-2.ensures.few)) writes (λ t n time valid named job_is last_is.
    let same_station = some-is station t (c.in_ok-station.ensures.found ∙ ap (machine_with g) named ∙ valid.machine) in
    let same_job = some-is job n (c.in_ok-job-2.ensures.tells n valid.from_one valid.job job_is) in
    let same_time = some-is last time (c.in_ok-time.ensures.tells time valid.short last_is) in
    ap (λ s. Some (Time s job last)) same_station ∙ ap (λ j. Some (Time t j last)) same_job ∙ ap (λ x. Some (Time t n x)) same_time)
