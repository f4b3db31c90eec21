use Rattle.std.proofs.Common.{sym, ap, ◌∙◌, arith}
use Rattle.crash_disk.specs.DiskView.{held_now}
use Rattle.crash_disk.specs.Layout.{head_of_bytes}
use Rattle.crash_disk.proofs.Moments.{stays_by}
use Rattle.crash_disk.proofs.Push.{error_is, error_alone, same_error, no_error}
use Rattle.crash_disk.proofs.Bytes.{head_of_bytes-bytes_at}
use Rattle.crash_disk.proofs.slots.head.read_head.Goals as goal

pub returns-clause-head : goal.returns-clause-head
returns-clause-head g c = λ known.
    let bytes = c.in_ok-bytes.ensures.bytes known in
    c.head_of.ensures ∙ ap head_of_bytes (c.deref.ensures.value ∙ bytes)
    ∙ head_of_bytes-bytes_at (held_now (g.D.Disk.shown c.args.disk.now)).bytes c.args.start

pub read-requires : goal.read-requires
read-requires g c = record { inside = omega (arith, c.requires) }

pub returns-clause-stays : goal.returns-clause-stays
returns-clause-stays g c = λ known.
    stays_by (g.D.Disk.shown c.args.disk.now) (g.D.Disk.shown c.read.new.self) (c.read.ensures.stays known) (c.read.ensures.time known)

pub returns-clause-cause : goal.returns-clause-cause
returns-clause-cause g c = λ failed. absurd (no_error _ _ failed)

pub returns-in_err-bytes-clause-head : goal.returns-in_err-bytes-clause-head
returns-in_err-bytes-clause-head g c =
    error_alone c.from_residual.result _ (error_is c.from_residual.result c.in_err-bytes.field-0.0 c.from_residual.ensures.1)

pub returns-in_err-bytes-clause-stays : goal.returns-in_err-bytes-clause-stays
returns-in_err-bytes-clause-stays g c = λ known.
    stays_by (g.D.Disk.shown c.args.disk.now) (g.D.Disk.shown c.read.new.self) (c.read.ensures.stays known) (c.read.ensures.time known)

pub returns-in_err-bytes-clause-cause : goal.returns-in_err-bytes-clause-cause
returns-in_err-bytes-clause-cause g c = λ failed.
    let error = c.in_err-bytes.field-0.0 in
    let is = error_is c.from_residual.result error c.from_residual.ensures.1 in
    c.in_err-bytes.ensures.cause (same_error error _ (sym is ∙ failed))
