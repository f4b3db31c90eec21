use Rattle.std.proofs.Common.{ℕ, Ok, Err, ◌∙◌, ap, subst}
use Rattle.std.proofs.lemmas.Result.{err_from_is_err_and}
use Rattle.crash_disk.specs.DiskView.{Held}
use Rattle.crash_disk.specs.Crash.{bytes_now}
use Rattle.crash_disk.specs.Layout.{start_of, head_at}
use Rattle.crash_disk.specs.Loads.{ReadsHead}
use Rattle.crash_disk.specs.declared.slots.head.Slot.TheVariants.{One}
use Rattle.crash_disk.proofs.Moments.{stays_on}
use Rattle.crash_disk.proofs.Loads.{zero_unread, one_unread, heads_read}
use Rattle.crash_disk.proofs.slots.head.read_heads.Goals as goal

pub returns-in_err-one-clause-stays : goal.returns-in_err-one-clause-stays
returns-in_err-one-clause-stays g c = λ known.
    stays_on (g.D.Disk.shown c.args.disk.now) (g.D.Disk.shown c.read_head.new.disk) (g.D.Disk.shown c.read_head-2.new.disk) (c.read_head.ensures.stays known) (c.read_head-2.ensures.stays known)

pub returns-clause-stays : goal.returns-clause-stays
returns-clause-stays g c = λ known.
    stays_on (g.D.Disk.shown c.args.disk.now) (g.D.Disk.shown c.read_head.new.disk) (g.D.Disk.shown c.read_head-2.new.disk) (c.read_head.ensures.stays known) (c.read_head-2.ensures.stays known)

pub returns-clause-zero : goal.returns-clause-zero
returns-clause-zero g c = λ known.
    c.in_ok-zero.ensures.head known ∙ ap (head_at (bytes_now (g.D.Disk.shown c.args.disk.now))) c.start.ensures

pub returns-clause-one : goal.returns-clause-one
returns-clause-one g c = λ known.
    c.in_ok-one.ensures.head known ∙ ap (head_at (bytes_now (g.D.Disk.shown c.read_head.new.disk))) c.start-2.ensures
    ∙ ap (λ (h : Held). head_at h.bytes (start_of c.args.room One)) (c.read_head.ensures.stays known).held

pub returns-in_err-zero-clause-read : goal.returns-in_err-zero-clause-read
returns-in_err-zero-clause-read g c =
    let old = g.D.Disk.shown c.args.disk.now in
    let new = g.D.Disk.shown c.read_head.new.disk in
    let error = c.in_err-zero.field-0.0 in
    let p = err_from_is_err_and c.from_residual.result c.from_residual.ensures.1 in
    let zero = subst (λ (start : ℕ). ReadsHead start old new (Err error)) c.start.ensures c.in_err-zero.ensures.read in
    rw (p.1, p.2) (zero_unread c.args.room old new error zero)

pub returns-in_err-one-clause-read : goal.returns-in_err-one-clause-read
returns-in_err-one-clause-read g c =
    let old = g.D.Disk.shown c.args.disk.now in
    let mid = g.D.Disk.shown c.read_head.new.disk in
    let new = g.D.Disk.shown c.read_head-2.new.disk in
    let error = c.in_err-one.field-0.0 in
    let p = err_from_is_err_and c.from_residual-in_err-one.result c.from_residual-in_err-one.ensures.1 in
    let zero = subst (λ (start : ℕ). ReadsHead start old mid (Ok c.in_ok-zero.zero)) c.start.ensures c.in_ok-zero.ensures.read in
    let one = subst (λ (start : ℕ). ReadsHead start mid new (Err error)) c.start-2.ensures c.in_err-one.ensures.read in
    rw (p.1, p.2) (one_unread c.args.room old mid new c.in_ok-zero.zero error zero one)

pub returns-clause-read : goal.returns-clause-read
returns-clause-read g c =
    let old = g.D.Disk.shown c.args.disk.now in
    let mid = g.D.Disk.shown c.read_head.new.disk in
    let new = g.D.Disk.shown c.read_head-2.new.disk in
    let zero = subst (λ (start : ℕ). ReadsHead start old mid (Ok c.in_ok-zero.zero)) c.start.ensures c.in_ok-zero.ensures.read in
    let one = subst (λ (start : ℕ). ReadsHead start mid new (Ok c.in_ok-one.one)) c.start-2.ensures c.in_ok-one.ensures.read in
    heads_read c.args.room old mid new c.in_ok-zero.zero c.in_ok-one.one zero one
