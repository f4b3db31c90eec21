use Rattle.std.proofs.Common.{◌≡◌, sym, ◌∙◌, ap, subst, IsTrue, arith}
use Rattle.crash_disk.specs.DiskView.{Held}
use Rattle.crash_disk.specs.Layout.{start_of, head_at, newer_head, target_by}
use Rattle.crash_disk.specs.Crash.{IsSettled, IsTarget, TellsGate, bytes_now}
use Rattle.crash_disk.specs.declared.slots.head.Slot.TheVariants.{Zero, One}
use Rattle.crash_disk.proofs.Moments.{leaves_stay}
use Rattle.crash_disk.proofs.Push.{error_is, error_alone, same_error, no_error}
use Rattle.crash_disk.proofs.SaveCalls.{target_not_synced, target_unread, target_found}
use Rattle.crash_disk.proofs.Chosen.{chosen, gate_told}
use Rattle.crash_disk.proofs.slots.finding.find_target.Goals as goal

pub returns-in_err-settle : goal.returns-in_err-settle
returns-in_err-settle g c =
    let result = c.from_residual.result in
    let is = error_is result c.in_err-settle.field-0.0 c.from_residual.ensures.1 in
    let settle = c.in_err-settle.ensures in
    record {
      outside_stays = λ known i behind. settle.bytes_stay known i;
      any_moment = settle.any_moment;
      ready = error_alone result _ is;
      gate = error_alone result _ is;
      cause = λ failed. settle.cause (same_error c.in_err-settle.field-0.0 _ (sym is ∙ failed));
      faults_stay_or_rise = settle.faults_stay_or_rise;
      asks = target_not_synced c.args.room (g.D.Disk.shown c.args.disk.now) (g.D.Disk.shown c.settle.new.disk) c.in_err-settle.field-0.0 result is settle.recorded;
    }

pub returns-in_err-zero : goal.returns-in_err-zero
returns-in_err-zero g c =
    let result = c.from_residual-in_err-zero.result in
    let is = error_is result c.in_err-zero.field-0.0 c.from_residual-in_err-zero.ensures.1 in
    let settle = c.settle.ensures in
    let read = c.read_heads.ensures in
    record {
      outside_stays = λ known i behind. ap (λ (h : Held). h.bytes i) (read.stays known).held ∙ settle.bytes_stay known i;
      any_moment = λ known. leaves_stay (g.D.Disk.shown c.args.disk.now) (g.D.Disk.shown c.settle.new.disk) (g.D.Disk.shown c.read_heads.new.disk) (settle.any_moment known) (read.stays known);
      ready = error_alone result _ is;
      gate = error_alone result _ is;
      cause = λ failed.
          let rose = c.in_err-zero.ensures.cause (same_error c.in_err-zero.field-0.0 _ (sym is ∙ failed)) in
          omega (arith, rose, settle.faults_stay_or_rise);
      faults_stay_or_rise = omega (arith, settle.faults_stay_or_rise, read.faults_stay_or_rise);
      asks = target_unread c.args.room (g.D.Disk.shown c.args.disk.now) (g.D.Disk.shown c.settle.new.disk) (g.D.Disk.shown c.read_heads.new.disk) c.in_err-zero.field-0.0 result is c.in_ok-settle.ensures.recorded c.in_err-zero.ensures.read;
    }

pub returns : goal.returns
returns g c =
    let settled = g.D.Disk.shown c.settle.new.disk in
    let settle = c.settle.ensures in
    let read = c.read_heads.ensures in
    let room = c.args.room in
    let zero = head_at (bytes_now settled) (start_of room Zero) in
    let one = head_at (bytes_now settled) (start_of room One) in
    let target = λ (known : IsTrue g.D.Disk.tells).
    c.target_of.ensures
    ∙ ap (λ h. target_by (newer_head room h c.in_ok-zero.one) h c.in_ok-zero.one) (c.in_ok-zero.ensures.zero known)
    ∙ ap (λ h. target_by (newer_head room zero h) zero h) (c.in_ok-zero.ensures.one known) in
    record {
      outside_stays = λ known i behind. ap (λ (h : Held). h.bytes i) (read.stays known).held ∙ settle.bytes_stay known i;
      any_moment = λ known. leaves_stay (g.D.Disk.shown c.args.disk.now) settled (g.D.Disk.shown c.read_heads.new.disk) (settle.any_moment known) (read.stays known);
      ready = λ known.
          let same = sym (read.stays known).held in
          let is : IsTarget (bytes_now settled) room c.target_of.result = subst (λ t. IsTarget (bytes_now settled) room t) (sym (target known)) (chosen (bytes_now settled) room) in
          record {
            settled = subst (λ (h : Held). IsSettled h) same (c.in_ok-settle.ensures.settled known);
            target_is = subst (λ (h : Held). IsTarget h.bytes room c.target_of.result) same is;
          };
      gate = λ known.
          let told_of : TellsGate (bytes_now settled) room c.target_of.result = subst (λ t. TellsGate (bytes_now settled) room t) (sym (target known)) (gate_told (bytes_now settled) room (newer_head room zero one)) in
          subst (λ (h : Held). TellsGate h.bytes room c.target_of.result) (sym (read.stays known).held) told_of;
      cause = λ failed. absurd (no_error _ _ failed);
      faults_stay_or_rise = omega (arith, settle.faults_stay_or_rise, read.faults_stay_or_rise);
      asks = target_found room (g.D.Disk.shown c.args.disk.now) settled (g.D.Disk.shown c.read_heads.new.disk) c.in_ok-zero.zero c.in_ok-zero.one c.target_of.result c.target_of.ensures c.in_ok-settle.ensures.recorded c.in_ok-zero.ensures.read;
    }
