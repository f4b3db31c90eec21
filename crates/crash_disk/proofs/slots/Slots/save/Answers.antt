use Rattle.std.proofs.Common.{refl, arith}
use Rattle.std.specs.Prelude.{Ok, Err}
use Rattle.crash_disk.proofs.Push.{error_is, error_alone, no_error}
use Rattle.crash_disk.specs.Errors.{error_of}
use Rattle.crash_disk.proofs.Loads.{gave_up}
use Rattle.crash_disk.proofs.slots.Slots.save.Goals as goal

pub returns-in_err-save_content : goal.returns-in_err-save_content
returns-in_err-save_content g c =
    let old = g.D.Disk.shown c.args.self.now.disk.now in
    let new = g.D.Disk.shown c.save_content.new.disk in
    let result = c.from_residual.result in
    let error = c.in_err-save_content.field-0.0 in
    let is = error_is result (error_of error) c.from_residual.ensures.1 in
    let saves = c.in_err-save_content.ensures in
    let fails = gave_up result error old.faults old.faults new.faults is (omega arith) saves.cause in
    record {
      same_disk = refl;
      same_room = refl;
      any_moment = saves.any_moment;
      saved = error_alone result _ is;
      outside_stays = saves.outside_stays;
      too_long = ((λ long. absurd (fails.too_long _ long)), λ more. absurd (omega arith));
      have = λ have long. absurd (fails.too_long have long);
      untouched = λ more. absurd (omega arith);
      disk_fault = fails.fault;
      never_none_saved = fails.none_saved;
      asks = λ fits. record { between = Err error; asks = saves.asks; says = is };
      faults_stay_or_rise = saves.faults_stay_or_rise;
    }

pub returns : goal.returns
returns g c =
    let saves = c.in_ok-save_content.ensures in
    record {
      same_disk = refl;
      same_room = refl;
      any_moment = saves.any_moment;
      saved = saves.saved;
      outside_stays = saves.outside_stays;
      too_long = ((λ long. absurd (no_error _ _ long)), λ more. absurd (omega arith));
      have = λ have long. absurd (no_error _ _ long);
      untouched = λ more. absurd (omega arith);
      disk_fault = λ failed. absurd (no_error _ _ failed);
      never_none_saved = no_error _ _;
      asks = λ fits. record { between = Ok tt; asks = saves.asks; says = refl };
      faults_stay_or_rise = saves.faults_stay_or_rise;
    }
