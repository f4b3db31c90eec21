use Rattle.std.proofs.Common.{◌≤◌, List, ℕ, length, refl, sym, ap, ◌∙◌, subst, arith}
use Rattle.crash_disk.proofs.Push.{error_is}
use Rattle.crash_disk.specs.SaveCalls.{Then, ClosesGate, WritesContent, OpensGate}
use Rattle.crash_disk.proofs.SaveCalls.{then_on, then_failed, saves_nowhere, saves_into}
use Rattle.crash_disk.proofs.Save.{saves_found, saves_same, saves_not, saves_last}
use Rattle.crash_disk.proofs.slots.saving.save_content.Goals as goal

pub close_gate-requires : goal.close_gate-requires
close_gate-requires g c = record {
  room = c.requires.room;
  ready = c.in_ok-target.ensures.ready;
  gate = c.in_ok-target.ensures.gate;
}

pub write_content-requires : goal.write_content-requires
write_content-requires g c = record {
  room = c.requires.room;
  fits = c.requires.fits;
  ready = c.in_ok-close_gate.ensures.ready;
  closed = c.in_ok-close_gate.ensures.closed;
}

pub open_gate-requires : goal.open_gate-requires
open_gate-requires g c =
    let staged = c.in_ok-write_content.ensures.staged in
    record {
      room = c.requires.room;
      ready = c.in_ok-write_content.ensures.ready;
      staged = λ known. record {
        number_is = (staged known).number_is;
        length_is = (staged known).length_is ∙ ap (λ (xs : List ℕ). length xs) (sym (staged known).content_is);
        content_is = refl;
      };
      fits = λ known. subst (λ (xs : List ℕ). length xs ≤ c.args.room) (sym (staged known).content_is) c.requires.fits;
    }

pub returns-in_err-target : goal.returns-in_err-target
returns-in_err-target g c =
    let error = c.in_err-target.field-0.0 in
    let old = g.D.Disk.shown c.args.disk.now in
    let is = error_is c.from_residual.result error c.from_residual.ensures.1 in
    saves_not c.from_residual.result error old.faults is (omega arith) c.in_err-target.ensures.cause
    (saves_found c.args.bytes.now c.find_target.ensures.any_moment c.find_target.ensures.outside_stays c.find_target.ensures.faults_stay_or_rise)
    (saves_nowhere c.args.room c.args.bytes.now old (g.D.Disk.shown c.find_target.new.disk) error c.from_residual.result is c.in_err-target.ensures.asks)

pub returns-in_err-close_gate : goal.returns-in_err-close_gate
returns-in_err-close_gate g c =
    let found = saves_found c.args.bytes.now c.find_target.ensures.any_moment c.find_target.ensures.outside_stays c.find_target.ensures.faults_stay_or_rise in
    let error = c.in_err-close_gate.field-0.0 in
    let result = c.from_residual-in_err-close_gate.result in
    let is = error_is result error c.from_residual-in_err-close_gate.ensures.1 in
    let room = c.args.room in
    let bytes = c.args.bytes.now in
    let target = c.in_ok-target.target in
    let start = g.D.Disk.shown c.find_target.new.disk in
    let new = g.D.Disk.shown c.close_gate.new.disk in
    saves_not result error start.faults is found.later c.in_err-close_gate.ensures.cause
    (saves_same found c.close_gate.ensures.harmless c.close_gate.ensures.faults_stay_or_rise)
    (saves_into room bytes target (g.D.Disk.shown c.args.disk.now) start new result c.in_ok-target.ensures.asks
    (then_failed (ClosesGate room target) (Then (WritesContent room target bytes) (OpensGate room target)) start new error result is c.in_err-close_gate.ensures.asks))

pub returns-in_err-write_content : goal.returns-in_err-write_content
returns-in_err-write_content g c =
    let found = saves_found c.args.bytes.now c.find_target.ensures.any_moment c.find_target.ensures.outside_stays c.find_target.ensures.faults_stay_or_rise in
    let shut = saves_same found c.close_gate.ensures.harmless c.close_gate.ensures.faults_stay_or_rise in
    let error = c.in_err-write_content.field-0.0 in
    let result = c.from_residual-in_err-write_content.result in
    let is = error_is result error c.from_residual-in_err-write_content.ensures.1 in
    let room = c.args.room in
    let bytes = c.args.bytes.now in
    let target = c.in_ok-target.target in
    let start = g.D.Disk.shown c.find_target.new.disk in
    let closed = g.D.Disk.shown c.close_gate.new.disk in
    let new = g.D.Disk.shown c.write_content.new.disk in
    saves_not result error closed.faults is shut.later c.in_err-write_content.ensures.cause
    (saves_same shut c.write_content.ensures.harmless c.write_content.ensures.faults_stay_or_rise)
    (saves_into room bytes target (g.D.Disk.shown c.args.disk.now) start new result c.in_ok-target.ensures.asks
    (then_on (ClosesGate room target) (Then (WritesContent room target bytes) (OpensGate room target)) start closed new result c.in_ok-close_gate.ensures.asks
    (then_failed (WritesContent room target bytes) (OpensGate room target) closed new error result is c.in_err-write_content.ensures.asks)))

pub returns : goal.returns
returns g c =
    let found = saves_found c.args.bytes.now c.find_target.ensures.any_moment c.find_target.ensures.outside_stays c.find_target.ensures.faults_stay_or_rise in
    let shut = saves_same found c.close_gate.ensures.harmless c.close_gate.ensures.faults_stay_or_rise in
    let put = saves_same shut c.write_content.ensures.harmless c.write_content.ensures.faults_stay_or_rise in
    let last = c.open_gate.ensures in
    let room = c.args.room in
    let bytes = c.args.bytes.now in
    let target = c.in_ok-target.target in
    let start = g.D.Disk.shown c.find_target.new.disk in
    let closed = g.D.Disk.shown c.close_gate.new.disk in
    let staged = g.D.Disk.shown c.write_content.new.disk in
    let new = g.D.Disk.shown c.open_gate.new.disk in
    saves_last c.open_gate.result put (λ known. (c.in_ok-write_content.ensures.staged known).content_is) last.any_moment last.saved last.outside_stays last.cause last.faults_stay_or_rise
    (saves_into room bytes target (g.D.Disk.shown c.args.disk.now) start new c.open_gate.result c.in_ok-target.ensures.asks
    (then_on (ClosesGate room target) (Then (WritesContent room target bytes) (OpensGate room target)) start closed new c.open_gate.result c.in_ok-close_gate.ensures.asks
    (then_on (WritesContent room target bytes) (OpensGate room target) closed staged new c.open_gate.result c.in_ok-write_content.ensures.asks last.asks)))
