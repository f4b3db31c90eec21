use Rattle.std.proofs.Common.{◌+◌, ◌<◌, [], take, drop, sym, ap, ◌∙◌, append-nil, arith}
use Rattle.std.proofs.lemmas.List.{take_all}
use Rattle.crash_disk.specs.DiskView.{Held, after_write}
use Rattle.crash_disk.specs.RawFile.{raw_now, disk_of}
use Rattle.crash_disk.proofs.RawModel.{written-none, written_more, torn_more, passes_here, passes_written, passes_torn}
use Rattle.crash_disk.proofs.RawRuns.{writes_none, writes_all, puts_more, puts_refused}
use Rattle.crash_disk.proofs.file_disk.put.Goals as goal

pub loop-taken-init : goal.loop-taken-init
loop-taken-init g c = record {
  within = omega arith;
  is_open = c.requires.open;
  calls = ([], sym (append-nil (g.F.RawFile.shown c.args.file.now).asked), writes_none c.args.at c.args.bytes.now);
  written = λ known. sym (written-none (raw_now (g.F.RawFile.shown c.args.file.now)) c.args.at);
  time = λ known. passes_here (disk_of (g.F.RawFile.shown c.args.file.now));
}

pub loop-taken-preserved : goal.loop-taken-preserved
loop-taken-preserved g c =
    let once = c.write_once-count.ensures in
    let count = c.write_once-count.result in
    let some : 0 < count = omega (arith, c.if-count-eq0.false) in
    let held = raw_now (g.F.RawFile.shown c.args.file.now) in
    record {
      within = omega (arith, once.bound);
      is_open = once.open_stays;
      calls = puts_more c.args.at c.args.bytes.now c.loop-taken.taken count _ _ _ c.loop-taken.invariant.calls once.recorded c.loop-taken-test.true some;
      written = λ known. once.written some known
          ∙ ap (λ (h : Held). after_write h (c.args.at + c.loop-taken.taken) (take count (drop c.loop-taken.taken c.args.bytes.now))) (c.loop-taken.invariant.written known)
          ∙ written_more held c.args.at c.args.bytes.now c.loop-taken.taken count c.loop-taken.invariant.within;
      time = λ known. passes_written (disk_of (g.F.RawFile.shown c.args.file.now)) (disk_of (g.F.RawFile.shown c.loop-taken.file)) (disk_of (g.F.RawFile.shown c.write_once-count.new.file)) _ _ (c.loop-taken.invariant.time known) (once.time known) (once.written some known);
    }

pub returns-then-count-eq0-clause-asks : goal.returns-then-count-eq0-clause-asks
returns-then-count-eq0-clause-asks g c =
    puts_refused c.args.at c.args.bytes.now c.loop-taken.taken c.write_once-count.result _ _ _ c.loop-taken.invariant.calls c.write_once-count.ensures.recorded c.loop-taken-test.true c.if-count-eq0.true

pub returns-then-count-eq0-clause-torn : goal.returns-then-count-eq0-clause-torn
returns-then-count-eq0-clause-torn g c = λ known.
    torn_more _ (raw_now (g.F.RawFile.shown c.loop-taken.file)) _ c.args.at c.args.bytes.now c.loop-taken.taken c.loop-taken.invariant.within (c.loop-taken.invariant.written known) (c.write_once-count.ensures.torn c.if-count-eq0.true known)

pub returns-then-count-eq0-clause-time : goal.returns-then-count-eq0-clause-time
returns-then-count-eq0-clause-time g c = λ known.
    passes_torn (disk_of (g.F.RawFile.shown c.args.file.now)) (disk_of (g.F.RawFile.shown c.loop-taken.file)) (disk_of (g.F.RawFile.shown c.write_once-count.new.file)) _ _ (c.loop-taken.invariant.time known) (c.write_once-count.ensures.time known) (c.write_once-count.ensures.torn c.if-count-eq0.true known)

pub returns-clause-asks : goal.returns-clause-asks
returns-clause-asks g c =
    let before = c.loop-taken.invariant in
    (before.calls.0, before.calls.1, writes_all c.args.at c.args.bytes.now c.loop-taken.taken before.calls.0 before.calls.2 (omega (arith, c.loop-taken-test.false)))

pub returns-clause-written : goal.returns-clause-written
returns-clause-written g c = λ known.
    c.loop-taken.invariant.written known
    ∙ ap (λ xs. after_write (raw_now (g.F.RawFile.shown c.args.file.now)) c.args.at xs) (take_all c.loop-taken.taken c.args.bytes.now (omega (arith, c.loop-taken-test.false)))
