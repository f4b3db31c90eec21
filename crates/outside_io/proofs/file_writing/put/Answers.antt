use Rattle.std.proofs.Common.{◌<◌, [], sym, append-nil, arith}
use Rattle.outside_io.proofs.RawFilesModel.{grows_none, grows_more, grows_torn, grows_all, front_of_all}
use Rattle.outside_io.proofs.RawFilesRuns.{writes_none, writes_all, puts_more, puts_refused}
use Rattle.outside_io.proofs.file_writing.put.Goals as goal

pub loop-taken-init : goal.loop-taken-init
loop-taken-init g c = record {
  within = omega arith;
  is_open = c.requires.open;
  calls = ([], sym (append-nil (g.F.RawFiles.shown c.args.files.now).asked), writes_none c.args.bytes.now);
  written = λ known. grows_none (g.F.RawFiles.shown c.args.files.now);
}

pub loop-taken-preserved : goal.loop-taken-preserved
loop-taken-preserved g c =
    let before = c.loop-taken.invariant in
    let once = c.write_once-count.ensures in
    let old = g.F.RawFiles.shown c.args.files.now in
    let mid = g.F.RawFiles.shown c.loop-taken.files in
    let new = g.F.RawFiles.shown c.write_once-count.new.files in
    let some : 0 < c.write_once-count.result = omega (arith, c.if-count-eq0.false) in
    record {
      within = omega (arith, once.bound);
      is_open = once.open_stays;
      calls = puts_more c.args.bytes.now c.loop-taken.taken c.write_once-count.result old mid new before.calls once.recorded c.loop-taken-test.true some;
      written = λ known. grows_more old mid new c.args.bytes.now c.loop-taken.taken c.write_once-count.result (before.written known) (once.written some known);
    }

pub returns-then-count-eq0-clause-asks : goal.returns-then-count-eq0-clause-asks
returns-then-count-eq0-clause-asks g c =
    puts_refused c.args.bytes.now c.loop-taken.taken c.write_once-count.result (g.F.RawFiles.shown c.args.files.now) (g.F.RawFiles.shown c.loop-taken.files) (g.F.RawFiles.shown c.write_once-count.new.files) c.loop-taken.invariant.calls c.write_once-count.ensures.recorded c.loop-taken-test.true c.if-count-eq0.true

pub returns-then-count-eq0-clause-torn : goal.returns-then-count-eq0-clause-torn
returns-then-count-eq0-clause-torn g c = λ known.
    grows_torn (g.F.RawFiles.shown c.args.files.now) (g.F.RawFiles.shown c.loop-taken.files) (g.F.RawFiles.shown c.write_once-count.new.files) c.args.bytes.now c.loop-taken.taken (c.loop-taken.invariant.written known) (c.write_once-count.ensures.torn known)

pub returns-clause-asks : goal.returns-clause-asks
returns-clause-asks g c =
    let before = c.loop-taken.invariant in
    (before.calls.0, before.calls.1, writes_all c.args.bytes.now c.loop-taken.taken before.calls.0 before.calls.2 (omega (arith, c.loop-taken-test.false)))

pub returns-clause-written : goal.returns-clause-written
returns-clause-written g c = λ known.
    grows_all (g.F.RawFiles.shown c.args.files.now) (g.F.RawFiles.shown c.loop-taken.files) c.args.bytes.now c.loop-taken.taken (c.loop-taken.invariant.written known) (omega (arith, c.loop-taken-test.false))

pub returns-clause-torn : goal.returns-clause-torn
returns-clause-torn g c = λ known.
    front_of_all (g.F.RawFiles.shown c.args.files.now) (g.F.RawFiles.shown c.loop-taken.files) c.args.bytes.now (grows_all (g.F.RawFiles.shown c.args.files.now) (g.F.RawFiles.shown c.loop-taken.files) c.args.bytes.now c.loop-taken.taken (c.loop-taken.invariant.written known) (omega (arith, c.loop-taken-test.false)))
