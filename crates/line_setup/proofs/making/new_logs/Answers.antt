use Rattle.std.proofs.Common.{length, ap, arith}
use Rattle.std.proofs.lemmas.List.{length_push}
use Rattle.line_setup.proofs.MadeStations.{no_logs, one_more_log}
use Rattle.line_setup.proofs.making.new_logs.Goals as goal

pub loop-t-init : goal.loop-t-init
loop-t-init c =
    let none = c.in_ok-logs.ensures.items in
    record {
      count = omega (arith, ap length none);
      logs = no_logs c.args.live.now.graph c.args.state.now.state c.args.first c.in_ok-logs.logs.items none;
      room = omega (arith, c.in_ok-logs.ensures.capacity);
    }

pub push_reserved-requires : goal.push_reserved-requires
push_reserved-requires c =
    omega (arith, c.loop-t.logs.ok.0, c.loop-t.invariant.count, c.loop-t.invariant.room, c.loop-t-test.true)

pub loop-t-preserved : goal.loop-t-preserved
loop-t-preserved c =
    let before = c.loop-t.invariant in
    let copied = c.in_ok-log.ensures in
    record {
      count = omega (arith, before.count, ap length c.push_reserved.ensures.items, length_push c.loop-t.logs.items c.in_ok-log.log);
      logs = one_more_log c.args.live.now.graph c.args.state.now.state c.args.first c.loop-t.t c.loop-t.logs.items c.push_reserved.new.self.items c.in_ok-log.log c.push_reserved.ensures.items before.count before.logs copied.dates copied.room copied.few;
      room = omega (arith, before.room, c.push_reserved.ensures.capacity);
    }
