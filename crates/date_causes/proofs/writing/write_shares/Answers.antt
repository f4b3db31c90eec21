use Rattle.std.proofs.Common.{◌≡◌, arith}
use Rattle.event_graph.specs.Network.{stations}
use Rattle.outside_io.proofs.OutgoingLemmas.{pushed_none, pushed_next}
use Rattle.date_causes.specs.WhyText.{share_line, share_lines}
use Rattle.date_causes.proofs.writing.write_shares.Goals as goal

pub loop-t-init : goal.loop-t-init
loop-t-init g c = pushed_none _

pub loop-t-preserved : goal.loop-t-preserved
unfolding share_line
loop-t-preserved g c =
    let written = rw c.label.ensures.text at c.write_share.ensures in
    pushed_next (share_line c.args.graph.now c.args.shares.now) 0 c.loop-t.t c.loop-t.t (omega arith) c.loop-t.invariant written

pub returns : goal.returns
unfolding share_lines
returns g c =
    let all : c.loop-t.t ≡ stations c.args.graph.now = omega (arith, c.stations-t-end.ensures.count) in
    rw all at c.loop-t.invariant
