use Rattle.std.proofs.Common.{sym, ◌∙◌, arith}
use Rattle.std.proofs.lemmas.Bool.{cond-true}
use Rattle.event_graph.proofs.Sizes.{time-small}
use Rattle.event_graph.specs.Network.{time}
use Rattle.what_if.specs.Page.{graph_of}
use Rattle.what_if.proofs.KeptSheets.{time-read}
use Rattle.what_if.proofs.sheet.Sheet.work.Goals as goal

pub returns-then-arc-clause-work : goal.returns-then-arc-clause-work
returns-then-arc-clause-work c =
    time-read c.args.self.now c.time.ensures.kept c.args.arc.to c.args.n c.requires.date _ c.time.ensures.time
    ∙ sym (cond-true c.args.arc.worked (time (graph_of c.args.self.now) c.args.arc.to c.args.n) 0 c.if-arc.true)

pub returns-then-arc-clause-short : goal.returns-then-arc-clause-short
returns-then-arc-clause-short c =
    let p = c.args.self.now in
    let sheet = c.time.ensures.kept in
    omega (arith, time-read p sheet c.args.arc.to c.args.n c.requires.date _ c.time.ensures.time, time-small (graph_of p) c.args.arc.to c.args.n sheet.limits)
