use Rattle.std.proofs.Common.{length, get_or, refl, arith}
use Rattle.line_worker.specs.Workers.{live_of, graph_of}
use Rattle.line_workers.proofs.Linked.{listed_begins, no_link, link_at, links_many, ring_at, met_at, all_met}
use Rattle.line_workers.proofs.workers.meet_listed.Goals as goal

pub loop-link-init : goal.loop-link-init
loop-link-init c = listed_begins (live_of c.args.workers.now) c.args.workers.now c.requires.workers refl

pub meet_over-requires : goal.meet_over-requires
meet_over-requires c =
    let old = c.args.workers.now in
    let k = c.loop-link.link-index in
    let links = c.args.links.now in
    let at = link_at (graph_of old) (length old) k links c.requires.links c.loop-link-test.true in
    ring_at (live_of old) old c.loop-link.workers k c.loop-link.invariant at.0 (get_or links k no_link) at.1

pub loop-link-preserved : goal.loop-link-preserved
loop-link-preserved c =
    let old = c.args.workers.now in
    let k = c.loop-link.link-index in
    let links = c.args.links.now in
    let at = link_at (graph_of old) (length old) k links c.requires.links c.loop-link-test.true in
    met_at (live_of old) old c.loop-link.workers k c.loop-link.invariant at.0 (get_or links k no_link) at.1 c.meet_over.new.workers c.meet_over.ensures

pub returns-clause-met : goal.returns-clause-met
returns-clause-met c =
    let old = c.args.workers.now in
    all_met (live_of old) old c.loop-link.workers c.loop-link.link-index c.loop-link.invariant (
    omega (arith, c.loop-link-test.false, links_many (graph_of old) (length old) c.args.links.now c.requires.links))
