use Rattle.std.proofs.Common.{◌≡◌, refl, sym, ap, ◌∙◌, arith}
use Rattle.line_base.specs.declared.event.Parts.{Parts}
use Rattle.event_graph.specs.Network.{jobs, label}
use Rattle.event_graph.specs.Table.{date_in}
use Rattle.outside_io.proofs.OutgoingLemmas.{pushed_none}
use Rattle.latest_dates.specs.Found.{found_of, latest_of}
use Rattle.latest_dates.specs.JobLines.{tight_jobs}
use Rattle.latest_dates.proofs.Lines.{job_lines-none, tight_jobs-none, tight_jobs-split, pushed_jobs, job_lines-all, tight_jobs-all}
use Rattle.latest_dates.proofs.writing.write_station.Goals as goal

pub loop-next-init : goal.loop-next-init
loop-next-init g c =
    let h = c.args.run.now.live.graph in
    let x = date_in c.args.run.now.table.rows in
    let y = latest_of (found_of c.args.run.now) in
    let named = c.label.ensures.text ∙ ap (λ (h : Parts). label h c.args.t) c.graph-graph.ensures.graph in
    record {
      size = refl;
      within = omega arith;
      start = c.of-start.ensures ∙ ap (λ (l : _). record { label = l; job = 1 }) named;
      lines = rw (job_lines-none h x y c.args.t 0) (pushed_none _);
      tight = sym (tight_jobs-none h x y c.args.t 0);
      few = omega arith;
    }

pub loop-next-preserved : goal.loop-next-preserved
loop-next-preserved g c =
    let h = c.args.run.now.live.graph in
    let x = date_in c.args.run.now.table.rows in
    let y = latest_of (found_of c.args.run.now) in
    let t = c.args.t in
    let before = c.loop-next.invariant in
    let next = c.loop-next.next in
    let added = c.write_jobs-added in
    record {
      size = omega (arith, added.auto.room, before.size);
      within = omega (arith, c.min-count.ensures, before.within);
      start = added.ensures.next;
      lines = pushed_jobs h x y t next c.min-count.result before.lines (rw added.ensures.lines at c.push.ensures);
      tight = omega (arith, before.tight, added.ensures.tight, tight_jobs-split h x y t next c.min-count.result);
      few = omega (arith, before.few, added.ensures.few_tight);
    }

pub returns-clause-written : goal.returns-clause-written
returns-clause-written g c =
    let all : c.loop-next.next ≡ jobs c.args.run.now.live.graph = omega (arith, c.jobs-jobs.ensures.count, ap jobs c.graph-graph.ensures.graph, c.loop-next.invariant.within) in
    rw (all, job_lines-all) at c.loop-next.invariant.lines

pub returns-clause-tight : goal.returns-clause-tight
returns-clause-tight g c =
    let h = c.args.run.now.live.graph in
    let x = date_in c.args.run.now.table.rows in
    let y = latest_of (found_of c.args.run.now) in
    let all : c.loop-next.next ≡ jobs h = omega (arith, c.jobs-jobs.ensures.count, ap jobs c.graph-graph.ensures.graph, c.loop-next.invariant.within) in
    c.loop-next.invariant.tight ∙ ap (λ n. tight_jobs x y c.args.t 0 n) all ∙ tight_jobs-all h x y c.args.t

pub write_jobs-added-requires-clause-run : goal.write_jobs-added-requires-clause-run
write_jobs-added-requires-clause-run g c = c.requires.run

pub write_jobs-added-requires-clause-station : goal.write_jobs-added-requires-clause-station
write_jobs-added-requires-clause-station g c = c.requires.station

pub write_jobs-added-requires-clause-jobs : goal.write_jobs-added-requires-clause-jobs
write_jobs-added-requires-clause-jobs g c =
    omega (arith, c.min-count.ensures, c.loop-next-test.true, c.jobs-jobs.ensures.count, ap jobs c.graph-graph.ensures.graph)

pub write_jobs-added-requires-clause-few : goal.write_jobs-added-requires-clause-few
write_jobs-added-requires-clause-few g c = omega (arith, c.min-count.ensures)

pub write_jobs-added-requires-clause-room : goal.write_jobs-added-requires-clause-room
write_jobs-added-requires-clause-room g c = c.loop-next.invariant.size ∙ c.requires.room

pub write_jobs-added-requires-clause-start : goal.write_jobs-added-requires-clause-start
write_jobs-added-requires-clause-start g c = c.loop-next.invariant.start

pub loop-next-smaller : goal.loop-next-smaller
loop-next-smaller g c = omega (arith, c.min-count.ensures, c.loop-next-test.true)

pub returns-clause-few : goal.returns-clause-few
returns-clause-few g c =
    omega (arith, c.loop-next.invariant.few, c.loop-next.invariant.within, c.jobs-jobs.ensures.count, ap jobs c.graph-graph.ensures.graph)
