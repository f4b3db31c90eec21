use Rattle.std.proofs.Common.{◌≡◌, List, ◌<◌, ◌+◌, length, ap, arith, ⊎_elim, inl, inr}
use Rattle.std.proofs.lemmas.Bool.{cases_eq}
use Rattle.event_graph.specs.Network.{arc_count}
use Rattle.live_check.specs.Order.{LiveGraph}
use Rattle.line_worker.specs.Worker.{LineWorker}
use Rattle.line_worker.specs.Workers.{live_of, AreWorkers}
use Rattle.line_workers.specs.Meeting.{IsMeeting}
use Rattle.line_workers.proofs.AllWorkers.{alone_is_met, meeting_begins, meeting_goes_on}
use Rattle.line_workers.proofs.workers.meet_all.Goals as goal

-- where nothing has met yet
begins : (live : LiveGraph) (workers : List LineWorker) → AreWorkers workers → live ≡ live_of workers → IsMeeting live workers workers (λ b. b < 0)
begins live workers are made_for = meeting_begins live workers (λ b. b < 0) (λ b low. absurd (omega (arith, low))) are made_for

pub returns-then-workers-eq1 : goal.returns-then-workers-eq1
returns-then-workers-eq1 c =
    let meeting = begins c.args.live.now c.args.workers.now c.requires.workers c.requires.made_for in
    let one : length c.args.workers.now ≡ 1 = omega (arith, c.if-workers-eq1.true) in
    record {
      same = meeting.same;
      worked = meeting.worked;
      still = meeting.still;
      met = λ a listed. alone_is_met c.args.workers.now c.requires.workers c.args.live.now c.requires.made_for a listed one;
    }

pub loop-a-init : goal.loop-a-init
loop-a-init c = begins c.args.live.now c.args.workers.now c.requires.workers c.requires.made_for

pub meet_on-requires-clause-workers : goal.meet_on-requires-clause-workers
meet_on-requires-clause-workers c = c.loop-a.invariant.whole

pub meet_on-requires-clause-few : goal.meet_on-requires-clause-few
meet_on-requires-clause-few c = omega (arith, c.loop-a.invariant.same.count, c.requires.few)

pub meet_on-requires-clause-made_for : goal.meet_on-requires-clause-made_for
meet_on-requires-clause-made_for c = c.loop-a.invariant.live_is

pub meet_on-requires-clause-arc : goal.meet_on-requires-clause-arc
meet_on-requires-clause-arc c =
    omega (arith, c.loop-a-test.true, ap length c.arcs.ensures.arcs, ap arc_count c.graph.ensures.graph)

pub loop-a-preserved : goal.loop-a-preserved
loop-a-preserved c =
    let a = c.loop-a.a in
    meeting_goes_on c.args.live.now c.args.workers.now c.loop-a.workers c.meet_on.new.workers (λ b. b < a) (λ b. b < a + 1) a c.loop-a.invariant
    (λ b low. ⊎_elim inl (λ apart. inr (omega (arith, low, apart))) (cases_eq b a))
    c.meet_on.ensures.same c.meet_on.ensures.met

pub returns : goal.returns
returns c =
    let meeting = c.loop-a.invariant in
    record {
      same = meeting.same;
      worked = meeting.worked;
      still = meeting.still;
      met = λ a listed. meeting.met a listed (omega (arith, listed, c.loop-a-test.false, ap length c.arcs.ensures.arcs, ap arc_count c.graph.ensures.graph));
    }
