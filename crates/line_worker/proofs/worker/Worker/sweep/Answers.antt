use Rattle.std.proofs.Common.{ℕ, ◌≡◌, ◌+◌, ◌<◌, List, length, get_or, refl, sym, ap, ◌∙◌, subst, arith}
use Rattle.line_worker.specs.Worker.{LineWorker, IsWorker, with_team}
use Rattle.line_worker.specs.Work.{SteppedAt, IsSweeping, IsAlone}
use Rattle.line_worker.proofs.TeamSweeps.{stepped_next, stepped_all, sweeping_begins, sweeping_goes_on, swept, turns_below}
use Rattle.line_worker.proofs.Alone.{alone_goes_on, alone_swept}
use Rattle.line_worker.proofs.worker.Worker.sweep.Goals as goal
use Rattle.line_worker.proofs.worker.Worker.sweep.Goals.{then-turn, else-turn}

pub loop-nth-preserved : goal.loop-nth-preserved
loop-nth-preserved g c =
    let old = c.args.self.now in
    let now = c.loop-nth.self in
    let next = c.turn.new.self in
    let inv = c.loop-nth.invariant in
    let is : IsWorker old = subst IsWorker c.self.view_is c.self.invariant in
    let is_now : IsWorker (with_team old now.team) = subst IsWorker inv.frame inv.worker in
    let low : c.loop-nth.nth < length old.order = omega (arith, c.loop-nth-test.true, c.len-nth-end.ensures, ap (λ (w : LineWorker). length w.order) c.self.view_is) in
    let stepped : SteppedAt (get_or old.order c.loop-nth.nth 0) now.team next.team =
    subst (λ (o : List ℕ). SteppedAt (get_or o c.loop-nth.nth 0) now.team next.team) (ap (λ (w : LineWorker). w.order) inv.frame) c.turn.ensures.stepped in
    record {
      worker = c.turn.ensures.worker;
      frame = c.turn.ensures.frame ∙ ap (λ (w : LineWorker). with_team w next.team) inv.frame;
      sweeping = sweeping_goes_on old.live.ranks old.first old.order old.team now.team next.team c.loop-nth.nth is.in_order inv.sweeping low stepped;
      in_order = stepped_next old.order c.loop-nth.nth low old.team now.team next.team inv.in_order stepped;
      made =
          elim c.if-turn.branch [
            | then-turn w ↦ omega (arith, inv.made, w.fired-is, w.if-turn.ensures.fired)
            | else-turn w ↦ omega (arith, inv.made, w.fired-is, w.if-turn.ensures.fired)
          ];
      few =
          elim c.if-turn.branch [
            | then-turn w ↦ omega (arith, inv.few, w.fired-is)
            | else-turn w ↦ omega (arith, inv.few, w.fired-is)
          ];
      alone = λ times alone more i low_i early.
          alone_goes_on old is times alone more now.team c.loop-nth.nth is_now inv.sweeping (inv.alone times alone more) next.team low stepped i low_i early;
    }

pub returns-clause-alone : goal.returns-clause-alone
returns-clause-alone g c =
    let old = c.args.self.now in
    let now = c.loop-nth.self in
    let inv = c.loop-nth.invariant in
    let is : IsWorker old = subst IsWorker c.self.view_is c.self.invariant in
    let is_now : IsWorker (with_team old now.team) = subst IsWorker inv.frame inv.worker in
    let done : c.loop-nth.nth ≡ length old.order = omega (arith, c.loop-nth-test.false, c.loop-nth.auto.nth-end, c.len-nth-end.ensures, ap (λ (w : LineWorker). length w.order) c.self.view_is) in
    λ times alone more.
    let swept = alone_swept old is times alone more now.team is_now (subst (IsSweeping old.order old.team now.team) done inv.sweeping)
    (λ i low_i early. inv.alone times alone more i low_i (omega (arith, done, early))) in
    subst (λ (w : LineWorker). IsAlone w (times + 1)) (sym inv.frame) swept

pub returns-clause-in_order : goal.returns-clause-in_order
returns-clause-in_order g c =
    let old = c.args.self.now in
    let now = c.loop-nth.self in
    let done : c.loop-nth.nth ≡ length old.order = omega (arith, c.loop-nth-test.false, c.loop-nth.auto.nth-end, c.len-nth-end.ensures, ap (λ (w : LineWorker). length w.order) c.self.view_is) in
    stepped_all old.order c.loop-nth.nth done old.team now.team c.loop-nth.invariant.in_order

pub loop-nth-init : goal.loop-nth-init
loop-nth-init g c =
    let old = c.args.self.now in
    record {
      worker = subst IsWorker c.self.view_is c.self.invariant;
      frame = refl;
      sweeping = sweeping_begins old.order old.team;
      in_order = refl;
      made = omega arith;
      few = omega arith;
      alone = λ times alone more i low early. absurd (omega (arith, early));
    }

pub turn-requires-clause-made_for : goal.turn-requires-clause-made_for
turn-requires-clause-made_for g c =
    c.requires.made_for ∙ sym (ap (λ (w : LineWorker). w.live) c.loop-nth.invariant.frame)

pub turn-requires-clause-turns : goal.turn-requires-clause-turns
turn-requires-clause-turns g c =
    turns_below c.args.self.now.order c.args.self.now.team c.loop-nth.self.team c.loop-nth.nth c.loop-nth.invariant.sweeping c.requires.turns

pub turn-requires-clause-nth : goal.turn-requires-clause-nth
turn-requires-clause-nth g c =
    omega (arith, c.loop-nth-test.true, c.len-nth-end.ensures, ap (λ (w : LineWorker). length w.order) c.self.view_is, ap (λ (w : LineWorker). length w.order) c.loop-nth.invariant.frame)

pub returns-clause-swept : goal.returns-clause-swept
returns-clause-swept g c =
    let old = c.args.self.now in
    let now = c.loop-nth.self in
    let is : IsWorker old = subst IsWorker c.self.view_is c.self.invariant in
    let done : c.loop-nth.nth ≡ length old.order = omega (arith, c.loop-nth-test.false, c.loop-nth.auto.nth-end, c.len-nth-end.ensures, ap (λ (w : LineWorker). length w.order) c.self.view_is) in
    swept old.live.ranks old.first old.order old.team now.team is.in_order (subst (IsSweeping old.order old.team now.team) done c.loop-nth.invariant.sweeping)

pub returns-clause-worker : goal.returns-clause-worker
returns-clause-worker g c = c.loop-nth.invariant.worker

pub returns-clause-frame : goal.returns-clause-frame
returns-clause-frame g c = c.loop-nth.invariant.frame

pub returns-clause-fired : goal.returns-clause-fired
returns-clause-fired g c = c.loop-nth.invariant.made
