use Rattle.std.proofs.Common.{arith, ⊎_elim}
use Rattle.std.proofs.lemmas.Bool.{cases_lt}
use Rattle.line_runs.proofs.scheduler.bursts.burst_on.Goals as goal

pub burst-requires-clause-made_for : goal.burst-requires-clause-made_for
burst-requires-clause-made_for g c = λ κs within. c.requires.made_for

pub returns : goal.returns
returns g c =
    let e = c.burst.ensures in record {
      line = e.line;
      frame = e.frame;
      logs = e.logs;
      works = e.works;
      ready = e.ready;
      some =
          ⊎_elim
          (λ none. absurd (c.requires.undone (e.idle.0 (omega (arith, none)))))
          (λ any. omega (arith, any, e.fired))
          (cases_lt c.burst.result.fired 1);
      few = omega (arith, e.fired, e.at_most, e.few);
      alone = e.alone;
      alone_steps = λ times one made. omega (arith, e.steps, e.fired, e.alone_steps times one made);
    }
