use Rattle.std.proofs.Common.{true≢false, refl, sym, inl, inr}
use Rattle.line_worker.proofs.worker.Worker.go_on.Goals as goal

pub returns-then-not-is_done : goal.returns-then-not-is_done
returns-then-not-is_done g c =
    let made = c.sweep.ensures in
    record {
      worker_before = c.is_done.ensures.worker;
      worker = made.worker;
      round =
          inl (record {
            undone = λ all. true≢false (sym (c.if-not-is_done.ensures.done.1 all));
            frame = made.frame;
            swept = made.swept;
            in_order = made.in_order;
            alone = made.alone;
          });
    }

pub returns-else-not-is_done : goal.returns-else-not-is_done
returns-else-not-is_done g c = record {
  worker_before = c.is_done.ensures.worker;
  worker = c.is_done.ensures.worker;
  round = inr (record { done = c.if-not-is_done.ensures.done.0 refl; stays = refl });
}

pub sweep-requires-clause-made_for : goal.sweep-requires-clause-made_for
sweep-requires-clause-made_for g c κs h = c.requires.ready.made_for

pub sweep-requires-clause-turns : goal.sweep-requires-clause-turns
sweep-requires-clause-turns g c κs h = c.requires.ready.turns
