use Rattle.std.proofs.Common.{◌+◌, refl, arith}
use Rattle.live_plant.specs.Generator.{state_after}
use Rattle.live_plant.specs.Big.{date_from, dates_from}
use Rattle.live_plant.proofs.Draws.{state_after-add}
use Rattle.live_plant.proofs.Lists.{dates_from-more, date_from-next, date_from-le}
use Rattle.live_plant.proofs.big.drawn_dates.Goals as goal

pub loop-init : goal.loop-init
unfolding state_after date_from dates_from
loop-init c = record { state = refl; date = refl; dates = c.new-dates.ensures.items }

pub overflow_add-date : goal.overflow_add-date
overflow_add-date c = omega (arith, date_from-le c.args.generator.now c.loop.counter)

pub loop-preserved : goal.loop-preserved
loop-preserved c =
    let n = c.loop.counter in
    let s = c.args.generator.now in
    let on = state_after-add 1 n (n + 1) s refl in
    let date = date_from-next s n in
    let dates = dates_from-more s n in
    record {
      state = cc;
      date = cc;
      dates = cc (c.in_ok-push.ensures.items);
    }
