use Rattle.std.proofs.Common.{◌≡◌}
use Rattle.live_plant.specs.Generator.{state_after}
use Rattle.live_plant.specs.Big.{date_from, dates_from}
use Rattle.live_plant.proofs.big.drawn_dates.Given as goal

abbrev pub invariant-loop : goal.invariant-loop
invariant-loop l = record {
  state : l.generator ≡ state_after l.counter l.initial.generator;
  date : l.date ≡ date_from l.initial.generator l.counter;
  dates : l.dates.items ≡ dates_from l.initial.generator l.counter;
}
