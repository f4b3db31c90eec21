use Rattle.std.proofs.Common.{◌≡◌, ◌*◌}
use Rattle.live_plant.specs.Generator.{state_after}
use Rattle.live_plant.specs.Big.{stages_of}
use Rattle.live_plant.proofs.big.drawn_stages.Given as goal

abbrev pub invariant-loop-number : goal.invariant-loop-number
invariant-loop-number l = record {
  state : l.generator ≡ state_after (8 * l.number) l.initial.generator;
  stages : l.stages.items ≡ stages_of l.initial.generator l.number;
}
