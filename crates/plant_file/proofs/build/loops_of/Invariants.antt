use Rattle.std.proofs.Common.{◌≡◌, map, take}
use Rattle.toml.specs.View.{view}
use Rattle.plant_file.specs.Reading.{loop_of}
use Rattle.plant_file.proofs.build.loops_of.Given as goal

abbrev pub invariant-loop-card_loop : goal.invariant-loop-card_loop
invariant-loop-card_loop l = l.drafts.items ≡ map (λ x. loop_of l.names (view x)) (take l.card_loop-index l.loops)
