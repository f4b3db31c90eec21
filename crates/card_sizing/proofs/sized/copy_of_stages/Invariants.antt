use Rattle.std.proofs.Common.{◌≡◌, ◌≤◌, length, take, map, vec_len, vec_capacity}
use Rattle.card_sizing.specs.Sized.{stage_with}
use Rattle.card_sizing.proofs.sized.copy_of_stages.Given as goal

abbrev pub invariant-loop-stage : goal.invariant-loop-stage
invariant-loop-stage l = record {
  made : l.copy.items ≡ map (stage_with l.policy l.count) (take l.stage-index l.stages);
  count : vec_len l.copy ≡ l.stage-index;
  room : length l.stages ≤ vec_capacity l.copy;
}
