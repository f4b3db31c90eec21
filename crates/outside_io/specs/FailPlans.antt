-- Which calls of a store or a sink in memory are to fail, by their numbers from 1.
use Rattle.std.specs.Prelude.{◌≡◌, ℕ, ◌+◌, ◌-◌, ◌^◌, min, List, Contains}
use Rattle.outside_io.specs.declared.fail_plan.FailPlan.{FailPlan}

-- the calls of these numbers are to fail, and none was made
pub record IsNewPlan (plan : FailPlan) (numbers : List ℕ) : Type 0 where
  pub failing : plan.failing.items ≡ numbers
  pub none_made : plan.calls ≡ 0

-- the number of the next call, which stands still at the end of its type
abbrev pub next_call : FailPlan → ℕ
next_call plan = min (plan.calls + 1) (2 ^ 64 - 1)

-- the number of the next call is on the list
abbrev pub IsDue : FailPlan → Type 0
IsDue plan = Contains plan.failing.items (next_call plan)

-- one more call was counted, and the list is as it was
pub record Counts (old new : FailPlan) : Type 0 where
  pub calls : new.calls ≡ next_call old
  pub failing : new.failing.items ≡ old.failing.items
