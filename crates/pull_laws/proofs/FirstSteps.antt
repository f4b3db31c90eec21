-- Two steps, of which the first is said in other words.
use Rattle.std.proofs.Common.{List}
use Rattle.std.specs.Prelude.{Result}
use Rattle.outside_io.specs.Calls.{Read}
use Rattle.live_plant.specs.Steps.{Step, Then}
use Rattle.live_plant.specs.declared.refusals.refusal.Refusal.{Refusal}

-- what the first step did is also this other step
pub also_then : {A B : Type 0} (first other : Step A) (next : A → Step B) (reads : List Read) (answer : Result B Refusal)
    (steps : Then first next reads answer) → other steps.before steps.between → Then other next reads answer
also_then first other next reads answer steps also = record {
  before = steps.before;
  after = steps.after;
  split = steps.split;
  between = steps.between;
  answers = also;
  goes_on = steps.goes_on;
}
