use Rattle.std.proofs.Common.{Err, refl}
use Rattle.plant_model.proofs.Passes.{first-append}
use Rattle.plant_file.proofs.FinishAnswers.{AnswersPlant-refused}
use Rattle.plant_file.proofs.PlantSteps.{plant_of-completed}
use Rattle.plant_file.proofs.finish.complete_draft.Goals as goal

pub finish_draft-requires : goal.finish_draft-requires
finish_draft-requires c =
    record {
      dates_where_used = c.in-Ok.ensures.dates.given;
      some_dates = c.in-Ok.ensures.dates.some;
      dates_limit = c.in-Ok.ensures.dates.limit;
      times_where_used = c.in-Ok.ensures.times.given;
      times_columns = c.in-Ok.ensures.times.columns;
    }

pub returns-in-Err-clause-plant : goal.returns-in-Err-clause-plant
returns-in-Err-clause-plant c =
    AnswersPlant-refused (Err c.in-Err.error) _ _ refl (λ ne. first-append _ _ _ (c.in-Err.ensures.refused ne))

pub returns-in-Err-clause-of_files : goal.returns-in-Err-clause-of_files
returns-in-Err-clause-of_files c =
    λ name files read. rw (plant_of-completed name files c.args.draft _ _ read) (returns-in-Err-clause-plant c)

pub returns-in-Ok-clause-plant : goal.returns-in-Ok-clause-plant
returns-in-Ok-clause-plant c =
    let dates = c.in-Ok.ensures.dates in
    let times = c.in-Ok.ensures.times in
    rw (dates.good, times.good, ← dates.held, ← times.held) c.finish_draft.ensures.plant

pub returns-in-Ok-clause-of_files : goal.returns-in-Ok-clause-of_files
returns-in-Ok-clause-of_files c =
    λ name files read. rw (plant_of-completed name files c.args.draft _ _ read) (returns-in-Ok-clause-plant c)
