-- What a call ensures that did what its words ask for, and wrote what they answered.
use Rattle.std.proofs.Common.{ℕ, List}
use Rattle.std.specs.Prelude.{Result}
use Rattle.command_line.specs.Words.{command_of}
use Rattle.live_plant.specs.declared.refusals.refusal.Refusal.{Refusal}
use Rattle.live_plant.specs.Actions.{DiskOver, Does}
use Rattle.live_plant.specs.Outside.{StoreOver, SinkOver}
use Rattle.answers.specs.declared.answer.Answer.{Answer}
use Rattle.pull_cli.specs.Ended.{Ended}
use Rattle.pull_cli.specs.Ends.{Ends, Finishes}
use Rattle.pull_cli.specs.Verdict.{OfWords}
use Rattle.pull_cli.proofs.FileLemmas.{files_of}
use Rattle.pull_cli.proofs.HeadlineLemmas.{reports_of, stops_of, stops_where_of}

pub ended : {words : List (List ℕ)} {store : StoreOver} {disk : DiskOver} {answer : Result Answer Refusal} {status : ℕ}
    (sink : SinkOver) → Does store disk (OfWords store.tells store.old.files (command_of words)) answer →
    Finishes sink answer status → Ended words store sink disk status
ended {words} {store} {disk} {answer} {status} sink does finishes =
    let ends : Ends words store sink disk status = record { answer = answer; does = does; finishes = finishes } in
    record {
      ends = ends;
      reports = reports_of words store sink disk status ends;
      stops = stops_of words store sink disk status ends;
      stops_where = stops_where_of words store sink disk status ends;
      files = files_of words store sink disk status ends;
    }
