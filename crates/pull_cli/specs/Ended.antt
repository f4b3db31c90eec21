-- All that is promised of how a call ends, which `pull` says in clauses of their own.
use Rattle.std.specs.Prelude.{ℕ, List}
use Rattle.live_plant.specs.Actions.{DiskOver}
use Rattle.live_plant.specs.Outside.{StoreOver, SinkOver}
use Rattle.pull_cli.specs.Ends.{Ends}
use Rattle.pull_cli.specs.Files.{FilesStay}
use Rattle.pull_cli.specs.RunReports.{RunReports}
use Rattle.pull_cli.specs.StopsAndResumes.{StopsAndResumes}
use Rattle.pull_cli.specs.StopsWhereAsked.{StopsWhereAsked}

pub record Ended (words : List (List ℕ)) (store : StoreOver) (sink : SinkOver) (disk : DiskOver)
    (status : ℕ) : Type 0 where
  pub ends : Ends words store sink disk status
  pub reports : RunReports words store sink status
  pub stops : StopsAndResumes words store sink status
  pub stops_where : StopsWhereAsked words store sink status
  pub files : FilesStay words store sink status
