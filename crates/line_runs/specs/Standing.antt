-- What callers see of a line that is run to its end: nothing of workers, threads or bursts.
use Rattle.std.specs.Prelude.{◌≡◌}
use Rattle.line_workers.specs.Line.{WorkLine, IsLine, LogsGrow}

-- the same line later, of the same graph, with as many workers and rings of the same room: firings
-- lead to its state, and each log has the dates that it had, and maybe more behind them
pub record GoesOn (old new : WorkLine) : Type 0 where
  pub line : IsLine new
  pub live : new.live ≡ old.live
  pub worker_count : new.worker_count ≡ old.worker_count
  pub room : new.room ≡ old.room
  pub logs : LogsGrow old.live.graph old.state new.state
