-- A worker may go to another thread: each of its fields may.
use denote.Param.Send.{IsSend, sendable, view_send}
use denote.Param.SendFields.{declared_send}
use Rattle.std.proofs.Crossing.{crosses, Vec-send}
use Rattle.line_base.specs.contracts.log.Log as Log
use Rattle.line_base.specs.contracts.log.Log.TheInside as LogInside
use Rattle.line_base.specs.contracts.log.Logs as Logs
use Rattle.line_base.specs.contracts.log.Logs.TheInside as LogsInside
use Rattle.station_step.specs.contracts.station.Station as Station
use Rattle.station_step.proofs.StationSend.{shelf_send, station_send}
use Rattle.line_worker.specs.contracts.team.Team as Team
use Rattle.line_worker.specs.contracts.team.Team.TheInside as TeamInside
use Rattle.line_worker.specs.contracts.worker.Worker as Worker
use Rattle.line_worker.specs.contracts.worker.Worker.TheInside as WorkerInside

log_send : IsSend Log.the_row
log_send = view_send LogInside.the_row _ _ _ _ (declared_send LogInside.the_type (search crosses, tt))

logs_send : IsSend Logs.the_row
logs_send = view_send LogsInside.the_row _ _ _ _ (declared_send LogsInside.the_type (Vec-send Log.the_row log_send, tt))

team_fields : IsSend TeamInside.the_row
team_fields =
    declared_send TeamInside.the_type (
      Vec-send Station.the_row station_send,
      (
        shelf_send,
        tt,
      ),
    )

team_send : IsSend Team.the_row
team_send = view_send TeamInside.the_row _ _ _ _ team_fields

worker_fields : IsSend WorkerInside.the_row
worker_fields =
    declared_send WorkerInside.the_type (
      search sendable,
      (
        search sendable,
        (
          search sendable,
          (
            team_send,
            (
              search crosses,
              (
                logs_send,
                (
                  search crosses,
                  (
                    search sendable,
                    (
                      search crosses,
                      (
                        search crosses,
                        (
                          search crosses,
                          tt,
                        ),
                      ),
                    ),
                  ),
                ),
              ),
            ),
          ),
        ),
      ),
    )

pub worker_send : IsSend Worker.the_row
worker_send = view_send WorkerInside.the_row _ _ _ _ worker_fields
