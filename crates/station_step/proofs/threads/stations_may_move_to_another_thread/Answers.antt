use Rattle.station_step.proofs.StationSend.{shelf_send, station_send}
use Rattle.station_step.proofs.threads.stations_may_move_to_another_thread.Goals as goal

pub returns-clause-station : goal.returns-clause-station
returns-clause-station c = station_send

pub returns-clause-shelf : goal.returns-clause-shelf
returns-clause-shelf c = shelf_send
