-- A shelf and a station may go to another thread: each of their fields may. A search does not see through the fields
-- that contracts alone read.
use denote.Param.Send.{IsSend, sendable, view_send}
use denote.Param.SendFields.{as_row_send, declared_send, variants_send}
use Rattle.std.proofs.Crossing.{crosses, Vec-send}
use Rattle.card_queue.proofs.Sends.{take_send}
use Rattle.room_ring.proofs.take.RoomTake.TheSendSync as RoomTakeSent
use Rattle.line_base.specs.contracts.log.Log as Log
use Rattle.line_base.specs.contracts.log.Log.TheInside as LogInside
use Rattle.station_step.specs.contracts.shelf.Shelf as Shelf
use Rattle.station_step.specs.contracts.shelf.Shelf.TheInside as ShelfInside
use Rattle.station_step.specs.contracts.tally.Tally as Tally
use Rattle.station_step.specs.contracts.tally.Tally.TheInside as TallyInside
use Rattle.station_step.specs.contracts.tally.Origin as Origin
use Rattle.station_step.specs.contracts.fronts.Front as Front
use Rattle.station_step.specs.contracts.ends.Inlet as Inlet
use Rattle.station_step.specs.contracts.input.Input as Input
use Rattle.station_step.specs.contracts.noted.NotedInput as NotedInput
use Rattle.station_step.specs.contracts.noted.NotedOutlet as NotedOutlet
use Rattle.station_step.specs.contracts.station.Station as Station
use Rattle.station_step.specs.contracts.station.Station.TheInside as StationInside
use Rattle.station_step.specs.contracts.waits.EmptyHand as EmptyHand
use Rattle.station_step.proofs.waits.EmptyHand.TheSendSync as HandSent
use Rattle.station_step.proofs.tally.Origin.TheSendSync as OriginSent
use Rattle.station_step.proofs.noted.NotedOutlet.TheSendSync as OutletSent

log_send : IsSend Log.the_row
log_send = view_send LogInside.the_row _ _ _ _ (declared_send LogInside.the_type (search crosses, tt))

tally_send : IsSend Tally.the_row
tally_send =
    view_send TallyInside.the_row _ _ _ _ (
    declared_send TallyInside.the_type (
      search sendable,
      (
        search sendable,
        (
          search sendable,
          (
            search crosses,
            (
              search crosses,
              tt,
            ),
          ),
        ),
      ),
    ))

pub shelf_send : IsSend Shelf.the_row
shelf_send =
    view_send ShelfInside.the_row _ _ _ _ (
    declared_send ShelfInside.the_type (
      Vec-send Log.the_row log_send,
      (
        search crosses,
        (
          Vec-send Tally.the_row tally_send,
          (
            Vec-send Origin.the_row (as_row_send Origin.the_field OriginSent.the_field_send),
            (
              search crosses,
              tt,
            ),
          ),
        ),
      ),
    ))

hand_send : IsSend EmptyHand.the_row
hand_send = as_row_send EmptyHand.the_field HandSent.the_field_send

front_send : IsSend Front.the_row
front_send =
    declared_send Front.the_type (
      search sendable,
      (
        search sendable,
        (
          search crosses,
          tt,
        ),
      ),
    )

inlet_send : IsSend Inlet.the_row
inlet_send = variants_send Inlet.enum ((take_send, tt), ((RoomTakeSent.the_send, tt), ((search sendable, tt), tt)))

input_send : IsSend NotedInput.the_row
input_send =
    declared_send NotedInput.the_type (
      declared_send Input.the_type (inlet_send, (search sendable depth 20, tt)),
      (
        search sendable,
        tt,
      ),
    )

station_fields : IsSend StationInside.the_row
station_fields =
    declared_send StationInside.the_type (
      search sendable,
      (
        search sendable,
        (
          search sendable,
          (
            search sendable,
            (
              search sendable,
              (
                search sendable,
                (
                  search sendable,
                  (
                    search sendable,
                    (
                      search sendable,
                      (
                        Vec-send Front.the_row front_send,
                        (
                          Vec-send NotedInput.the_row input_send,
                          (
                            Vec-send NotedOutlet.the_row (as_row_send NotedOutlet.the_field OutletSent.the_field_send),
                            (
                              search (sendable, hand_send) depth 20,
                              (
                                search crosses,
                                (
                                  search crosses,
                                  (
                                    search crosses,
                                    tt,
                                  ),
                                ),
                              ),
                            ),
                          ),
                        ),
                      ),
                    ),
                  ),
                ),
              ),
            ),
          ),
        ),
      ),
    )

pub station_send : IsSend Station.the_row
station_send = view_send StationInside.the_row _ _ _ _ station_fields
