-- An end at which tokens are taken may go to any thread: each of its fields may. A search does not see through the
-- field that contracts alone read.
use denote.Param.Send.{IsSend, sendable, view_send}
use denote.Param.SendFields.{declared_send}
use Rattle.std.proofs.Crossing.{crosses}
use Rattle.rtrb.proofs.consumer.Consumer.TheSendSync as consumer
use Rattle.card_queue.specs.contracts.looks.Looks as Looks
use Rattle.card_queue.specs.contracts.looks.Looks.TheInside as LooksInside
use Rattle.card_queue.specs.contracts.take.Take as Take
use Rattle.card_queue.specs.contracts.take.Take.TheInside as TakeInside

looks_send : IsSend Looks.the_row
looks_send = view_send LooksInside.the_row _ _ _ _ (declared_send LooksInside.the_type (search crosses, tt))

pub take_send : IsSend Take.the_row
take_send =
    view_send TakeInside.the_row _ _ _ _ (
    declared_send TakeInside.the_type (search (crosses, sendable, consumer.the_field_send) depth 20, (looks_send, tt)))
