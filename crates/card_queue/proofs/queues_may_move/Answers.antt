use denote.Param.Send.{sendable}
use Rattle.card_queue.proofs.Sends.{take_send}
use Rattle.card_queue.proofs.queues_may_move.Goals as goal

pub take_sent-requires-2-send-T : goal.take_sent-requires-2-send-T
take_sent-requires-2-send-T c κs = search (sendable, take_send) depth 20
