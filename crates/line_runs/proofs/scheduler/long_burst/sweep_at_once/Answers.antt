use denote.Exit.{yes}
use denote.Param.Send.{param_send, arg_send}
use Rattle.line_worker.proofs.WorkerSend.{worker_send}
use Rattle.line_runs.proofs.scheduler.long_burst.sweep_at_once.Goals as goal

pub for_each_mut-requires-send-T : goal.for_each_mut-requires-send-T
for_each_mut-requires-send-T g c κs h = param_send 1 _ (arg_send _ yes _ worker_send)
