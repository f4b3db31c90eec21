-- What a worker takes into its thread may go there.
use mathlib.Core.List.{List, [], ◌∷◌}
use Prim.Native.Nat.{ℕ}
use base.Fml.{Lft}
use mir.Syntax.{Lifetime}
use denote.RattleType.{RattleType}
use denote.Ref.{ShrRef}
use denote.Struct.Tuple.{TupleAt, type_at}
use denote.Struct.Declared.{shape}
use denote.Param.Send.{IsSend, IsSync, AllSend, sendable, shr_send, struct_send, recorded_send}
use Rattle.std.proofs.Crossing.{crosses}
use Rattle.std.specs.contracts.sync.atomic.AtomicBool as AtomicBool
use Rattle.live_check.specs.contracts.live.Live as Live
use Rattle.line_worker.specs.contracts.worker.Worker as Worker
use Rattle.line_worker.proofs.WorkerSend.{worker_send}

live_sync : IsSync Live.the_row
live_sync = search (sendable, crosses) depth 40

word_sync : IsSync AtomicBool.the_row
word_sync = search (sendable, crosses) depth 40

-- a worker, with the graph, the gate and the stop word
pub sweeps_send : (name : List ℕ) (gate : RattleType) → IsSync gate → (a b d : Lifetime) (κ μ ν : Lft) → IsSend (TupleAt name (Worker.the_row ∷ ShrRef a κ Live.the_row ∷ ShrRef b μ gate ∷ ShrRef d ν AtomicBool.the_row ∷ []))
sweeps_send name gate sync a b d κ μ ν =
    let types : List RattleType = Worker.the_row ∷ ShrRef a κ Live.the_row ∷ ShrRef b μ gate ∷ ShrRef d ν AtomicBool.the_row ∷ [] in
    let all : AllSend types = (worker_send, (shr_send a κ Live.the_row live_sync, (shr_send b μ gate sync, (shr_send d ν AtomicBool.the_row word_sync, tt)))) in
    let T = type_at name types in
    recorded_send _ _ _ T.to_one (struct_send (shape T) all)
