use Rattle.std.proofs.Common.{◌≡◌, ℕ, ◌+◌, ◌≤◌, ◌<◌, ◌∷◌, [], ◌++◌, List, length, length-append, length-drop, get_or, map, drop, ap, ◌∙◌, sym, subst, arith, add-zero}
use Rattle.std.specs.Prelude.{Option, option_to_list}
use Rattle.std.specs.Vec.Iter.{into_iter_items}
use Rattle.std.proofs.lemmas.List.{get_or_default, get_or-drop, drop-drop}
use Rattle.line_base.specs.Roomy.{RoomyLogs}
use Rattle.line_worker.specs.Worker.{LineWorker}
use Rattle.line_worker.specs.Workers.{worker_at, no_worker}
use Rattle.line_worker.specs.Logs.{log_of}
use Rattle.line_workers.specs.Close.{AreGiven}
use Rattle.line_workers.proofs.LogsGiven.{given_more, given_fits, given_all, given_first}
use Rattle.line_workers.proofs.closing.logs_of.Goals as goal
use Rattle.line_workers.proofs.closing.logs_of.Goals.{In-Some}

pub unwrap-requires : goal.unwrap-requires
unwrap-requires c = c.next.ensures.variant.1 (omega (arith, c.requires.some, c.into_iter-workers.ensures.len, c.args.workers.ok.0))

pub loop-worker-init : goal.loop-worker-init
loop-worker-init c =
    let workers = c.args.workers.items in
    let first = c.unwrap.result in
    let rest = c.next.new.self.rest.items in
    let split : workers ≡ first ∷ rest =
    sym c.into_iter-workers.ensures.rest
    ∙ c.next.ensures.items
    ∙ ap (λ (o : Option LineWorker). option_to_list o ++ rest) c.unwrap.ensures in
    let at : first ≡ worker_at workers 0 = ap (λ (l : List LineWorker). worker_at l 0) (sym split) in
    record {
      left = ap into_iter_items c.into_iter-worker-iterator.ensures.into_iter_gives ∙ ap (drop 1) (sym split);
      few = omega (arith, c.requires.some);
      given = given_first workers c.requires first at c.into_logs-logs.result c.into_logs-logs.ensures.logs c.into_logs-logs.ensures.room;
    }

-- the worker whose turn comes
next-worker : (workers left : List LineWorker) (w : ℕ) (worker : LineWorker) → left ≡ drop w workers → w < length workers → worker ≡ get_or left 0 worker → worker ≡ worker_at workers w
next-worker workers left w worker rest low is =
    is
    ∙ ap (λ (l : List LineWorker). get_or l 0 worker) rest
    ∙ get_or-drop w workers 0 worker
    ∙ ap (λ n. get_or workers n worker) (add-zero w)
    ∙ get_or_default workers w worker no_worker low

-- the list has one more
low : (c : In-Some) → length c.loop-worker.yielded + 1 < length c.args.workers.items
low c =
    let w = length c.loop-worker.yielded + 1 in
    omega (arith, ap length c.in-Some.ensures.steps.0, ap length c.loop-worker.invariant.left, length-drop w c.args.workers.items)

is-next : (c : In-Some) → c.in-Some.worker ≡ worker_at c.args.workers.items (length c.loop-worker.yielded + 1)
is-next c =
    let worker = c.in-Some.worker in
    next-worker c.args.workers.items c.loop-worker.worker-iterator.rest.items (length c.loop-worker.yielded + 1) worker c.loop-worker.invariant.left (low c)
    (ap (λ (l : List LineWorker). get_or l 0 worker) (sym c.in-Some.ensures.steps.0))

pub give_logs-requires : goal.give_logs-requires
give_logs-requires c =
    let from = (goal.at.give_logs-requires c).In-Some in
    let w = length c.loop-worker.yielded + 1 in
    subst (λ (x : LineWorker). length c.loop-worker.logs.logs + length x.team.stations ≤ c.loop-worker.logs.room) (sym (is-next from)) (
    given_fits log_of c.args.workers.items c.requires w c.loop-worker.logs c.loop-worker.invariant.given (low from))

pub loop-worker-preserved : goal.loop-worker-preserved
loop-worker-preserved c =
    let from = (goal.at.loop-worker-preserved c).In-Some in
    let workers = c.args.workers.items in
    let worker = c.in-Some.worker in
    let yielded = c.loop-worker.yielded in
    let w = length yielded + 1 in
    let old = c.loop-worker.logs in
    let more : length (yielded ++ worker ∷ []) + 1 ≡ w + 1 = omega (arith, length-append yielded (worker ∷ [])) in
    let is : c.give_logs.new.logs ≡ record old { logs = old.logs ++ map log_of (worker_at workers w).team.stations } =
    c.give_logs.ensures ∙ ap (λ (x : LineWorker). (let r : RoomyLogs = record old { logs = old.logs ++ map log_of x.team.stations } in r)) (is-next from) in
    record {
      left =
          ap (drop 1) (sym c.in-Some.ensures.steps.0)
          ∙ ap (drop 1) c.loop-worker.invariant.left
          ∙ drop-drop 1 w workers
          ∙ ap (λ n. drop n workers) (sym more);
      few = omega (arith, more, low from);
      given =
          subst (λ n. AreGiven log_of workers n c.give_logs.new.logs) (sym more)
          (given_more log_of workers c.requires w old c.give_logs.new.logs c.loop-worker.invariant.given (low from) is);
    }

pub returns : goal.returns
returns c =
    let workers = c.args.workers.items in
    let w = length c.loop-worker.yielded + 1 in
    let all : w ≡ length workers =
    omega (arith, c.in-None.ensures.steps.0, c.loop-worker.worker-iterator.rest.ok.0, ap length c.loop-worker.invariant.left, length-drop w workers, c.loop-worker.invariant.few) in
    given_all log_of workers c.requires c.loop-worker.logs (
    subst (λ n. AreGiven log_of workers n c.loop-worker.logs) all c.loop-worker.invariant.given)
