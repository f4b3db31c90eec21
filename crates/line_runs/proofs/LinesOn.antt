-- A line that goes on: its dates stay.
use Rattle.std.proofs.Common.{◌≡◌, ℕ, ◌≤◌, List, take, length, refl, sym, ap, ◌∙◌, arith}
use Rattle.std.proofs.lemmas.List.{take_all, take-take, length-take}
use Rattle.event_graph.specs.Network.{stations}
use Rattle.event_graph.specs.State.{State, log}
use Rattle.live_check.specs.Order.{LiveGraph}
use Rattle.line_core.specs.Run.{Dates}
use Rattle.line_workers.specs.Line.{WorkLine, IsLine}
use Rattle.line_runs.specs.Bursts.{IsBurst, BurstsBelow, none, more}
use Rattle.line_runs.specs.Scheduler.{EndsFrom}
use Rattle.line_runs.specs.Standing.{GoesOn}
use Rattle.line_runs.specs.Stop.{FinishesBefore}

pub stays : (l : WorkLine) → IsLine l → GoesOn l l
stays l is = record {
  line = is;
  live = refl;
  worker_count = refl;
  room = refl;
  logs = λ t there. take_all (length (log l.state t)) (log l.state t) (omega arith);
}

pub burst_goes_on : (old new : WorkLine) → IsBurst old new → GoesOn old new
burst_goes_on old new burst = record {
  line = burst.line;
  live = ap (λ (l : WorkLine). l.live) burst.frame;
  worker_count = ap (λ (l : WorkLine). l.worker_count) burst.frame;
  room = ap (λ (l : WorkLine). l.room) burst.frame;
  logs = burst.logs;
}

-- dates that stay in a list, and stay in the next
kept-more : (xs ys zs : List ℕ) → take (length xs) ys ≡ xs → take (length ys) zs ≡ ys → take (length xs) zs ≡ xs
kept-more xs ys zs first next =
    let low : length xs ≤ length ys = omega (arith, ap length first, length-take (length xs) ys) in
    sym (take-take (length xs) (length ys) zs low) ∙ ap (take (length xs)) next ∙ first

pub goes_on_more : (first now next : WorkLine) → GoesOn first now → GoesOn now next → GoesOn first next
goes_on_more first now next before after = record {
  line = after.line;
  live = after.live ∙ before.live;
  worker_count = after.worker_count ∙ before.worker_count;
  room = after.room ∙ before.room;
  logs = λ t there.
      let same : stations now.live.graph ≡ stations first.live.graph = ap (λ (v : LiveGraph). stations v.graph) before.live in
      kept-more (log first.state t) (log now.state t) (log next.state t) (before.logs t there) (after.logs t (omega (arith, there, same)));
}

-- bursts leave dates as they are, too
pub bursts_go_on : (n : ℕ) (first : WorkLine) (count : ℕ) (last : WorkLine) → IsLine first → BurstsBelow n first count last → GoesOn first last
bursts_go_on n first count last is none = stays first is
bursts_go_on n first count last is (more before l new bursts below burst) =
    goes_on_more first l new (bursts_go_on n first before l is bursts) (burst_goes_on l new burst)

-- a line that went on, and then by bursts to its end
pub ends_from : (n : ℕ) (first now : WorkLine) (d : Dates) → GoesOn first now → FinishesBefore n now d → EndsFrom first d
ends_from n first now d on ends = record {
  last = ends.last;
  goes_on = goes_on_more first now ends.last on (bursts_go_on n now ends.count ends.last on.line ends.bursts);
  done = ends.done;
  dates = ends.dates;
}
