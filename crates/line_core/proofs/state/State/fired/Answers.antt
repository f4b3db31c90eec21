use Rattle.std.proofs.Common.{◌<◌, [], sym, ap, ◌∙◌, arith, length, subst}
use Rattle.std.specs.List.{sum_by}
use Rattle.std.proofs.lemmas.List.{drop_all, length-map}
use Rattle.std.proofs.lemmas.List.Sums.{sum_by-drop_more}
use Rattle.line_base.specs.Roomy.{RoomyLog, dates_of}
use Rattle.line_core.specs.Run.{Run, IsReached}
use Rattle.line_core.proofs.Runs.{many_logs, get_or-dates_of, logs-state_of, few_firings}
use Rattle.line_core.proofs.state.State.fired.Goals as goal

pub overflow_cast-t-end : goal.overflow_cast-t-end
overflow_cast-t-end c =
    omega (arith, c.len-t-end.ensures, many_logs c.self.inside.graph.value c.self.inside.logs c.self.invariant, c.self.invariant.run.limits.few_stations)

pub overflow_add-fired : goal.overflow_add-fired
overflow_add-fired c =
    let logs = c.self.inside.logs in
    let dates = dates_of logs in
    let t = c.loop-t.t in
    let there : t < length dates = omega (arith, c.len-t-end.ensures, c.loop-t-test.true, length-map logs.logs (λ (l : RoomyLog). l.dates)) in
    let read = c.dates.ensures ∙ ap (λ (l : RoomyLog). l.dates) c.get.ensures ∙ sym (get_or-dates_of logs t) in
    omega (arith, c.loop-t.invariant, sum_by-drop_more length dates t [] there, ap length read, few_firings c.self.inside.graph.value logs c.self.invariant)

pub loop-t-preserved : goal.loop-t-preserved
loop-t-preserved c =
    let logs = c.self.inside.logs in
    let dates = dates_of logs in
    let t = c.loop-t.t in
    let there : t < length dates = omega (arith, c.len-t-end.ensures, c.loop-t-test.true, length-map logs.logs (λ (l : RoomyLog). l.dates)) in
    let read = c.dates.ensures ∙ ap (λ (l : RoomyLog). l.dates) c.get.ensures ∙ sym (get_or-dates_of logs t) in
    omega (arith, c.loop-t.invariant, sum_by-drop_more length dates t [] there, ap length read)

pub returns-clause-fired : goal.returns-clause-fired
returns-clause-fired c =
    let logs = c.self.inside.logs in
    let dates = dates_of logs in
    let rest = drop_all c.loop-t.t dates (omega (arith, c.len-t-end.ensures, c.loop-t-test.false, length-map logs.logs (λ (l : RoomyLog). l.dates))) in
    omega (arith, c.loop-t.invariant, ap (sum_by length) rest, ap (sum_by length) (logs-state_of c.self.inside.graph.value dates), ap (λ (r : Run). sum_by length r.state.logs) c.self.view_is)

pub returns-clause-reached : goal.returns-clause-reached
returns-clause-reached c = subst IsReached c.self.view_is c.self.invariant.run
