use Rattle.std.proofs.Common.{◌≡◌, ◌≢◌, ◌<◌, ℕ, sym, ap, ◌∙◌, arith, subst, length}
use Rattle.std.specs.Prelude.{None, Some}
use Rattle.line_base.specs.declared.event.Parts.{Parts}
use Rattle.line_base.specs.Roomy.{RoomyLogs}
use Rattle.event_graph.specs.Network.{stations, jobs}
use Rattle.event_graph.specs.State.{log}
use Rattle.event_graph.specs.Firing.{CanFire}
use Rattle.line_core.specs.Refusals.{first_empty}
use Rattle.line_core.specs.Run.{Run, IsReached, IsRunWithRoom}
use Rattle.line_core.proofs.Runs.{state_in, consistent}
use Rattle.line_core.proofs.Searches.{can_fire}
use Rattle.line_core.proofs.state.State.fire.Goals as goal
use Rattle.line_core.proofs.state.State.fire.Goals.{In-None}

-- a station that passed both tests can fire
can_at : (given g : Parts) (logs : RoomyLogs) (t count most : ℕ) → given ≡ g → IsRunWithRoom g logs → t < stations g → count ≡ length (log (state_in given logs) t) → most ≡ jobs given → count ≢ most → first_empty given (state_in given logs) t ≡ None → CanFire g (state_in g logs) t
can_at given g logs t count most same held there counted all more none =
    let full : length (log (state_in g logs) t) ≢ jobs g = λ e. more (counted ∙ ap (λ h. length (log (state_in h logs) t)) same ∙ e ∙ sym (ap jobs same) ∙ sym all) in
    can_fire g (state_in g logs) (consistent g logs held) t there full (ap (λ h. first_empty h (state_in h logs) t) (sym same) ∙ none)

ready : (c : In-None) → CanFire c.args.self.now.graph c.args.self.now.state c.args.t
ready c =
    let same = c.graph-graph.ensures.graph ∙ c.requires.made_for ∙ sym (ap (λ (r : Run). r.graph) c.self.view_is) in
    let there : c.args.t < stations c.self.inside.graph.value = omega (arith, ap (λ (r : Run). stations r.graph) c.self.view_is, c.requires.station) in
    subst (λ (r : Run). CanFire r.graph r.state c.args.t) c.self.view_is (
    can_at c.graph-graph.result.now c.self.inside.graph.value c.self.inside.logs c.args.t c.count_at.result c.jobs.result same c.self.invariant there c.count_at.ensures.count c.jobs.ensures.count c.if-count_at-jobs.false (sym c.first_empty.ensures ∙ c.in-None.is))

pub fire_ready-requires-clause-can : goal.fire_ready-requires-clause-can
fire_ready-requires-clause-can c = ready (goal.at.fire_ready-requires-clause-can c).In-None

pub returns-in-None-clause-could : goal.returns-in-None-clause-could
returns-in-None-clause-could c = ready (goal.at.returns-in-None-clause-could c).In-None

pub returns-then-count_at-jobs-clause-refused : goal.returns-then-count_at-jobs-clause-refused
returns-then-count_at-jobs-clause-refused c =
    let logs = c.self.inside.logs in
    let same = c.graph-graph.ensures.graph ∙ c.requires.made_for ∙ sym (ap (λ (r : Run). r.graph) c.self.view_is) in
    let all = sym (ap (λ h. length (log (state_in h logs) c.args.t)) same) ∙ sym c.count_at.ensures.count ∙ c.if-count_at-jobs.true ∙ c.jobs.ensures.count ∙ ap jobs same in
    subst (λ (r : Run). length (log r.state c.args.t) ≡ jobs r.graph) c.self.view_is all

pub returns-then-count_at-jobs-clause-reached : goal.returns-then-count_at-jobs-clause-reached
returns-then-count_at-jobs-clause-reached c = subst IsReached c.self.view_is c.self.invariant.run

pub returns-in-Some-clause-refused : goal.returns-in-Some-clause-refused
returns-in-Some-clause-refused c =
    let logs = c.self.inside.logs in
    let t = c.args.t in
    let same = c.graph-graph.ensures.graph ∙ c.requires.made_for ∙ sym (ap (λ (r : Run). r.graph) c.self.view_is) in
    let fewer : length (log (state_in c.self.inside.graph.value logs) t) < jobs c.self.inside.graph.value =
    omega (arith, ap (λ h. length (log (state_in h logs) t)) same, c.count_at.ensures.count, c.count_at.ensures.within, c.if-count_at-jobs.false, c.jobs.ensures.count, ap jobs same) in
    let empty = sym (ap (λ h. first_empty h (state_in h logs) t) same) ∙ sym c.first_empty.ensures ∙ c.in-Some.is in (
      subst (λ (r : Run). length (log r.state t) < jobs r.graph) c.self.view_is fewer,
      subst (λ (r : Run). first_empty r.graph r.state t ≡ Some c.in-Some.arc) c.self.view_is empty,
    )

pub returns-in-Some-clause-reached : goal.returns-in-Some-clause-reached
returns-in-Some-clause-reached c = subst IsReached c.self.view_is c.self.invariant.run

pub count_at-requires-clause-has_room : goal.count_at-requires-clause-has_room
count_at-requires-clause-has_room c =
    let same = c.graph-graph.ensures.graph ∙ c.requires.made_for ∙ sym (ap (λ (r : Run). r.graph) c.self.view_is) in
    subst (λ (g : Parts). IsRunWithRoom g c.self.inside.logs) (sym same) c.self.invariant

pub first_empty-requires-clause-has_room : goal.first_empty-requires-clause-has_room
first_empty-requires-clause-has_room c =
    let same = c.graph-graph.ensures.graph ∙ c.requires.made_for ∙ sym (ap (λ (r : Run). r.graph) c.self.view_is) in
    subst (λ (g : Parts). IsRunWithRoom g c.self.inside.logs) (sym same) c.self.invariant

pub returns-in-None-clause-fired : goal.returns-in-None-clause-fired
returns-in-None-clause-fired c = c.fire_ready.ensures.fired

pub returns-in-None-clause-reached : goal.returns-in-None-clause-reached
returns-in-None-clause-reached c = c.fire_ready.ensures.reached
