use Rattle.std.proofs.Common.{sym, ap, ◌∙◌, arith, subst, length}
use Rattle.line_base.specs.declared.event.Parts.{Parts}
use Rattle.event_graph.specs.Network.{stations}
use Rattle.event_graph.specs.Firing.{CanFire, new_date}
use Rattle.line_core.specs.Run.{Run, fired_at, IsRunWithRoom}
use Rattle.line_core.proofs.Runs.{state_in, many_logs, log-state_in, held-fired, run_of-fired}
use Rattle.line_core.proofs.state.State.fire_ready.Goals as goal

pub next_date-date-requires-clause-has_room : goal.next_date-date-requires-clause-has_room
next_date-date-requires-clause-has_room c =
    let at = c.graph.ensures.graph ∙ c.requires.made_for ∙ sym (ap (λ (r : Run). r.graph) c.self.view_is) in
    subst (λ (h : Parts). IsRunWithRoom h c.self.inside.logs) (sym at) c.self.invariant

pub next_date-date-requires-clause-can : goal.next_date-date-requires-clause-can
next_date-date-requires-clause-can c =
    let logs = c.self.inside.logs in
    let at = c.graph.ensures.graph ∙ c.requires.made_for ∙ sym (ap (λ (r : Run). r.graph) c.self.view_is) in
    let can = subst (λ (r : Run). CanFire r.graph r.state c.args.t) (sym c.self.view_is) c.requires.can in
    subst (λ (h : Parts). CanFire h (state_in h logs) c.args.t) (sym at) can

pub add_to-requires-clause-there : goal.add_to-requires-clause-there
add_to-requires-clause-there c =
    omega (arith, many_logs c.self.inside.graph.value c.self.inside.logs c.self.invariant, ap (λ (r : Run). stations r.graph) c.self.view_is, c.requires.can.exists)

pub add_to-requires-clause-room : goal.add_to-requires-clause-room
add_to-requires-clause-room c =
    let g = c.self.inside.graph.value in
    let logs = c.self.inside.logs in
    let can = subst (λ (r : Run). CanFire r.graph r.state c.args.t) (sym c.self.view_is) c.requires.can in
    omega (arith, can.more, ap length (log-state_in g logs c.args.t), c.self.invariant.room c.args.t can.exists)

pub invariant_of-self : goal.invariant_of-self
invariant_of-self c =
    let g = c.self.inside.graph.value in
    let logs = c.self.inside.logs in
    let at = c.graph.ensures.graph ∙ c.requires.made_for ∙ sym (ap (λ (r : Run). r.graph) c.self.view_is) in
    let can = subst (λ (r : Run). CanFire r.graph r.state c.args.t) (sym c.self.view_is) c.requires.can in
    held-fired g logs c.self.invariant c.args.t can c.add_to.new.self c.next_date-date.result (c.next_date-date.ensures ∙ ap (λ h. new_date h (state_in h logs) c.args.t) at) c.add_to.ensures

pub returns-clause-reached : goal.returns-clause-reached
returns-clause-reached c = (invariant_of-self c).run

pub returns-clause-fired : goal.returns-clause-fired
returns-clause-fired c =
    let g = c.self.inside.graph.value in
    let logs = c.self.inside.logs in
    let at = c.graph.ensures.graph ∙ c.requires.made_for ∙ sym (ap (λ (r : Run). r.graph) c.self.view_is) in
    let can = subst (λ (r : Run). CanFire r.graph r.state c.args.t) (sym c.self.view_is) c.requires.can in
    run_of-fired g logs c.self.invariant c.args.t can c.add_to.new.self c.next_date-date.result (c.next_date-date.ensures ∙ ap (λ h. new_date h (state_in h logs) c.args.t) at) c.add_to.ensures
    ∙ ap (λ (r : Run). fired_at r c.args.t) c.self.view_is
