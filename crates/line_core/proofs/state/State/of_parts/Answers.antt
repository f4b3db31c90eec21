use Rattle.std.proofs.Common.{◌≡◌, ℕ, List, ap, ◌∙◌, sym, subst, length, arith}
use Rattle.std.specs.Prelude.{Some}
use Rattle.std.proofs.lemmas.Result.{err_from_is_err_and}
use Rattle.line_base.specs.declared.event.Parts.{Parts}
use Rattle.line_base.specs.Roomy.{dates_of}
use Rattle.event_graph.specs.Reached.{Reached}
use Rattle.line_core.specs.Consistent.{state_of}
use Rattle.line_core.specs.declared.error.StateError.{StateError}
use Rattle.line_core.specs.declared.error.StateError.TheVariants.{Count, Marking, Date, PlaceDate, NoMemory}
use Rattle.line_core.specs.Parts.{state_refusals, state_refusal, IsStateRefusal, AreParts}
use Rattle.line_core.proofs.PartsLemmas.{all_few, reached_logs, reached_exactly, run-with}
use Rattle.line_core.proofs.state.State.of_parts.Goals as goal

-- the first thing that is wrong is the refusal
is_state_refusal : (g : Parts) (logs places : List (List ℕ)) (refusal : StateError) → state_refusal g logs places ≡ Some refusal → IsStateRefusal g logs places refusal
is_state_refusal g logs places (Count t have limit) found = found
is_state_refusal g logs places (Marking a have need) found = found
is_state_refusal g logs places (Date t job have need) found = found
is_state_refusal g logs places (PlaceDate a token have need) found = found
is_state_refusal g logs places NoMemory found = tt

pub returns-in_err-check_parts-clause-exact : goal.returns-in_err-check_parts-clause-exact
returns-in_err-check_parts-clause-exact c =
    reached_exactly c.args.live.now c.graph.ensures.ranked c.args.logs c.args.places c.requires.parts

pub with_room-requires-clause-few : goal.with_room-requires-clause-few
with_room-requires-clause-few c k d low =
    let none = ap (λ (g : Parts). state_refusals g (dates_of c.args.logs) (dates_of c.args.places)) (sym c.graph.ensures.graph) ∙ c.in_ok-check_parts.ensures in
    omega (arith, all_few c.args.live.now c.graph.ensures.ranked c.args.logs c.args.places c.requires.parts none k d low, c.jobs.ensures.count, ap (λ (g : Parts). length g.dates) c.graph-2.ensures.graph)

pub of_reached-requires-clause-reached : goal.of_reached-requires-clause-reached
of_reached-requires-clause-reached c =
    let g = c.args.live.now.graph in
    let none = ap (λ (h : Parts). state_refusals h (dates_of c.args.logs) (dates_of c.args.places)) (sym c.graph.ensures.graph) ∙ c.in_ok-check_parts.ensures in
    subst
    (λ l. Reached g (state_of g l))
    (sym c.in_ok-logs.ensures.dates)
    (reached_logs c.args.live.now c.graph.ensures.ranked c.args.logs c.args.places c.requires.parts none)

pub returns-clause-state : goal.returns-clause-state
returns-clause-state c =
    let g = c.args.live.now.graph in
    let none = ap (λ (h : Parts). state_refusals h (dates_of c.args.logs) (dates_of c.args.places)) (sym c.graph.ensures.graph) ∙ c.in_ok-check_parts.ensures in
    c.of_reached.ensures.state
    ∙ ap (λ l. record { graph = g; state = state_of g l }) c.in_ok-logs.ensures.dates
    ∙ sym (run-with c.args.live.now c.graph.ensures.ranked c.args.logs c.args.places c.requires.parts none)

pub returns-clause-exact : goal.returns-clause-exact
returns-clause-exact c =
    reached_exactly c.args.live.now c.graph.ensures.ranked c.args.logs c.args.places c.requires.parts

pub returns-in_err-logs-clause-exact : goal.returns-in_err-logs-clause-exact
returns-in_err-logs-clause-exact c =
    reached_exactly c.args.live.now c.graph.ensures.ranked c.args.logs c.args.places c.requires.parts

pub returns-in_err-check_parts-clause-refused : goal.returns-in_err-check_parts-clause-refused
returns-in_err-check_parts-clause-refused c =
    let p = err_from_is_err_and c.from_residual.result c.from_residual.ensures.1 in
    let found = ap (λ (g : Parts). state_refusal g (dates_of c.args.logs) (dates_of c.args.places)) (sym c.graph.ensures.graph) ∙ c.in_err-check_parts.ensures in
    rw (p.1, p.2) (is_state_refusal c.args.live.now.graph (dates_of c.args.logs) (dates_of c.args.places) _ found)

pub check_parts-requires : goal.check_parts-requires
check_parts-requires c =
    subst (λ (g : Parts). AreParts g c.args.logs c.args.places) (sym c.graph.ensures.graph) c.requires.parts

pub returns-in_err-check_parts-clause-state : goal.returns-in_err-check_parts-clause-state
returns-in_err-check_parts-clause-state c =
    rw (err_from_is_err_and c.from_residual.result c.from_residual.ensures.1).1 tt

pub returns-in_err-check_parts-clause-reached : goal.returns-in_err-check_parts-clause-reached
returns-in_err-check_parts-clause-reached c =
    rw (err_from_is_err_and c.from_residual.result c.from_residual.ensures.1).1 tt

pub returns-in_err-logs-clause-state : goal.returns-in_err-logs-clause-state
returns-in_err-logs-clause-state c =
    rw (err_from_is_err_and c.from_residual-in_err-logs.result c.from_residual-in_err-logs.ensures.1).1 tt

pub returns-in_err-logs-clause-reached : goal.returns-in_err-logs-clause-reached
returns-in_err-logs-clause-reached c =
    rw (err_from_is_err_and c.from_residual-in_err-logs.result c.from_residual-in_err-logs.ensures.1).1 tt

pub returns-in_err-logs-clause-refused : goal.returns-in_err-logs-clause-refused
returns-in_err-logs-clause-refused c =
    let p = err_from_is_err_and c.from_residual-in_err-logs.result c.from_residual-in_err-logs.ensures.1 in
    rw (p.1, p.2) tt

pub returns-clause-reached : goal.returns-clause-reached
returns-clause-reached c = c.of_reached.ensures.reached
