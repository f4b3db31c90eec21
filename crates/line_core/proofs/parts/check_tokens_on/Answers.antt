use Rattle.std.proofs.Common.{ap, ◌∙◌, sym, ◌≡◌, ◌<◌, ◌≤◌, ◌+◌, arith, length, get_or, subst}
use Rattle.line_base.specs.declared.event.Arc.{Arc}
use Rattle.line_base.specs.Roomy.{dates_of}
use Rattle.event_graph.specs.Network.{stations, arc}
use Rattle.line_core.specs.Consistent.{tokens_left}
use Rattle.line_core.specs.Parts.{list_at, wrong_token, wrong_tokens_on}
use Rattle.line_core.proofs.FirstRefusals.{none_below_0, none_below_next, none_below_all, found_at}
use Rattle.line_core.proofs.PartsLemmas.{few_from, marked_from, token-left, wrong_token-first, wrong_token-none}
use Rattle.line_core.proofs.parts.check_tokens_on.Goals as goal
use Rattle.line_core.proofs.parts.check_tokens_on.Goals.{After-dates_at-dates, After-token_date-need}

-- how many tokens the arc has, and how many the station where it ends took
few_taken : (c : After-dates_at-dates) → length c.dates_at.result.now ≤ 20_000
few_taken c = omega (arith, ap length c.dates_at.ensures, few_from c.args.graph.now (dates_of c.args.logs.now) c.requires.few c.arc.result.to c.arc.ensures.ends, c.requires.limits.few_jobs)

held : (c : After-dates_at-dates) → length c.dates_at-dates.result.now + length c.dates_at.result.now ≡ (arc c.args.graph.now c.args.arc).tokens + length (list_at (dates_of c.args.logs.now) (arc c.args.graph.now c.args.arc).from)
held c =
    let logs = dates_of c.args.logs.now in
    omega (arith, ap length c.dates_at-dates.ensures, ap length c.dates_at.ensures, ap (λ (x : Arc). length (list_at logs x.to)) c.arc.ensures.arc, marked_from c.args.graph.now logs (dates_of c.args.places.now) c.requires.marking c.args.arc c.requires.arc)

few : (c : After-dates_at-dates) → length c.dates_at-dates.result.now ≤ 30_000
few c =
    let g = c.args.graph.now in
    let a = c.args.arc in
    let from = few_from g (dates_of c.args.logs.now) c.requires.few (arc g a).from (subst (λ (x : Arc). x.from < stations g) c.arc.ensures.arc c.arc.ensures.starts) in
    omega (arith, held c, from, c.requires.limits.few_jobs, c.arc.ensures.tokens, ap (λ (x : Arc). x.tokens) c.arc.ensures.arc)

pub overflow_cast-taken : goal.overflow_cast-taken
overflow_cast-taken c = omega (arith, ap length c.dates_at.ensures, few_from c.args.graph.now (dates_of c.args.logs.now) c.requires.few c.arc.result.to c.arc.ensures.ends, c.requires.limits.few_jobs)

pub overflow_cast-token-end : goal.overflow_cast-token-end
overflow_cast-token-end c = omega (arith, few c)

pub loop-token-init : goal.loop-token-init
loop-token-init c =
    none_below_0 (length (list_at (dates_of c.args.places.now) c.args.arc)) (wrong_token c.args.graph.now (dates_of c.args.logs.now) (dates_of c.args.places.now) c.args.arc)

pub overflow_add-taken : goal.overflow_add-taken
overflow_add-taken c =
    omega (arith, few (goal.at.overflow_add-taken c).After-dates_at-dates, few_taken (goal.at.overflow_add-taken c).After-dates_at-dates, c.loop-token-test.true)

pub overflow_add-taken-in-loop-token : goal.overflow_add-taken-in-loop-token
overflow_add-taken-in-loop-token c =
    omega (arith, few (goal.at.overflow_add-taken-in-loop-token c).After-dates_at-dates, few_taken (goal.at.overflow_add-taken-in-loop-token c).After-dates_at-dates, c.loop-token-test.true)

pub token_date-need-requires-clause-logs : goal.token_date-need-requires-clause-logs
token_date-need-requires-clause-logs c = record { a_log_each = c.requires.parts.a_log_each; early = c.requires.parts.early }

-- what a token needs is the date that the logs leave there
need_is : (c : After-token_date-need) → length c.dates_at-dates.result.now + length c.dates_at.result.now ≡ (arc c.args.graph.now c.args.arc).tokens + length (list_at (dates_of c.args.logs.now) (arc c.args.graph.now c.args.arc).from) → c.token_date-need.result ≡ get_or (tokens_left c.args.graph.now (dates_of c.args.logs.now) c.args.arc) c.loop-token.token 0
need_is c held_here =
    let logs = dates_of c.args.logs.now in
    let taken = ap length c.dates_at.ensures ∙ ap (λ (x : Arc). length (list_at logs x.to)) c.arc.ensures.arc in
    c.token_date-need.ensures.date ∙ token-left c.args.graph.now logs c.args.arc (length c.dates_at.result.now) c.loop-token.token taken (omega (arith, held_here, c.loop-token-test.true))

pub returns-then-have-need : goal.returns-then-have-need
unfolding wrong_tokens_on
returns-then-have-need c =
    let at = goal.at.returns-then-have-need c in
    let g = c.args.graph.now in
    let logs = dates_of c.args.logs.now in
    let places = dates_of c.args.places.now in
    let token = c.loop-token.token in
    let low : token < length (list_at places c.args.arc) = omega (arith, c.loop-token-test.true, ap length c.dates_at-dates.ensures) in
    found_at (length (list_at places c.args.arc)) (wrong_token g logs places c.args.arc) token _ low (
    wrong_token-first g logs places c.args.arc token _ _ (ap (λ l. get_or l token 0) c.dates_at-dates.ensures) (need_is at.After-token_date-need (held at.After-dates_at-dates)) c.if-have-need.true) c.loop-token.invariant

pub loop-token-preserved : goal.loop-token-preserved
loop-token-preserved c =
    let at = goal.at.loop-token-preserved c in
    let places = dates_of c.args.places.now in
    let token = c.loop-token.token in
    let low : token < length (list_at places c.args.arc) = omega (arith, c.loop-token-test.true, ap length c.dates_at-dates.ensures) in
    none_below_next (length (list_at places c.args.arc)) (wrong_token c.args.graph.now (dates_of c.args.logs.now) places c.args.arc) token low (
    wrong_token-none c.args.graph.now (dates_of c.args.logs.now) places c.args.arc token (sym (ap (λ l. get_or l token 0) c.dates_at-dates.ensures) ∙ c.if-have-need.false ∙ need_is at.After-token_date-need (held at.After-dates_at-dates))) c.loop-token.invariant

pub returns : goal.returns
unfolding wrong_tokens_on
returns c =
    let past : length (list_at (dates_of c.args.places.now) c.args.arc) ≤ c.loop-token.token = omega (arith, c.loop-token-test.false, ap length c.dates_at-dates.ensures) in
    none_below_all _ (wrong_token c.args.graph.now (dates_of c.args.logs.now) (dates_of c.args.places.now) c.args.arc) c.loop-token.token past c.loop-token.invariant
