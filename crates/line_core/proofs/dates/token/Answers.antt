use Rattle.std.proofs.Common.{◌≡◌, ◌≤◌, ◌-◌, ◌<◌, [], sym, ap, ◌∙◌, arith, length, get_or}
use Rattle.line_base.specs.declared.event.Arc.{Arc}
use Rattle.line_base.specs.Roomy.{dates_of}
use Rattle.event_graph.specs.Network.{arc}
use Rattle.event_graph.proofs.Sizes.{delay-small}
use Rattle.line_core.proofs.Runs.{many_logs, dates_read, length-tokens, token-initial, token-put, few_dates, early_date}
use Rattle.line_core.proofs.dates.token.Goals as goal
use Rattle.line_core.proofs.dates.token.Goals.{After-delay}

pub returns-then-k-initial-clause-date : goal.returns-then-k-initial-clause-date
returns-then-k-initial-clause-date c =
    sym (token-initial c.args.graph.now (dates_of c.args.logs.now) c.args.a c.args.k (omega (arith, ap (λ (x : Arc). x.tokens) c.arc-arc.ensures.arc)))

pub get-requires : goal.get-requires
get-requires c =
    omega (arith, ap (λ (x : Arc). x.from) c.arc-arc.ensures.arc, many_logs c.args.graph.now c.args.logs.now c.requires.has_room, c.requires.has_room.run.sound.starts_exist c.args.a c.requires.arc)

pub bounds-dates-k : goal.bounds-dates-k
bounds-dates-k c =
    let g = c.args.graph.now in
    let logs = c.args.logs.now in
    let read = dates_read g logs c.args.a _ _ _ c.dates.ensures c.get.ensures c.arc-arc.ensures.arc in
    omega (arith, ap length read, ap (λ (x : Arc). x.tokens) c.arc-arc.ensures.arc, length-tokens g (dates_of logs) c.args.a, c.requires.token)

pub offset_bounds-dates-k : goal.offset_bounds-dates-k
offset_bounds-dates-k c =
    let g = c.args.graph.now in
    let logs = c.args.logs.now in
    let few = few_dates g logs c.requires.has_room (arc g c.args.a).from (c.requires.has_room.run.sound.starts_exist c.args.a c.requires.arc) in
    omega (arith, few, c.requires.has_room.run.limits.few_jobs, ap (λ (x : Arc). x.tokens) c.arc-arc.ensures.arc, length-tokens g (dates_of logs) c.args.a, c.requires.token)

-- the date of the log of which the token was made
log_date : (c : After-delay) → get_or c.dates.result.now (c.args.k - c.arc-arc.result.tokens) 0 ≡ get_or (get_or (dates_of c.args.logs.now) (arc c.args.graph.now c.args.a).from []) (c.args.k - (arc c.args.graph.now c.args.a).tokens) 0
log_date c =
    let g = c.args.graph.now in
    let logs = c.args.logs.now in
    let a = c.args.a in
    ap (λ l. get_or l (c.args.k - c.arc-arc.result.tokens) 0) (dates_read g logs a _ _ _ c.dates.ensures c.get.ensures c.arc-arc.ensures.arc)
    ∙ ap (λ n. get_or (get_or (dates_of logs) (arc g a).from []) (c.args.k - n) 0) (ap (λ (x : Arc). x.tokens) c.arc-arc.ensures.arc)

pub returns-clause-small : goal.returns-clause-small
returns-clause-small c =
    let g = c.args.graph.now in
    let logs = c.args.logs.now in
    let a = c.args.a in
    let tokens = ap (λ (x : Arc). x.tokens) c.arc-arc.ensures.arc in
    let low : c.args.k - (arc g a).tokens < length (get_or (dates_of logs) (arc g a).from []) = omega (arith, length-tokens g (dates_of logs) a, c.requires.token, c.if-k-initial.false, tokens) in
    omega (arith, log_date (goal.at.returns-clause-small c).After-delay, early_date g logs c.requires.has_room (arc g a).from (c.args.k - (arc g a).tokens) (c.requires.has_room.run.sound.starts_exist a c.requires.arc) low, c.delay.ensures.delay, delay-small g a c.requires.has_room.run.limits)

pub overflow_add-result : goal.overflow_add-result
overflow_add-result c = omega (arith, returns-clause-small c)

pub returns-clause-date : goal.returns-clause-date
returns-clause-date c =
    let late : (arc c.args.graph.now c.args.a).tokens ≤ c.args.k = omega (arith, ap (λ (x : Arc). x.tokens) c.arc-arc.ensures.arc, c.if-k-initial.false) in
    omega (arith, log_date (goal.at.returns-clause-date c).After-delay, c.delay.ensures.delay, token-put c.args.graph.now (dates_of c.args.logs.now) c.args.a c.args.k late c.requires.token)
