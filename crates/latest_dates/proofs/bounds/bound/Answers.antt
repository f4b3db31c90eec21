use Rattle.std.proofs.Common.{◌≡◌, ℕ, ◌+◌, ◌-◌, ◌<◌, ◌≤◌, None, get_or, length, refl, sym, ap, ◌∙◌, subst, arith}
use Rattle.std.specs.Prelude.{Option}
use Rattle.std.proofs.lemmas.List.{get_or_read}
use Rattle.line_base.specs.Limits.{most_dates}
use Rattle.line_base.specs.declared.event.Parts.{Parts}
use Rattle.event_graph.specs.Network.{jobs, arc, arc_count, delay}
use Rattle.event_graph.specs.Term.{work}
use Rattle.latest_dates.specs.declared.arc_bounds.ArcBound.{ArcBound}
use Rattle.latest_dates.specs.ArcBounds.{AddsToAll, IsBoundOf}
use Rattle.latest_dates.specs.Found.{latest_in}
use Rattle.what_if.specs.Page.{IsDate}
use Rattle.what_if.specs.Sheet.{date_count}
use Rattle.latest_dates.proofs.DateIndices.{date_index-below}
use Rattle.latest_dates.proofs.ArcBounds.{date_index-read, leaves-kept, bound-kept, bound-none}
use Rattle.latest_dates.proofs.bounds.bound.Goals as goal
use Rattle.latest_dates.proofs.bounds.bound.Goals.{After-graph-graph}

-- the arc as it is kept
abbrev kept : After-graph-graph → ArcBound
kept c = get_or c.args.bounds.now c.args.a (record { first = 0; tokens = 0; added = None })

is_kept : (c : After-graph-graph) → IsBoundOf c.args.live.now.graph c.args.a (kept c)
is_kept c =
    c.requires.bounds.each c.args.a (record { first = 0; tokens = 0; added = None }) (omega (arith, c.requires.bounds.one_for_each, c.requires.arc))

pub returns-then-job-jobs : goal.returns-then-job-jobs
returns-then-job-jobs c =
    let live = c.args.live.now in
    let before = (goal.at.returns-then-job-jobs c).After-graph-graph in
    let many = c.jobs.ensures.count ∙ ap jobs c.graph-graph.ensures.graph in
    c.none.ensures
    ∙ bound-none live.graph (latest_in live c.args.dates.now) c.args.n c.args.a (kept before) (is_kept before) (omega (arith, c.if-job-jobs.true, many))

-- the index that is looked at is there
index_there : (c : After-graph-graph) → c.args.n + (kept c).tokens ≤ jobs c.args.live.now.graph → (kept c).first + (c.args.n + (kept c).tokens - 1) < length c.args.dates.now
index_there c inside =
    let live = c.args.live.now in
    let g = live.graph in
    let is = is_kept c in
    let job : c.args.n + (arc g c.args.a).tokens ≤ jobs g = omega (arith, is.tokens, inside) in
    let date : IsDate g (arc g c.args.a).to (c.args.n + (arc g c.args.a).tokens) = record { station = c.graph-graph.ensures.ranked.sound.ends_exist c.args.a c.requires.arc; from_one = omega (arith, c.requires.from_one); job = job } in
    let low = date_index-below g (arc g c.args.a).to (c.args.n + (arc g c.args.a).tokens) date in
    omega (arith, date_index-read g (latest_in live c.args.dates.now) c.args.n c.args.a (kept c) is inside, low, c.requires.one_for_each)

-- it has the latest date of the job at the arc's end
there : (c : After-graph-graph) (index : ℕ) (latest : Option ℕ) → c.args.n + (kept c).tokens ≤ jobs c.args.live.now.graph → index ≡ (kept c).first + (c.args.n + (kept c).tokens - 1) → latest ≡ get_or c.args.dates.now index latest → latest ≡ latest_in c.args.live.now c.args.dates.now (arc c.args.live.now.graph c.args.a).to (c.args.n + (arc c.args.live.now.graph c.args.a).tokens)
there c index latest inside at read =
    let live = c.args.live.now in
    let to = at ∙ date_index-read live.graph (latest_in live c.args.dates.now) c.args.n c.args.a (kept c) (is_kept c) inside in
    get_or_read c.args.dates.now index latest (omega (arith, at, index_there c inside)) read None
    ∙ ap (λ k. get_or c.args.dates.now k None) to

pub added_time-added-requires-clause-arc : goal.added_time-added-requires-clause-arc
added_time-added-requires-clause-arc c = omega (arith, c.requires.arc, ap arc_count c.graph-graph.ensures.graph)

pub added_time-added-requires-clause-job : goal.added_time-added-requires-clause-job
added_time-added-requires-clause-job c = omega (arith, c.if-job-jobs.false, c.jobs.ensures.count)

pub added_time-added-requires-clause-to_all : goal.added_time-added-requires-clause-to_all
added_time-added-requires-clause-to_all c =
    let before = (goal.at.added_time-added-requires-clause-to_all c).After-graph-graph in
    subst (λ (h : Parts). AddsToAll h c.args.a (kept before).added) (sym c.graph-graph.ensures.graph) (is_kept before).added

pub bounds-dates-index : goal.bounds-dates-index
bounds-dates-index c =
    let many = c.jobs.ensures.count ∙ ap jobs c.graph-graph.ensures.graph in
    index_there (goal.at.bounds-dates-index c).After-graph-graph (omega (arith, many, c.if-job-jobs.false))

pub overflow_add-index : goal.overflow_add-index
overflow_add-index c =
    let live = c.args.live.now in
    let many = c.jobs.ensures.count ∙ ap jobs c.graph-graph.ensures.graph in
    let low = index_there (goal.at.overflow_add-index c).After-graph-graph (omega (arith, many, c.if-job-jobs.false)) in
    let few = subst (λ (h : Parts). date_count h ≤ most_dates) c.graph-graph.ensures.graph c.jobs.ensures.limits.small_table in
    omega (arith, low, few, c.requires.one_for_each)

pub less-requires : goal.less-requires
less-requires c =
    let live = c.args.live.now in
    let before = (goal.at.less-requires c).After-graph-graph in
    let many = c.jobs.ensures.count ∙ ap jobs c.graph-graph.ensures.graph in
    let inside : c.args.n + (kept before).tokens ≤ jobs live.graph = omega (arith, many, c.if-job-jobs.false) in
    let read = there before _ c.index-dates-index.result inside refl c.index-dates-index.is in
    let adds = c.added_time-added.ensures ∙ ap (λ (h : Parts). delay h c.args.a + work h c.args.a (c.args.n + (kept before).tokens)) c.graph-graph.ensures.graph in
    leaves-kept live.graph (latest_in live c.args.dates.now) c.args.n c.args.a (kept before) (is_kept before) c.index-dates-index.result c.added_time-added.result inside read adds c.requires.time

pub returns : goal.returns
returns c =
    let live = c.args.live.now in
    let before = (goal.at.returns c).After-graph-graph in
    let many = c.jobs.ensures.count ∙ ap jobs c.graph-graph.ensures.graph in
    let inside : c.args.n + (kept before).tokens ≤ jobs live.graph = omega (arith, many, c.if-job-jobs.false) in
    let read = there before _ c.index-dates-index.result inside refl c.index-dates-index.is in
    let adds = c.added_time-added.ensures ∙ ap (λ (h : Parts). delay h c.args.a + work h c.args.a (c.args.n + (kept before).tokens)) c.graph-graph.ensures.graph in
    c.less.ensures
    ∙ bound-kept live.graph (latest_in live c.args.dates.now) c.args.n c.args.a (kept before) (is_kept before) c.index-dates-index.result c.added_time-added.result inside read adds
