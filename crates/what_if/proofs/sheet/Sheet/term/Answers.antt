use Rattle.std.proofs.Common.{◌≡◌, ◌+◌, ◌-◌, ◌≤◌, cond, sym, ap, ◌∙◌, arith}
use Rattle.line_base.specs.declared.event.Arc.{Arc}
use Rattle.line_base.specs.declared.event.Parts.{Parts}
use Rattle.event_graph.specs.Network.{arc, time, delay}
use Rattle.event_graph.specs.Table.{date_in}
use Rattle.event_graph.specs.Term.{work}
use Rattle.live_check.specs.Order.{LiveGraph}
use Rattle.event_graph.proofs.Sizes.{delay-small}
use Rattle.what_if.specs.Page.{graph_of, IsDate, date_at}
use Rattle.what_if.proofs.Inputs.{delay-edited}
use Rattle.what_if.proofs.KeptSheets.{date-early}
use Rattle.event_graph.proofs.ArcTerms.{term-later, term-initial}
use Rattle.what_if.proofs.sheet.Sheet.term.Goals as goal
use Rattle.what_if.proofs.sheet.Sheet.term.Goals.{After-arc-arc, After-date}

-- the arc, and the graph in which it is looked up
same_graph : (c : After-arc-arc) → c.graph-graph.result.now ≡ c.args.self.now.live.graph
same_graph c = c.graph-graph.ensures.graph ∙ ap (λ (l : LiveGraph). l.graph) c.requires.made_for

arc_read : (c : After-arc-arc) → c.arc-arc.result ≡ arc c.args.self.now.live.graph c.args.a
arc_read c = c.arc-arc.ensures.arc ∙ ap (λ (g : Parts). arc g c.args.a) (same_graph c)

-- the date that is read, which is early
date_read : (c : After-date) → c.arc-arc.result ≡ arc c.args.self.now.live.graph c.args.a → c.date.result ≡ date_at c.args.self.now (arc c.args.self.now.live.graph c.args.a).from (c.args.n - (arc c.args.self.now.live.graph c.args.a).tokens)
date_read c read =
    c.date.ensures.date ∙ ap (λ (x : Arc). date_at c.args.self.now x.from (c.args.n - x.tokens)) read

date_small : (c : After-date) → c.arc-arc.result ≡ arc c.args.self.now.live.graph c.args.a → c.date.result ≤ 2_001_000_000_000_000
date_small c read =
    let p = c.args.self.now in
    let sheet = c.date.ensures.kept in
    let g = p.live.graph in
    let tokens = ap (λ (x : Arc). x.tokens) read in
    let there : IsDate g (arc g c.args.a).from (c.args.n - (arc g c.args.a).tokens) = record {
      station = sheet.ranked.sound.starts_exist c.args.a c.requires.arc;
      from_one = omega (arith, c.if-n-arc.false, tokens);
      job = omega (arith, c.requires.job);
    } in
    omega (arith, date_read c read, date-early p sheet (arc g c.args.a).from (c.args.n - (arc g c.args.a).tokens) there)

pub overflow_add-result : goal.overflow_add-result
overflow_add-result c =
    omega (arith, date_small (goal.at.overflow_add-result c).After-date (arc_read (goal.at.overflow_add-result c).After-arc-arc), c.delay.ensures.delay, delay-small c.graph-graph.result.now c.args.a c.delay.ensures.limits)

pub overflow_add-result-else-n-arc : goal.overflow_add-result-else-n-arc
overflow_add-result-else-n-arc c =
    omega (arith, c.work-work.ensures.short, date_small (goal.at.overflow_add-result-else-n-arc c).After-date (arc_read (goal.at.overflow_add-result-else-n-arc c).After-arc-arc), c.delay.ensures.delay, delay-small c.graph-graph.result.now c.args.a c.delay.ensures.limits)

pub returns-then-n-arc : goal.returns-then-n-arc
unfolding work
returns-then-n-arc c =
    let p = c.args.self.now in
    let g = graph_of p in
    let read = arc_read (goal.at.returns-then-n-arc c).After-arc-arc in
    let tokens = ap (λ (x : Arc). x.tokens) read in
    c.work-work.ensures.work
    ∙ ap (λ (x : Arc). cond x.worked (time g x.to c.args.n) 0) read
    ∙ sym (term-initial g (date_in p.dates) c.args.a c.args.n (omega (arith, c.if-n-arc.true, tokens)))

pub returns-else-n-arc : goal.returns-else-n-arc
unfolding work
returns-else-n-arc c =
    let p = c.args.self.now in
    let a = c.args.a in
    let n = c.args.n in
    let g = graph_of p in
    let read = arc_read (goal.at.returns-else-n-arc c).After-arc-arc in
    let tokens = ap (λ (x : Arc). x.tokens) read in
    let from = (arc p.live.graph a).from in
    let job = n - (arc p.live.graph a).tokens in
    let worked = c.work-work.ensures.work ∙ ap (λ (x : Arc). cond x.worked (time g x.to n) 0) read in
    let late = c.delay.ensures.delay ∙ ap (λ (h : Parts). delay h a) (same_graph (goal.at.returns-else-n-arc c).After-arc-arc) ∙ sym (delay-edited p.live.graph p.inputs a) in
    ap (λ w. w + (c.date.result + c.delay.result)) worked
    ∙ ap (λ d. work g a n + (d + c.delay.result)) (date_read (goal.at.returns-else-n-arc c).After-date read)
    ∙ ap (λ d. work g a n + (date_at p from job + d)) late
    ∙ sym (term-later g (date_in p.dates) a n (omega (arith, c.if-n-arc.false, tokens)))
