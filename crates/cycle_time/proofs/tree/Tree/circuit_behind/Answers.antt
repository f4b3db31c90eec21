use Rattle.std.proofs.Common.{◌≡◌, ◌≤◌, ◌<◌, sym, ap, ◌∙◌, subst, arith, get_or, length, replicate, reverse, drop, vec_len}
use Rattle.std.proofs.lemmas.List.{length_push}
use Rattle.event_graph.specs.Network.{arc_count, stations}
use Rattle.cycle_time.specs.Search.{IsHeavy}
use Rattle.cycle_time.proofs.Trails.{trail_starts, trail_room, trail_reaches, trail_heavy, trail_more_read, step_read, step_below, left_before, entry_read}
use Rattle.cycle_time.proofs.tree.Tree.circuit_behind.Goals as goal
use Rattle.cycle_time.proofs.tree.Tree.circuit_behind.Goals.{After-len}

pub returns-then-entry-arcs : goal.returns-then-entry-arcs
returns-then-entry-arcs c = λ w grown.
    (let g = c.args.graph.now in
    let p = c.args.self.now in
    let trail = c.loop-arcs.invariant.trail in
    let all = c.stations-stations.ensures in
    let arcs = ap (λ xs. length xs) c.arcs-arcs.ensures.arcs in
    let fresh = sym (step_read g p c.loop-arcs.path.items c.loop-arcs.left.items c.args.t c.loop-arcs.at c.index.result.now trail c.index.ensures) ∙ (c.loop-arcs-test.true ∙ all.count) in
    let entry = entry_read g p c.loop-arcs.at c.index-entry.result.now c.self.inside.entries.items c.requires.entry_for_each trail.here (ap (λ (q : _). q.entries) c.self.view_is) c.index-entry.ensures in
    let free : arc_count g ≤ get_or p.entries c.loop-arcs.at 0 = omega (arith, arcs, entry, c.if-entry-arcs.true) in
    trail_reaches g w p c.loop-arcs.path.items c.loop-arcs.left.items c.args.t c.loop-arcs.at all.graph grown trail fresh free)

pub loop-arcs-preserved : goal.loop-arcs-preserved
loop-arcs-preserved c =
    let g = c.args.graph.now in
    let p = c.args.self.now in
    let all = c.stations-stations.ensures in
    let trail = c.loop-arcs.invariant.trail in
    let arcs = ap (λ xs. length xs) c.arcs-arcs.ensures.arcs in
    let steps : vec_len c.loop-arcs.path ≡ length c.loop-arcs.path.items = omega arith in
    let fresh = sym (step_read g p c.loop-arcs.path.items c.loop-arcs.left.items c.args.t c.loop-arcs.at c.index.result.now trail c.index.ensures) ∙ (c.loop-arcs-test.true ∙ all.count) in
    let entry = entry_read g p c.loop-arcs.at c.index-entry.result.now c.self.inside.entries.items c.requires.entry_for_each trail.here (ap (λ (q : _). q.entries) c.self.view_is) c.index-entry.ensures in
    let exists : c.index-entry.result.now < arc_count g = omega (arith, arcs, c.if-entry-arcs.false) in
    record {
      trail =
          rw (c.push_reserved.ensures.items, c.arcs-arcs.ensures.arcs)
          (trail_more_read g p c.loop-arcs.path.items c.loop-arcs.left.items c.args.t c.loop-arcs.at c.index-entry.result.now c.len.result all.graph trail fresh exists entry c.requires.enter (c.len.ensures ∙ steps));
      room = omega (arith, c.loop-arcs.invariant.room, c.push_reserved.ensures.capacity);
    }

pub returns : goal.returns
returns c = λ w grown.
    (let g = c.args.graph.now in
    let p = c.args.self.now in
    let all = c.stations-stations.ensures in
    let trail = c.loop-arcs.invariant.trail in
    let path = c.loop-arcs.path.items in
    let left = c.loop-arcs.left.items in
    let at = c.loop-arcs.at in
    let seen = left_before g p path left c.args.t at c.index.result.now c.stations-stations.result trail c.index.ensures c.loop-arcs-test.false all.count in
    let second = step_read g p path left c.args.t at c.index-2.result.now trail c.index-2.ensures in
    let heavy = trail_heavy g w p path left c.args.t at grown trail seen in
    let is = c.in_ok-circuit.ensures ∙ (ap (λ xs. reverse (drop c.index-2.result.now xs)) c.deref.ensures.value ∙ ap (λ k. reverse (drop k path)) second) in
    subst (IsHeavy g w) (sym is) heavy)

pub loop-arcs-init : goal.loop-arcs-init
loop-arcs-init c =
    let g = c.args.graph.now in
    let T = stations g in
    let all = c.stations-stations.ensures in
    let left : c.in_ok-left.left.items ≡ replicate T T = c.in_ok-left.ensures.items_if_clones_equal (λ y same. same) ∙ ap (λ n. replicate n n) all.count in
    record {
      trail = rw c.in_ok-path.ensures.items (trail_starts g c.args.self.now c.args.t c.in_ok-left.left.items left c.requires.station);
      room = omega (arith, all.count, c.in_ok-path.ensures.capacity);
    }

pub index-requires : goal.index-requires
index-requires c = omega (arith, c.loop-arcs.invariant.trail.here, c.loop-arcs.invariant.trail.steps.left_for_each)

pub index-entry-requires : goal.index-entry-requires
index-entry-requires c =
    let entries = ap (λ (q : _). length q.entries) c.self.view_is in
    omega (arith, c.loop-arcs.invariant.trail.here, c.requires.entry_for_each, entries)

-- a station that is not left yet leaves room for an arc more
room : (c : goal.After-len) → length c.loop-arcs.path.items < stations c.args.graph.now
room c =
    let g = c.args.graph.now in
    let p = c.args.self.now in
    let trail = c.loop-arcs.invariant.trail in
    let fresh = sym (step_read g p c.loop-arcs.path.items c.loop-arcs.left.items c.args.t c.loop-arcs.at c.index.result.now trail c.index.ensures) ∙ (c.loop-arcs-test.true ∙ c.stations-stations.ensures.count) in
    trail_room g p c.loop-arcs.path.items c.loop-arcs.left.items c.args.t c.loop-arcs.at trail fresh

pub overflow_cast-len : goal.overflow_cast-len
overflow_cast-len c = omega (arith, room c, c.len.ensures, c.stations-stations.ensures.limits.few_stations)

pub index-requires-2 : goal.index-requires-2
index-requires-2 c = omega (arith, c.loop-arcs.invariant.trail.here, c.loop-arcs.invariant.trail.steps.left_for_each)

pub turned_rest-requires : goal.turned_rest-requires
turned_rest-requires c =
    let g = c.args.graph.now in
    let p = c.args.self.now in
    let at = c.loop-arcs in
    let trail = at.invariant.trail in
    let seen = left_before g p at.path.items at.left.items c.args.t at.at c.index.result.now c.stations-stations.result trail c.index.ensures c.loop-arcs-test.false c.stations-stations.ensures.count in
    omega (arith, step_below g p at.path.items at.left.items c.args.t at.at c.index-2.result.now trail seen c.index-2.ensures, ap (λ xs. length xs) c.deref.ensures.value)

pub loop-arcs-smaller : goal.loop-arcs-smaller
loop-arcs-smaller c =
    omega (arith, room (goal.at.loop-arcs-smaller c).After-len, ap (λ xs. length xs) c.push_reserved.ensures.items, length_push c.loop-arcs.path.items c.index-entry.result.now)

pub push_reserved-requires : goal.push_reserved-requires
push_reserved-requires c = omega (arith, room (goal.at.push_reserved-requires c).After-len, c.loop-arcs.invariant.room)

pub index_mut-requires : goal.index_mut-requires
index_mut-requires c = omega (arith, c.loop-arcs.invariant.trail.here, c.loop-arcs.invariant.trail.steps.left_for_each)

pub bounds-arcs-entry : goal.bounds-arcs-entry
bounds-arcs-entry c = c.if-entry-arcs.false
