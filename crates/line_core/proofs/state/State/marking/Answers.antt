use Rattle.std.proofs.Common.{◌≡◌, ◌<◌, ◌++◌, ◌∷◌, ℕ, List, [], sym, ap, ◌∙◌, subst, arith, length, map}
use Rattle.std.specs.List.{range_with_len}
use Rattle.std.proofs.lemmas.List.FromFn.{map-range_with_len_more}
use Rattle.line_base.specs.declared.event.Arc.{Arc}
use Rattle.line_base.specs.declared.event.Parts.{Parts}
use Rattle.event_graph.specs.Network.{arc_count}
use Rattle.event_graph.specs.State.{place}
use Rattle.line_core.specs.ArcTokens.{FillsCircuits}
use Rattle.line_core.specs.Run.{Run, IsReached}
use Rattle.line_core.proofs.Runs.{state_in, few_tokens, lengths, fills_circuits}
use Rattle.line_core.proofs.state.State.marking.Goals as goal

pub overflow_cast-tokens_on : goal.overflow_cast-tokens_on
overflow_cast-tokens_on c =
    let g = c.self.inside.graph.value in
    let logs = c.self.inside.logs in
    let at = c.graph-graph.ensures.graph ∙ c.requires.made_for ∙ sym (ap (λ (r : Run). r.graph) c.self.view_is) in
    let there : c.loop-a.a < arc_count g = omega (arith, ap arc_count at, c.loop-a-test.true, ap (λ (l : List Arc). length l) c.arcs.ensures.arcs) in
    omega (arith, c.tokens_on.ensures, ap (λ (h : Parts). length (place (state_in h logs) c.loop-a.a)) at, few_tokens g logs c.self.invariant c.loop-a.a there)

pub push_reserved-requires : goal.push_reserved-requires
push_reserved-requires c = omega (arith, c.loop-a.invariant.count, c.loop-a.invariant.room, c.loop-a-test.true)

pub loop-a-preserved : goal.loop-a-preserved
loop-a-preserved c =
    let counted = λ (a : ℕ). length (place (state_in c.graph-graph.result.now c.self.inside.logs) a) in
    let a = c.loop-a.a in
    record {
      counted =
          c.push_reserved.ensures.items
          ∙ ap (λ l. l ++ c.tokens_on.result ∷ []) c.loop-a.invariant.counted
          ∙ ap (λ n. map counted (range_with_len 0 a) ++ n ∷ []) c.tokens_on.ensures
          ∙ sym (map-range_with_len_more counted 0 a a (omega arith));
      count = omega (arith, c.push_reserved.ensures.len, c.loop-a.invariant.count);
      room = omega (arith, c.push_reserved.ensures.capacity, c.loop-a.invariant.room);
    }

pub returns-clause-lengths : goal.returns-clause-lengths
returns-clause-lengths c =
    let g = c.self.inside.graph.value in
    let logs = c.self.inside.logs in
    let counted = λ (h : Parts) (a : ℕ). length (place (state_in h logs) a) in
    let at = c.graph-graph.ensures.graph ∙ c.requires.made_for ∙ sym (ap (λ (r : Run). r.graph) c.self.view_is) in
    let all : c.loop-a.a ≡ arc_count g = omega (arith, c.loop-a-test.false, c.loop-a.auto.a-end, ap (λ (l : List Arc). length l) c.arcs.ensures.arcs, ap arc_count at) in
    c.from_vec.ensures
    ∙ c.loop-a.invariant.counted
    ∙ ap (λ n. map (counted c.graph-graph.result.now) (range_with_len 0 n)) all
    ∙ ap (λ (h : Parts). map (counted h) (range_with_len 0 (arc_count g))) at
    ∙ lengths g logs c.self.invariant
    ∙ ap (λ (r : Run). map length r.state.places) c.self.view_is

pub returns-clause-circuits : goal.returns-clause-circuits
returns-clause-circuits c =
    subst (FillsCircuits c.args.self.now.graph) (sym (returns-clause-lengths c)) (
    subst (λ (r : Run). FillsCircuits r.graph (map length r.state.places)) c.self.view_is (fills_circuits _ c.self.invariant.run))

pub returns-clause-reached : goal.returns-clause-reached
returns-clause-reached c = subst IsReached c.self.view_is c.self.invariant.run
