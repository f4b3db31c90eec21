use Rattle.std.proofs.Common.{◌≡◌, ◌∷◌, [], ◌++◌, length, map, refl, ap, ◌∙◌, arith}
use Rattle.std.specs.List.{flat_map}
use Rattle.std.proofs.lemmas.List.{length-map}
use Rattle.std.proofs.lemmas.Result.{err_from_is_err_and}
use Rattle.plant_model.specs.declared.plant.CardLoop.{CardLoop}
use Rattle.plant_model.specs.declared.plant.Plant.{Plant}
use Rattle.plant_model.specs.Line.{stage_numbers}
use Rattle.plant_model.specs.Graph.{arcs_of, delays_of, stage_rows, feed_row, policy_rows}
use Rattle.line_graph.proofs.Joined.{rows-joined}
use Rattle.line_graph.proofs.PolicyDelays.{delays-loops}
use Rattle.line_graph.proofs.rows.line_rows.Goals as goal

pub policy_delays-requires : goal.policy_delays-requires
policy_delays-requires c =
    omega (arith, c.in_ok-arcs.arcs.ok.0, ap (λ arcs. length arcs) c.in_ok-arcs.ensures, length-map (policy_rows c.args.plant.now) (λ r. r.arc))

pub returns-clause-arcs : goal.returns-clause-arcs
returns-clause-arcs c =
    let p = c.args.plant.now in
    let stages = c.in_ok-all.ensures.arcs ∙ ap (λ (q : Plant). arcs_of (flat_map (stage_rows q) (stage_numbers q)) ++ (feed_row q).arc ∷ []) c.in_ok-layout.ensures in
    let policy = c.as_slice.ensures.value ∙ c.in_ok-arcs.ensures in
    let loops = c.as_slice-4.ensures.value ∙ c.in_ok-loop_arcs.ensures in
    let first : c.append.new.self.arcs.items ≡ c.in_ok-all.all.arcs.items ++ c.as_slice.result.now = c.in_ok-append.ensures.arcs in
    let second : c.append-2.new.self.arcs.items ≡ c.append.new.self.arcs.items ++ c.as_slice-4.result.now = c.in_ok-append-2.ensures.arcs in
    second ∙ ap (λ arcs. arcs ++ c.as_slice-4.result.now) first ∙ rows-joined (λ r. r.arc) p c.in_ok-all.all.arcs.items c.as_slice.result.now c.as_slice-4.result.now _ stages refl policy loops

pub returns-clause-delays : goal.returns-clause-delays
returns-clause-delays c =
    let p = c.args.plant.now in
    let stages = c.in_ok-all.ensures.delays ∙ ap (λ (q : Plant). delays_of (flat_map (stage_rows q) (stage_numbers q)) ++ 0 ∷ []) c.in_ok-layout.ensures in
    let policy = c.as_slice-2.ensures.value ∙ c.in_ok-delays.ensures in
    let times = c.in_ok-loop_times.ensures ∙ ap (map (λ (l : CardLoop). l.card_time)) c.as_slice-3.ensures in
    let loops = delays-loops p c.as_slice-5.result.now (c.as_slice-5.ensures.value ∙ times) in
    let first : c.append.new.self.delays.items ≡ c.in_ok-all.all.delays.items ++ c.as_slice-2.result.now = c.in_ok-append.ensures.delays in
    let second : c.append-2.new.self.delays.items ≡ c.append.new.self.delays.items ++ c.as_slice-5.result.now = c.in_ok-append-2.ensures.delays in
    second ∙ ap (λ delays. delays ++ c.as_slice-5.result.now) first ∙ rows-joined (λ r. r.delay) p c.in_ok-all.all.delays.items c.as_slice-2.result.now c.as_slice-5.result.now _ stages refl policy loops

pub returns-in_err-layout : goal.returns-in_err-layout
returns-in_err-layout c =
    let p = err_from_is_err_and c.from_residual.result c.from_residual.ensures.1 in
    record { arcs = rw p.1 tt; delays = rw p.1 tt }

pub returns-in_err-all : goal.returns-in_err-all
returns-in_err-all c =
    let p = err_from_is_err_and c.from_residual-in_err-all.result c.from_residual-in_err-all.ensures.1 in
    record { arcs = rw p.1 tt; delays = rw p.1 tt }

pub returns-in_err-arcs : goal.returns-in_err-arcs
returns-in_err-arcs c =
    let p = err_from_is_err_and c.from_residual-in_err-arcs.result c.from_residual-in_err-arcs.ensures.1 in
    record { arcs = rw p.1 tt; delays = rw p.1 tt }

pub returns-in_err-delays : goal.returns-in_err-delays
returns-in_err-delays c =
    let p = err_from_is_err_and c.from_residual-in_err-delays.result c.from_residual-in_err-delays.ensures.1 in
    record { arcs = rw p.1 tt; delays = rw p.1 tt }

pub returns-in_err-append : goal.returns-in_err-append
returns-in_err-append c =
    let p = err_from_is_err_and c.from_residual-in_err-append.result c.from_residual-in_err-append.ensures.1 in
    record { arcs = rw p.1 tt; delays = rw p.1 tt }

pub returns-in_err-loop_arcs : goal.returns-in_err-loop_arcs
returns-in_err-loop_arcs c =
    let p = err_from_is_err_and c.from_residual-in_err-loop_arcs.result c.from_residual-in_err-loop_arcs.ensures.1 in
    record { arcs = rw p.1 tt; delays = rw p.1 tt }

pub returns-in_err-loop_times : goal.returns-in_err-loop_times
returns-in_err-loop_times c =
    let p = err_from_is_err_and c.from_residual-in_err-loop_times.result c.from_residual-in_err-loop_times.ensures.1 in
    record { arcs = rw p.1 tt; delays = rw p.1 tt }

pub returns-in_err-append-2 : goal.returns-in_err-append-2
returns-in_err-append-2 c =
    let p = err_from_is_err_and c.from_residual-in_err-append-2.result c.from_residual-in_err-append-2.ensures.1 in
    record { arcs = rw p.1 tt; delays = rw p.1 tt }
