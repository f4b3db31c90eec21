use Rattle.std.proofs.Common.{◌∷◌, [], ◌∙◌, map, ap}
use Rattle.std.specs.List.{flat_map}
use Rattle.std.proofs.lemmas.Result.{IfOk-weaker}
use Rattle.plant_model.specs.Stages.{Stage}
use Rattle.line_graph.proofs.PolicyDelays.{delays-kanban, delays-conwip, delays-base_stock, delays-extended}
use Rattle.line_graph.proofs.delays.policy_delays.Goals as goal

pub returns-in-Kanban : goal.returns-in-Kanban
returns-in-Kanban c =
    IfOk-weaker c.card_times.result _ _ (λ times h. delays-kanban c.args.plant.now times.items c.in-Kanban.is (h ∙ ap (map (λ (s : Stage). s.card_time)) c.as_slice.ensures)) c.card_times.ensures

pub returns-in-Conwip : goal.returns-in-Conwip
returns-in-Conwip c =
    IfOk-weaker c.repeat_delay.result _ _ (λ times h. delays-conwip c.args.plant.now times.items c.in-Conwip.field-0 c.args.arcs c.in-Conwip.is c.requires h) c.repeat_delay.ensures

pub returns-in-BaseStock : goal.returns-in-BaseStock
returns-in-BaseStock c =
    IfOk-weaker c.repeat_delay-in-BaseStock.result _ _ (λ times h. delays-base_stock c.args.plant.now times.items c.args.arcs c.in-BaseStock.is c.requires h) c.repeat_delay-in-BaseStock.ensures

pub returns-in-Extended : goal.returns-in-Extended
returns-in-Extended c =
    IfOk-weaker c.demand_and_card_times.result _ _ (λ times h. delays-extended c.args.plant.now times.items c.in-Extended.is (h ∙ ap (flat_map (λ (s : Stage). 0 ∷ s.card_time ∷ [])) c.as_slice-in-Extended.ensures)) c.demand_and_card_times.ensures
