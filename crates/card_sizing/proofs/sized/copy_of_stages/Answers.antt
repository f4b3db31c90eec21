use Rattle.std.proofs.Common.{◌≡◌, ℕ, List, [], ◌∷◌, ◌++◌, get_or, map, take, sym, ap, ◌∙◌, arith}
use Rattle.std.proofs.lemmas.List.{map_push, take_more, take_all}
use Rattle.std.proofs.lemmas.Result.{IfOk-from_err}
use Rattle.plant_model.specs.Stages.{Stage}
use Rattle.card_sizing.specs.Sized.{stage_with}
use Rattle.card_sizing.proofs.sized.copy_of_stages.Goals as goal

pub returns-in_err-copy : goal.returns-in_err-copy
returns-in_err-copy c =
    IfOk-from_err c.from_residual.result (λ copy. copy ≡ map (stage_with c.args.policy c.args.count) c.args.stages.now) c.from_residual.ensures.0

pub loop-stage-init : goal.loop-stage-init
loop-stage-init c = record {
  made = c.in_ok-copy.ensures.items;
  count = c.in_ok-copy.ensures.len;
  room = c.in_ok-copy.ensures.capacity;
}

pub returns-in_err-copy_of_stage : goal.returns-in_err-copy_of_stage
returns-in_err-copy_of_stage c =
    IfOk-from_err c.from_residual-in_err-copy_of_stage.result (λ copy. copy ≡ map (stage_with c.args.policy c.args.count) c.args.stages.now) c.from_residual-in_err-copy_of_stage.ensures.0

pub push_reserved-requires : goal.push_reserved-requires
push_reserved-requires c = omega (arith, c.loop-stage.invariant.count, c.loop-stage.invariant.room, c.loop-stage-test.true)

pub loop-stage-preserved : goal.loop-stage-preserved
loop-stage-preserved c =
    let f = stage_with c.args.policy c.args.count in
    let all = c.args.stages.now in
    let i = c.loop-stage.stage-index in
    let stage = c.stage-item.result in
    let before = c.loop-stage.invariant in
    let copied : c.in_ok-copy_of_stage.field-0 ≡ f (get_or all i stage) =
    c.in_ok-copy_of_stage.ensures ∙ ap (λ (n : ℕ). record stage { cards = n }) c.cards_under-cards.ensures ∙ ap f c.stage-item.is in
    record {
      made =
          c.push_reserved.ensures.items
          ∙ ap (λ (ss : List Stage). ss ++ c.in_ok-copy_of_stage.field-0 ∷ []) before.made
          ∙ ap (λ (s : Stage). map f (take i all) ++ s ∷ []) copied
          ∙ sym (map_push f (take i all) (get_or all i stage))
          ∙ ap (map f) (sym (take_more all i stage c.loop-stage-test.true));
      count = omega (arith, c.push_reserved.ensures.len, before.count);
      room = omega (arith, c.push_reserved.ensures.capacity, before.room);
    }

pub returns : goal.returns
returns c =
    let all = c.args.stages.now in
    c.from_vec.ensures
    ∙ c.loop-stage.invariant.made
    ∙ ap (λ (ss : List Stage). map (stage_with c.args.policy c.args.count) ss) (take_all c.loop-stage.stage-index all c.loop-stage-test.false)
