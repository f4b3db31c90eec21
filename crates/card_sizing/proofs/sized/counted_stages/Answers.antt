use Rattle.std.proofs.Common.{◌≡◌, List, [], ◌∷◌, ◌++◌, length, get_or, map, sym, ap, ◌∙◌, arith}
use Rattle.std.specs.List.{range_with_len}
use Rattle.std.proofs.lemmas.List.{get_or_default}
use Rattle.std.proofs.lemmas.List.FromFn.{length-map-range_with_len, map-range_with_len_more}
use Rattle.plant_model.specs.Stages.{Stage}
use Rattle.plant_model.specs.Line.{no_stage}
use Rattle.card_sizing.specs.Counted.{stage_counted}
use Rattle.card_sizing.proofs.sized.counted_stages.Goals as goal

pub push_reserved-requires : goal.push_reserved-requires
push_reserved-requires c =
    let f = stage_counted c.args.plant.now c.args.counts.now in
    omega (arith, ap (λ (ss : List Stage). length ss) c.loop-i.invariant.made, length-map-range_with_len f 0 c.loop-i.i, c.loop-i.invariant.room, c.loop-i-test.true)

pub loop-i-preserved : goal.loop-i-preserved
loop-i-preserved c =
    let p = c.args.plant.now in
    let f = stage_counted p c.args.counts.now in
    let i = c.loop-i.i in
    let read = c.index-stages-i.is ∙ get_or_default c.as_slice-stages.result.now i c.index-stages-i.result no_stage c.loop-i-test.true ∙ ap (λ (ss : List Stage). get_or ss i no_stage) c.as_slice-stages.ensures in
    let stage : c.in_ok-copy_of_stage.field-0 ≡ f i = c.in_ok-copy_of_stage.ensures ∙ ap (λ (s : Stage). record s { cards = get_or c.args.counts.now i 0 }) read in
    record {
      made =
          c.push_reserved.ensures.items
          ∙ ap (λ (ss : List Stage). ss ++ c.in_ok-copy_of_stage.field-0 ∷ []) c.loop-i.invariant.made
          ∙ ap (λ (s : Stage). map f (range_with_len 0 i) ++ s ∷ []) stage
          ∙ sym (map-range_with_len_more f 0 i i (omega arith));
      room = omega (arith, c.loop-i.invariant.room, c.push_reserved.ensures.capacity);
    }
