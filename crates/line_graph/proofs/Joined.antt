-- What is read off rows in the order in which they are added: machine by machine, then stages, feed, policy and loops.
use Rattle.std.proofs.Common.{◌≡◌, ℕ, ◌+◌, List, [], ◌∷◌, ◌++◌, map, refl, sym, ap, ◌∙◌}
use Rattle.std.specs.List.{flat_map, range_with_len}
use Rattle.std.proofs.lemmas.List.{append_assoc, map-append}
use Rattle.plant_model.specs.declared.plant.Plant.{Plant}
use Rattle.plant_model.specs.Line.{stage_numbers}
use Rattle.plant_model.specs.Graph.{Row, machine_rows, stage_rows, feed_row, policy_rows, loop_rows, rows}
use Rattle.plant_model.proofs.RowLists.{rows_more}

module _ {X : Type 0} (part : Row → X) (p : Plant) where
  -- one machine more
  pub machine_more : (i place : ℕ) (front parts : List X) (first : X) (more : List X) → parts ≡ front ++ (first ∷ map part (flat_map (machine_rows p i) (range_with_len 0 place))) → more ≡ map part (machine_rows p i place) → parts ++ more ≡ front ++ (first ∷ map part (flat_map (machine_rows p i) (range_with_len 0 (place + 1))))
  machine_more i place front parts first more is at =
      let before = map part (flat_map (machine_rows p i) (range_with_len 0 place)) in
      let all = rows_more part (machine_rows p i) before more place refl at in
      ap (λ xs. xs ++ more) is ∙ append_assoc front (first ∷ before) more ∙ ap (λ xs. front ++ (first ∷ xs)) all

  -- all stages, the feed, the policy, the loops
  pub rows-joined : (stages policy loops : List X) (feed : X) → stages ≡ map part (flat_map (stage_rows p) (stage_numbers p)) ++ feed ∷ [] → feed ≡ part (feed_row p) → policy ≡ map part (policy_rows p) → loops ≡ map part (loop_rows p) → stages ++ policy ++ loops ≡ map part (rows p)
  unfolding rows
  rows-joined stages policy loops feed is at_feed at_policy at_loops =
      let every = flat_map (stage_rows p) (stage_numbers p) in
      let rest = ap (λ xs. part (feed_row p) ∷ xs) (map-append part (policy_rows p) (loop_rows p)) in
      let whole = map-append part every (feed_row p ∷ (policy_rows p ++ loop_rows p)) ∙ ap (λ xs. map part every ++ xs) rest in
      let left = append_assoc (map part every ++ feed ∷ []) policy loops ∙ append_assoc (map part every) (feed ∷ []) (policy ++ loops) in
      ap (λ xs. xs ++ policy ++ loops) is ∙ left ∙ rw (at_feed, at_policy, at_loops) (sym whole)
