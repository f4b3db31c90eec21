-- The delays of each policy's rows, read off the stages themselves.
use Rattle.std.proofs.Common.{◌≡◌, ℕ, ◌-◌, List, [], ◌∷◌, ◌++◌, length, map, replicate, refl, sym, ap, ◌∙◌}
use Rattle.std.specs.List.{flat_map}
use Rattle.std.proofs.lemmas.List.{length-map, map-append}
use Rattle.std.proofs.lemmas.List.Folds.{flat_map-map}
use Rattle.std.proofs.lemmas.Simd.{map-map}
use Rattle.plant_model.specs.declared.plant.Policy.TheVariants.{Kanban, Conwip, BaseStock, Extended}
use Rattle.plant_model.specs.Stages.{Stage}
use Rattle.plant_model.specs.declared.plant.Plant.{Plant}
use Rattle.plant_model.specs.Line.{stage_at, stage_numbers, starting, first_stages}
use Rattle.plant_model.specs.Graph.{Row, card_row, demand_row, line_card_row, loop_row, policy_rows, loop_rows, delays_of}
use Rattle.line_graph.proofs.Sizes.{stages-numbered}
use Rattle.line_graph.proofs.PolicyRows.{policy_rows-kanban, policy_rows-base_stock, policy_rows-extended, policy_rows-conwip}

pub delays-kanban : (p : Plant) (times : List ℕ) → p.policy ≡ Kanban → times ≡ map (λ s. s.card_time) p.stages → times ≡ delays_of (policy_rows p)
delays-kanban p times is at =
    let numbered = ap (map (λ (s : Stage). s.card_time)) (stages-numbered p) ∙ map-map (λ s. s.card_time) (stage_at p) (stage_numbers p) in
    at ∙ numbered ∙ rw (policy_rows-kanban p is) (sym (map-map (λ r. r.delay) (card_row p 0) (stage_numbers p)))

-- rows with the same delay each
delays-alike : (row : ℕ → Row) (late : ℕ) (is : List ℕ) → ((i : ℕ) → (row i).delay ≡ late) → delays_of (map row is) ≡ replicate (length is) late
delays-alike row late [] each = refl
delays-alike row late (i ∷ is) each =
    ap (λ n. n ∷ delays_of (map row is)) (each i) ∙ ap (λ ns. late ∷ ns) (delays-alike row late is each)

-- as many delays as there are such rows
delays-same : (p : Plant) (times : List ℕ) (row : ℕ → Row) (late count : ℕ) (is : List ℕ) → policy_rows p ≡ map row is → ((i : ℕ) → (row i).delay ≡ late) → count ≡ length (policy_rows p) → times ≡ replicate count late → times ≡ delays_of (policy_rows p)
delays-same p times row late count is rows each all at =
    let n = all ∙ ap (λ rs. length rs) rows ∙ length-map is row in
    at ∙ ap (λ m. replicate m late) n ∙ sym (delays-alike row late is each) ∙ ap delays_of (sym rows)

pub delays-conwip : (p : Plant) (times : List ℕ) (cards count : ℕ) → p.policy ≡ Conwip cards → count ≡ length (policy_rows p) → times ≡ replicate count p.card_time → times ≡ delays_of (policy_rows p)
delays-conwip p times cards count is all at =
    delays-same p times (line_card_row p) p.card_time count (first_stages p) (policy_rows-conwip p cards is) (λ i. refl) all at

pub delays-base_stock : (p : Plant) (times : List ℕ) (count : ℕ) → p.policy ≡ BaseStock → count ≡ length (policy_rows p) → times ≡ replicate count 0 → times ≡ delays_of (policy_rows p)
delays-base_stock p times count is all at =
    delays-same p times (demand_row p) 0 count (stage_numbers p) (policy_rows-base_stock p is) (λ i. refl) all at

-- what is read off lists one after the other
map-flat_map : {X Y Z : Type 0} (part : Y → Z) (f : X → List Y) (xs : List X) → map part (flat_map f xs) ≡ flat_map (λ x. map part (f x)) xs
map-flat_map part f [] = refl
map-flat_map part f (x ∷ xs) = map-append part (f x) (flat_map f xs) ∙ ap (λ ys. map part (f x) ++ ys) (map-flat_map part f xs)

pub delays-extended : (p : Plant) (times : List ℕ) → p.policy ≡ Extended → times ≡ flat_map (λ s. 0 ∷ s.card_time ∷ []) p.stages → times ≡ delays_of (policy_rows p)
delays-extended p times is at =
    let both = λ (i : ℕ). demand_row p i ∷ card_row p ((stage_at p i).cards - starting p i) i ∷ [] in
    let numbered = ap (flat_map (λ (s : Stage). 0 ∷ s.card_time ∷ [])) (stages-numbered p) ∙ flat_map-map (λ s. 0 ∷ s.card_time ∷ []) (stage_at p) (stage_numbers p) in
    at ∙ numbered ∙ rw (policy_rows-extended p is) (sym (map-flat_map (λ r. r.delay) both (stage_numbers p)))

pub delays-loops : (p : Plant) (times : List ℕ) → times ≡ map (λ l. l.card_time) p.loops → times ≡ delays_of (loop_rows p)
delays-loops p times at = at ∙ sym (map-map (λ r. r.delay) (loop_row p) p.loops)
