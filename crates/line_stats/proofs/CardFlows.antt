-- Where a stage has a bound, cards hold its release back: it has released no more parts than its receiver has taken,
-- and the bound beyond the stage's starting stock.
use Rattle.std.proofs.Common.{◌≡◌, ℕ, zero, suc, ◌+◌, ◌-◌, ◌<◌, ◌≤◌, Bool, true, false, eqb, length, Option, None, Some, refl, sym, ap, ◌∙◌, subst, arith}
use Rattle.std.specs.Prelude.{IfSome}
use Rattle.std.specs.Option.{option_map_or}
use Rattle.std.specs.List.{Contains, list_any}
use Rattle.std.proofs.lemmas.Bool.{eqb-true, not-false}
use Rattle.std.proofs.lemmas.List.{get_or_default}
use Rattle.std.proofs.lemmas.List.Folds.{Any-from_list_any}
use Rattle.plant_model.specs.declared.plant.Policy.{Policy}
use Rattle.plant_model.specs.declared.plant.Policy.TheVariants.{Kanban, Conwip, BaseStock, Extended}
use Rattle.plant_model.specs.Stages.{Stage}
use Rattle.plant_model.specs.declared.plant.Plant.{Plant}
use Rattle.plant_model.specs.Line.{no_stage, stage_at, release, deliver, next, receiver, stock_under, starting, line_cards, feeds, is_first, path_stock}
use Rattle.plant_model.specs.Graph.{card_row, line_card_row, rows, graph}
use Rattle.plant_model.specs.Sound.{IsSound}
use Rattle.plant_model.proofs.Soundness.{FeedsLater, IsSound-FeedsLater}
use Rattle.plant_model.proofs.SoundPlants.{path_stock-has_cards, starting-has_cards}
use Rattle.plant_model.proofs.Paths.{path_stock-step}
use Rattle.event_graph.specs.Table.{Table}
use Rattle.event_graph.specs.Solves.{Solves}
use Rattle.line_base.proofs.RangeLists.{Contains-map-filter}
use Rattle.line_graph.proofs.PolicyRows.{policy_rows-conwip}
use Rattle.line_graph.proofs.Inputs.{in_policy, feeds-next}
use Rattle.line_graph.proofs.SharedRows.{in_kanban, in_extended_card}
use Rattle.plant_model.specs.Bound.{bound}
use Rattle.line_stats.specs.Counts.{jobs_done}
use Rattle.line_stats.proofs.Flows.{row-flow_soon, process-flow, move-flow, stock-flow}

-- a stage that isn't first is fed by one
fed-by : (p : Plant) (i : ℕ) → is_first p i ≡ false → (k : ℕ) × (k < length p.stages) × (next p k ≡ Some i)
fed-by p i h =
    let some = Any-from_list_any (feeds i) p.stages (not-false (list_any (feeds i) p.stages) h) in
    let k = some.0 in
    let here = get_or_default p.stages k no_stage some.1 some.2 ∙ some.3 in
    (k, some.2, ap (λ (s : Stage). s.feeds) here ∙ feeds-next i some.1 some.4)

in_line_card : (p : Plant) (cards i : ℕ) → p.policy ≡ Conwip cards → i < length p.stages → is_first p i ≡ true → Contains (rows p) (line_card_row p i)
in_line_card p cards i is below first =
    in_policy p (line_card_row p i) (rw (policy_rows-conwip p cards is) (Contains-map-filter (line_card_row p) (is_first p) (length p.stages) i below first))

tree : (p : Plant) → IsSound p → FeedsLater p
tree p sound = IsSound-FeedsLater sound

module _ (p : Plant) (x : Table) (v : ℕ) (sound : IsSound p) (solves : Solves (graph p) x) where
  by_now : ℕ → ℕ
  by_now t = jobs_done (graph p) x t v

  -- what takes a stage's parts has taken no more than the starting stock and the parts that were released
  through : (i : ℕ) → i < length p.stages → jobs_done (graph p) x (receiver p i) v ≤ starting p i + jobs_done (graph p) x (release p i) v
  through i below =
      omega (arith, process-flow p x i v sound solves below, move-flow p x i v, stock-flow p x i v sound solves below)

  -- no more parts were delivered than were taken from a stage and stood behind it at the start
  abbrev IsBehind : ℕ → Type 0
  IsBehind i = jobs_done (graph p) x (deliver p) v + starting p i ≤ jobs_done (graph p) x (receiver p i) v + path_stock p i

  behind-step : (i : ℕ) → i < length p.stages → ((j : ℕ) → i < j → j < length p.stages → IsBehind j) → IsBehind i
  behind-step i below rest_behind = by_next (next p i) refl
    where
      by_next : (o : Option ℕ) → next p i ≡ o → IsBehind i
      by_next None is =
          let stock = path_stock-step p (tree p sound) i below ∙ ap (λ o. starting p i + option_map_or (path_stock p) o 0) is in
          let end = ap (λ o. jobs_done (graph p) x (option_map_or (release p) o (deliver p)) v) is in
          omega arith
      by_next (Some j) is =
          let stock = path_stock-step p (tree p sound) i below ∙ ap (λ o. starting p i + option_map_or (path_stock p) o 0) is in
          let end = ap (λ o. jobs_done (graph p) x (option_map_or (release p) o (deliver p)) v) is in
          let later : i < j = (tree p sound).later i j below is in
          let inside = (tree p sound).exists i j below is in
          let rest = rest_behind j later inside in
          let step = through j inside in
          omega arith

  behind : (room i : ℕ) → length p.stages ≤ room + i → i < length p.stages → IsBehind i
  behind zero i enough below = absurd (omega arith)
  behind (suc room) i enough below = behind-step i below (λ j later inside. behind room j (omega arith) inside)

  -- a first stage on whose path stage i is: the stage has released no more parts than that one, and than stood between
  -- them at the start
  pub record HasFirst (i : ℕ) : Type 0 where
    pub stage : ℕ
    pub exists : stage < length p.stages
    pub first : is_first p stage ≡ true
    pub before : jobs_done (graph p) x (release p i) v + path_stock p i ≤ jobs_done (graph p) x (release p stage) v + path_stock p stage

  first-step : (i : ℕ) → i < length p.stages → ((k : ℕ) → k < i → k < length p.stages → HasFirst k) → HasFirst i
  first-step i below find = by_first (is_first p i) refl
    where
      by_first : (t : Bool) → is_first p i ≡ t → HasFirst i
      by_first true is = record { stage = i; exists = below; first = is; before = omega arith }
      by_first false is =
          let fed = fed-by p i is in
          let k = fed.0 in
          let later : k < i = (tree p sound).later k i fed.1 fed.2 in
          let found = find k later fed.1 in
          let stock = path_stock-step p (tree p sound) k fed.1 ∙ ap (λ o. starting p k + option_map_or (path_stock p) o 0) fed.2 in
          let end = ap (λ o. jobs_done (graph p) x (option_map_or (release p) o (deliver p)) v) fed.2 in
          let step = through k fed.1 in
          let rest = found.before in
          record { stage = found.stage; exists = found.exists; first = found.first; before = omega arith }

  find_first : (room i : ℕ) → i < room → i < length p.stages → HasFirst i
  find_first zero i enough below = absurd (omega arith)
  find_first (suc room) i enough below = first-step i below (λ k before inside. find_first room k (omega arith) inside)

  -- the parts that a stage has released and its receiver has not taken, with its starting stock, are no more than its
  -- bound
  abbrev IsHeldBack : ℕ → ℕ → Type 0
  IsHeldBack i number = starting p i + jobs_done (graph p) x (release p i) v ≤ number + jobs_done (graph p) x (receiver p i) v

  stage-held : (i free : ℕ) → Contains (rows p) (card_row p free i) → IsHeldBack i (starting p i + free)
  stage-held i free row = omega (arith, row-flow_soon p x (card_row p free i) v solves row)

  line-held : (i cards : ℕ) → p.policy ≡ Conwip cards → i < length p.stages → IsHeldBack i cards
  line-held i cards is below =
      let found = find_first (i + 1) i (omega arith) below in
      let f = found.stage in
      let row = in_line_card p cards f is found.exists found.first in
      let card = row-flow_soon p x (line_card_row p f) v solves row in
      let count = ap line_cards is in
      let enough = path_stock-has_cards p f cards sound is found.exists found.first in
      let front = found.before in
      let back = behind (length p.stages) i (omega arith) below in
      omega arith

  kanban-starting : (i : ℕ) → p.policy ≡ Kanban → starting p i ≡ (stage_at p i).cards
  kanban-starting i is = ap (λ policy. stock_under policy (stage_at p i)) is

  -- the plant with this policy in its place
  abbrev with_policy : Policy → Plant
  with_policy policy = record p { policy = policy }

  -- a stage is held back by the bound that it has under a policy
  abbrev Holds : ℕ → Policy → Type 0
  Holds i policy = IfSome (bound (with_policy policy) i) (λ number. IsHeldBack i number)

  -- a stage is held back by its bound
  pub held-back : (i : ℕ) → i < length p.stages → IfSome (bound p i) (λ number. IsHeldBack i number)
  held-back i below = by_policy p.policy refl
    where
      by_policy : (policy : Policy) → p.policy ≡ policy → Holds i p.policy
      by_policy Kanban is =
          let held = stage-held i 0 (in_kanban p i is below) in
          let cards = kanban-starting i is in
          let holds : Holds i Kanban = omega arith in
          subst (Holds i) (sym is) holds
      by_policy (Conwip cards) is = subst (Holds i) (sym is) (line-held i cards is below)
      by_policy BaseStock is = subst (Holds i) (sym is) tt
      by_policy Extended is =
          let held = stage-held i ((stage_at p i).cards - starting p i) (in_extended_card p i is below) in
          let enough = starting-has_cards p i sound is below in
          let holds : Holds i Extended = omega arith in
          subst (Holds i) (sym is) holds
