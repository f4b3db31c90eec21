-- A plant under extended kanban is live where each stage has a free card and each machine a server: every arc without a
-- token then leads to a later station.
use Rattle.std.proofs.Common.{◌≡◌, ℕ, zero, suc, ◌+◌, ◌-◌, ◌*◌, ◌<◌, ◌≤◌, eqb, [], length, get_or, refl, sym, ap, subst, arith}
use Rattle.std.specs.List.{range_with_len, All}
use Rattle.std.proofs.lemmas.Bool.{cond_both}
use Rattle.std.proofs.lemmas.List.Elements.{All-get_or}
use Rattle.std.proofs.lemmas.List.FromFn.{length-range_with_len, get_or-range_with_len, get_or-map-range_with_len}
use Rattle.line_base.specs.declared.event.Arc.{Arc}
use Rattle.plant_model.specs.declared.plant.Policy.{Policy}
use Rattle.plant_model.specs.declared.plant.Policy.TheVariants.{Extended}
use Rattle.plant_model.specs.Stages.{Stage}
use Rattle.plant_model.specs.declared.plant.Plant.{Plant}
use Rattle.plant_model.specs.Line.{no_stage, no_machine, stage_at, machine_at, machine_station, receiver, starting, stock_under}
use Rattle.plant_model.specs.Graph.{Row, worked_row, plain_row, onward, feed_row, rows, graph}
use Rattle.plant_model.specs.Sound.{IsSound}
use Rattle.plant_model.proofs.LayoutStations.{receiver-above}
use Rattle.event_graph.specs.Network.{arc, stations}
use Rattle.event_graph.specs.Live.{IsLive}
use Rattle.line_base.proofs.RangeLists.{All-range}
use Rattle.line_graph.proofs.GraphRows.{EachPolicyRow, EachStageRow, All-rows}
use Rattle.line_graph.proofs.Sizes.{arc_count-graph}
use Rattle.line_graph.proofs.Inputs.{arc-graph, IsGraph-graph}
use Rattle.live_check.specs.Order.{IsUpward}
use Rattle.live_check.proofs.Upward.{upward_live}
use Rattle.live_plant.specs.Generator.{state_after}
use Rattle.live_plant.specs.Big.{machines_from, stage_from, stage_of, stages_of, big_plant}
use Rattle.live_plant.proofs.SoundPlant.{length-stages, big_plant-sound}

-- without a token the row leads to a later station
abbrev GoesUp : Row → Type 0
GoesUp r = r.arc.tokens ≡ 0 → r.arc.from < r.arc.to

-- each stage has a free card, each machine a server, and there are no loops
pub record IsFilled (p : Plant) : Type 0 where
  pub sound : IsSound p
  pub policy : p.policy ≡ Extended
  pub no_loops : p.loops ≡ []
  pub free_card : (i : ℕ) → i < length p.stages → (stage_at p i).stock < (stage_at p i).cards
  pub server : (i j : ℕ) → i < length p.stages → j < length (stage_at p i).machines → 1 ≤ (machine_at p i j).servers

module _ (p : Plant) (filled : IsFilled p) where
  onward-up : (i j : ℕ) → i < length p.stages → j < length (stage_at p i).machines → GoesUp (onward p i j)
  onward-up i j below inside =
      let m = length (stage_at p i).machines in
      let up = receiver-above p i filled.sound below in
      cond_both (eqb (j + 1) m) (plain_row (machine_station p i j) (receiver p i) (starting p i) (stage_at p i).travel) (worked_row (machine_station p i j) (machine_station p i (j + 1)) 0) GoesUp
      (λ is none. omega (arith, up.0))
      (λ isnt none. omega arith)

  -- a stage's free cards are those that its stock leaves
  free : (i : ℕ) → i < length p.stages → 1 ≤ (stage_at p i).cards - starting p i
  free i below =
      let stock = ap (λ (policy : Policy). stock_under policy (stage_at p i)) filled.policy in
      omega (arith, stock, filled.free_card i below)

  stage-up : (i : ℕ) → i < length p.stages → EachStageRow GoesUp p i
  stage-up i below =
      record {
        entry = λ none. omega arith;
        servers = λ j inside none. absurd (omega (arith, filled.server i j below inside));
        order = λ j inside none. absurd (omega arith);
        onward = λ j inside. onward-up i j below inside;
      }

  policy-up : EachPolicyRow GoesUp p
  policy-up =
      record {
        kanban = λ is i below. absurd (cc (filled.policy));
        base_stock = λ is i below. absurd (cc (filled.policy));
        extended_demand = λ is i below none. omega arith;
        extended_card = λ is i below none. absurd (omega (arith, free i below));
        conwip = λ cards is i below first. absurd (cc (filled.policy));
      }

  no_loop : (k : ℕ) → k < length p.loops → ⊥
  no_loop k below = omega (arith, ap length filled.no_loops)

  rows-up : All GoesUp (rows p)
  rows-up =
      All-rows GoesUp p (record {
        stages = stage-up;
        feed = λ none. omega arith;
        policy = policy-up;
        loops = λ k d below. absurd (no_loop k below);
      })

  -- the numbers of the stations order them
  upward : IsUpward (graph p) (range_with_len 0 (stations (graph p)))
  upward =
      let T = stations (graph p) in
      let good = IsGraph-graph p filled.sound in
      let is = λ (t : ℕ). λ (below : t < T). get_or-range_with_len 0 T t 0 below in
      record {
        rank_for_each = length-range_with_len 0 T;
        below = All-range (λ place. place < T) T (λ place below. below);
        distinct = λ i j d before within same.
            (let inside : j < T = omega (arith, length-range_with_len 0 T) in
            omega (arith, same, get_or-range_with_len 0 T i d (omega arith), get_or-range_with_len 0 T j d inside));
        upward = λ a there none.
            (let here : a < length (rows p) = omega (arith, arc_count-graph p) in
            let at = arc-graph p a (feed_row p) here in
            let up = subst (λ (x : Arc). x.tokens ≡ 0 → x.from < x.to) (sym at) (All-get_or GoesUp (rows p) a (feed_row p) here rows-up) in
            omega (arith, up none, is (arc (graph p) a).from (good.starts_exist a there), is (arc (graph p) a).to (good.ends_exist a there)));
      }

  pub filled-live : IsLive (graph p)
  filled-live = upward_live (graph p) (range_with_len 0 (stations (graph p))) upward

-- a stage has a card more than stock at least
drawn-free : (s i : ℕ) → (stage_from s i).stock < (stage_from s i).cards
unfolding stage_from
drawn-free s i = omega arith

drawn-server : (s i j : ℕ) → j < length (stage_from s i).machines → 1 ≤ (get_or (stage_from s i).machines j no_machine).servers
unfolding stage_from machines_from
drawn-server s i zero inside = omega arith
drawn-server s i (suc zero) inside = omega arith
drawn-server s i (suc (suc zero)) inside = omega arith
drawn-server s i (suc (suc (suc j))) inside = absurd (omega arith)

module _ (seed : ℕ) where
  stage-is : (i : ℕ) → i < 12 → stage_at (big_plant seed) i ≡ stage_of seed i
  unfolding big_plant stages_of
  stage-is i below = get_or-map-range_with_len (stage_of seed) 0 12 i i no_stage below (omega arith)

  twelve : length (big_plant seed).stages ≡ 12
  unfolding big_plant
  twelve = length-stages seed 12

  big_plant-filled : IsFilled (big_plant seed)
  unfolding big_plant
  big_plant-filled =
      record {
        sound = big_plant-sound seed;
        policy = refl;
        no_loops = refl;
        free_card = λ i below.
            (let is = stage-is i (omega (arith, twelve)) in
            subst (λ (s : Stage). s.stock < s.cards) (sym is) (drawn-free (state_after (8 * i) seed) i));
        server = λ i j below inside.
            (let is = stage-is i (omega (arith, twelve)) in
            subst (λ (s : Stage). j < length s.machines → 1 ≤ (get_or s.machines j no_machine).servers) (sym is) (drawn-server (state_after (8 * i) seed) i j) inside);
      }

  -- the big plant of every seed is live
  pub big_plant-live : IsLive (graph (big_plant seed))
  big_plant-live = filled-live (big_plant seed) big_plant-filled
