-- Under extended kanban a count with a card for each part of a stage's stock and for each job gives the dates that a
-- greater one gives, and its line is live where that one's is: no job waits for a card then.
use Rattle.std.proofs.Common.{◌≡◌, ℕ, ◌+◌, ◌-◌, ◌<◌, ◌≤◌, ◌⊎◌, cond, eqb, ltb, List, length, get_or, inl, inr, refl, sym, ap, ◌∙◌, subst, arith, ⊎_elim}
use Rattle.std.specs.List.{All, AllZip}
use Rattle.std.proofs.lemmas.Bool.{cond-false, le-ltb}
use Rattle.std.proofs.lemmas.List.Elements.{AllZip-get_or, length_all_zip}
use Rattle.line_base.specs.Times.{time_at}
use Rattle.line_base.specs.declared.event.Arc.{Arc}
use Rattle.line_base.specs.declared.event.Parts.{Parts}
use Rattle.line_base.specs.declared.times.Times.{Times}
use Rattle.line_base.specs.declared.times.Times.TheVariants.{Fixed}
use Rattle.plant_model.specs.declared.plant.Policy.{Policy}
use Rattle.plant_model.specs.declared.plant.Policy.TheVariants.{Kanban, Conwip, BaseStock, Extended}
use Rattle.plant_model.specs.Stages.{Stage}
use Rattle.plant_model.specs.declared.plant.Plant.{Plant}
use Rattle.plant_model.specs.Line.{no_machine, stage_at, release, machine_station, deliver, receiver, stock_under, starting, loop_at, stock_between}
use Rattle.plant_model.specs.Graph.{Row, worked_row, plain_row, onward, feed_row, card_row, loop_row, rows, times, graph}
use Rattle.plant_model.specs.Sound.{IsSound}
use Rattle.plant_model.proofs.SoundPlants.{HasSoundSizes-sound}
use Rattle.event_graph.specs.Network.{stations, jobs, arc, arc_count, time, delay, demand}
use Rattle.event_graph.specs.Table.{Table}
use Rattle.event_graph.specs.Term.{work, term}
use Rattle.event_graph.specs.Solves.{Solves}
use Rattle.event_graph.specs.Least.{IsLeast}
use Rattle.event_graph.specs.Live.{IsLive}
use Rattle.live_check.proofs.Upward.{upward_live}
use Rattle.live_check.proofs.LiveOrder.{has_order}
use Rattle.line_graph.proofs.CardlessPlants.{release-same, deliver-same, receiver-same, stage-same, machines-same, times-same, one_shape}
use Rattle.line_graph.proofs.RowPairs.{rows-pairs}
use Rattle.line_graph.proofs.Sizes.{stations-graph, arc_count-graph, delay-graph, times-graph, demand-graph, jobs-graph}
use Rattle.line_graph.proofs.Inputs.{arc-graph, IsGraph-graph}
use Rattle.line_graph.specs.MoreCards.{DifferInCards}
use Rattle.card_sizing.specs.Sized.{cards_under, policy_with, sized_plant}
use Rattle.card_sizing.proofs.SizedStages.{differ-counts, length-sized, stage_at-sized, policy-sized}
use Rattle.card_sizing.proofs.SizedSound.{starting-sized, stock_between-sized}

-- two rows between the same stations that hold at least `many` tokens each
record AreCovered (many : ℕ) (r s : Row) : Type 0 where
  from : r.arc.from ≡ s.arc.from
  to : r.arc.to ≡ s.arc.to
  worked_alike : r.arc.worked ≡ s.arc.worked
  first : many ≤ r.arc.tokens
  second : many ≤ s.arc.tokens

-- two rows that are one, or are covered
abbrev AreAlike : ℕ → Row → Row → Type 0
AreAlike many r s = (r ≡ s) ⊎ AreCovered many r s

-- a term by its arc, its delay and the job times
abbrev term_by : Arc → ℕ → List Times → Table → ℕ → ℕ
term_by a late times x n =
    cond a.worked (time_at (get_or times a.to (Fixed 0)) n) 0 + cond (ltb a.tokens n) (x a.from (n - a.tokens) + late) 0

term-by : (g : Parts) (x : Table) (a n : ℕ) → term g x a n ≡ term_by (arc g a) (delay g a) g.times x n
unfolding work time
term-by g x a n = refl

cards-extended : (policy : Policy) (c own : ℕ) → policy ≡ Extended → cards_under policy c own ≡ c
cards-extended Kanban c own is = refl
cards-extended (Conwip _) c own is = cc
cards-extended BaseStock c own is = cc
cards-extended Extended c own is = refl

module _ (p : Plant) (sound : IsSound p) (is : p.policy ≡ Extended) (h m : ℕ) (covers : (i : ℕ) → i < length p.stages → (stage_at p i).stock + length p.demands ≤ h) (more : h ≤ m) where
  differ : DifferInCards (sized_plant p h) (sized_plant p m)
  differ = differ-counts p h m

  other : p.policy ≡ Kanban → ⊥
  other kanban = cc

  at_release : (i : ℕ) → release (sized_plant p h) i ≡ release (sized_plant p m) i
  at_release = release-same (sized_plant p h) (sized_plant p m) differ

  station : (i j : ℕ) → machine_station (sized_plant p h) i j ≡ machine_station (sized_plant p m) i j
  station i j = ap (λ (n : ℕ). n + 1 + j) (at_release i)

  at_receiver : (i : ℕ) → receiver (sized_plant p h) i ≡ receiver (sized_plant p m) i
  at_receiver = receiver-same (sized_plant p h) (sized_plant p m) differ

  at_deliver : deliver (sized_plant p h) ≡ deliver (sized_plant p m)
  at_deliver = deliver-same (sized_plant p h) (sized_plant p m) differ

  machines : (i : ℕ) → (stage_at (sized_plant p h) i).machines ≡ (stage_at (sized_plant p m) i).machines
  machines = machines-same (sized_plant p h) (sized_plant p m) differ

  travel : (i : ℕ) → (stage_at (sized_plant p h) i).travel ≡ (stage_at (sized_plant p m) i).travel
  travel i = ap (λ (s : Stage). s.travel) (stage-same (sized_plant p h) (sized_plant p m) differ i)

  back : (i : ℕ) → (stage_at (sized_plant p h) i).card_time ≡ (stage_at (sized_plant p m) i).card_time
  back i = ap (λ (s : Stage). s.card_time) (stage-same (sized_plant p h) (sized_plant p m) differ i)

  start : (i : ℕ) → starting (sized_plant p h) i ≡ starting (sized_plant p m) i
  start i = starting-sized p h sound other i ∙ sym (starting-sized p m sound other i)

  between : (a b : ℕ) → stock_between (sized_plant p h) a b ≡ stock_between (sized_plant p m) a b
  between a b = stock_between-sized p h sound other a b ∙ sym (stock_between-sized p m sound other a b)

  onward_same : (i j : ℕ) → onward (sized_plant p h) i j ≡ onward (sized_plant p m) i j
  onward_same i j =
      λ k. cond (eqb (j + 1) (length (machines i k))) (plain_row (station i j k) (at_receiver i k) (start i k) (travel i k)) (worked_row (station i j k) (station i (j + 1) k) 0)

  loop_same : (k : ℕ) → loop_row (sized_plant p h) (loop_at (sized_plant p h) k) ≡ loop_row (sized_plant p m) (loop_at (sized_plant p m) k)
  unfolding sized_plant
  loop_same k =
      let l = loop_at p k in
      λ j. plain_row (at_receiver l.last j) (at_release l.first j) (l.cards - between l.first l.last j) l.card_time

  cards_at : (c i : ℕ) → i < length p.stages → (stage_at (sized_plant p c) i).cards ≡ c
  cards_at c i low =
      ap (λ (s : Stage). s.cards) (stage_at-sized p c i low) ∙ cards-extended p.policy c (stage_at p i).cards is

  stock_at : (c i : ℕ) → starting (sized_plant p c) i ≡ (stage_at p i).stock
  stock_at c i = starting-sized p c sound other i ∙ ap (λ (policy : Policy). stock_under policy (stage_at p i)) is

  card_covered : (i : ℕ) → i < length p.stages → AreCovered (length p.demands) (card_row (sized_plant p h) ((stage_at (sized_plant p h) i).cards - starting (sized_plant p h) i) i) (card_row (sized_plant p m) ((stage_at (sized_plant p m) i).cards - starting (sized_plant p m) i) i)
  card_covered i low = record {
    from = at_receiver i;
    to = at_release i;
    worked_alike = refl;
    first = omega (arith, cards_at h i low, stock_at h i, covers i low);
    second = omega (arith, cards_at m i low, stock_at m i, covers i low, more);
  }

  inside : (i : ℕ) → i < length (sized_plant p h).stages → i < length p.stages
  inside i low = omega (arith, length-sized p h)

  pairs : AllZip (AreAlike (length p.demands)) (rows (sized_plant p h)) (rows (sized_plant p m))
  pairs =
      rows-pairs (AreAlike (length p.demands)) (sized_plant p h) (sized_plant p m) (one_shape (sized_plant p h) (sized_plant p m) differ) (record {
        entry = λ i low. inl (λ k. worked_row (at_release i k) (station i 0 k) 0);
        servers = λ i j low. inl (λ k. worked_row (station i j k) (station i j k) (get_or (machines i k) j no_machine).servers);
        order = λ i j low. inl (λ k. plain_row (station i j k) (station i j k) 1 0);
        onward = λ i j low. inl (onward_same i j);
        feed = inl (λ k. plain_row 0 (at_deliver k) 0 0);
        demand = λ i low. inl (λ k. plain_row 0 (at_release i k) 0 0);
        kanban = λ i low. inl (λ k. plain_row (at_receiver i k) (at_release i k) 0 (back i k));
        extended = λ p_is q_is i low. inr (card_covered i (inside i low));
        conwip = λ c d p_is q_is i low. absurd (no_conwip c (sym (policy-sized p h) ∙ p_is));
        loops = λ k low. inl (loop_same k);
      })
    where
      no_conwip : (c : ℕ) → policy_with h p.policy ≡ Conwip c → ⊥
      no_conwip c conwip = let extended = ap (policy_with h) is in absurd cc

  -- ---- the graphs

  arcs_alike : (a : ℕ) → a < arc_count (graph (sized_plant p h)) → AreAlike (length p.demands) (get_or (rows (sized_plant p h)) a (feed_row (sized_plant p h))) (get_or (rows (sized_plant p m)) a (feed_row (sized_plant p m)))
  arcs_alike a low =
      AllZip-get_or (AreAlike (length p.demands)) (rows (sized_plant p h)) (rows (sized_plant p m)) a (feed_row (sized_plant p h)) (feed_row (sized_plant p m)) pairs (omega (arith, arc_count-graph (sized_plant p h)))

  many_rows : length (rows (sized_plant p h)) ≡ length (rows (sized_plant p m))
  many_rows = length_all_zip (AreAlike (length p.demands)) (rows (sized_plant p h)) (rows (sized_plant p m)) pairs

  many_arcs : arc_count (graph (sized_plant p h)) ≡ arc_count (graph (sized_plant p m))
  many_arcs = omega (arith, arc_count-graph (sized_plant p h), arc_count-graph (sized_plant p m), many_rows)

  first_arc : (a : ℕ) → a < arc_count (graph (sized_plant p h)) → arc (graph (sized_plant p h)) a ≡ (get_or (rows (sized_plant p h)) a (feed_row (sized_plant p h))).arc
  first_arc a low = arc-graph (sized_plant p h) a (feed_row (sized_plant p h)) (omega (arith, arc_count-graph (sized_plant p h)))

  second_arc : (a : ℕ) → a < arc_count (graph (sized_plant p h)) → arc (graph (sized_plant p m)) a ≡ (get_or (rows (sized_plant p m)) a (feed_row (sized_plant p m))).arc
  second_arc a low = arc-graph (sized_plant p m) a (feed_row (sized_plant p m)) (omega (arith, arc_count-graph (sized_plant p h), many_rows))

  same_times : (graph (sized_plant p h)).times ≡ (graph (sized_plant p m)).times
  same_times =
      times-graph (sized_plant p h) ∙ times-same (sized_plant p h) (sized_plant p m) differ ∙ sym (times-graph (sized_plant p m))

  from_same : (a : ℕ) → a < arc_count (graph (sized_plant p h)) → (arc (graph (sized_plant p h)) a).from ≡ (arc (graph (sized_plant p m)) a).from
  from_same a low =
      ap (λ (b : Arc). b.from) (first_arc a low)
      ∙ ⊎_elim (λ same. ap (λ (r : Row). r.arc.from) same) (λ covered. covered.from) (arcs_alike a low)
      ∙ sym (ap (λ (b : Arc). b.from) (second_arc a low))

  to_same : (a : ℕ) → a < arc_count (graph (sized_plant p h)) → (arc (graph (sized_plant p h)) a).to ≡ (arc (graph (sized_plant p m)) a).to
  to_same a low =
      ap (λ (b : Arc). b.to) (first_arc a low)
      ∙ ⊎_elim (λ same. ap (λ (r : Row). r.arc.to) same) (λ covered. covered.to) (arcs_alike a low)
      ∙ sym (ap (λ (b : Arc). b.to) (second_arc a low))

  term_same : (x : Table) (a n : ℕ) → a < arc_count (graph (sized_plant p h)) → n ≤ length p.demands → term (graph (sized_plant p h)) x a n ≡ term (graph (sized_plant p m)) x a n
  term_same x a n low within =
      let g = graph (sized_plant p h) in
      let k = graph (sized_plant p m) in
      let r = get_or (rows (sized_plant p h)) a (feed_row (sized_plant p h)) in
      let s = get_or (rows (sized_plant p m)) a (feed_row (sized_plant p m)) in
      let here = delay-graph (sized_plant p h) a (feed_row (sized_plant p h)) (omega (arith, arc_count-graph (sized_plant p h))) in
      let there = delay-graph (sized_plant p m) a (feed_row (sized_plant p m)) (omega (arith, arc_count-graph (sized_plant p h), many_rows)) in
      let mine : term g x a n ≡ term_by r.arc r.delay g.times x n = term-by g x a n ∙ (λ j. term_by (first_arc a low j) (here j) g.times x n) in
      let its : term k x a n ≡ term_by s.arc s.delay k.times x n = term-by k x a n ∙ (λ j. term_by (second_arc a low j) (there j) k.times x n) in
      let middle : term_by r.arc r.delay g.times x n ≡ term_by s.arc s.delay k.times x n =
      ⊎_elim
      (λ same. λ j. term_by (same j).arc (same j).delay (same_times j) x n)
      (λ covered.
      let none = cond-false (ltb r.arc.tokens n) (x r.arc.from (n - r.arc.tokens) + r.delay) 0 (le-ltb r.arc.tokens n (omega (arith, covered.first))) in
      let none_too = cond-false (ltb s.arc.tokens n) (x s.arc.from (n - s.arc.tokens) + s.delay) 0 (le-ltb s.arc.tokens n (omega (arith, covered.second))) in
      let job : cond r.arc.worked (time_at (get_or g.times r.arc.to (Fixed 0)) n) 0 ≡ cond s.arc.worked (time_at (get_or k.times s.arc.to (Fixed 0)) n) 0 =
      λ j. cond (covered.worked_alike j) (time_at (get_or (same_times j) (covered.to j) (Fixed 0)) n) 0 in
      omega (arith, none, none_too, job))
      (arcs_alike a low) in
      mine ∙ middle ∙ sym its

  same_jobs : jobs (graph (sized_plant p h)) ≡ jobs (graph (sized_plant p m))
  unfolding sized_plant
  same_jobs = jobs-graph (sized_plant p h) ∙ sym (jobs-graph (sized_plant p m))

  within_jobs : (n : ℕ) → n ≤ jobs (graph (sized_plant p h)) → n ≤ length p.demands
  unfolding sized_plant
  within_jobs n low = omega (arith, jobs-graph (sized_plant p h))

  same_demand : (n : ℕ) → demand (graph (sized_plant p h)) n ≡ demand (graph (sized_plant p m)) n
  unfolding sized_plant
  same_demand n = demand-graph (sized_plant p h) (sized_plant p m) n refl

  solves_first : (x : Table) → Solves (graph (sized_plant p m)) x → Solves (graph (sized_plant p h)) x
  solves_first x solves = record {
    feed = λ n one low. omega (arith, same_demand n, solves.feed n one (omega (arith, same_jobs)));
    others = λ a n known one low.
        let there = ap (λ (t : ℕ). x t n) (to_same a known) in
        omega (arith, term_same x a n known (within_jobs n low), there, solves.others a n (omega (arith, many_arcs)) one (omega (arith, same_jobs)));
  }

  solves_second : (x : Table) → Solves (graph (sized_plant p h)) x → Solves (graph (sized_plant p m)) x
  solves_second x solves = record {
    feed = λ n one low. omega (arith, same_demand n, solves.feed n one (omega (arith, same_jobs)));
    others = λ a n known one low.
        let here : a < arc_count (graph (sized_plant p h)) = omega (arith, many_arcs) in
        let job : n ≤ jobs (graph (sized_plant p h)) = omega (arith, same_jobs) in
        let there = ap (λ (t : ℕ). x t n) (to_same a here) in
        omega (arith, term_same x a n here (within_jobs n job), there, solves.others a n here one job);
  }

  same_stations : stations (graph (sized_plant p h)) ≡ stations (graph (sized_plant p m))
  same_stations =
      stations-graph (sized_plant p h) ∙ ap (λ (n : ℕ). n + 1) at_deliver ∙ sym (stations-graph (sized_plant p m))

  -- the least solution with more cards is the one with these
  pub covered_least : (x : Table) → IsLeast (graph (sized_plant p m)) x → IsLeast (graph (sized_plant p h)) x
  covered_least x least = record {
    solves = solves_first x least.solves;
    least = λ y solves t n there one low.
        least.least y (solves_second y solves) t n (omega (arith, same_stations)) one (omega (arith, same_jobs));
  }

  -- and the line is live where it is with more cards
  pub covered_live : IsSound (sized_plant p m) → IsLive (graph (sized_plant p m)) → IsLive (graph (sized_plant p h))
  covered_live sound_many live =
      let order = has_order (graph (sized_plant p m)) (IsGraph-graph (sized_plant p m) sound_many) live in
      let ranks = order.0 in
      let up = order.1 in
      let some = (HasSoundSizes-sound p sound).some_demand in
      upward_live (graph (sized_plant p h)) ranks (record {
        rank_for_each = up.rank_for_each ∙ sym same_stations;
        below = subst (λ (n : ℕ). All (λ rank. rank < n) ranks) (sym same_stations) up.below;
        distinct = up.distinct;
        upward = λ a known none.
            let from = ap (λ (t : ℕ). get_or ranks t 0) (from_same a known) in
            let to = ap (λ (t : ℕ). get_or ranks t 0) (to_same a known) in
            let mine = ap (λ (b : Arc). b.tokens) (first_arc a known) in
            let its = ap (λ (b : Arc). b.tokens) (second_arc a known) in
            ⊎_elim
            (λ same.
            let tokens = ap (λ (r : Row). r.arc.tokens) same in
            omega (arith, from, to, up.upward a (omega (arith, many_arcs)) (omega (arith, none, mine, its, tokens))))
            (λ covered. absurd (omega (arith, none, mine, covered.first, some)))
            (arcs_alike a known);
      })
