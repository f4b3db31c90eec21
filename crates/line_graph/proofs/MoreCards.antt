-- More tokens, never later, on plants: the graphs of plants that differ in cards and stock alone differ in tokens
-- alone.
use Rattle.std.proofs.Common.{◌≡◌, ℕ, ◌+◌, ◌-◌, ◌<◌, ◌≤◌, Bool, true, false, cond, eqb, List, length, get_or, map, inl, inr, refl, sym, ap, ◌∙◌, subst, arith}
use Rattle.std.specs.List.{AllZip, sum_by}
use Rattle.std.proofs.lemmas.Bool.{cases_lt}
use Rattle.std.proofs.lemmas.List.{get_or_past}
use Rattle.std.proofs.lemmas.List.Elements.{AllZip-get_or, length_all_zip}
use Rattle.line_base.specs.declared.event.Arc.{Arc}
use Rattle.plant_model.specs.declared.plant.Policy.{Policy}
use Rattle.plant_model.specs.declared.plant.Policy.TheVariants.{Kanban, Conwip, BaseStock, Extended}
use Rattle.plant_model.specs.Stages.{Machine, Stage}
use Rattle.plant_model.specs.declared.plant.CardLoop.{CardLoop}
use Rattle.plant_model.specs.declared.plant.Plant.{Plant}
use Rattle.plant_model.specs.Line.{no_stage, loop_at, stage_at, no_machine, release, machine_station, receiver, stock_under, starting, line_cards, path, path_stock, up_to, stock_between}
use Rattle.plant_model.specs.Graph.{Row, worked_row, plain_row, onward, feed_row, loop_row, rows, labels, graph}
use Rattle.plant_model.specs.Sound.{IsSound}
use Rattle.event_graph.specs.Live.{IsLive}
use Rattle.live_check.specs.MoreTokens.{KeepsArc, HasMoreTokens, IsNeverLater}
use Rattle.live_check.proofs.NeverLater.{never_later}
use Rattle.line_graph.specs.MoreCards.{policy_without_cards, DifferInCards, HasMoreOnEachArc, HasMoreCards}
use Rattle.line_graph.proofs.RowPairs.{rows-pairs, AllZip-from_get_or, AllZip-mapped, map-pairs}
use Rattle.line_graph.proofs.CardlessPlants.{labels-same, times-same, demands-same, card_time-same, release-same, deliver-same, receiver-same, stages-same, stage-same, loop-same, machines-same, path-same, one_shape}
use Rattle.line_graph.proofs.Sizes.{sum_by-same, arc_count-graph, times-graph}
use Rattle.line_graph.proofs.Inputs.{arc-graph, IsGraph-graph}
use Rattle.line_graph.proofs.OwnTokens.{graph_keeps_order}
use Rattle.line_graph.proofs.WithinLimits.{IsWithinLimits-graph}

-- the rows are the same but for tokens
record IsSameRow (r s : Row) : Type 0 where
  from : r.arc.from ≡ s.arc.from
  to : r.arc.to ≡ s.arc.to
  worked : r.arc.worked ≡ s.arc.worked
  delay : r.delay ≡ s.delay

worked-row : (s t s' t' n n' : ℕ) → s ≡ s' → t ≡ t' → IsSameRow (worked_row s t n) (worked_row s' t' n')
worked-row s t s' t' n n' from to = record { from = from; to = to; worked = refl; delay = refl }

plain-row : (s t s' t' n n' late late' : ℕ) → s ≡ s' → t ≡ t' → late ≡ late' → IsSameRow (plain_row s t n late) (plain_row s' t' n' late')
plain-row s t s' t' n n' late late' from to delay = record { from = from; to = to; worked = refl; delay = delay }

-- a choice by the same test
chosen : (R : Row → Row → Type 0) (b : Bool) (x y x' y' : Row) → R x x' → R y y' → R (cond b x y) (cond b x' y')
chosen R true x y x' y' first second = first
chosen R false x y x' y' first second = second

module _ (p q : Plant) (differ : DifferInCards p q) where
  station-same : (i j : ℕ) → machine_station p i j ≡ machine_station q i j
  station-same i j = ap (λ (n : ℕ). n + 1 + j) (release-same p q differ i)

  -- the rows onward of a machine, where both cases of them are related
  onward-pair : (R : Row → Row → Type 0) (i j : ℕ) → R (plain_row (machine_station p i j) (receiver p i) (starting p i) (stage_at p i).travel) (plain_row (machine_station q i j) (receiver q i) (starting q i) (stage_at q i).travel) → R (worked_row (machine_station p i j) (machine_station p i (j + 1)) 0) (worked_row (machine_station q i j) (machine_station q i (j + 1)) 0) → R (onward p i j) (onward q i j)
  onward-pair R i j last inner =
      let here = plain_row (machine_station q i j) (receiver q i) (starting q i) (stage_at q i).travel in
      let there = worked_row (machine_station q i j) (machine_station q i (j + 1)) 0 in
      subst (λ (ms : List Machine). R (onward p i j) (cond (eqb (j + 1) (length ms)) here there)) (machines-same p q differ i) (chosen R (eqb (j + 1) (length (stage_at p i).machines)) _ _ here there last inner)

  same_rows : AllZip IsSameRow (rows p) (rows q)
  same_rows =
      let at_release = release-same p q differ in
      let at_receiver = receiver-same p q differ in
      let at_deliver = deliver-same p q differ in
      let travel = λ (i : ℕ). ap (λ (s : Stage). s.travel) (stage-same p q differ i) in
      let back = λ (i : ℕ). ap (λ (s : Stage). s.card_time) (stage-same p q differ i) in
      rows-pairs IsSameRow p q (one_shape p q differ) (record {
        entry = λ i low. worked-row _ _ _ _ _ _ (at_release i) (station-same i 0);
        servers = λ i j low. worked-row _ _ _ _ _ _ (station-same i j) (station-same i j);
        order = λ i j low. plain-row _ _ _ _ _ _ _ _ (station-same i j) (station-same i j) refl;
        onward = λ i j low. onward-pair IsSameRow i j (plain-row _ _ _ _ _ _ _ _ (station-same i j) (at_receiver i) (travel i)) (worked-row _ _ _ _ _ _ (station-same i j) (station-same i (j + 1)));
        feed = plain-row _ _ _ _ _ _ _ _ refl at_deliver refl;
        demand = λ i low. plain-row _ _ _ _ _ _ _ _ refl (at_release i) refl;
        kanban = λ i low. plain-row _ _ _ _ _ _ _ _ (at_receiver i) (at_release i) (back i);
        extended = λ p_is q_is i low. plain-row _ _ _ _ _ _ _ _ (at_receiver i) (at_release i) (back i);
        conwip = λ c d p_is q_is i low. plain-row _ _ _ _ _ _ _ _ at_deliver (at_release i) (card_time-same p q differ);
        loops = λ k low.
            let loop = loop-same p q differ k in
            let first = ap (λ (l : CardLoop). l.first) loop in
            let last = ap (λ (l : CardLoop). l.last) loop in
            plain-row _ _ _ _ _ _ _ _ (at_receiver (loop_at p k).last ∙ ap (receiver q) last) (at_release (loop_at p k).first ∙ ap (release q) first) (ap (λ (l : CardLoop). l.card_time) loop);
      })

-- ---- the graphs

labels-graph : (p : Plant) → (graph p).labels ≡ labels p
unfolding graph
labels-graph p = refl

dates-graph : (p : Plant) → (graph p).dates ≡ p.demands
unfolding graph
dates-graph p = refl

arcs-graph : (p : Plant) → (graph p).arcs ≡ map (λ (r : Row). r.arc) (rows p)
unfolding graph
arcs-graph p = refl

delays-graph : (p : Plant) → (graph p).delays ≡ map (λ (r : Row). r.delay) (rows p)
unfolding graph
delays-graph p = refl

module _ (few many : Plant) (differ : DifferInCards few many) where
  many_rows : length (rows few) ≡ length (rows many)
  many_rows = length_all_zip IsSameRow (rows few) (rows many) (same_rows few many differ)

  more_arcs : HasMoreOnEachArc few many → AllZip (λ (r s : Row). KeepsArc r.arc s.arc) (rows few) (rows many)
  more_arcs more =
      AllZip-from_get_or (λ (r s : Row). KeepsArc r.arc s.arc) (rows few) (rows many) (feed_row few) (feed_row many) many_rows
      (λ k low.
      let same = AllZip-get_or IsSameRow (rows few) (rows many) k (feed_row few) (feed_row many) (same_rows few many differ) low in
      let tokens = more.each k (omega (arith, arc_count-graph few)) in
      let of_few = ap (λ (a : Arc). a.tokens) (arc-graph few k (feed_row few) low) in
      let of_many = ap (λ (a : Arc). a.tokens) (arc-graph many k (feed_row many) (omega (arith, many_rows))) in
      record {
        from = sym same.from;
        to = sym same.to;
        worked = sym same.worked;
        tokens = omega (arith, tokens, of_few, of_many);
      })

  more_tokens : HasMoreOnEachArc few many → HasMoreTokens (graph few) (graph many)
  more_tokens more = record {
    labels = labels-graph many ∙ sym (labels-same few many differ) ∙ sym (labels-graph few);
    times = times-graph many ∙ sym (times-same few many differ) ∙ sym (times-graph few);
    dates = dates-graph many ∙ sym (demands-same few many differ) ∙ sym (dates-graph few);
    delays = delays-graph many ∙ map-pairs IsSameRow (λ (r : Row). r.delay) (rows few) (rows many) (λ r s same. sym same.delay) (same_rows few many differ) ∙ sym (delays-graph few);
    arcs =
        rw (arcs-graph few, arcs-graph many) (
        AllZip-mapped KeepsArc (λ (r : Row). r.arc) (λ (r : Row). r.arc) (rows few) (rows many) (more_arcs more));
  }

  pub arcs_never_later : IsSound few → HasMoreOnEachArc few many → IsLive (graph few) → IsNeverLater (graph few) (graph many)
  arcs_never_later sound more live =
      never_later (graph few) (graph many) (IsGraph-graph few sound) (IsWithinLimits-graph few sound).demands_in_order (graph_keeps_order few) live (more_tokens more)

-- ---- more cards

-- the tokens of the second row are no fewer
abbrev HasMoreTokensThan : Row → Row → Type 0
HasMoreTokensThan r s = r.arc.tokens ≤ s.arc.tokens

-- the starting stock of a stage, where its cards and its stock are compared
starting-more : (policy other : Policy) (s t : Stage) → policy_without_cards policy ≡ policy_without_cards other → s.cards ≤ t.cards → s.stock ≡ t.stock → stock_under policy s ≤ stock_under other t
starting-more Kanban Kanban s t same cards stock = cards
starting-more (Conwip _) (Conwip _) s t same cards stock = omega (arith, stock)
starting-more BaseStock BaseStock s t same cards stock = omega (arith, stock)
starting-more Extended Extended s t same cards stock = omega (arith, stock)
starting-more _ _ s t same cards stock = absurd cc

-- under kanban it is the same where the cards are, under another policy where the stock is
starting-same : (policy other : Policy) (s t : Stage) → policy_without_cards policy ≡ policy_without_cards other → (policy ≡ Kanban → s.cards ≡ t.cards) → s.stock ≡ t.stock → stock_under policy s ≡ stock_under other t
starting-same Kanban Kanban s t same cards stock = cards refl
starting-same (Conwip _) (Conwip _) s t same cards stock = stock
starting-same BaseStock BaseStock s t same cards stock = stock
starting-same Extended Extended s t same cards stock = stock
starting-same _ _ s t same cards stock = absurd cc

-- what holds at each stage, and of what stands where no stage is, holds at each number
stage_cases : (p q : Plant) (P : Stage → Stage → Type 0) → length p.stages ≡ length q.stages → P no_stage no_stage → ((i : ℕ) → i < length p.stages → P (stage_at p i) (stage_at q i)) → (i : ℕ) → P (stage_at p i) (stage_at q i)
stage_cases p q P long none each i =
    elim (cases_lt i (length p.stages)) [
      | inl low ↦ each i low
      | inr past ↦ let behind : length q.stages ≤ i = omega (arith, long) in
          rw (get_or_past p.stages, get_or_past q.stages) none
    ]

module _ (few many : Plant) (more : HasMoreCards few many) where
  kinds : policy_without_cards few.policy ≡ policy_without_cards many.policy
  kinds = ap (λ (r : Plant). r.policy) more.differ.alike

  long : length few.stages ≡ length many.stages
  long = stages-same few many more.differ

  cards-more : (i : ℕ) → (stage_at few i).cards ≤ (stage_at many i).cards
  cards-more = stage_cases few many (λ s t. s.cards ≤ t.cards) long (omega arith) more.stages

  stock-same : (i : ℕ) → (stage_at few i).stock ≡ (stage_at many i).stock
  stock-same = stage_cases few many (λ s t. s.stock ≡ t.stock) long refl more.stock

  start-more : (i : ℕ) → starting few i ≤ starting many i
  start-more i = starting-more few.policy many.policy (stage_at few i) (stage_at many i) kinds (cards-more i) (stock-same i)

  -- the same, but for the cards of a stage under kanban
  start-same : (few.policy ≡ Kanban → (i : ℕ) → i < length few.stages → (stage_at few i).cards ≡ (stage_at many i).cards) → (i : ℕ) → starting few i ≡ starting many i
  start-same cards i =
      starting-same few.policy many.policy (stage_at few i) (stage_at many i) kinds
      (λ is. stage_cases few many (λ s t. s.cards ≡ t.cards) long refl (cards is) i)
      (stock-same i)

  extended-more : few.policy ≡ Extended → many.policy ≡ Extended → (i : ℕ) → (stage_at few i).cards - starting few i ≤ (stage_at many i).cards - starting many i
  extended-more is other i =
      let same = start-same (λ kanban. absurd cc) i in omega (arith, same, cards-more i)

  line-more : (c d : ℕ) → few.policy ≡ Conwip c → many.policy ≡ Conwip d → (i : ℕ) → line_cards few.policy - path_stock few i ≤ line_cards many.policy - path_stock many i
  line-more c d is other i =
      let same = start-same (λ kanban. absurd cc) in
      let stock : path_stock few i ≡ path_stock many i = ap (sum_by (starting few)) (path-same few many more.differ i) ∙ sum_by-same (starting few) (starting many) (path many i) same in
      omega (arith, stock, more.line)

  loop-more : (k : ℕ) → k < length few.loops → (loop_row few (loop_at few k)).arc.tokens ≤ (loop_row many (loop_at many k)).arc.tokens
  loop-more k low =
      let same = start-same (λ kanban. more.kanban_loops kanban (omega arith)) in
      let l = loop_at few k in
      let m = loop_at many k in
      let loop = loop-same few many more.differ k in
      let first : l.first ≡ m.first = ap (λ (x : CardLoop). x.first) loop in
      let last : l.last ≡ m.last = ap (λ (x : CardLoop). x.last) loop in
      let stock : stock_between few l.first l.last ≡ stock_between many l.first l.last = ap (λ (is : List ℕ). sum_by (starting few) (up_to l.last is)) (path-same few many more.differ l.first) ∙ sum_by-same (starting few) (starting many) (up_to l.last (path many l.first)) same in
      let moved = ap (λ (a : ℕ). stock_between many a l.last) first ∙ ap (λ (b : ℕ). stock_between many m.first b) last in
      omega (arith, stock, moved, more.loops k low)

  pub more_on_each_arc : HasMoreOnEachArc few many
  more_on_each_arc =
      let all = rows-pairs HasMoreTokensThan few many (one_shape few many more.differ) (record {
        entry = λ i low. omega arith;
        servers = λ i j low. omega (arith, ap (λ (ms : List Machine). (get_or ms j no_machine).servers) (machines-same few many more.differ i));
        order = λ i j low. omega arith;
        onward = λ i j low. onward-pair few many more.differ HasMoreTokensThan i j (start-more i) (omega arith);
        feed = omega arith;
        demand = λ i low. omega arith;
        kanban = λ i low. omega arith;
        extended = λ is other i low. extended-more is other i;
        conwip = λ c d is other i low. line-more c d is other i;
        loops = loop-more;
      }) in
      record {
        each = λ a low.
            let inside : a < length (rows few) = omega (arith, arc_count-graph few) in
            let here = AllZip-get_or HasMoreTokensThan (rows few) (rows many) a (feed_row few) (feed_row many) all inside in
            let of_few = ap (λ (b : Arc). b.tokens) (arc-graph few a (feed_row few) inside) in
            let of_many = ap (λ (b : Arc). b.tokens) (arc-graph many a (feed_row many) (omega (arith, many_rows few many more.differ))) in
            omega (arith, here, of_few, of_many);
      }

  pub cards_never_later : IsSound few → IsLive (graph few) → IsNeverLater (graph few) (graph many)
  cards_never_later sound live = arcs_never_later few many more.differ sound more_on_each_arc live
