-- What the teams of a line stand for, where every queue was met: a state that firings reach.
use Rattle.std.proofs.Common.{◌≡◌, ◌≢◌, ℕ, ◌+◌, ◌-◌, ◌<◌, ◌≤◌, cond, eqb, List, [], ◌++◌, map, drop, take, length, get_or, refl, ap, ◌∙◌, sym, subst, arith, length-append, zero-add}
use Rattle.std.specs.Prelude.{option_to_list}
use Rattle.std.specs.List.{AllPairs, range_with_len}
use Rattle.std.proofs.Math.Seq.{drop-append_seam}
use Rattle.std.proofs.lemmas.List.{get_or_append_left, drop-drop, drop-append-le, length-drop}
use Rattle.std.proofs.lemmas.List.FromFn.{length-range_with_len, get_or-range_with_len, length-map-range_with_len, get_or-map-range_with_len, fill_by_all}
use Rattle.line_base.specs.declared.event.Parts.{Parts}
use Rattle.card_queue.specs.Plain.{PlainQueue}
use Rattle.event_graph.specs.Network.{stations, jobs, arc, arc_count, demand, delay, ins, outs, IsGraph}
use Rattle.event_graph.specs.Term.{work}
use Rattle.event_graph.specs.State.{State, place}
use Rattle.event_graph.specs.Firing.{CanFire}
use Rattle.event_graph.specs.Reached.{Reached}
use Rattle.event_graph.proofs.ArcNumbers.{All-ins, All-outs}
use Rattle.live_check.specs.Order.{IsRanked, LiveGraph}
use Rattle.line_core.specs.Consistent.{all_tokens, tokens_left, state_of}
use Rattle.event_graph.proofs.Greatest.{greatest-same}
use Rattle.station_step.specs.declared.ends.Outlet.{Outlet}
use Rattle.station_step.specs.declared.ends.Outlet.TheVariants as outlet
use Rattle.station_step.specs.Ends.{inlet_taken, outlet_added, HasSpace}
use Rattle.station_step.specs.Input.{input_at, IsHeld, tokens_ahead}
use Rattle.station_step.specs.Station.{WorkStation, firings, outlet_at}
use Rattle.station_step.specs.Kept.{saturating, date_asked, date_for, token_for}
use Rattle.station_step.specs.Step.{IsReady}
use Rattle.line_worker.specs.Grown.{log_in, made_at, tokens_put, token_on, HasGrown}
use Rattle.line_worker.specs.Share.{first_of}
use Rattle.line_worker.specs.Team.{WorkTeam, IsMember}
use Rattle.line_worker.specs.Teams.{owner_of, station_of, shelf_of, index_in, input_on, outlet_on, outlet_initial, outlet_tokens, AreTeams, AreAllMet, place_of, state_among}
use Rattle.line_worker.proofs.Share.{first-le, next-above, worker_number-below}
use Rattle.line_worker.proofs.Places.{index_in-at, distinct-ins, distinct-outs, in-stands, out-stands}
use Rattle.line_worker.proofs.Grown.{grown_is_reached, tokens_put-held}

-- ---- dates

date_for-same : (g : Parts) (t job : ℕ) (f h : ℕ → ℕ) → ((k : ℕ) → k < length (ins g t) → f k ≡ h k) → date_for g t job f ≡ date_for g t job h
unfolding date_for
date_for-same g t job f h same =
    ap (λ date. cond (eqb t 0) (demand g job) date) (
    greatest-same
    (date_asked g t job f)
    (date_asked g t job h)
    (range_with_len 0 (length (ins g t)))
    (λ i d low.
    let many = length-range_with_len 0 (length (ins g t)) in
    let k = get_or (range_with_len 0 (length (ins g t))) i d in
    let is_i : k ≡ i = get_or-range_with_len 0 (length (ins g t)) i d (omega arith) ∙ zero-add i in
    ap (λ token. saturating token (work g (get_or (ins g t) k 0) job)) (same k (omega arith))))

-- ---- the tokens of an outlet

outlet_tokens-is : (shelf : List PlainQueue) (o : Outlet) → outlet_tokens shelf o ≡ outlet_initial shelf o ++ outlet_added shelf o
outlet_tokens-is shelf (outlet.Ring put) = refl
outlet_tokens-is shelf (outlet.Room put) = refl
outlet_tokens-is shelf (outlet.Local q) = refl

-- ---- all teams

module _ (g : Parts) (begun : State) (teams : List WorkTeam) (sound : IsGraph g) (some : 1 ≤ stations g) (are : AreTeams g begun teams) where
  pub member_is : (t : ℕ) → t < stations g → IsMember g begun t (shelf_of g teams t) (station_of g teams t)
  member_is t there =
      let w = owner_of g teams t in
      let first = first_of (length teams) (stations g) w in
      let low = first-le (length teams) (stations g) are.some some t in
      let high = next-above (length teams) (stations g) are.some some t in
      let w_there = worker_number-below (length teams) (stations g) are.some some t there in
      let at : first + (t - first) ≡ t = omega arith in
      subst
      (λ u. IsMember g begun u (shelf_of g teams t) (station_of g teams t))
      at
      ((are.each w w_there).members (t - first) (omega (arith, are.sizes w w_there)))

  abbrev pub logs_of : List (List ℕ)
  logs_of = (state_among g teams).logs

  pub log-among : (t : ℕ) → t < stations g → log_in (state_among g teams).logs t ≡ (station_of g teams t).log.dates
  unfolding state_among
  log-among t there = get_or-map-range_with_len (λ u. (station_of g teams u).log.dates) 0 (stations g) t t [] there (zero-add t)

  pub place-among : (a : ℕ) → a < arc_count g → place (state_among g teams) a ≡ place_of g teams a
  unfolding state_among
  place-among a there = get_or-map-range_with_len (place_of g teams) 0 (arc_count g) a a [] there (zero-add a)

  -- station t has as many things as a count of the graph says of its own number
  many_at : (count : WorkStation → ℕ) (lists : Parts → ℕ → List ℕ) (t : ℕ) → t < stations g → (let s = station_of g teams t in count s ≡ length (lists s.graph s.number)) → count (station_of g teams t) ≡ length (lists g t)
  many_at count lists t there many =
      let m = member_is t there in
      let s = station_of g teams t in
      many ∙ ap (λ gr. length (lists gr s.number)) m.graph ∙ ap (λ n. length (lists g n)) m.number

  -- each arc has its input and its outlet
  pub inputs-many : (t : ℕ) → t < stations g → length (station_of g teams t).inputs ≡ length (ins g t)
  inputs-many t there = many_at (λ s. length s.inputs) ins t there (member_is t there).station.an_input_each

  pub outlets-many : (t : ℕ) → t < stations g → length (station_of g teams t).outlets ≡ length (outs g t)
  outlets-many t there = many_at (λ s. length s.outlets) outs t there (member_is t there).station.an_outlet_each

  -- the hand of each input
  pub input_held : (a : ℕ) → a < arc_count g → IsHeld (shelf_of g teams (arc g a).to) (firings (station_of g teams (arc g a).to)) (input_on g teams a)
  input_held a listed =
      let m = member_is (arc g a).to (sound.ends_exist a listed) in
      let in_there = in-stands g a listed in
      let many = inputs-many (arc g a).to (sound.ends_exist a listed) in
      m.kept.held (index_in (ins g (arc g a).to) a) (omega (arith, many, in_there.low))

  pub put_is : (a : ℕ) → a < arc_count g → outlet_tokens (shelf_of g teams (arc g a).from) (outlet_on g teams a) ≡ tokens_put g begun (state_among g teams).logs a
  unfolding tokens_put
  put_is a listed =
      let from = (arc g a).from in
      let there = sound.starts_exist a listed in
      let m = member_is from there in
      let s = station_of g teams from in
      let out_there = out-stands g a listed in
      let p = index_in (outs g from) a in
      let many = outlets-many from there in
      let Added : Parts → ℕ → ℕ → List ℕ =
      λ gr n made. map (λ date. saturating date (delay gr (get_or (outs gr n) p 0))) (drop made s.log.dates) in
      let added : outlet_added (shelf_of g teams from) (outlet_on g teams a) ≡ map (λ date. saturating date (delay g a)) (drop (made_at begun from) (log_in (state_among g teams).logs from)) =
      m.kept.added p (omega (arith, many, out_there.low))
      ∙ ap (λ gr. Added gr s.number s.made) m.graph
      ∙ ap (λ n. Added g n s.made) m.number
      ∙ ap (Added g from) m.made
      ∙ ap (λ b. map (λ date. saturating date (delay g b)) (drop (made_at begun from) s.log.dates)) out_there.at
      ∙ ap (λ l. map (λ date. saturating date (delay g a)) (drop (made_at begun from) l)) (sym (log-among from there)) in
      outlet_tokens-is (shelf_of g teams from) (outlet_on g teams a)
      ∙ ap (λ l. l ++ outlet_added (shelf_of g teams from) (outlet_on g teams a)) (are.joined a listed).initial
      ∙ ap (λ l. place begun a ++ l) added

  -- what a station has on the k-th arc of a list of its arcs stands at place k
  on_at : {X : Type 0} (has : WorkStation → ℕ → X) (lists : ℕ → List ℕ) (t u k : ℕ) → u ≡ t → k < length (lists t) → AllPairs (λ x y. x ≢ y) (lists t) → has (station_of g teams u) (index_in (lists u) (get_or (lists t) k 0)) ≡ has (station_of g teams t) k
  on_at has lists t u k at low distinct =
      ap (λ v. has (station_of g teams v) (index_in (lists v) (get_or (lists t) k 0))) at
      ∙ ap (has (station_of g teams t)) (index_in-at (lists t) k (get_or (lists t) k 0) distinct low refl)

  -- the input of a station with this number is that of its arc, and so is the outlet
  pub input_on-is : (t k : ℕ) → k < length (ins g t) → input_on g teams (get_or (ins g t) k 0) ≡ input_at (station_of g teams t).inputs k
  input_on-is t k low =
      on_at (λ s i. input_at s.inputs i) (ins g) t (arc g (get_or (ins g t) k 0)).to k (All-ins g t k 0 low).1 low (distinct-ins g t)

  pub outlet_on-is : (t k : ℕ) → k < length (outs g t) → outlet_on g teams (get_or (outs g t) k 0) ≡ outlet_at (station_of g teams t).outlets k
  outlet_on-is t k low =
      on_at (λ s i. outlet_at s.outlets i) (outs g) t (arc g (get_or (outs g t) k 0)).from k (All-outs g t k 0 low).1 low (distinct-outs g t)

  -- what is on an arc: the token in the hand, and those put and not taken
  pub length-place : (a : ℕ) → a < arc_count g → length (place (state_among g teams) a) ≡ length (option_to_list (input_on g teams a).hand) + (length (outlet_tokens (shelf_of g teams (arc g a).from) (outlet_on g teams a)) - length (inlet_taken (shelf_of g teams (arc g a).to) (input_on g teams a).inlet))
  length-place a listed =
      let input = input_on g teams a in
      let taken = inlet_taken (shelf_of g teams (arc g a).to) input.inlet in
      let tokens = outlet_tokens (shelf_of g teams (arc g a).from) (outlet_on g teams a) in
      ap length (place-among a listed)
      ∙ length-append (option_to_list input.hand) (drop (length taken) tokens)
      ∙ ap (λ n. length (option_to_list input.hand) + n) (length-drop (length taken) tokens)

  module _ (met : AreAllMet g teams) where
    -- what was taken are the first tokens that were put
    taken_are_first : (a n : ℕ) → a < arc_count g → n < length (inlet_taken (shelf_of g teams (arc g a).to) (input_on g teams a).inlet) → get_or (inlet_taken (shelf_of g teams (arc g a).to) (input_on g teams a).inlet) n 0 ≡ get_or (tokens_put g begun (state_among g teams).logs a) n 0
    taken_are_first a n listed low =
        let taken = inlet_taken (shelf_of g teams (arc g a).to) (input_on g teams a).inlet in
        let known = (met a listed).in_order.0 in
        sym (get_or_append_left taken known 0 n low) ∙ ap (λ l. get_or l n 0) ((met a listed).in_order.1 ∙ put_is a listed)

    pub taken-le : (a : ℕ) → a < arc_count g → length (inlet_taken (shelf_of g teams (arc g a).to) (input_on g teams a).inlet) ≤ length (tokens_put g begun (state_among g teams).logs a)
    taken-le a listed =
        let taken = inlet_taken (shelf_of g teams (arc g a).to) (input_on g teams a).inlet in
        let known = (met a listed).in_order.0 in
        omega (arith, length-append taken known, ap length ((met a listed).in_order.1 ∙ put_is a listed))

    date-among : (t n : ℕ) → t < stations g → made_at begun t + n < length (log_in (state_among g teams).logs t) → get_or (log_in (state_among g teams).logs t) (made_at begun t + n) 0 ≡ date_for g t (made_at begun t + n + 1) (token_on g (tokens_put g begun (state_among g teams).logs) t n)
    date-among t n there low =
        let m = member_is t there in
        let s = station_of g teams t in
        let shelf = shelf_of g teams t in
        let dates = log-among t there in
        let fired : n < firings s = omega (arith, low, ap length dates, m.made) in
        let Date : Parts → ℕ → ℕ → ℕ = λ gr u made. date_for gr u (made + n + 1) (token_for shelf s n) in
        ap (λ l. get_or l (made_at begun t + n) 0) dates
        ∙ ap (λ k. get_or s.log.dates (k + n) 0) (sym m.made)
        ∙ m.kept.dates n fired
        ∙ ap (λ gr. Date gr s.number s.made) m.graph
        ∙ ap (λ u. Date g u s.made) m.number
        ∙ ap (Date g t) m.made
        ∙ date_for-same g t (made_at begun t + n + 1) (token_for shelf s n) (token_on g (tokens_put g begun (state_among g teams).logs) t n)
        (λ k within.
        let a = get_or (ins g t) k 0 in
        let at = All-ins g t k 0 within in
        let same = input_on-is t k within in
        let held = input_held a at.0 in
        let enough : n < length (inlet_taken (shelf_of g teams (arc g a).to) (input_on g teams a).inlet) =
        omega (arith, held.enough, ap (λ u. firings (station_of g teams u)) at.1, fired) in
        ap (λ u. get_or (inlet_taken (shelf_of g teams u) (input_at s.inputs k).inlet) n 0) (sym at.1)
        ∙ ap (λ i. get_or (inlet_taken (shelf_of g teams (arc g a).to) i.inlet) n 0) (sym same)
        ∙ taken_are_first a n at.0 enough)

    has_grown : HasGrown g begun (state_among g teams).logs
    unfolding state_among
    has_grown = record {
      a_log_each = length-map-range_with_len (λ u. (station_of g teams u).log.dates) 0 (stations g);
      few_dates = λ t there.
          let m = member_is t there in
          omega (arith, m.station.few_dates, ap length (log-among t there), ap jobs m.graph);
      kept = λ t there.
          let m = member_is t there in
          ap (take (made_at begun t)) (log-among t there)
          ∙ ap (λ n. take n (station_of g teams t).log.dates) (sym m.made)
          ∙ m.begins;
      tokens_suffice = λ a listed.
          let to = (arc g a).to in
          let there = sound.ends_exist a listed in
          let m = member_is to there in
          omega (arith, (input_held a listed).enough, taken-le a listed, ap length (log-among to there), m.made);
      dates = date-among;
    }

    -- where what the line began with was reached, so is what it stands for
    module _ (places : List ℕ) (ranked : IsRanked (record { graph = g; ranks = places })) (reached : Reached g begun) where
      place-is : (a : ℕ) → a < arc_count g → place_of g teams a ≡ tokens_left g (state_among g teams).logs a
      place-is a listed =
          let to = (arc g a).to in
          let there = sound.ends_exist a listed in
          let m = member_is to there in
          let s = station_of g teams to in
          let input = input_on g teams a in
          let taken = inlet_taken (shelf_of g teams to) input.inlet in
          let known = (met a listed).in_order.0 in
          let held = input_held a listed in
          let live : LiveGraph = record { graph = g; ranks = places } in
          let put = (met a listed).in_order.1 ∙ put_is a listed in
          let logs = (state_among g teams).logs in
          ap (λ l. option_to_list input.hand ++ drop (length taken) l) (sym (met a listed).in_order.1)
          ∙ ap (λ l. option_to_list input.hand ++ l) (drop-append_seam taken known)
          ∙ ap (λ l. l ++ known) (sym held.rest)
          ∙ sym (drop-append-le (firings s) taken known held.enough)
          ∙ ap (drop (firings s)) (put ∙ tokens_put-held live begun logs ranked reached has_grown a listed)
          ∙ drop-drop (firings s) (made_at begun to) (all_tokens g logs a)
          ∙ ap (λ n. drop n (all_tokens g logs a)) (omega (arith, m.made, m.station.made, ap length (log-among to there)))

      pub state_among-is : state_among g teams ≡ state_of g (state_among g teams).logs
      unfolding state_among state_of
      state_among-is =
          let logs = (state_among g teams).logs in
          ap (λ places. record { logs = logs; places = places }) (
          fill_by_all
          (tokens_left g logs)
          (map (place_of g teams) (range_with_len 0 (arc_count g)))
          (arc_count g)
          []
          (length-map-range_with_len (place_of g teams) 0 (arc_count g))
          (λ a listed. place-among a listed ∙ place-is a listed))

      pub stands_for_reached : Reached g (state_among g teams)
      stands_for_reached =
          let live : LiveGraph = record { graph = g; ranks = places } in
          subst (Reached g) (sym state_among-is) (grown_is_reached live begun (state_among g teams).logs ranked reached has_grown)

    -- what is on an arc is known to the station where it ends
    place-known : (a : ℕ) → a < arc_count g → length (place (state_among g teams) a) ≤ tokens_ahead (shelf_of g teams (arc g a).to) (input_on g teams a)
    place-known a listed = omega (arith, length-place a listed, (met a listed).known)

    -- a station that can fire is ready to, where its outlets have space
    pub can_fire_is_ready : (t : ℕ) → CanFire g (state_among g teams) t → ((k : ℕ) → k < length (station_of g teams t).outlets → HasSpace (outlet_at (station_of g teams t).outlets k)) → IsReady (shelf_of g teams t) (station_of g teams t)
    can_fire_is_ready t can space =
        let m = member_is t can.exists in
        let s = station_of g teams t in
        record {
          more = omega (arith, can.more, ap length (log-among t can.exists), ap jobs m.graph);
          tokens = λ k low.
              let many = inputs-many t can.exists in
              let within : k < length (ins g t) = omega (arith, low, many) in
              let a = get_or (ins g t) k 0 in
              let at = All-ins g t k 0 within in
              let here = ap (λ i. tokens_ahead (shelf_of g teams (arc g a).to) i) (input_on-is t k within) ∙ ap (λ u. tokens_ahead (shelf_of g teams u) (input_at s.inputs k)) at.1 in
              omega (arith, can.tokens a at.0 at.1, place-known a at.0, here);
          space = space;
        }
