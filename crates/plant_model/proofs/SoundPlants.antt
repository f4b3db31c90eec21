-- What soundness says of a plant: of its classes of refusals, of its numbers, of its stages, machines and loops.
use Rattle.std.proofs.Common.{sym, codes, ◌≡◌, ℕ, suc, ◌-◌, ◌*◌, ◌<◌, ◌≤◌, Bool, cond, true, ltb, List, [], ◌∷◌, length, get_or, subst, arith}
use Rattle.std.proofs.lemmas.Bool.{eqb-true, ltb-true, ltb-false, not-false, and_parts}
use Rattle.line_base.specs.declared.limits.TheConstants.{MAX_STAGES, MAX_STATIONS, MAX_DEMANDS, MAX_TABLE, MAX_LOOPS, MAX_OBSERVE, MAX_OBSERVE_DATE, MAX_CARDS, MAX_TIME, MAX_DEMAND_DATE}
use Rattle.line_base.specs.declared.times.Times.{Times}
use Rattle.line_base.specs.declared.times.Times.TheVariants.{Fixed, Each}
use Rattle.plant_model.specs.declared.plant.Policy.{Policy}
use Rattle.plant_model.specs.declared.plant.Policy.TheVariants.{Kanban, Conwip, BaseStock, Extended}
use Rattle.plant_model.specs.Stages.{Stage}
use Rattle.plant_model.specs.declared.plant.CardLoop.{CardLoop}
use Rattle.plant_model.specs.declared.plant.Plant.{Plant}
use Rattle.plant_model.specs.declared.place.FileTable.TheVariants.{InStage, InMachine, InLoop}
use Rattle.plant_model.specs.Place.{key_of}
use Rattle.plant_model.specs.Line.{stock_under, starting, no_stage, no_machine, stage_at, machine_at, station_count, line_cards, is_first, is_downstream, path_stock, stock_between}
use Rattle.plant_model.specs.Refusals.{too_few, above, larger, refusals, parts_refusals, whole_refusals, each, empty, out_of_range, top_out_of_range, stage_out_of_range, loop_out_of_range, machine_out_of_range, times_out_of_range, cards_out_of_range, element_above, times_counts, stage_times_count, machine_times_count, times_count, demand_order, falling_date, too_few_cards, too_few_under, too_few_in_line, too_few_in_stage, too_few_in_loop, loops_not_downstream, not_downstream, is_loop, too_large}
use Rattle.plant_model.specs.Sound.{IsSound}
pub use Rattle.plant_model.specs.Sound.{HasSoundSizes, IsSoundStage, AreSoundTimes, IsSoundMachine, IsSoundLoop}
use Rattle.plant_model.proofs.Soundness.{Parts, IsSound-Parts, FeedsLater-from, last-from}
use Rattle.plant_model.proofs.NoRefusals.{AreNil, AreNil-append, append-nil_left, append-nil_right, five-empty, refuse_if-none, above-none, larger-none, each-none}

-- no class refuses the plant: none of the parts, and none of the whole
pub record PassesAll (p : Plant) : Type 0 where
  pub parts : Parts p
  pub times_counted : times_counts p ≡ []
  pub in_order : demand_order p ≡ []
  pub enough_cards : too_few_cards p ≡ []
  pub loops_downstream : loops_not_downstream p ≡ []
  pub small : too_large p ≡ []

pub PassesAll-sound : (p : Plant) → IsSound p → PassesAll p
unfolding refusals whole_refusals
PassesAll-sound p sound =
    let whole = append-nil_right (parts_refusals p) (whole_refusals p) sound.nothing in
    let q = five-empty (times_counts p) (demand_order p) (too_few_cards p) (loops_not_downstream p) (too_large p) whole in
    record {
      parts = IsSound-Parts sound;
      times_counted = q.0;
      in_order = q.1;
      enough_cards = q.2;
      loops_downstream = q.3;
      small = q.4;
    }

-- no number at the top of a plant is out of its range
abbrev pub IsTopInRange : Plant → Type 0
IsTopInRange p =
    AreNil
    (above (codes "card_time") MAX_TIME p.card_time)
    (cards_out_of_range p.policy)
    (empty (codes "demands") p.demands)
    (each (element_above (codes "demands") MAX_DEMAND_DATE) p.demands)
    (each (element_above (codes "observe") MAX_OBSERVE_DATE) p.observe)
    (empty (codes "stage") p.stages)

pub top-in_range : (p : Plant) → out_of_range p ≡ [] → IsTopInRange p
top-in_range p none = AreNil-append _ _ _ _ _ _ (append-nil_left (top_out_of_range p) _ none)

-- no number of stage i, s, is out of its range
abbrev pub IsStageInRange : ℕ → Stage → Type 0
IsStageInRange i s =
    AreNil
    (above (key_of (InStage i) (codes "card_time")) MAX_TIME s.card_time)
    (above (key_of (InStage i) (codes "cards")) MAX_CARDS s.cards)
    (empty (key_of (InStage i) (codes "machine")) s.machines)
    (above (key_of (InStage i) (codes "stock")) MAX_CARDS s.stock)
    (above (key_of (InStage i) (codes "travel")) MAX_TIME s.travel)
    (each (machine_out_of_range i) s.machines)

pub stage_in_range-from : (i : ℕ) (s : Stage) → stage_out_of_range i s ≡ [] → IsStageInRange i s
stage_in_range-from i s none = AreNil-append _ _ _ _ _ _ none

stage-in_range : (p : Plant) (i : ℕ) → PassesAll p → i < length p.stages → IsStageInRange i (stage_at p i)
stage-in_range p i passes below =
    let stages = append-nil_left (each stage_out_of_range p.stages) _ (append-nil_right (top_out_of_range p) _ passes.parts.in_range) in
    stage_in_range-from i (stage_at p i) (each-none stage_out_of_range p.stages i no_stage below stages)

-- what isn't refused as empty has an element
empty-none : {X : Type 0} (place : List ℕ) (xs : List X) → empty place xs ≡ [] → 1 ≤ length xs
empty-none place [] h = cc
empty-none place (x ∷ xs) h = omega arith

line_cards-in_range : (policy : Policy) → cards_out_of_range policy ≡ [] → line_cards policy ≤ MAX_CARDS
line_cards-in_range Kanban h = omega arith
line_cards-in_range (Conwip cards) h = above-none _ MAX_CARDS cards h
line_cards-in_range BaseStock h = omega arith
line_cards-in_range Extended h = omega arith

-- no date is less than the one before
ordered : (dates : List ℕ) (k : ℕ) → suc k < length dates → each (falling_date dates) dates ≡ [] → get_or dates k 0 ≤ get_or dates (suc k) 0
ordered dates k below h =
    let falls = each-none (falling_date dates) dates (suc k) 0 below h in
    let le = ltb-false (get_or dates (suc k) 0) (get_or dates (suc k - 1) 0) (refuse_if-none _ _ falls) in
    let e : suc k - 1 ≡ k = omega arith in
    subst (λ (j : ℕ). get_or dates j 0 ≤ get_or dates (suc k) 0) e le

pub HasSoundSizes-sound : (p : Plant) → IsSound p → HasSoundSizes p
HasSoundSizes-sound p sound =
    let passes = PassesAll-sound p sound in
    let top = top-in_range p passes.parts.in_range in
    let small =
    AreNil-append
    (larger (codes "stages") MAX_STAGES (length p.stages))
    (larger (codes "stations") MAX_STATIONS (station_count p))
    (larger (codes "demands") MAX_DEMANDS (length p.demands))
    (larger (codes "table") MAX_TABLE (station_count p * length p.demands))
    (larger (codes "loops") MAX_LOOPS (length p.loops))
    (larger (codes "observe") MAX_OBSERVE (length p.observe))
    passes.small
    in
    record {
      some_stage = empty-none _ p.stages top.sixth;
      few_stages = larger-none _ MAX_STAGES (length p.stages) small.first;
      few_stations = larger-none _ MAX_STATIONS (station_count p) small.second;
      some_demand = empty-none _ p.demands top.third;
      few_demands = larger-none _ MAX_DEMANDS (length p.demands) small.third;
      small_table = larger-none _ MAX_TABLE (station_count p * length p.demands) small.fourth;
      few_observed = larger-none _ MAX_OBSERVE (length p.observe) small.sixth;
      few_loops = larger-none _ MAX_LOOPS (length p.loops) small.fifth;
      short_card_time = above-none _ MAX_TIME p.card_time top.first;
      few_line_cards = line_cards-in_range p.policy top.second;
      early_demands =
          λ k below. above-none _ MAX_DEMAND_DATE (get_or p.demands k 0) (each-none (element_above (codes "demands") MAX_DEMAND_DATE) p.demands k 0 below top.fourth);
      early_observed =
          λ k below. above-none _ MAX_OBSERVE_DATE (get_or p.observe k 0) (each-none (element_above (codes "observe") MAX_OBSERVE_DATE) p.observe k 0 below top.fifth);
      ordered_demands = λ k below. ordered p.demands k below passes.in_order;
    }

-- under extended kanban a stage's stock has a card each
enough : (p : Plant) (i : ℕ) → i < length p.stages → too_few_under p p.policy ≡ [] → p.policy ≡ Extended → (stage_at p i).stock ≤ (stage_at p i).cards
enough p i below h is =
    let all = subst (λ (policy : Policy). too_few_under p policy ≡ []) is h in
    ltb-false _ _ (refuse_if-none _ _ (each-none too_few_in_stage p.stages i _ below all))

pub IsSoundStage-sound : (p : Plant) (i : ℕ) → IsSound p → i < length p.stages → IsSoundStage p i
IsSoundStage-sound p i sound below =
    let passes = PassesAll-sound p sound in
    let s = stage_at p i in
    let tree = FeedsLater-from p passes.parts.later in
    let range = stage-in_range p i passes below in
    record {
      few_cards = above-none _ MAX_CARDS s.cards range.second;
      little_stock = above-none _ MAX_CARDS s.stock range.fourth;
      short_travel = above-none _ MAX_TIME s.travel range.fifth;
      short_card_time = above-none _ MAX_TIME s.card_time range.first;
      some_machine = empty-none _ s.machines range.third;
      feeds_later = λ j is. (tree.later i j below is, tree.exists i j below is);
      last_is_final = λ is. last-from p i passes.parts.one_final below is;
      stock_has_cards = λ is. enough p i below (append-nil_left (too_few_under p p.policy) _ passes.enough_cards) is;
    }

-- no time of a list is above the limit
AreSoundTimes-in_range : (jobs i j : ℕ) (times : Times) → times_out_of_range (InMachine i j) times ≡ [] → times_count jobs (InMachine i j) times ≡ [] → AreSoundTimes jobs times
AreSoundTimes-in_range jobs i j (Fixed time) h count = above-none _ MAX_TIME time h
AreSoundTimes-in_range jobs i j (Each times) h count = (
  eqb-true (length times) jobs (not-false _ (refuse_if-none _ _ count)),
  λ k below. above-none _ MAX_TIME (get_or times k 0) (each-none (element_above (key_of (InMachine i j) (codes "times")) MAX_TIME) times k 0 below h),
)

pub IsSoundMachine-sound : (p : Plant) (i j : ℕ) → IsSound p → i < length p.stages → j < length (stage_at p i).machines → IsSoundMachine p i j
IsSoundMachine-sound p i j sound below inside =
    let passes = PassesAll-sound p sound in
    let jobs = length p.demands in
    let s = stage_at p i in
    let m = machine_at p i j in
    let range = stage-in_range p i passes below in
    let machine = each-none (machine_out_of_range i) s.machines j no_machine inside range.sixth in
    let servers = above (key_of (InMachine i j) (codes "servers")) MAX_CARDS m.servers in
    let counts = each-none (stage_times_count jobs) p.stages i no_stage below passes.times_counted in
    let count = each-none (machine_times_count jobs i) s.machines j no_machine inside counts in
    record {
      few_servers = above-none _ MAX_CARDS m.servers (append-nil_left servers _ machine);
      short_times = AreSoundTimes-in_range jobs i j m.times (append-nil_right servers _ machine) count;
    }

-- the stock of a loop that is one has a card each
loop_enough : (p : Plant) (k : ℕ) (l : CardLoop) → is_loop p l ≡ true → too_few_in_loop p k l ≡ [] → stock_between p l.first l.last ≤ l.cards
loop_enough p k l is h =
    let refused = subst (λ (b : Bool). cond b (too_few (key_of (InLoop k) (codes "cards")) l.cards (stock_between p l.first l.last)) [] ≡ []) is h in
    ltb-false _ _ (refuse_if-none _ _ refused)

pub IsSoundLoop-sound : (p : Plant) (k : ℕ) (d : CardLoop) → IsSound p → k < length p.loops → IsSoundLoop p (get_or p.loops k d)
IsSoundLoop-sound p k d sound below =
    let passes = PassesAll-sound p sound in
    let l = get_or p.loops k d in
    let loops = append-nil_right (each stage_out_of_range p.stages) _ (append-nil_right (top_out_of_range p) _ passes.parts.in_range) in
    let range = each-none loop_out_of_range p.loops k d below loops in
    let time = above (key_of (InLoop k) (codes "card_time")) MAX_TIME l.card_time in
    let is = not-false (is_loop p l) (refuse_if-none _ _ (each-none (not_downstream p) p.loops k d below passes.loops_downstream)) in
    let both = and_parts (ltb l.first (length p.stages)) (is_downstream p l.first l.last) is in
    let cards = each-none (too_few_in_loop p) p.loops k d below (append-nil_right (too_few_under p p.policy) _ passes.enough_cards) in
    record {
      first_exists = ltb-true l.first (length p.stages) both.0;
      goes_downstream = both.1;
      stock_has_cards = loop_enough p k l is cards;
      few_cards = above-none _ MAX_CARDS l.cards (append-nil_right time _ range);
      short_card_time = above-none _ MAX_TIME l.card_time (append-nil_left time _ range);
    }

-- under CONWIP the stock on the path of a first stage has a card each
line_enough : (p : Plant) (i : ℕ) (policy : Policy) (cards : ℕ) → i < length p.stages → is_first p i ≡ true → policy ≡ Conwip cards → too_few_under p policy ≡ [] → path_stock p i ≤ cards
line_enough p i policy cards below first is h =
    let all = subst (λ (q : Policy). too_few_under p q ≡ []) is h in
    let here = each-none (too_few_in_line p cards) p.stages i no_stage below all in
    let refused = subst (λ (b : Bool). cond b (too_few (codes "cards") cards (path_stock p i)) [] ≡ []) first here in
    ltb-false _ _ (refuse_if-none _ _ refused)

pub path_stock-has_cards : (p : Plant) (i cards : ℕ) → IsSound p → p.policy ≡ Conwip cards → i < length p.stages → is_first p i ≡ true → path_stock p i ≤ cards
path_stock-has_cards p i cards sound is below first =
    line_enough p i p.policy cards below first is (append-nil_left (too_few_under p p.policy) _ (PassesAll-sound p sound).enough_cards)

-- under extended kanban a stage's starting stock has a card each
pub starting-has_cards : (p : Plant) (i : ℕ) → IsSound p → p.policy ≡ Extended → i < length p.stages → starting p i ≤ (stage_at p i).cards
starting-has_cards p i sound is below =
    let least = (IsSoundStage-sound p i sound below).stock_has_cards is in
    subst (λ (policy : Policy). stock_under policy (stage_at p i) ≤ (stage_at p i).cards) (sym is) least

-- a loop's first and last stage exist, and the stock of its stages has a card each
pub loop-exists : (p : Plant) (k : ℕ) (l : CardLoop) → IsSound p → k < length p.loops → l ≡ get_or p.loops k l → IsSoundLoop p l
loop-exists p k l sound below is = subst (IsSoundLoop p) (sym is) (IsSoundLoop-sound p k l sound below)
