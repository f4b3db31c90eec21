-- A list in two parts, an element of each of which was changed, and a meeting over the two.
use Rattle.std.proofs.Common.{◌≡◌, ◌≢◌, ℕ, ◌-◌, ◌<◌, List, ◌++◌, length, get_or, set, ap, ◌∙◌, sym, subst, arith, length-append}
use Rattle.std.proofs.lemmas.List.{length-set, set-append_left, set-append_right, get_or_append_left, get_or-append_right, get_or_default, get_or-set_same, get_or-set_other}
use Rattle.station_step.specs.Ends.{AreEnds, AreMet}
use Rattle.station_step.specs.Input.{input_at}
use Rattle.station_step.specs.Station.{outlet_at}
use Rattle.line_workers.specs.declared.link.Link.{Link}
use Rattle.line_worker.specs.Team.{member}
use Rattle.line_worker.specs.Worker.{LineWorker}
use Rattle.line_worker.specs.Workers.{worker_at, no_worker, IsSameWorker}
use Rattle.line_worker.specs.Meeting.{OutletMet, InletMet}
use Rattle.line_workers.specs.Link.{IsRing, HaveMet}

-- one change at the front of the second part, after one in the first
changed_behind : (xs low high : List LineWorker) (m f : ℕ) (v u : LineWorker) → xs ≡ low ++ high → length low ≡ m → f < length low → set low f v ++ set high 0 u ≡ set (set xs f v) m u
changed_behind xs low high m f v u parts many there =
    ap (λ i. set low f v ++ set high i u) (let zero : 0 ≡ m - m = omega arith in zero)
    ∙ sym (set-append_right (set low f v) high m m u (length-set low f v ∙ many) (omega arith))
    ∙ ap (λ l. set l m u) (sym (set-append_left low high f v there) ∙ ap (λ l. set l f v) (sym parts))

-- one change in the first part, after one at the front of the second
changed_before : (xs low high : List LineWorker) (m t : ℕ) (v u : LineWorker) → xs ≡ low ++ high → length low ≡ m → t < length low → set low t u ++ set high 0 v ≡ set (set xs m v) t u
changed_before xs low high m t v u parts many there =
    sym (set-append_left low (set high 0 v) t u there)
    ∙ ap (λ i. set (low ++ set high i v) t u) (let zero : 0 ≡ m - m = omega arith in zero)
    ∙ ap (λ l. set l t u) (sym (set-append_right low high m m v many (omega arith)) ∙ ap (λ l. set l m v) (sym parts))

front_of_second : (xs low high : List LineWorker) (m : ℕ) (d : LineWorker) → xs ≡ low ++ high → length low ≡ m → get_or xs m d ≡ get_or high 0 d
front_of_second xs low high m d parts many =
    ap (λ l. get_or l m d) parts
    ∙ get_or-append_right low high m m d many (omega arith)
    ∙ ap (λ i. get_or high i d) (let zero : m - m ≡ 0 = omega arith in zero)

of_first : (xs low high : List LineWorker) (t : ℕ) (d : LineWorker) → xs ≡ low ++ high → t < length low → get_or xs t d ≡ get_or low t d
of_first xs low high t d parts there = ap (λ l. get_or l t d) parts ∙ get_or_append_left low high d t there

-- f was the worker that puts, t the one that takes, and v and u are these now
have_met : (workers new : List LineWorker) (link : Link) (f t v u : LineWorker) → link.from.worker_number ≢ link.to.worker_number → link.from.worker_number < length workers → link.to.worker_number < length workers → new ≡ set (set workers link.from.worker_number v) link.to.worker_number u → worker_at workers link.from.worker_number ≡ f → worker_at workers link.to.worker_number ≡ t → IsSameWorker f v → IsSameWorker t u → OutletMet link.from.number link.output f.team v.team → InletMet link.to.number link.input t.team u.team → AreMet (outlet_at (member v.team.stations link.from.number).outlets link.output) (input_at (member u.team.stations link.to.number).inputs link.input).inlet → HaveMet link workers new
have_met workers new link f t v u apart from_there to_there is was_from was_to from_same to_same from_met to_met met =
    let from = link.from.worker_number in
    let to = link.to.worker_number in
    let to_within : to < length (set workers from v) = omega (arith, to_there, length-set workers from v) in
    let at_to : worker_at new to ≡ u = ap (λ l. worker_at l to) is ∙ get_or-set_same (set workers from v) to u no_worker to_within in
    let at_from : worker_at new from ≡ v =
    ap (λ l. worker_at l from) is
    ∙ get_or-set_other (set workers from v) to from u no_worker apart
    ∙ get_or-set_same workers from v no_worker from_there in
    record {
      only = is ∙ ap (λ (x : LineWorker). set (set workers from x) to u) (sym at_from) ∙ ap (set (set workers from (worker_at new from)) to) (sym at_to);
      from_same = subst (λ (x : LineWorker). IsSameWorker x (worker_at new from)) (sym was_from) (subst (IsSameWorker f) (sym at_from) from_same);
      to_same = subst (λ (x : LineWorker). IsSameWorker x (worker_at new to)) (sym was_to) (subst (IsSameWorker t) (sym at_to) to_same);
      from =
          subst (λ (x : LineWorker). OutletMet link.from.number link.output x.team (worker_at new from).team) (sym was_from) (
          subst (λ (x : LineWorker). OutletMet link.from.number link.output f.team x.team) (sym at_from) from_met);
      to =
          subst (λ (x : LineWorker). InletMet link.to.number link.input x.team (worker_at new to).team) (sym was_to) (
          subst (λ (x : LineWorker). InletMet link.to.number link.input t.team x.team) (sym at_to) to_met);
      met =
          subst (λ (x : LineWorker). AreMet (outlet_at (member x.team.stations link.from.number).outlets link.output) (input_at (member (worker_at new to).team.stations link.to.number).inputs link.input).inlet) (sym at_from) (
          subst (λ (x : LineWorker). AreMet (outlet_at (member v.team.stations link.from.number).outlets link.output) (input_at (member x.team.stations link.to.number).inputs link.input).inlet) (sym at_to) met);
    }

-- ---- as the code has it: the workers in two parts, of which the second begins with one of the two that meet

-- a second part that begins below the end of the list is not empty
some-behind : (xs low high : List LineWorker) (m : ℕ) → xs ≡ low ++ high → length low ≡ m → m < length xs → 0 < length high
some-behind xs low high m parts many there = omega (arith, ap length parts, length-append low high, many, there)

module _ (xs low high : List LineWorker) (link : Link) (parts : xs ≡ low ++ high) (ring : IsRing xs link) (f t v u : LineWorker) where
  abbrev from : ℕ
  from = link.from.worker_number

  abbrev to : ℕ
  to = link.to.worker_number

  -- the worker that puts stands in the first part
  pub met_up : length low ≡ link.to.worker_number → link.from.worker_number < link.to.worker_number → IsSameWorker (get_or low link.from.worker_number f) v → IsSameWorker (get_or high 0 t) u → OutletMet link.from.number link.output (get_or low link.from.worker_number f).team v.team → InletMet link.to.number link.input (get_or high 0 t).team u.team → AreMet (outlet_at (member v.team.stations link.from.number).outlets link.output) (input_at (member u.team.stations link.to.number).inputs link.input).inlet → HaveMet link xs (set low link.from.worker_number v ++ set high 0 u)
  met_up many order =
      let some : from < length low = omega (arith, many, order) in
      have_met xs (set low from v ++ set high 0 u) link (get_or low from f) (get_or high 0 t) v u ring.apart ring.from.worker_number ring.to.worker_number
      (changed_behind xs low high to from v u parts many some)
      (of_first xs low high from no_worker parts some ∙ get_or_default low from no_worker f some)
      (front_of_second xs low high to no_worker parts many ∙ get_or_default high 0 no_worker t (some-behind xs low high to parts many ring.to.worker_number))

  -- the worker that takes stands there
  pub met_down : length low ≡ link.from.worker_number → link.to.worker_number < link.from.worker_number → IsSameWorker (get_or high 0 f) v → IsSameWorker (get_or low link.to.worker_number t) u → OutletMet link.from.number link.output (get_or high 0 f).team v.team → InletMet link.to.number link.input (get_or low link.to.worker_number t).team u.team → AreMet (outlet_at (member v.team.stations link.from.number).outlets link.output) (input_at (member u.team.stations link.to.number).inputs link.input).inlet → HaveMet link xs (set low link.to.worker_number u ++ set high 0 v)
  met_down many order =
      let some : to < length low = omega (arith, many, order) in
      have_met xs (set low to u ++ set high 0 v) link (get_or high 0 f) (get_or low to t) v u ring.apart ring.from.worker_number ring.to.worker_number
      (changed_before xs low high from to v u parts many some)
      (front_of_second xs low high from no_worker parts many ∙ get_or_default high 0 no_worker f (some-behind xs low high from parts many ring.from.worker_number))
      (of_first xs low high to no_worker parts some ∙ get_or_default low to no_worker t some)

-- ---- what the meeting of the two asks

-- the ends of a ring stand with these two workers, the one that puts and the one that takes
pub record IsRingOf (link : Link) (f t : LineWorker) : Type 0 where
  pub from : link.from.number < length f.team.stations
  pub output : link.output < length (member f.team.stations link.from.number).outlets
  pub to : link.to.number < length t.team.stations
  pub input : link.input < length (member t.team.stations link.to.number).inputs
  pub ends : AreEnds (outlet_at (member f.team.stations link.from.number).outlets link.output) (input_at (member t.team.stations link.to.number).inputs link.input).inlet

ring_of : (xs : List LineWorker) (link : Link) (f t : LineWorker) → IsRing xs link → worker_at xs link.from.worker_number ≡ f → worker_at xs link.to.worker_number ≡ t → IsRingOf link f t
ring_of xs link f t ring was_from was_to =
    let whole : IsRingOf link (worker_at xs link.from.worker_number) (worker_at xs link.to.worker_number) =
    record { from = ring.from.number; output = ring.output; to = ring.to.number; input = ring.input; ends = ring.ends } in
    subst (IsRingOf link f) was_to (subst (λ (x : LineWorker). IsRingOf link x (worker_at xs link.to.worker_number)) was_from whole)

module _ (xs low high : List LineWorker) (link : Link) (parts : xs ≡ low ++ high) (ring : IsRing xs link) (f t : LineWorker) where
  pub ring_up : length low ≡ link.to.worker_number → link.from.worker_number < link.to.worker_number → IsRingOf link (get_or low link.from.worker_number f) (get_or high 0 t)
  ring_up many order =
      let some : link.from.worker_number < length low = omega (arith, many, order) in
      ring_of xs link (get_or low link.from.worker_number f) (get_or high 0 t) ring
      (of_first xs low high link.from.worker_number no_worker parts some ∙ get_or_default low link.from.worker_number no_worker f some)
      (front_of_second xs low high link.to.worker_number no_worker parts many ∙ get_or_default high 0 no_worker t (some-behind xs low high link.to.worker_number parts many ring.to.worker_number))

  pub ring_down : length low ≡ link.from.worker_number → link.to.worker_number < link.from.worker_number → IsRingOf link (get_or high 0 f) (get_or low link.to.worker_number t)
  ring_down many order =
      let some : link.to.worker_number < length low = omega (arith, many, order) in
      ring_of xs link (get_or high 0 f) (get_or low link.to.worker_number t) ring
      (front_of_second xs low high link.from.worker_number no_worker parts many ∙ get_or_default high 0 no_worker f (some-behind xs low high link.from.worker_number parts many ring.from.worker_number))
      (of_first xs low high link.to.worker_number no_worker parts some ∙ get_or_default low link.to.worker_number no_worker t some)
