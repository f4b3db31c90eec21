-- Going over the stations of a team in an order that lists each once.
use Rattle.std.proofs.Common.{◌≡◌, ◌≢◌, ℕ, ◌+◌, ◌<◌, ◌≤◌, ◌^◌, ◌⊎◌, eqb, inl, inr, List, [], ◌∷◌, ◌++◌, take, length, get_or, refl, ap, ◌∙◌, sym, subst, arith, ⊎_elim}
use Rattle.std.specs.List.{AllPairs}
use Rattle.std.proofs.lemmas.Bool.{cases_lt, cases_eq, eqb-true}
use Rattle.std.proofs.lemmas.List.{get_or_default, get_or-set_other, length-set, take_all, take_more}
use Rattle.std.proofs.lemmas.List.Sums.{passes_at_first}
use Rattle.station_step.specs.Station.{WorkStation}
use Rattle.station_step.specs.Step.{IsReady}
use Rattle.line_worker.specs.Team.{WorkTeam, member, no_station}
use Rattle.line_worker.specs.Teams.{index_in}
use Rattle.line_worker.specs.Worker.{IsOrder}
use Rattle.line_worker.specs.Work.{dates_of, HasWorked, SteppedAt, SteppedInOrder, IsSweeping, HasSwept, TurnsBelow}
use Rattle.line_worker.proofs.Places.{index_in-at}
use Rattle.line_worker.proofs.WorkedTeams.{idle_team, then_worked, then_shelf}

module _ (ranks : List ℕ) (first count : ℕ) (order : List ℕ) (is : IsOrder ranks first count order) where
  distinct-order : AllPairs (λ x y. x ≢ y) order
  distinct-order p q d before low same =
      let rises = is.rises p q before low in
      let p_is = get_or_default order p d 0 (omega arith) in
      let q_is = get_or_default order q d 0 low in
      omega (arith, rises, ap (λ i. get_or ranks (first + i) 0) (sym p_is ∙ same ∙ q_is))

  -- the place of the station at p is p
  pub place-of_listed : (p : ℕ) → p < length order → index_in order (get_or order p 0) ≡ p
  place-of_listed p low = index_in-at order p (get_or order p 0) distinct-order low refl

  -- at the place of a station stands that station
  pub listed-at_place : (i : ℕ) → i < count → get_or order (index_in order i) 0 ≡ i
  listed-at_place i low = eqb-true _ i (passes_at_first (λ x. eqb x i) order 0 (is.listed i low))

-- one more turn, after those in this order
stepped_more : (order : List ℕ) (i : ℕ) (old now next : WorkTeam) → SteppedInOrder order old now → SteppedAt i now next → SteppedInOrder (order ++ i ∷ []) old next
stepped_more [] i old now next same stepped = (next, (subst (λ (team : WorkTeam). SteppedAt i team next) same stepped, refl))
stepped_more (first ∷ order) i old now next (then, (turn, rest)) stepped =
    (then, (turn, stepped_more order i then now next rest stepped))

-- after the stations before place p comes the one at p
pub stepped_next : (order : List ℕ) (p : ℕ) → p < length order → (old now next : WorkTeam) → SteppedInOrder (take p order) old now → SteppedAt (get_or order p 0) now next → SteppedInOrder (take (p + 1) order) old next
stepped_next order p low old now next so_far stepped =
    subst (λ listed. SteppedInOrder listed old next) (sym (take_more order p 0 low)) (
    stepped_more (take p order) (get_or order p 0) old now next so_far stepped)

-- and at the end all have made their turn
pub stepped_all : (order : List ℕ) (p : ℕ) → p ≡ length order → (old now : WorkTeam) → SteppedInOrder (take p order) old now → SteppedInOrder order old now
stepped_all order p done old now so_far =
    subst (λ listed. SteppedInOrder listed old now) (take_all p order (omega (arith, done))) so_far

pub sweeping_begins : (order : List ℕ) (team : WorkTeam) → IsSweeping order team team 0
sweeping_begins order team = record {
  worked = idle_team team;
  turned = λ i low early. absurd (omega arith);
  fired = λ i low early ready. absurd (omega arith);
  waiting = λ i low late. refl;
  ready = λ i low late ready. ready;
}

module _ (ranks : List ℕ) (first : ℕ) (order : List ℕ) (old now next : WorkTeam) (p : ℕ) (is : IsOrder ranks first (length old.stations) order) (so_far : IsSweeping order old now p) (low : p < length order) (stepped : SteppedAt (get_or order p 0) now next) where
  abbrev i : ℕ
  i = get_or order p 0

  there : i < length old.stations
  there = is.exists p low

  there_now : i < length now.stations
  there_now = omega (arith, there, so_far.worked.count)

  same-next : (j : ℕ) → j ≢ i → member next.stations j ≡ member now.stations j
  same-next j apart =
      ap (λ (l : List WorkStation). member l j) stepped.only
      ∙ get_or-set_other now.stations i j (member next.stations i) no_station apart

  -- the station at p waited so far
  waited : member now.stations i ≡ member old.stations i
  waited = so_far.waiting i there (omega (arith, place-of_listed ranks first (length old.stations) order is p low))

  was_ready : IsReady old.shelf (member old.stations i) → IsReady now.shelf (member now.stations i)
  was_ready ready =
      subst (IsReady now.shelf) (sym waited) (
      so_far.ready i there (omega (arith, place-of_listed ranks first (length old.stations) order is p low)) ready)

  -- a station that comes up to place p is the one there, or came before
  before_or_here : (j : ℕ) → j < length old.stations → index_in order j < p + 1 → (index_in order j < p) ⊎ (j ≡ i)
  before_or_here j low_j early =
      ⊎_elim
      (λ before. inl before)
      (λ late.
      let at : index_in order j ≡ p = omega arith in
      inr (sym (listed-at_place ranks first (length old.stations) order is j low_j) ∙ ap (λ k. get_or order k 0) at))
      (cases_lt (index_in order j) p)

  apart-before : (j : ℕ) → index_in order j < p → j ≢ i
  apart-before j before same =
      omega (arith, before, ap (index_in order) same, place-of_listed ranks first (length old.stations) order is p low)

  apart-after : (j : ℕ) → p + 1 ≤ index_in order j → j ≢ i
  apart-after j after same =
      omega (arith, after, ap (index_in order) same, place-of_listed ranks first (length old.stations) order is p low)

  pub sweeping_goes_on : IsSweeping order old next (p + 1)
  sweeping_goes_on =
      let Worked : ℕ → Type 0 = λ j. HasWorked (member old.stations j) (member next.stations j) in
      let many : length next.stations ≡ length old.stations =
      ap (λ (l : List WorkStation). length l) stepped.only ∙ length-set now.stations i (member next.stations i) ∙ so_far.worked.count in
      record {
        worked = record {
          count = many;
          shelf = then_shelf old.shelf now.shelf next.shelf so_far.worked.shelf stepped.shelf;
          each = λ j low_j.
              ⊎_elim
              (λ same.
              subst Worked (sym same) (
              then_worked (member old.stations i) (member now.stations i) (member next.stations i) (so_far.worked.each i there) stepped.worked))
              (λ apart.
              subst (HasWorked (member old.stations j)) (sym (same-next j apart)) (so_far.worked.each j low_j))
              (cases_eq j i);
        };
        turned = λ j low_j early.
            ⊎_elim
            (λ before. ap (λ (s : WorkStation). s.turns) (same-next j (apart-before j before)) ∙ so_far.turned j low_j before)
            (λ same.
            let Turned : ℕ → Type 0 = λ k. (member next.stations k).turns ≡ (member old.stations k).turns + 1 in
            subst Turned (sym same) (stepped.turn ∙ ap (λ (s : WorkStation). s.turns + 1) waited))
            (before_or_here j low_j early);
        fired = λ j low_j early.
            ⊎_elim
            (λ before ready. ap dates_of (same-next j (apart-before j before)) ∙ so_far.fired j low_j before ready)
            (λ same.
            let Fired : ℕ → Type 0 = λ k. IsReady old.shelf (member old.stations k) → dates_of (member next.stations k) ≡ dates_of (member old.stations k) + 1 in
            subst Fired (sym same) (λ ready. stepped.fires (was_ready ready) ∙ ap (λ (s : WorkStation). dates_of s + 1) waited))
            (before_or_here j low_j early);
        waiting = λ j low_j late. same-next j (apart-after j late) ∙ so_far.waiting j low_j (omega arith);
        ready = λ j low_j late ready.
            let waits = so_far.waiting j low_j (omega arith) in
            subst (IsReady next.shelf) waits (
            stepped.ready j (omega (arith, low_j, so_far.worked.count)) (apart-after j late) (
            subst (IsReady now.shelf) (sym waits) (so_far.ready j low_j (omega arith) ready)));
      }

-- at the end of the order each station has had its turn
pub swept : (ranks : List ℕ) (first : ℕ) (order : List ℕ) (old now : WorkTeam) → IsOrder ranks first (length old.stations) order → IsSweeping order old now (length order) → HasSwept old now
swept ranks first order old now is so_far = record {
  worked = so_far.worked;
  turned = λ i low. so_far.turned i low (is.listed i low);
  fired = λ i low ready. so_far.fired i low (is.listed i low) ready;
}

-- on the way no station has made more than one turn
pub turns_below : (order : List ℕ) (old now : WorkTeam) (p : ℕ) → IsSweeping order old now p → TurnsBelow (2 ^ 39) old → TurnsBelow (2 ^ 40) now
turns_below order old now p sweeping below i low =
    let there : i < length old.stations = omega (arith, low, sweeping.worked.count) in
    ⊎_elim
    (λ early. omega (arith, sweeping.turned i there early, below i there))
    (λ past. omega (arith, ap (λ (s : WorkStation). s.turns) (sweeping.waiting i there past), below i there))
    (cases_lt (index_in order i) p)
