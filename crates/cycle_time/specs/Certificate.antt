-- A ratio with what shows that no circuit has a greater one.
-- Source: Baccelli, Cohen, Olsder, Quadrat, Synchronization and Linearity, maximum cycle means and critical circuits.
use Rattle.std.specs.Prelude.{◌≡◌, ℕ, ◌*◌, ◌<◌, ◌≤◌, ◌^◌, pos, neg_ℤ, ◌≤ℤ◌, ◌⊎◌, List, [], length, All, ⊤}
use Rattle.std.specs.Int.{IsGcd}
use Rattle.line_base.specs.Limits.{most_stations}
use Rattle.line_base.specs.declared.event.Parts.{Parts}
use Rattle.event_graph.specs.Network.{stations, arc_count}
use Rattle.event_graph.specs.Circuit.{IsCircuit, tokens_on, time_along}
use Rattle.event_graph.specs.Faults.{IsFirst, HasNone}
use Rattle.event_graph.specs.Varying.{Varies}
use Rattle.cycle_time.specs.declared.certificate.Certificate.{Certificate}
use Rattle.cycle_time.specs.declared.certificate.CycleError.{CycleError}
use Rattle.cycle_time.specs.declared.certificate.CycleError.TheVariants.{Varying, NoMemory}
use Rattle.cycle_time.specs.Weight.{ArePotentials}

-- a circuit with a token whose job times and delays are to its tokens as time is to cards
pub record HasRatio (g : Parts) (time cards : ℕ) (arcs : List ℕ) : Type 0 where
  pub circuit : IsCircuit g arcs
  pub some : 1 ≤ tokens_on g arcs
  pub ratio : time_along g arcs * cards ≡ tokens_on g arcs * time

-- the list is empty, and the time 0
pub record IsIdle (time : ℕ) (arcs : List ℕ) : Type 0 where
  pub none : arcs ≡ []
  pub no_time : time ≡ 0

-- a circuit of this ratio, and potentials that show that no circuit has a greater one
pub record IsCertificate (g : Parts) (c : Certificate) : Type 0 where
  pub some : 1 ≤ c.cards
  pub circuit : HasRatio g c.time c.cards c.circuit ⊎ IsIdle c.time c.circuit
  pub potentials : ArePotentials g c.time c.cards c.potentials

-- no circuit has more time for its tokens than the ratio of time to cards
abbrev pub HasNoGreaterRatio : Parts → ℕ → ℕ → Type 0
HasNoGreaterRatio g time cards =
    (arcs : List ℕ) → IsCircuit g arcs → time_along g arcs * cards ≤ tokens_on g arcs * time

-- the ratio of time to cards is in lowest terms, 0 over 1 where it is 0
abbrev pub IsLowest : ℕ → ℕ → Type 0
IsLowest time cards = IsGcd time cards 1

-- the graph has no circuit
abbrev pub HasNoCircuit : Parts → Type 0
HasNoCircuit g = (arcs : List ℕ) → ¬ IsCircuit g arcs

-- no station has a list of times
abbrev pub NoneVaries : Parts → Type 0
NoneVaries g = HasNone (Varies g) (stations g)

-- the sizes that `accept` takes of a certificate that nobody trusts: far more than one of a plant has, and yet so little
-- that each of its sums and products has 128 bits
abbrev pub most_ratio_time : ℕ
most_ratio_time = 10 ^ 18

abbrev pub most_ratio_cards : ℕ
most_ratio_cards = 10 ^ 9

abbrev pub most_potential : ℕ
most_potential = 10 ^ 24

-- no arc weighs more at such a ratio, nor less than this below 0: its tokens are at most 10,000, its time and delay
-- together at most 2,000,000,000
abbrev pub most_weight : ℕ
most_weight = 10 ^ 23

-- a certificate is within these sizes
pub record IsSmall (g : Parts) (c : Certificate) : Type 0 where
  pub potential_for_each : length c.potentials ≡ stations g
  pub potentials_low : All (λ p. neg_ℤ (pos most_potential) ≤ℤ p) c.potentials
  pub potentials_high : All (λ p. p ≤ℤ pos most_potential) c.potentials
  pub time : c.time ≤ most_ratio_time
  pub cards : c.cards ≤ most_ratio_cards
  pub few : length c.circuit ≤ most_stations
  pub exist : All (λ a. a < arc_count g) c.circuit

-- the error names the first station with a list of times; running out of memory may come at any time
abbrev pub IsCycleRefusal : Parts → CycleError → Type 0
IsCycleRefusal g (Varying station) = IsFirst (Varies g) (stations g) station
IsCycleRefusal g NoMemory = ⊤
