-- The cycle time of a graph.
-- Source: Baccelli, Cohen, Olsder, Quadrat, Synchronization and Linearity, maximum cycle means and cycle time.
use Rattle.std.specs.Prelude.{◌≡◌, []}
use Rattle.line_base.specs.declared.event.Parts.{Parts}
use Rattle.cycle_time.specs.declared.certificate.Certificate.{Certificate}
use Rattle.cycle_time.specs.Weight.{AreGreatestWeights}
use Rattle.cycle_time.specs.Certificate.{IsCertificate, HasNoGreaterRatio, HasNoCircuit, IsLowest, IsSmall}
use Rattle.cycle_time.specs.Dates.{BoundsDates, HoldsBack}

-- a certificate in lowest terms of the greatest ratio of time to tokens over all circuits, with the greatest weights of
-- walks as potentials; no date of the least solution grows faster, and at the stations of the circuit none grows slower
pub record IsCycleTime (g : Parts) (c : Certificate) : Type 0 where
  pub certificate : IsCertificate g c
  pub lowest : IsLowest c.time c.cards
  pub greatest : HasNoGreaterRatio g c.time c.cards
  pub empty_without_circuit : c.circuit ≡ [] → HasNoCircuit g
  pub potentials : AreGreatestWeights g c.time c.cards c.potentials
  pub no_faster : BoundsDates g c
  pub no_slower : HoldsBack g c.circuit
  pub small : IsSmall g c
