-- The checkpoints of a plant are no longer than they may be.
use Rattle.std.proofs.Common.{ℕ, arith}
use Rattle.checkpoint.proofs.Lengths.{texts_fit, short_labels}
use Rattle.checkpoint.specs.Length.{FitsLimit}
use Rattle.checkpoint.specs.declared.format.Format.TheVariants.{Differences}
use Rattle.line_base.specs.Limits.{most_checkpoint_bytes}
use Rattle.line_graph.proofs.Built.{few_arcs-graph}
use Rattle.line_graph.proofs.Inputs.{IsGraph-graph}
use Rattle.line_graph.proofs.WithinLimits.{IsWithinLimits-graph}
use Rattle.line_runs.specs.Saves.{HasTooLongState}
use Rattle.plant_model.specs.Graph.{graph}
use Rattle.live_plant.specs.LivePlant.{IsLivePlant}
use Rattle.live_plant.specs.declared.live_plant.LivePlant.{LivePlant}

module _ (line : LivePlant) (is : IsLivePlant line) where
  pub fits_limit : FitsLimit (graph line.plant)
  fits_limit =
      let g = graph line.plant in
      texts_fit g (IsGraph-graph line.plant is.sound) (IsWithinLimits-graph line.plant is.sound)
      (few_arcs-graph line.plant is.sound)
      (short_labels g is.labels)

  -- so a slot has room for each
  pub never_too_long : (have : ℕ) → HasTooLongState (graph line.plant) most_checkpoint_bytes have → ⊥
  never_too_long have long =
      omega (arith, long.over.have_is, long.over.over, fits_limit Differences long.state long.reached)
