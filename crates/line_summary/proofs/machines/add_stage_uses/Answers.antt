use Rattle.std.proofs.Common.{◌≡◌, ◌<◌, List, [], ◌∷◌, ◌++◌, map, length, get_or, sym, ap, ◌∙◌, subst, append_assoc, arith}
use Rattle.std.specs.List.{sum_by, range_with_len}
use Rattle.std.proofs.lemmas.List.{get_or_default}
use Rattle.std.proofs.lemmas.List.FromFn.{map-range_with_len_more}
use Rattle.line_base.specs.Times.{time_at}
use Rattle.plant_model.specs.Stages.{Machine, Stage}
use Rattle.plant_model.specs.Line.{stage_at, machine_at, no_stage}
use Rattle.plant_model.specs.Graph.{graph}
use Rattle.plant_model.specs.Sound.{AreSoundTimes}
use Rattle.plant_model.proofs.SoundPlants.{IsSoundMachine-sound}
use Rattle.event_graph.specs.Network.{jobs}
use Rattle.line_summary.specs.declared.machines.MachineUse.{MachineUse}
use Rattle.line_summary.specs.Machines.{busy, use_of}
use Rattle.line_summary.proofs.MachineLists.{machine_read, few_machines, use-read}
use Rattle.line_summary.proofs.machines.add_stage_uses.Goals.{After-index-machines-machine}
use Rattle.line_summary.proofs.machines.add_stage_uses.Goals as goal
use Rattle.line_graph.proofs.Sizes.{jobs-graph}

module _ (c : After-index-machines-machine) where
  stage_is : get_or c.as_slice.result.now c.args.stage c.index-as_slice-stage.result ≡ stage_at c.args.plant.now c.args.stage
  stage_is =
      let s = c.index-as_slice-stage.result in
      ap (λ (xs : List Stage). get_or xs c.args.stage s) c.as_slice.ensures ∙ get_or_default c.args.plant.now.stages c.args.stage s no_stage c.requires.exists

  inside : c.loop-machine.machine < length (stage_at c.args.plant.now c.args.stage).machines
  inside =
      let all = ap length (c.as_slice-machines.ensures ∙ ap (λ (s : Stage). s.machines) stage_is) in
      let test = c.loop-machine-test.true in
      omega (arith, all, test)

  machine_is : c.index-machines-machine.result ≡ machine_at c.args.plant.now c.args.stage c.loop-machine.machine
  machine_is =
      machine_read c.args.plant.now c.args.stage c.loop-machine.machine (get_or c.as_slice.result.now c.args.stage c.index-as_slice-stage.result) c.as_slice-machines.result.now c.index-machines-machine.result stage_is c.as_slice-machines.ensures c.loop-machine-test.true c.index-machines-machine.is

pub overflow_cast-machine : goal.overflow_cast-machine
overflow_cast-machine c =
    let before = (goal.at.overflow_cast-machine c).After-index-machines-machine in
    omega (arith, inside before, few_machines c.args.plant.now c.args.stage c.requires.sound c.requires.exists)

pub busy-requires-clause-times : goal.busy-requires-clause-times
busy-requires-clause-times c =
    let before = (goal.at.busy-requires-clause-times c).After-index-machines-machine in
    let p = c.args.plant.now in
    let sound = (IsSoundMachine-sound p c.args.stage c.loop-machine.machine c.requires.sound c.requires.exists (inside before)).short_times in
    let of_machine = subst (λ (m : Machine). AreSoundTimes (length p.demands) m.times) (sym (machine_is before)) sound in
    subst (λ n. AreSoundTimes n c.index-machines-machine.result.times) (sym c.job_count-jobs.ensures.count) of_machine

pub loop-machine-preserved : goal.loop-machine-preserved
unfolding busy
loop-machine-preserved c =
    let p = c.args.plant.now in
    let i = c.args.stage in
    let j = c.loop-machine.machine in
    let before = (goal.at.loop-machine-preserved c).After-index-machines-machine in
    let is = machine_is before in
    let servers = ap (λ (m : Machine). m.servers) is in
    let count : c.job_count-jobs.result ≡ jobs (graph p) = c.job_count-jobs.ensures.count ∙ sym (jobs-graph p) in
    let works : c.busy.result ≡ busy p i j =
    c.busy.ensures
    ∙ ap (λ (m : Machine). sum_by (time_at m.times) (range_with_len 1 c.job_count-jobs.result)) is
    ∙ ap (λ n. sum_by (time_at (machine_at p i j).times) (range_with_len 1 n)) count in
    let next = use-read p i j c.index-machines-machine.result.servers c.busy.result servers works in
    let more = map-range_with_len_more (use_of p i) 0 j j (omega arith) in
    let front = map (use_of p i) (range_with_len 0 j) in
    let start = c.args.uses.now.items in
    c.in_ok-push.ensures.items
    ∙ ap (λ l. l ++ record { stage = i; machine = j; servers = c.index-machines-machine.result.servers; busy = c.busy.result } ∷ []) c.loop-machine.invariant
    ∙ append_assoc start front _
    ∙ ap (λ (u : MachineUse). start ++ (front ++ u ∷ [])) next
    ∙ ap (λ l. start ++ l) (sym more)
