use Rattle.std.proofs.Common.{◌≡◌, ℕ, ◌+◌, ◌<◌, List, get_or, length, append-nil, sym, ap, ◌∙◌, arith}
use Rattle.plant_model.specs.Stages.{Machine, Stage}
use Rattle.plant_model.specs.declared.plant.Plant.{Plant}
use Rattle.plant_model.specs.Line.{release, stage_at}
use Rattle.plant_model.proofs.LayoutFacts.{small_last_machine}
use Rattle.plant_model.proofs.LayoutStations.{release-next}
use Rattle.plant_model.proofs.SoundPlants.{HasSoundSizes-sound}
use Rattle.line_chart.specs.Bars.{lanes, lanes_before}
use Rattle.line_chart.proofs.LaneFacts.{machine-read, machines-count, lanes-more, few_lanes, lanes_before-next, stage_lanes-read}
use Rattle.line_chart.proofs.machines.add_stage.Goals as goal
use Rattle.line_graph.proofs.Sizes.{jobs-graph}

pub overflow_cast-most : goal.overflow_cast-most
overflow_cast-most c = omega (arith, (HasSoundSizes-sound c.args.plant.now c.requires.sound).few_demands)

pub overflow_add-release : goal.overflow_add-release
overflow_add-release c =
    let at = c.release-release.ensures.station ∙ ap (λ p. release p c.args.stage) c.requires.numbers in
    omega (arith, at, small_last_machine c.args.plant.now c.args.stage c.requires.sound c.requires.exists)

pub overflow_cast-before : goal.overflow_cast-before
overflow_cast-before c =
    let p = c.args.plant.now in
    let many = ap length (machines-count p c.args.stage c.as_slice.result.now c.index-as_slice-stage.result c.as_slice-machines.result.now c.as_slice.ensures c.requires.exists c.as_slice-machines.ensures) in
    omega (arith, many, c.loop-before-test.true, small_last_machine p c.args.stage c.requires.sound c.requires.exists)

pub overflow_add-release-in-loop-before : goal.overflow_add-release-in-loop-before
overflow_add-release-in-loop-before c =
    let p = c.args.plant.now in
    let at = c.release-release.ensures.station ∙ ap (λ q. release q c.args.stage) c.requires.numbers in
    let many = ap length (machines-count p c.args.stage c.as_slice.result.now c.index-as_slice-stage.result c.as_slice-machines.result.now c.as_slice.ensures c.requires.exists c.as_slice-machines.ensures) in
    omega (arith, at, many, c.loop-before-test.true, small_last_machine p c.args.stage c.requires.sound c.requires.exists)

pub overflow_add-next : goal.overflow_add-next
overflow_add-next c =
    let p = c.args.plant.now in
    let at = c.release-release.ensures.station ∙ ap (λ q. release q c.args.stage) c.requires.numbers in
    let many = ap length (machines-count p c.args.stage c.as_slice.result.now c.index-as_slice-stage.result c.as_slice-machines.result.now c.as_slice.ensures c.requires.exists c.as_slice-machines.ensures) in
    omega (arith, at, many, c.loop-before-test.true, c.loop-before.invariant.2, small_last_machine p c.args.stage c.requires.sound c.requires.exists)

pub loop-before-init : goal.loop-before-init
loop-before-init c =
    let at = c.release-release.ensures.station ∙ ap (λ p. release p c.args.stage) c.requires.numbers in
    (sym (append-nil c.args.list.now.items), omega arith, omega (arith, at, c.requires.few))

pub loop-before-preserved : goal.loop-before-preserved
loop-before-preserved c =
    let p = c.args.plant.now in
    let i = c.args.stage in
    let n = c.loop-before.before in
    let inv = c.loop-before.invariant in
    let at = c.release-release.ensures.station ∙ ap (λ q. release q i) c.requires.numbers in
    let all = machines-count p i c.as_slice.result.now c.index-as_slice-stage.result c.as_slice-machines.result.now c.as_slice.ensures c.requires.exists c.as_slice-machines.ensures in
    let machine = machine-read p i n c.as_slice-machines.result.now c.index-machines-before.result all c.loop-before-test.true in
    let servers = ap (λ (m : Machine). m.servers) machine.0 in
    let servers_2 = ap (λ (m : Machine). m.servers) c.index-machines-before.is in
    let most = c.len-most.ensures ∙ sym (jobs-graph p) in
    let count : c.min-count.result ≡ lanes p i n = omega (arith, c.min-count.ensures, servers, servers_2, most) in
    let few = few_lanes p i n c.requires.sound c.requires.exists machine.1 in
    let next = lanes_before-next p i n in (
      lanes-more p i n (c.release-release.result + 1 + n) c.loop-before.next c.min-count.result c.args.list.now.items c.loop-before.list.items _ inv.0 c.in_ok-push.ensures.items (omega (arith, at)) (inv.1 ∙ ap (λ k. k + lanes_before p i n) c.requires.first) count,
      omega (arith, inv.1, next, count),
      omega (arith, inv.2, count, few),
    )

-- where as many machines were gone over as are read, these are all of the stage
all_counted : (p : Plant) (i : ℕ) (stages : List Stage) (s : Stage) (machines : List Machine) (n : ℕ) → stages ≡ p.stages → i < length p.stages → machines ≡ (get_or stages i s).machines → n ≡ length machines → n ≡ length (stage_at p i).machines
all_counted p i stages s machines n same exists are all =
    all ∙ ap length (machines-count p i stages s machines same exists are)

pub returns-clause-next : goal.returns-clause-next
returns-clause-next c =
    let p = c.args.plant.now in
    let i = c.args.stage in
    let all = all_counted p i c.as_slice.result.now c.index-as_slice-stage.result c.as_slice-machines.result.now c.loop-before.before c.as_slice.ensures c.requires.exists c.as_slice-machines.ensures (omega arith) in
    c.loop-before.invariant.1 ∙ ap (λ k. k + lanes_before p i c.loop-before.before) c.requires.first ∙ stage_lanes-read p i c.loop-before.before all

pub returns-clause-few : goal.returns-clause-few
returns-clause-few c =
    let p = c.args.plant.now in
    let at = c.release-release.ensures.station ∙ ap (λ q. release q c.args.stage) c.requires.numbers in
    let many = ap length (machines-count p c.args.stage c.as_slice.result.now c.index-as_slice-stage.result c.as_slice-machines.result.now c.as_slice.ensures c.requires.exists c.as_slice-machines.ensures) in
    omega (arith, at, many, c.loop-before.invariant.2, release-next p c.args.stage c.requires.exists)

pub returns-clause-added : goal.returns-clause-added
returns-clause-added c =
    let p = c.args.plant.now in
    let i = c.args.stage in
    let all = all_counted p i c.as_slice.result.now c.index-as_slice-stage.result c.as_slice-machines.result.now c.loop-before.before c.as_slice.ensures c.requires.exists c.as_slice-machines.ensures (omega arith) in
    rw all at c.loop-before.invariant.0
