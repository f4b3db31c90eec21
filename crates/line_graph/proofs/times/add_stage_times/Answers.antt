use Rattle.std.proofs.Common.{List, [], ◌∷◌, ◌++◌, map, take, sym, ap, ◌∙◌, append_assoc}
use Rattle.std.proofs.lemmas.List.{map_more, take_all}
use Rattle.line_base.specs.declared.times.Times.TheVariants.{Fixed}
use Rattle.plant_model.specs.Stages.{Machine}
use Rattle.line_graph.proofs.times.add_stage_times.Goals as goal

pub loop-machine-init : goal.loop-machine-init
loop-machine-init c = c.in_ok-push.ensures.items

pub loop-machine-preserved : goal.loop-machine-preserved
loop-machine-preserved c =
    let machines = c.args.stage.now.machines in
    let front = c.args.all.now.items in
    let i = c.loop-machine.machine-index in
    let time = c.in_ok-copy.field-0 in
    let times_of = λ (m : Machine). m.times in
    let before = map times_of (take i machines) in
    let below = rw c.as_slice-machine-items.ensures at c.loop-machine-test.true in
    let read = rw c.as_slice-machine-items.ensures at c.machine-item.is in
    c.in_ok-push-2.ensures.items
    ∙ ap (λ all. all ++ time ∷ []) c.loop-machine.invariant
    ∙ append_assoc front (Fixed 0 ∷ before) (time ∷ [])
    ∙ ap (λ last. front ++ (Fixed 0 ∷ (before ++ last ∷ []))) (c.in_ok-copy.ensures ∙ ap times_of read)
    ∙ ap (λ rest. front ++ (Fixed 0 ∷ rest)) (sym (map_more times_of machines i c.machine-item.result below))

pub returns : goal.returns
returns c =
    let past = rw c.as_slice-machine-items.ensures at c.loop-machine-test.false in
    let whole = take_all c.loop-machine.machine-index c.args.stage.now.machines past in
    c.loop-machine.invariant
    ∙ ap (λ (ms : List Machine). c.args.all.now.items ++ (Fixed 0 ∷ map (λ (m : Machine). m.times) ms)) whole
