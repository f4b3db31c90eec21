use Rattle.std.proofs.Common.{◌≡◌, ◌+◌, ◌<◌, ℕ, List, length, get_or, sym, ap, subst, ◌∙◌, arith}
use Rattle.std.proofs.lemmas.List as list
use Rattle.std.specs.Prelude.{slice_index}
use Rattle.event_graph.specs.Network.{ins, delay}
use Rattle.station_step.specs.declared.fronts.Front.{Front}
use Rattle.station_step.specs.declared.input.Input.{Input}
use Rattle.station_step.specs.declared.noted.NotedInput.{NotedInput}
use Rattle.station_step.specs.Ends.{inlet_queue}
use Rattle.station_step.specs.Fronts.{FrontsUpTo}
use Rattle.station_step.specs.Input.{input_at}
use Rattle.station_step.specs.Kept.{saturating}
use Rattle.station_step.specs.Noted.{inputs_of, extras_of, delays_into}
use Rattle.station_step.proofs.FrontsOf.{fronts_none, fronts_past, fronts_more}
use Rattle.station_step.proofs.NotedExtras.{no_input, input-lent, input-at, extra-at}
use Rattle.station_step.proofs.fronts.fronts_of.Goals.{Joined-queue, in-Some+in_ok-push, in_default}
use Rattle.station_step.proofs.fronts.fronts_of.Goals as goal

pub loop-k-init : goal.loop-k-init
loop-k-init c =
    let items = c.args.inputs.now.items in
    let delays = delays_into c.args.graph.now c.args.t in
    subst (FrontsUpTo 0 delays (extras_of items) (inputs_of items)) (sym c.in_ok-fronts.ensures.items) (fronts_none delays (extras_of items) (inputs_of items))

-- the input whose turn it is, as it is lent
low : (c : Joined-queue) → c.loop-k.k < length c.args.inputs.now.items
low c = omega (arith, ap length c.deref-noted-items.ensures.value, c.loop-k-test.true)

lent : (c : Joined-queue) → c.noted-item.result ≡ get_or c.args.inputs.now.items c.loop-k.k no_input
lent c =
    input-lent c.args.inputs.now.items c.loop-k.k c.noted-item.result (low c)
    (c.noted-item.is ∙ ap (λ (l : List NotedInput). get_or l c.loop-k.k c.noted-item.result) c.deref-noted-items.ensures.value)

queue_is : (c : Joined-queue) → inlet_queue (input_at (inputs_of c.args.inputs.now.items) c.loop-k.k).inlet ≡ c.queue.result
queue_is c =
    ap (λ (i : Input). inlet_queue i.inlet) (input-at c.args.inputs.now.items c.loop-k.k)
    ∙ ap (λ (n : NotedInput). inlet_queue n.input.inlet) (sym (lent c))
    ∙ sym c.queue.ensures

pub loop-k-preserved : goal.loop-k-preserved
loop-k-preserved c =
    let items = c.args.inputs.now.items in
    let g = c.args.graph.now in
    let k = c.loop-k.k in
    let delays = delays_into g c.args.t in
    let extras = extras_of items in
    let inputs = inputs_of items in
    elim c.match-queue.branch [
      | in-Some+in_ok-push w ↦
          let there : k < length (ins g c.args.t) = omega (arith, low c, c.requires.an_input_each) in
          let delay_is : w.delay-delay.result ≡ slice_index delays k =
          w.delay-delay.ensures.delay
          ∙ ap (λ (l : List ℕ). delay g (slice_index l k)) c.ins-ins.ensures.arcs
          ∙ sym (list.get_or-map (delay g) (ins g c.args.t) k 0 0 there) in
          let extra_is = w.of.ensures in
          let next : Front = record { queue = w.in-Some.queue; later = w.saturating_add.result; extra = w.of.result } in
          subst (FrontsUpTo (k + 1) delays extras inputs) (sym (ap (λ fronts. fronts.items) w.fronts-is ∙ w.in_ok-push.ensures.items))
          (fronts_more k delays extras inputs c.loop-k.fronts.items next
          (queue_is c ∙ w.in-Some.is)
          (extra_is ∙ ap (λ (n : NotedInput). n.extra) (lent c) ∙ sym (extra-at items k))
          (w.saturating_add.ensures ∙ ap (λ n. saturating n c.noted-item.result.extra) delay_is ∙ ap (saturating (slice_index delays k)) (sym extra_is))
          c.loop-k.invariant)
      | in_default w ↦
          subst (FrontsUpTo (k + 1) delays extras inputs) (sym (ap (λ fronts. fronts.items) w.fronts-is))
          (fronts_past k delays extras inputs c.loop-k.fronts.items (queue_is c ∙ w.in_default.is) c.loop-k.invariant)
    ]
