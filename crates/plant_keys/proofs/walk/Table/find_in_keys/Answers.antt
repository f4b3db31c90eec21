use Rattle.std.proofs.Common.{sym, arith}
use Rattle.toml.specs.View.{view}
use Rattle.plant_keys.specs.Code.{key_of}
use Rattle.plant_keys.specs.Walk.{key_faults}
use Rattle.plant_keys.proofs.FaultLists.{keys_faults_map}
use Rattle.plant_keys.proofs.FoundFaults.{finds_same}
use Rattle.plant_keys.proofs.GatheredFaults.{gathered_none, gathers_read, gathered_all}
use Rattle.plant_keys.proofs.walk.Table.find_in_keys.Goals as goal

pub loop-key-init : goal.loop-key-init
loop-key-init c = gathered_none _ _ _

pub loop-key-preserved : goal.loop-key-preserved
loop-key-preserved c =
    gathers_read (λ _ k. key_faults c.args.self.now.class c.args.self.now.place (view c.args.self.now.value.now) (key_of k))
    c.args.keys.now c.loop-key.key-index _ _ _ _ c.loop-key.invariant (omega arith) c.find_at_key.ensures

pub returns : goal.returns
returns c =
    let class = c.args.self.now.class in
    let d = view c.args.self.now.value.now in
    finds_same _ _ _ _
    (gathered_all (λ _ k. key_faults class c.args.self.now.place d (key_of k)) c.args.keys.now c.loop-key.key-index _ _ c.loop-key.invariant (omega arith))
    (sym (keys_faults_map class c.args.self.now.place d c.args.keys.now))
