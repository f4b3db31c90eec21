use Rattle.std.proofs.Common.{ap, refl, rules}
use Rattle.toml.specs.View.{members_view}
use Rattle.plant_keys.specs.Code.{keys_of}
use Rattle.plant_keys.specs.Rules.{unknown_key, unknown_keys}
use Rattle.plant_keys.specs.Faults.{plain}
use Rattle.plant_keys.proofs.FoundFaults.{left_none, left_plain, left_all, left_done}
use Rattle.plant_keys.proofs.walk.find_members.Goals as goal

pub loop-name-init : goal.loop-name-init
loop-name-init c = left_none _ _ _ (search rules)

pub returns-then-is_done : goal.returns-then-is_done
returns-then-is_done c = left_done _ _ _ _ c.loop-name.invariant (c.if-is_done.ensures refl)

pub loop-name-preserved : goal.loop-name-preserved
loop-name-preserved c =
    let keys = keys_of c.args.keys.now in
    let rest = unknown_keys c.args.table keys (members_view c.next.new.self) in
    left_plain _ _ _ _ _ (unknown_key c.args.table keys _) rest c.loop-name.invariant
    (ap (λ it. unknown_keys c.args.table keys (members_view it)) c.in-Some.ensures.steps)
    (rw c.as_str.ensures.value at c.find_member.ensures)

pub returns : goal.returns
returns c =
    left_all _ _ _ _ c.loop-name.invariant
    (ap (λ it. plain (unknown_keys c.args.table (keys_of c.args.keys.now) (members_view it))) c.in-None.ensures.steps.0)
