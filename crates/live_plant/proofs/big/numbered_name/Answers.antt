use Rattle.live_plant.proofs.Names.{stage_name-named}
use Rattle.live_plant.proofs.big.numbered_name.Goals as goal

pub name_of-requires : goal.name_of-requires
name_of-requires c =
    rw (c.as_bytes.ensures.value, c.in_ok-format.ensures.ok) (stage_name-named c.args.number c.requires)
