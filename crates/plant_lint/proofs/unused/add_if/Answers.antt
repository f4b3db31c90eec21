use Rattle.std.proofs.Common.{◌≡◌, ◌&&◌, true, rules}
use Rattle.toml.specs.View.{view}
use Rattle.plant_keys.specs.Readers.{has}
use Rattle.plant_lint.proofs.unused.add_if.Goals as goal

pub returns : goal.returns
returns c =
    let unused : (c.args.idle && has c.args.key.now (view c.args.value.now)) ≡ true = search rules in
    rw unused (rw (c.as_str.ensures, c.in_ok-place.ensures) at c.add_note.ensures)
