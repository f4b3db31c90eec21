use Rattle.std.proofs.Common.{◌≡◌, [], map, subst}
use Rattle.toml.specs.View.{view}
use Rattle.plant_keys.specs.Readers.{name_in}
use Rattle.plant_keys.specs.Rules.{stage_names_twice}
use Rattle.plant_keys.proofs.FaultLists.{twice_faults, feeds_rows, finals_rows}
use Rattle.plant_keys.proofs.FoundFaults.{finds_both}
use Rattle.plant_keys.proofs.tree.find_from_names_on.Goals as goal

pub find_feeds-requires : goal.find_feeds-requires
find_feeds-requires c = c.in_ok-find_twice.ensures.names.same

pub returns-clause-found : goal.returns-clause-found
returns-clause-found c =
    let top = view c.args.top.now in
    let rows = c.tables_at-stages.result.now in
    let are = c.tables_at-stages.ensures in
    rw (twice_faults top rows are, feeds_rows top rows are, finals_rows top rows are)
    (finds_both _ _ _ _ _ c.in_ok-find_twice.ensures.found
    (finds_both _ _ _ _ _ c.find_in_tree.ensures
    (finds_both _ _ _ _ _ c.in_ok-find_feeds.ensures c.find_in_rows.ensures)))

pub returns-clause-names : goal.returns-clause-names
returns-clause-names c =
    subst (λ stages. stage_names_twice stages ≡ [] → c.find_twice.new.seen ≡ map name_in stages) c.tables_at-stages.ensures
    c.in_ok-find_twice.ensures.names.exact
