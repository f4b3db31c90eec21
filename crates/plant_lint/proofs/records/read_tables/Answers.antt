use Rattle.std.proofs.Common.{[]}
use Rattle.plant_keys.specs.declared.faults.Asked.TheVariants.{All}
use Rattle.plant_keys.proofs.FoundFaults.{finds_both}
use Rattle.plant_lint.proofs.records.read_tables.Goals as goal

pub returns-in-Ok : goal.returns-in-Ok
returns-in-Ok c =
    let both = finds_both _ _ _ _ _ c.find_bad_date-dates.ensures.found c.find_bad_time-table.ensures.found in
    c.tables_or_faults.ensures _ _ _ c.find_bad_date-dates.ensures.held c.find_bad_time-table.ensures.held
    (c.in-Ok.ensures _ (both.more All [] c.new-faults.ensures))
