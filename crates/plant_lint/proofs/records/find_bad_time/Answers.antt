use Rattle.std.proofs.Common.{sym}
use Rattle.std.specs.Prelude.{option_copied}
use Rattle.plant_keys.proofs.FoundFaults.{finds_none, finds_same}
use Rattle.plant_lint.proofs.DraftLints.{good_times}
use Rattle.plant_lint.proofs.records.find_bad_time.Goals as goal

pub returns-in-Ok-clause-found : goal.returns-in-Ok-clause-found
returns-in-Ok-clause-found c =
    finds_same _ _ _ _ (finds_none _)
    (sym (good_times c.args.draft.now (option_copied c.args.bytes) c.in-Ok.ensures.held.good))
