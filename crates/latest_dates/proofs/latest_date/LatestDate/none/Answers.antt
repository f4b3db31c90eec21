use Rattle.std.proofs.Common.{refl}
use Rattle.latest_dates.specs.Words.{date_of-none}
use Rattle.latest_dates.proofs.latest_date.LatestDate.none.Goals as goal

pub returns : goal.returns
returns c = date_of-none _ refl
