use Rattle.outside_io.proofs.OutgoingLemmas.{◌⨟◌}
use Rattle.latest_dates.specs.LatestText.{latest_text}
use Rattle.latest_dates.proofs.writing.write_latest.Goals as goal

pub returns : goal.returns
unfolding latest_text
returns g c =
    let count = rw c.write_stations-tight.ensures.tight at c.push_number.ensures in
    c.write_stations-tight.ensures.written ⨟ c.push.ensures ⨟ count ⨟ c.push-2.ensures
