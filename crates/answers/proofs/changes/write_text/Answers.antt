use Rattle.outside_io.proofs.OutgoingLemmas.{◌⨟◌}
use Rattle.answers.specs.ChangesText.{changes_text}
use Rattle.answers.proofs.changes.write_text.Goals as goal

pub returns : goal.returns
unfolding changes_text
returns g c =
    let count = rw c.write_stations-count.ensures.counted at c.push_number.ensures in
    c.write_stations-count.ensures.pushed ⨟ c.push.ensures ⨟ count ⨟ c.push-2.ensures
