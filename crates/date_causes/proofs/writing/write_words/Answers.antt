use Rattle.outside_io.proofs.OutgoingLemmas.{◌⨟◌}
use Rattle.date_causes.proofs.writing.write_words.Goals as goal

pub returns : goal.returns
returns g c =
    c.push.ensures ⨟ c.push-2.ensures ⨟ c.push_number.ensures ⨟ c.push-3.ensures ⨟ c.push_number-2.ensures
    ⨟ c.push-4.ensures ⨟ c.push-5.ensures ⨟ c.push-6.ensures ⨟ c.push_number-3.ensures ⨟ c.push-7.ensures
