use Rattle.outside_io.proofs.OutgoingLemmas.{◌⨟◌}
use Rattle.line_chart.proofs.records.write_record.Goals as goal

pub returns : goal.returns
returns g c =
    c.push.ensures ⨟ c.push-2.ensures ⨟ c.push_number.ensures ⨟ c.push-3.ensures ⨟ c.write_field.ensures
    ⨟ c.push-4.ensures ⨟ c.write_field-2.ensures ⨟ c.push-5.ensures ⨟ c.push_number-2.ensures ⨟ c.push-6.ensures
