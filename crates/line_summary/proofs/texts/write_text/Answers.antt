use Rattle.outside_io.proofs.OutgoingLemmas.{◌⨟◌}
use Rattle.std.proofs.Common.{◌∙◌}
use Rattle.line_summary.specs.SummaryText.{summary_text}
use Rattle.line_summary.proofs.Read.{figures-read}
use Rattle.line_summary.proofs.texts.write_text.Goals as goal

pub returns : goal.returns
unfolding summary_text
returns g c =
    let last = (figures-read c.args.line.now c.requires).last in
    let uses = c.as_slice.ensures.value ∙ c.requires.uses in
    let machines = rw (last, uses) at c.write_machines.ensures in
    c.write_head.ensures ⨟ c.write_stages.ensures ⨟ machines ⨟ c.write_busiest.ensures
