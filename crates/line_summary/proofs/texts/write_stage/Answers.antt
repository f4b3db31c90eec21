use Rattle.std.proofs.Common.{sym, ap, ◌∙◌}
use Rattle.line_base.specs.declared.event.Parts.{Parts}
use Rattle.event_graph.specs.Table.{date_in}
use Rattle.outside_io.proofs.OutgoingLemmas.{◌⨟◌}
use Rattle.line_stats.specs.Counts.{last_date}
use Rattle.line_summary.specs.SummaryText.{stage_line}
use Rattle.line_summary.proofs.Read.{figures-read}
use Rattle.line_summary.proofs.texts.write_stage.Goals as goal

pub stage_sums-sums-requires-clause-last : goal.stage_sums-sums-requires-clause-last
stage_sums-sums-requires-clause-last g c =
    let r = c.args.line.now in
    (figures-read r c.requires.line).last ∙ ap (λ (h : Parts). last_date h (date_in r.table.rows)) (sym c.requires.line.line.of_plant)

pub returns : goal.returns
unfolding stage_line
returns g c =
    let last = (figures-read c.args.line.now c.requires.line).last in
    let sums = c.stage_sums-sums.ensures in
    let process = rw (sums.process, c.from.ensures, last) at c.write_ratio.ensures in
    let move = rw (sums.moving, c.from-2.ensures, last) at c.write_ratio-2.ensures in
    let stock = rw (sums.stock, c.from-3.ensures, last) at c.write_ratio-3.ensures in
    let end = rw (c.peak-most.ensures.peak, c.bound_of.ensures.bound) at c.write_peak_end.ensures in
    c.push.ensures ⨟ c.write_stage_name.ensures ⨟ process ⨟ move ⨟ stock ⨟ end
