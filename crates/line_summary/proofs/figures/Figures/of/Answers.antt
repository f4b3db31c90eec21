use Rattle.std.proofs.Common.{◌≡◌, refl, sym, ap, ◌∙◌}
use Rattle.line_base.specs.declared.event.Parts.{Parts}
use Rattle.plant_model.specs.Graph.{graph}
use Rattle.event_graph.specs.Network.{jobs}
use Rattle.event_graph.specs.Table.{date_in}
use Rattle.line_stats.specs.Counts.{last_date, waiting}
use Rattle.line_summary.specs.Figures.{figures}
use Rattle.line_summary.specs.Waits.{most_wait, worst_job}
use Rattle.line_summary.proofs.figures.Figures.of.Goals as goal
use Rattle.line_graph.proofs.Sizes.{jobs-graph}

pub returns : goal.returns
unfolding figures
returns c =
    let p = c.args.plant.now in
    let x = date_in c.args.table.now.rows in
    let is = c.requires.of_plant in
    let count : c.job_count.result ≡ jobs (graph p) = c.job_count.ensures.count ∙ sym (jobs-graph p) in
    let last = c.last-last.ensures ∙ ap (λ (h : Parts). last_date h x) is in
    let waited = c.waiting_total.ensures ∙ ap (λ (h : Parts). waiting h x) is in
    let most = c.longest_wait-longest.ensures.wait ∙ ap (λ (h : Parts). most_wait h x) is in
    let worst = c.longest_wait-longest.ensures.job ∙ ap (λ (h : Parts). worst_job h x) is in
    rw (count, last, waited, most, worst, c.parts_sum.ensures) refl
