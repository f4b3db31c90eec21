use Rattle.std.proofs.Common.{◌*◌, ◌≤◌, refl, sym, ap, subst, ◌∙◌, length}
use Rattle.event_graph.specs.Network.{stations, jobs}
use Rattle.live_check.specs.Order.{LiveGraph}
use Rattle.what_if.specs.Sheet.{IsSheet, IsBegun, date_count}
use Rattle.what_if.proofs.Bits.{count_of-none}
use Rattle.what_if.proofs.NewSheets.{begun-code, begun-is_sheet}
use Rattle.std.proofs.lemmas.Result.{err_from_is_err_and}
use Rattle.what_if.proofs.sheet.Sheet.new.Goals as goal

pub returns-clause-kept : goal.returns-clause-kept
returns-clause-kept c =
    let l = c.args.live.now in
    let graph = c.graph-graph.ensures.graph in
    let room : date_count l.graph ≤ length c.in_ok-marks.marks =
    subst (λ n. n ≤ length c.in_ok-marks.marks)
    (ap (λ n. n * c.jobs.result) (c.stations.ensures.count ∙ ap stations graph) ∙ ap (λ n. stations l.graph * n) (c.jobs.ensures.count ∙ ap jobs graph))
    c.in_ok-marks.ensures.room in
    let page = begun-code l c.of.result.value c.graph-graph.result.now c.in_ok-times.times.items c.in_ok-demands.demands c.in_ok-first.first.items c.in_ok-dates.dates.items c.args.table.now.rows c.in_ok-marks.marks
    c.of.ensures graph c.in_ok-times.ensures c.in_ok-demands.ensures c.in_ok-first.ensures.rows c.in_ok-dates.ensures.rows in
    subst IsSheet (sym page) (begun-is_sheet l c.graph-graph.ensures.ranked c.args.table.now c.requires c.in_ok-dates.ensures.least c.in_ok-marks.marks room c.in_ok-marks.ensures.none)

pub invariant_of-result : goal.invariant_of-result
invariant_of-result c = record {
  sheet = returns-clause-kept c;
  same_ranks = c.in_ok-ranks.ensures ∙ sym (ap (λ (l : LiveGraph). l.ranks) c.of.ensures);
}

pub returns-clause-begun : goal.returns-clause-begun
returns-clause-begun c =
    let l = c.args.live.now in
    let page = begun-code l c.of.result.value c.graph-graph.result.now c.in_ok-times.times.items c.in_ok-demands.demands c.in_ok-first.first.items c.in_ok-dates.dates.items c.args.table.now.rows c.in_ok-marks.marks
    c.of.ensures c.graph-graph.ensures.graph c.in_ok-times.ensures c.in_ok-demands.ensures c.in_ok-first.ensures.rows c.in_ok-dates.ensures.rows in
    subst (IsBegun l c.args.table.now.rows) (sym page) (record {
      live_is = refl;
      inputs_are = refl;
      first_are = refl;
      dates_are = refl;
      no_mark = count_of-none c.in_ok-marks.marks c.in_ok-marks.ensures.none;
      none_evaluated = refl;
    })

pub returns-in_err-ranks : goal.returns-in_err-ranks
returns-in_err-ranks c =
    rw (err_from_is_err_and c.from_residual.result c.from_residual.ensures.1).1 (record { begun = tt; kept = tt })

pub returns-in_err-times : goal.returns-in_err-times
returns-in_err-times c =
    let p = err_from_is_err_and c.from_residual-in_err-times.result c.from_residual-in_err-times.ensures.1 in
    rw p.1 (record { begun = tt; kept = tt })

pub returns-in_err-demands : goal.returns-in_err-demands
returns-in_err-demands c =
    let p = err_from_is_err_and c.from_residual-in_err-demands.result c.from_residual-in_err-demands.ensures.1 in
    rw p.1 (record { begun = tt; kept = tt })

pub returns-in_err-first : goal.returns-in_err-first
returns-in_err-first c =
    let p = err_from_is_err_and c.from_residual-in_err-first.result c.from_residual-in_err-first.ensures.1 in
    rw p.1 (record { begun = tt; kept = tt })

pub returns-in_err-dates : goal.returns-in_err-dates
returns-in_err-dates c =
    let p = err_from_is_err_and c.from_residual-in_err-dates.result c.from_residual-in_err-dates.ensures.1 in
    rw p.1 (record { begun = tt; kept = tt })

pub returns-in_err-marks : goal.returns-in_err-marks
returns-in_err-marks c =
    let p = err_from_is_err_and c.from_residual-in_err-marks.result c.from_residual-in_err-marks.ensures.1 in
    rw p.1 (record { begun = tt; kept = tt })
