use Rattle.std.proofs.Common.{◌≡◌, ℕ, ◌≤◌, ◌+◌, ◌++◌, Some, refl, sym, ap, ◌∙◌, subst, arith}
use Rattle.std.proofs.lemmas.Bool.{cond-true, cond-false}
use Rattle.event_graph.specs.Network.{stations, jobs, label}
use Rattle.event_graph.specs.Table.{date_in}
use Rattle.line_report.specs.Portions.{LineStart}
use Rattle.what_if.specs.Page.{IsDate}
use Rattle.latest_dates.specs.Found.{found_of, latest_of, latest_in, HasDates}
use Rattle.latest_dates.specs.JobLines.{job_lines, tight_jobs}
use Rattle.latest_dates.specs.Latest.{IsNoLater}
use Rattle.latest_dates.specs.LatestText.{has_no_slack, latest_line, is_tight}
use Rattle.latest_dates.proofs.Lines.{job_lines-none, tight_jobs-none, job_lines-next, tight_jobs-next}
use Rattle.latest_dates.proofs.writing.write_jobs.Goals as goal
use Rattle.latest_dates.proofs.writing.write_jobs.Goals.{After-date-date, then-has_no_slack, else-has_no_slack}

pub loop-done-init : goal.loop-done-init
loop-done-init c =
    let g = c.args.run.now.live.graph in
    let x = date_in c.args.run.now.table.rows in
    let y = latest_of (found_of c.args.run.now) in
    let job : c.args.before + 1 ≡ c.args.before + 1 + 0 = omega arith in
    record {
      size = refl;
      within = omega arith;
      start = c.requires.start ∙ ap (λ (n : ℕ). record { label = label g c.args.t; job = n }) job;
      lines = sym (job_lines-none g x y c.args.t c.args.before);
      tight = sym (tight_jobs-none g x y c.args.t c.args.before);
      few = omega arith;
    }

pub loop-done-preserved : goal.loop-done-preserved
unfolding latest_line is_tight
loop-done-preserved c =
    let live = c.args.run.now.live in
    let x = date_in c.args.run.now.table.rows in
    let y = latest_of (found_of c.args.run.now) in
    let t = c.args.t in
    let n = c.loop-done.done in
    let before = c.loop-done.invariant in
    let job : c.args.before + 1 + n ≡ c.args.before + n + 1 = omega arith in
    let later : c.args.before + 1 + n + 1 ≡ c.args.before + 1 + (n + 1) = omega arith in
    let named = ap (λ (s : LineStart). s.label) before.start in
    let numbered = ap (λ (s : LineStart). s.job) before.start ∙ job in
    let read = c.date-latest.ensures ∙ c.latest_at.ensures ∙ ap (λ l. latest_in live l t (c.args.before + n + 1)) c.as_slice.ensures.value in
    let date = c.date-date.ensures.date in
    let written = rw (named, numbered, read, date) at c.write_line-end.ensures.written in
    let none = c.has_no_slack.ensures ∙ ap (λ o. has_no_slack o c.date-date.result) read ∙ ap (has_no_slack (y t (c.args.before + n + 1))) date in
    let more = tight_jobs-next live.graph x y t c.args.before n c.has_no_slack.result none in
    let tight : (c.if-has_no_slack.tight ≡ tight_jobs x y t c.args.before (n + 1)) × (c.if-has_no_slack.tight ≤ n + 1) =
    elim c.if-has_no_slack.branch [
      | then-has_no_slack w ↦
          let one = cond-true {A = ℕ} c.has_no_slack.result 1 0 w.if-has_no_slack.true in
          (omega (arith, w.tight-is, one, more, before.tight), omega (arith, w.tight-is, before.few))
      | else-has_no_slack w ↦
          let no = cond-false {A = ℕ} c.has_no_slack.result 1 0 w.if-has_no_slack.false in
          (omega (arith, w.tight-is, no, more, before.tight), omega (arith, w.tight-is, before.few))
    ]
    in
    record {
      size = omega (arith, c.write_line-end.auto.room, before.size);
      within = omega (arith, c.write_line-end.ensures.end, before.within);
      start = c.next.ensures ∙ ap (λ (s : LineStart). record { label = s.label; job = s.job + 1 }) before.start ∙ ap (λ (k : ℕ). record { label = label live.graph t; job = k }) later;
      lines = written ∙ ap (λ l. l ++ latest_line live.graph x y t (c.args.before + n + 1)) before.lines ∙ sym (job_lines-next live.graph x y t c.args.before n);
      tight = tight.0;
      few = tight.1;
    }

pub latest_at-requires-clause-date : goal.latest_at-requires-clause-date
latest_at-requires-clause-date c = record {
  station = c.requires.station;
  from_one = omega arith;
  job = omega (arith, c.loop-done-test.true, c.requires.jobs);
}

pub latest_at-requires-clause-one_for_each : goal.latest_at-requires-clause-one_for_each
latest_at-requires-clause-one_for_each c =
    subst (HasDates c.args.run.now.live) (sym c.as_slice.ensures.value) c.requires.run.found.one_for_each

pub date-date-requires-clause-station : goal.date-date-requires-clause-station
date-date-requires-clause-station c = omega (arith, c.requires.station, ap stations c.requires.run.of_graph)

pub date-date-requires-clause-job : goal.date-date-requires-clause-job
date-date-requires-clause-job c =
    omega (arith, c.loop-done-test.true, c.requires.jobs, ap jobs c.requires.run.of_graph)

-- the date of the run is no later than the latest one
early : (c : After-date-date) → IsNoLater (Some c.date-date.result) c.date-latest.result
early c =
    let live = c.args.run.now.live in
    let t = c.args.t in
    let n = c.args.before + c.loop-done.done + 1 in
    let read = c.date-latest.ensures ∙ c.latest_at.ensures ∙ ap (λ l. latest_in live l t n) c.as_slice.ensures.value in
    let date : IsDate live.graph t n = record { station = c.requires.station; from_one = omega arith; job = omega (arith, c.loop-done-test.true, c.requires.jobs) } in
    subst (λ d. IsNoLater (Some d) c.date-latest.result) (sym c.date-date.ensures.date)
    (subst (IsNoLater (Some (date_in c.args.run.now.table.rows t n))) (sym read) (c.requires.run.found.not_before t n date))

pub write_line-end-requires-clause-early : goal.write_line-end-requires-clause-early
write_line-end-requires-clause-early c = early (goal.at.write_line-end-requires-clause-early c).After-date-date

pub write_line-end-requires-clause-room : goal.write_line-end-requires-clause-room
write_line-end-requires-clause-room c =
    let before = c.loop-done.invariant in
    omega (arith, before.within, before.size, c.requires.room, c.requires.few, c.loop-done-test.true)

pub has_no_slack-requires : goal.has_no_slack-requires
has_no_slack-requires c = early (goal.at.has_no_slack-requires c).After-date-date

pub returns-clause-next : goal.returns-clause-next
returns-clause-next c =
    let all : c.args.before + 1 + c.loop-done.done ≡ c.args.before + c.args.count + 1 = omega (arith, c.loop-done-test.false) in
    c.loop-done.invariant.start ∙ ap (λ (n : ℕ). record { label = label c.args.run.now.live.graph c.args.t; job = n }) all

pub returns-clause-lines : goal.returns-clause-lines
returns-clause-lines c =
    let run = c.args.run.now in
    let all : c.loop-done.done ≡ c.args.count = omega (arith, c.loop-done-test.false) in
    c.loop-done.invariant.lines
    ∙ ap (job_lines run.live.graph (date_in run.table.rows) (latest_of (found_of run)) c.args.t c.args.before) all

pub returns-clause-tight : goal.returns-clause-tight
returns-clause-tight c =
    let run = c.args.run.now in
    let all : c.loop-done.done ≡ c.args.count = omega (arith, c.loop-done-test.false) in
    c.loop-done.invariant.tight
    ∙ ap (tight_jobs (date_in run.table.rows) (latest_of (found_of run)) c.args.t c.args.before) all

pub returns-clause-few_tight : goal.returns-clause-few_tight
returns-clause-few_tight c = omega (arith, c.loop-done.invariant.few)

pub returns-clause-end : goal.returns-clause-end
returns-clause-end c = omega (arith, c.loop-done.invariant.within, c.requires.few)
