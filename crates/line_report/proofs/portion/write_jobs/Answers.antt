use Rattle.std.proofs.Common.{◌≡◌, ℕ, take, refl, ◌+◌, ◌++◌, sym, ap, ◌∙◌, append-nil, arith}
use Rattle.event_graph.specs.Network.{label}
use Rattle.event_graph.specs.Table.{date_in}
use Rattle.line_report.specs.Portions.{LineStart}
use Rattle.line_report.proofs.Portions.{job_lines-none, job_lines-added, date_read}
use Rattle.line_report.proofs.portion.write_jobs.Goals as goal

pub loop-done-init : goal.loop-done-init
loop-done-init c =
    let job : c.args.before + 1 ≡ c.args.before + 1 + 0 = omega arith in
    record {
      within = c.requires.room;
      size = refl;
      lines = sym (ap (λ l. take c.args.at c.args.room.now ++ l) (job_lines-none c.args.graph.now (date_in c.args.table.now.rows) c.args.t c.args.before) ∙ append-nil _);
      start = c.of-start.ensures ∙ ap (λ (l : _). record { label = l; job = c.args.before + 1 }) c.label.ensures.text ∙ ap (λ (n : ℕ). record { label = label c.args.graph.now c.args.t; job = n }) job;
    }

pub loop-done-preserved : goal.loop-done-preserved
loop-done-preserved c =
    let g = c.args.graph.now in
    let rows = c.args.table.now.rows in
    let t = c.args.t in
    let k = c.args.before + c.loop-done.done in
    let before = c.loop-done.invariant in
    let start : c.next.new.self ≡ record { label = label g t; job = c.args.before + 1 + c.loop-done.done + 1 } =
    c.next.ensures ∙ ap (λ (s : LineStart). record { label = s.label; job = s.job + 1 }) before.start
    in
    let job : c.args.before + 1 + c.loop-done.done + 1 ≡ c.args.before + 1 + (c.loop-done.done + 1) = omega arith in
    let number : c.loop-done.start.job ≡ k + 1 = ap (λ (s : LineStart). s.job) before.start ∙ omega arith in
    let date = date_read rows t k c.dates-dates.result.now c.dates-dates.ensures.dates in
    record {
      within = omega (arith, c.write_line-end.ensures.end, c.write_line-end.auto.room, c.if-room-end-lt-MAX_LINE.false);
      size = omega (arith, c.write_line-end.auto.room, before.size);
      lines = job_lines-added g (date_in rows) t c.args.before c.loop-done.done (take c.args.at c.args.room.now) (take c.loop-done.end c.loop-done.room) _ _ _ _ before.lines (ap (λ (s : LineStart). s.label) before.start) number date c.write_line-end.ensures.written;
      start = start ∙ ap (λ (n : ℕ). record { label = label g t; job = n }) job;
    }

pub of-start-requires-clause-label : goal.of-start-requires-clause-label
of-start-requires-clause-label c = c.label.ensures.rule
