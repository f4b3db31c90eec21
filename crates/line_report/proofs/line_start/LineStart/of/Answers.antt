use Rattle.std.proofs.Common.{◌≡◌, ℕ, ◌+◌, ◌++◌, ◌∷◌, [], length, decimal, take, sym, ap, ◌∙◌, arith}
use Rattle.line_report.proofs.Starts.{kept_front, short_label}
use Rattle.line_report.proofs.line_start.LineStart.of.Goals as goal

pub invariant_of-result : goal.invariant_of-result
invariant_of-result c =
    let label = c.args.label.now in
    let head = c.write_label-at in
    let end = c.write_job-end in
    let short = short_label label c.requires.label in
    let name : take (length label) end.new.text ≡ label =
    kept_front head.new.text end.new.text _ (length label) head.result end.result (omega (arith, head.ensures.end)) (omega (arith, head.ensures.end, short)) end.ensures.written ∙ head.ensures.label
    in
    let front : take (length label + 1) end.new.text ≡ take head.result head.new.text =
    ap (λ (n : ℕ). take n end.new.text) (sym head.ensures.end)
    ∙ kept_front head.new.text end.new.text _ head.result head.result end.result (omega arith) (omega (arith, head.ensures.end, short)) end.ensures.written
    in (
      short,
      c.requires.job,
      omega (arith, end.ensures.end, head.ensures.end, short),
      front ∙ head.ensures.written ∙ ap (λ l. l ++ 32 ∷ []) (sym name),
      end.ensures.written ∙ ap (λ l. l ++ (decimal c.args.job ++ 32 ∷ [])) (sym front),
    )

pub returns : goal.returns
returns c =
    let label = c.args.label.now in
    let head = c.write_label-at in
    let end = c.write_job-end in
    let short = short_label label c.requires.label in
    ap (λ (l : _). record { label = l; job = c.args.job })
    (kept_front head.new.text end.new.text _ (length label) head.result end.result (omega (arith, head.ensures.end)) (omega (arith, head.ensures.end, short)) end.ensures.written ∙ head.ensures.label)
