use Rattle.std.proofs.Common.{◌≡◌, ◌++◌, length, take, ap, ◌∙◌, arith}
use Rattle.line_report.specs.Portions.{start_text}
use Rattle.line_report.proofs.Starts.{copied_front, start-parts}
use Rattle.line_report.proofs.line_start.LineStart.write.Goals as goal

pub returns-clause-written : goal.returns-clause-written
returns-clause-written c =
    let s = c.self.inside in
    let holds = c.self.invariant in
    let same : c.copy_from_slice.new.self ≡ s.text = c.copy_from_slice.ensures.after in
    let start = start-parts s.text s.label s.end s.job holds.3 holds.4 in
    copied_front c.args.room.now c.copy_from_slice.new.self _ c.args.at s.end (omega (arith, c.requires)) (omega (arith, holds.2, ap length same, c.self.told))
    ∙ ap (λ l. take c.args.at c.args.room.now ++ take s.end l) same ∙ ap (λ l. take c.args.at c.args.room.now ++ l) (start ∙ ap start_text c.self.view_is)
