use Rattle.std.proofs.Common.{◌≡◌, ℕ, List, ◌+◌, ◌-◌, take, ap, ◌∙◌, arith}
use Rattle.std.proofs.lemmas.List.{with_items_is}
use Rattle.event_graph.specs.Table.{date_in}
use Rattle.line_report.specs.Portions.{numbered_lines}
use Rattle.line_report.proofs.portion.Portion.fill.Goals as goal

pub returns : goal.returns
returns c =
    let from = c.args.from in
    let written = c.write_lines-written in
    let count = written.result.count in
    let alone : count ≡ from + count - from = omega arith in
    let same = with_items_is c.self.inside.room written.new.room (omega (arith, written.auto.room, c.deref_mut.ensures.len)) in
    record {
      begins = omega arith;
      ends = omega (arith, c.requires.ordered, written.ensures.few);
      text = ap (λ (l : List ℕ). take written.result.end l) same ∙ written.ensures.lines ∙ ap (λ (n : ℕ). numbered_lines c.args.graph.now (date_in c.args.table.now.rows) from n) alone;
    }
