use Rattle.std.proofs.Common.{◌≡◌, length, vec_len, subst, arith}
use Rattle.line_base.specs.declared.event.Parts.{Parts}
use Rattle.line_core.specs.Run.{IsLeastTable}
use Rattle.line_stats.specs.PlantDates.{AreLeastDates}
use Rattle.outside_io.proofs.OutgoingLemmas.{text_written}
use Rattle.line_report.proofs.Lines.{given_back}
use Rattle.line_report.proofs.report.Report.write.Goals as goal

pub write_text-requires-clause-run : goal.write_text-requires-clause-run
write_text-requires-clause-run g c κs lives = record { numbers = c.self.invariant.3; of_plant = c.self.invariant.0 }

pub write_text-requires-clause-some : goal.write_text-requires-clause-some
write_text-requires-clause-some g c κs lives = omega (arith, c.self.invariant.4, c.deref_mut.ensures.len)

pub returns-clause-puts : goal.returns-clause-puts
returns-clause-puts g c =
    rw (← c.self.view_is) (text_written (g.K.Sink.shown c.finish.new.sink) c.finish.result c.self.invariant.2 c.write_text.ensures.text c.finish.ensures.flushed)

pub returns-clause-stays : goal.returns-clause-stays
returns-clause-stays g c =
    let run = c.self.inside.run in
    let of_plant = c.self.invariant.0 in
    let least = subst (λ (h : Parts). IsLeastTable (record { graph = h; rows = run.table.rows })) of_plant.table_graph c.self.invariant.1 in
    record {
      same = c.self.view_is;
      least = subst AreLeastDates c.self.view_is (record { sound = of_plant.sound; least = least });
    }

pub invariant_of-self : goal.invariant_of-self
invariant_of-self g c =
    let before = c.self.invariant in
    let number : length c.write_text.new.portions ≡ vec_len c.self.inside.portions = omega (arith, c.write_text.ensures.number, c.deref_mut.ensures.len) in
    (before.0, before.1, c.finish.ensures.as_new, before.3, rw (given_back _ _ c.self.inside.portions.items number) (omega (arith, before.4, number, c.self.inside.portions.ok.0)))
