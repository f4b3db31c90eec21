use Rattle.outside_io.proofs.HeldLemmas.{times_noted_push, times_noted_push_other, times_noted_push_rises, times_noted_push_by_one}
use Rattle.outside_io.proofs.mem_store.note.Goals as goal

pub returns-clause-noted : goal.returns-clause-noted
returns-clause-noted c =
    let old = c.args.faults.now in
    let new = c.push_reserved.new.self in
    let pushed = c.push_reserved.ensures.items in
    record {
      named = times_noted_push old new c.args.text pushed;
      others = times_noted_push_other old new c.args.text pushed;
    }

pub returns-clause-stays_or_rises : goal.returns-clause-stays_or_rises
returns-clause-stays_or_rises c =
    times_noted_push_rises c.args.faults.now c.push_reserved.new.self c.args.text c.push_reserved.ensures.items

pub returns-clause-rises_by_one : goal.returns-clause-rises_by_one
returns-clause-rises_by_one c =
    times_noted_push_by_one c.args.faults.now c.push_reserved.new.self c.args.text c.push_reserved.ensures.items
