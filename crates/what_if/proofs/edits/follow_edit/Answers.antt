use Rattle.std.proofs.Common.{refl, sym, ap, subst, ◌∙◌, arith}
use Rattle.event_graph.specs.Network.{stations, jobs}
use Rattle.live_check.specs.Order.{LiveGraph}
use Rattle.what_if.specs.Page.{Page, slot, mark_count}
use Rattle.what_if.specs.Edits.{IsEdit, inputs_after}
use Rattle.what_if.specs.Settled.{KeepsDates}
use Rattle.what_if.proofs.Readers.{count_of-set}
use Rattle.what_if.proofs.WordsOfEdits.{time_edit-station}
use Rattle.what_if.proofs.edits.follow_edit.Goals as goal

pub set_time-requires-clause-not_the_feed : goal.set_time-requires-clause-not_the_feed
set_time-requires-clause-not_the_feed c =
    let valid = subst (IsEdit c.args.live.now.graph) c.in-Time.is c.requires.valid in
    (time_edit-station c.args.live.now.graph c.in-Time.station c.in-Time.job c.in-Time.time valid).0

pub set_time-requires-clause-date : goal.set_time-requires-clause-date
set_time-requires-clause-date c =
    let g = c.args.live.now.graph in
    let valid = subst (IsEdit g) c.in-Time.is c.requires.valid in
    let there = (time_edit-station g c.in-Time.station c.in-Time.job c.in-Time.time valid).1 in
    record {
      station = omega (arith, there, ap (λ (l : LiveGraph). stations l.graph) c.requires.made_for);
      from_one = valid.from_one;
      job = omega (arith, valid.job, ap (λ (l : LiveGraph). jobs l.graph) c.requires.made_for);
    }

pub returns-in-Time-clause-followed : goal.returns-in-Time-clause-followed
returns-in-Time-clause-followed c =
    ap (λ (q : Page). q.inputs) c.set_time.ensures.retimed ∙ sym (ap (inputs_after c.args.sheet.now.inputs) c.in-Time.is)

pub returns-in-Time-clause-dates : goal.returns-in-Time-clause-dates
returns-in-Time-clause-dates c =
    subst (KeepsDates c.args.sheet.now) (sym c.set_time.ensures.retimed) (record { live = refl; first = refl; dates = refl; evaluations = refl })

pub returns-in-Time-clause-marks : goal.returns-in-Time-clause-marks
returns-in-Time-clause-marks c =
    let p = c.args.sheet.now in
    omega (arith, ap (λ (q : Page). mark_count q) c.set_time.ensures.retimed, count_of-set p.marks (slot p.live c.in-Time.station c.in-Time.job))

pub returns-then-fits-clause-dates : goal.returns-then-fits-clause-dates
returns-then-fits-clause-dates c =
    subst (KeepsDates c.args.sheet.now) (sym c.set_demand.ensures.redemanded) (record { live = refl; first = refl; dates = refl; evaluations = refl })

pub returns-else-fits-clause-dates : goal.returns-else-fits-clause-dates
returns-else-fits-clause-dates c = record { live = refl; first = refl; dates = refl; evaluations = refl }

pub returns-then-fits-clause-marks : goal.returns-then-fits-clause-marks
returns-then-fits-clause-marks c =
    let p = c.args.sheet.now in
    omega (arith, ap (λ (q : Page). mark_count q) c.set_demand.ensures.redemanded, count_of-set p.marks (slot p.live 0 c.in-Demand.job))

pub returns-in-Time-clause-may : goal.returns-in-Time-clause-may
returns-in-Time-clause-may c = (λ _. rw c.in-Time.is tt, λ _. refl)

pub set_demand-requires-clause-in_order : goal.set_demand-requires-clause-in_order
set_demand-requires-clause-in_order c = c.fits_between-fits.ensures.0 c.if-fits.true

pub returns-then-fits-clause-may : goal.returns-then-fits-clause-may
returns-then-fits-clause-may c = rw c.in-Demand.is c.fits_between-fits.ensures

pub returns-else-fits-clause-may : goal.returns-else-fits-clause-may
returns-else-fits-clause-may c = rw c.in-Demand.is c.fits_between-fits.ensures
