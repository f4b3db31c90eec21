use Rattle.live_plant.proofs.refusals.schedules.labelled_refusal.Goals as goal

pub returns-in-NoStation : goal.returns-in-NoStation
returns-in-NoStation c = rw c.in-NoStation.is c.no_station_line.ensures

pub returns-in-Done : goal.returns-in-Done
returns-in-Done c = rw (c.in-Done.is, ← c.label.ensures.text) c.done_line.ensures

pub returns-in-Empty : goal.returns-in-Empty
returns-in-Empty c =
    rw (c.in-Empty.is, ← c.arc-arc.ensures.arc, ← c.label-in-Empty.ensures.text, ← c.label-in-Empty-2.ensures.text) c.waiting_line.ensures

pub returns-in-Unfinished : goal.returns-in-Unfinished
returns-in-Unfinished c =
    rw (c.in-Unfinished.is, ← c.label-in-Unfinished.ensures.text, ← c.jobs.ensures.count) c.unfinished_line.ensures
