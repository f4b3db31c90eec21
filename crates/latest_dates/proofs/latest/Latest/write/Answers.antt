use Rattle.std.proofs.Common.{subst}
use Rattle.outside_io.proofs.OutgoingLemmas.{text_written}
use Rattle.latest_dates.specs.Found.{IsFound}
use Rattle.latest_dates.proofs.latest.Latest.write.Goals as goal

pub returns-clause-puts : goal.returns-clause-puts
returns-clause-puts g c =
    rw (← c.self.view_is) (text_written (g.K.Sink.shown c.finish.new.sink) c.finish.result c.self.invariant.1 c.write_latest.ensures c.finish.ensures.flushed)

pub returns-clause-same : goal.returns-clause-same
returns-clause-same g c = c.self.view_is

pub returns-clause-found : goal.returns-clause-found
returns-clause-found g c = subst IsFound c.self.view_is c.self.invariant.0.found

pub invariant_of-self : goal.invariant_of-self
invariant_of-self g c = (c.self.invariant.0, c.finish.ensures.as_new)
