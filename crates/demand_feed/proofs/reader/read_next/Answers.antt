use Rattle.demand_feed.proofs.ReadRecords.{GivesNext-read}
use Rattle.demand_feed.proofs.reader.read_next.Goals as goal

pub returns-in-Ok-clause-next : goal.returns-in-Ok-clause-next
returns-in-Ok-clause-next c =
    GivesNext-read _ _ _ c.in-Ok.found c.in-Ok.ensures.reads c.in-Ok.ensures.ready c.in-Ok.ensures.flexible
