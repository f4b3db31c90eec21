use Rattle.std.proofs.Common.{ltb, not, ◌&&◌, refl}
use Rattle.std.proofs.lemmas.Bool.{lt-ltb}
use Rattle.plant_check.proofs.RefusedTests.{none_refused}
use Rattle.plant_check.proofs.feeds.check_stage_feeds.Goals as goal

pub returns-then-fed-count : goal.returns-then-fed-count
returns-then-fed-count g c =
    rw c.in-Some.is
    (none_refused (not (ltb c.args.i c.in-Some.fed && ltb c.in-Some.fed c.args.count)) _
    (rw (lt-ltb c.args.i c.in-Some.fed c.if-i-fed.true, lt-ltb c.in-Some.fed c.args.count c.if-fed-count.true) refl))
