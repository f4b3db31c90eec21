use Rattle.std.proofs.lemmas.Bool.{ne_eqb}
use Rattle.outside_io.proofs.OutgoingLemmas.{pushed_none, ◌⨟◌}
use Rattle.date_causes.proofs.Lines.{no_share}
use Rattle.date_causes.proofs.writing.write_share.Goals as goal

pub returns-then-sum-eq0 : goal.returns-then-sum-eq0
returns-then-sum-eq0 g c = rw (no_share c.args.label.now c.args.sum c.if-sum-eq0.true) (pushed_none _)

pub returns : goal.returns
returns g c =
    rw (ne_eqb c.args.sum 0 c.if-sum-eq0.false)
    (c.push.ensures ⨟ c.push-2.ensures ⨟ c.push-3.ensures ⨟ c.push_number.ensures ⨟ c.push-4.ensures)
