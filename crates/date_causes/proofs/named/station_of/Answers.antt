use Rattle.std.proofs.Common.{◌∙◌, sym, inl}
use Rattle.date_causes.proofs.Names.{named_exists, names_none}
use Rattle.date_causes.proofs.named.station_of.Goals as goal

pub returns-in-Some-clause-station : goal.returns-in-Some-clause-station
returns-in-Some-clause-station c =
    named_exists c.args.graph.now c.args.label.now c.in-Some.t (sym c.station_with.ensures ∙ c.in-Some.is)

pub returns-in_default-2-clause-none : goal.returns-in_default-2-clause-none
returns-in_default-2-clause-none c =
    inl (names_none c.args.graph.now c.args.label.now (sym c.station_with.ensures ∙ c.in_default.is))
