use Rattle.line_chart.proofs.StartLaws.{none_leaves_earlier, one_server_leaves, servers_are_free}
use Rattle.line_chart.proofs.laws.starts_and_dates.Goals as goal

pub returns-clause-at_most : goal.returns-clause-at_most
returns-clause-at_most c = none_leaves_earlier

pub returns-clause-one_server : goal.returns-clause-one_server
returns-clause-one_server c = one_server_leaves

pub returns-clause-servers : goal.returns-clause-servers
returns-clause-servers c p sound = servers_are_free p
