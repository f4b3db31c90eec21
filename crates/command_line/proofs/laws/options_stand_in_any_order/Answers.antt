use Rattle.command_line.proofs.OptionCommands.{any_order, at_most_once}
use Rattle.command_line.proofs.laws.options_stand_in_any_order.Goals as goal

pub returns-clause-any_order : goal.returns-clause-any_order
returns-clause-any_order c = any_order

pub returns-clause-at_most_once : goal.returns-clause-at_most_once
returns-clause-at_most_once c = at_most_once
