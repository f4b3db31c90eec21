use Rattle.std.proofs.Common.{◌+◌, ◌*◌, length}
use Rattle.line_base.proofs.sharing.+parts.Given as goal

abbrev pub decreases-call_by_parts : goal.decreases-call_by_parts
decreases-call_by_parts g l = length l.s.now * 3

abbrev pub decreases-call_both_parts : goal.decreases-call_both_parts
decreases-call_both_parts g l = length l.rest.now * 3 + 2

abbrev pub decreases-call_both_parts-of_rest : goal.decreases-call_both_parts-of_rest
decreases-call_both_parts-of_rest g l = length l.rest.now * 3 + 1
