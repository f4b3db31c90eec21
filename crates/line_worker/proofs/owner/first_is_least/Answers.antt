use Rattle.line_worker.proofs.Share.{first-own, first-least}
use Rattle.line_worker.proofs.owner.first_is_least.Goals as goal

pub returns-clause-own : goal.returns-clause-own
returns-clause-own c worker_count stations w t some any is = first-own worker_count stations some any w t is

pub returns-clause-least : goal.returns-clause-least
returns-clause-least c worker_count stations w t some any is = first-least worker_count stations some any w t is
