use Rattle.std.proofs.Common.{sym, ◌∙◌}
use Rattle.latest_dates.specs.Words.{date_of-none, date_of-some}
use Rattle.latest_dates.proofs.latest_date.LatestDate.date.Goals as goal

pub returns-then-self : goal.returns-then-self
returns-then-self c = sym (date_of-none c.self.inside.word c.if-self.true) ∙ c.self.view_is

pub returns-else-self : goal.returns-else-self
returns-else-self c = sym (date_of-some c.self.inside.word c.if-self.false) ∙ c.self.view_is
