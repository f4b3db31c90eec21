use Rattle.std.proofs.Common.{◌-◌, Some, sym, ap, ◌∙◌, subst}
use Rattle.std.specs.Prelude.{option_map}
use Rattle.latest_dates.specs.Latest.{IsNoLater}
use Rattle.latest_dates.specs.Words.{date_of-none, date_of-some}
use Rattle.latest_dates.proofs.WordLemmas.{date_of-less}
use Rattle.latest_dates.proofs.latest_date.LatestDate.less.Goals as goal

pub returns-then-self : goal.returns-then-self
returns-then-self c =
    let none = date_of-none c.self.inside.word c.if-self.true in
    none ∙ sym (ap (option_map (λ date. date - c.args.time)) (sym c.self.view_is ∙ none))

pub overflow_sub-result : goal.overflow_sub-result
overflow_sub-result c =
    subst (IsNoLater (Some c.args.time)) (sym c.self.view_is ∙ date_of-some c.self.inside.word c.if-self.false) c.requires

pub returns : goal.returns
returns c =
    let long = subst (IsNoLater (Some c.args.time)) (sym c.self.view_is ∙ date_of-some c.self.inside.word c.if-self.false) c.requires in
    date_of-less c.self.inside.word c.args.time c.self.invariant c.if-self.false long
    ∙ ap (option_map (λ date. date - c.args.time)) c.self.view_is
