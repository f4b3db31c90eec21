use Rattle.std.proofs.Common.{sym, ap, ◌∙◌}
use Rattle.std.specs.Prelude.{Ok}
use Rattle.std.proofs.lemmas.Bool.{eqb-true, eqb-false}
use Rattle.line_base.specs.declared.event.Parts.{Parts}
use Rattle.line_core.specs.Run.{Run}
use Rattle.line_core.specs.Schedule.{station_with}
use Rattle.line_core.proofs.FollowedLines.{follow-empty, follow-no_station, follow-done, follow-waits, follow-fires}
use Rattle.line_core.proofs.schedule.follow_line.Goals as goal

pub returns-then-is_empty-clause-followed : goal.returns-then-is_empty-clause-followed
returns-then-is_empty-clause-followed c =
    follow-empty c.args.state.now.graph c.args.line c.args.text.now c.args.state.now.state (eqb-true _ 0 (sym c.is_empty.ensures ∙ c.if-is_empty.true))

pub returns-in-None-clause-refused : goal.returns-in-None-clause-refused
returns-in-None-clause-refused c =
    let some = eqb-false _ 0 (sym c.is_empty.ensures ∙ c.if-is_empty.false) in
    let found = sym (ap (λ (h : Parts). station_with h c.args.text.now) (c.graph.ensures.graph ∙ c.requires.made_for)) ∙ sym c.station_with.ensures.found ∙ c.in-None.is in
    follow-no_station c.args.state.now.graph c.args.line c.args.text.now c.args.state.now.state some found

pub returns-in-Ok-clause-followed : goal.returns-in-Ok-clause-followed
returns-in-Ok-clause-followed c =
    let some = eqb-false _ 0 (sym c.is_empty.ensures ∙ c.if-is_empty.false) in
    let found = sym (ap (λ (h : Parts). station_with h c.args.text.now) (c.graph.ensures.graph ∙ c.requires.made_for)) ∙ sym c.station_with.ensures.found ∙ c.in-Some.is in
    follow-fires c.args.state.now.graph c.args.line c.args.text.now c.args.state.now.state some c.in-Some.station found c.in-Ok.ensures.could
    ∙ ap (λ (r : Run). Ok r.state) (sym c.in-Ok.ensures.fired)

pub returns-in-Err-Done-clause-refused : goal.returns-in-Err-Done-clause-refused
returns-in-Err-Done-clause-refused c =
    let some = eqb-false _ 0 (sym c.is_empty.ensures ∙ c.if-is_empty.false) in
    let found = sym (ap (λ (h : Parts). station_with h c.args.text.now) (c.graph.ensures.graph ∙ c.requires.made_for)) ∙ sym c.station_with.ensures.found ∙ c.in-Some.is in
    let all = rw c.in-Err-Done.field-0-is at c.in-Err-Done.ensures.refused in
    follow-done c.args.state.now.graph c.args.line c.args.text.now c.args.state.now.state some c.in-Some.station found all

pub returns-in-Err-Empty-clause-refused : goal.returns-in-Err-Empty-clause-refused
returns-in-Err-Empty-clause-refused c =
    let some = eqb-false _ 0 (sym c.is_empty.ensures ∙ c.if-is_empty.false) in
    let found = sym (ap (λ (h : Parts). station_with h c.args.text.now) (c.graph.ensures.graph ∙ c.requires.made_for)) ∙ sym c.station_with.ensures.found ∙ c.in-Some.is in
    let waits = rw c.in-Err-Empty.field-0-is at c.in-Err-Empty.ensures.refused in
    follow-waits c.args.state.now.graph c.args.line c.args.text.now c.args.state.now.state some c.in-Some.station c.in-Err-Empty.arc found waits.0 waits.1
