use Rattle.std.proofs.Common.{◌≡◌, ◌≢◌, ◌-◌, ◌<◌, [], not, sym, ap, subst, ◌∙◌, arith, set, get_or, length, eqb}
use Rattle.std.specs.Prelude.{IsTrue, ◌↔◌}
use Rattle.std.proofs.lemmas.List.{get_or_read}
use Rattle.event_graph.specs.Network.{stations}
use Rattle.what_if.specs.Page.{Page, date_at, greatest_term}
use Rattle.what_if.specs.Evaluation.{after_evaluation}
use Rattle.what_if.specs.Sheet.{IsSheet, page_of}
use Rattle.what_if.proofs.KeptSheets.{marks_after-code, evaluated-code, test-differs, date_at-evaluated, evaluated-is_sheet}
use Rattle.what_if.proofs.sheet.Sheet.evaluate.Goals as goal

pub returns-clause-evaluated : goal.returns-clause-evaluated
returns-clause-evaluated c =
    let i = c.self.inside in
    let t = c.args.t in
    let n = c.args.n in
    let p = page_of i.live.value i.times.items i.demands i.first.items i.dates.items i.marks i.evaluations in
    let is : p ≡ c.args.self.now = c.self.view_is in
    let greatest = c.greatest_term-date.ensures ∙ sym (ap (λ (q : Page). greatest_term q t n) is) in
    let date = c.date.ensures.date ∙ sym (ap (λ (q : Page). date_at q t n) is) in
    let live = c.requires.made_for ∙ sym (ap (λ (q : Page). q.live) is) in
    let there : t < length i.dates.items = omega (arith, c.requires.date.station, ap (λ (q : Page). stations q.live.graph) is, c.self.invariant.sheet.dates.row_for_each) in
    let row = c.set.ensures ∙ ap (λ r. set r (n - 1) c.greatest_term-date.result) (get_or_read i.dates.items t c.index_mut.result.now there c.index_mut.ensures.value []) ∙ ap (set (get_or i.dates.items t []) (n - 1)) greatest in
    evaluated-code p t n (set i.dates.items t c.set.new.self) c.renew_marks.new.marks
    (ap (set i.dates.items t) row)
    (c.renew_marks.ensures ∙ marks_after-code p t n c.args.live.now c.date.result c.greatest_term-date.result live date greatest)
    ∙ ap (λ (q : Page). after_evaluation q t n) is

pub returns-clause-kept : goal.returns-clause-kept
returns-clause-kept c =
    let sheet = subst IsSheet c.self.view_is c.self.invariant.sheet in
    subst IsSheet (sym (returns-clause-evaluated c)) (evaluated-is_sheet c.args.self.now sheet c.args.t c.args.n c.requires.date)

pub returns-clause-changed : goal.returns-clause-changed
returns-clause-changed c =
    let sheet = subst IsSheet c.self.view_is c.self.invariant.sheet in
    let t = c.args.t in
    let n = c.args.n in
    let new = sym (ap (λ (q : Page). date_at q t n) (returns-clause-evaluated c) ∙ date_at-evaluated c.args.self.now sheet t n c.requires.date ∙ sym c.greatest_term-date.ensures) in
    subst (λ d. IsTrue (not (eqb c.date.result c.greatest_term-date.result)) ↔ (d ≢ date_at c.args.self.now t n)) new (
    subst (λ d. IsTrue (not (eqb c.date.result c.greatest_term-date.result)) ↔ (c.greatest_term-date.result ≢ d)) c.date.ensures.date (test-differs c.date.result c.greatest_term-date.result))

pub invariant_of-self : goal.invariant_of-self
invariant_of-self c = record { sheet = returns-clause-kept c; same_ranks = c.self.invariant.same_ranks }
