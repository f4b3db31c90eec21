use Rattle.std.proofs.Common.{ℕ, ◌+◌, ◌<◌, List, sym, ap, subst, refl, ◌∙◌, arith, length}
use Rattle.std.specs.Prelude.{Ok, Err}
use Rattle.std.specs.Str.Lines.{strip_carriage_return}
use Rattle.std.proofs.lemmas.List.{length-drop}
use Rattle.line_core.specs.Schedule.{lines_of}
use Rattle.what_if.specs.Edits.{LeadsTo, IsRefused, EditsGive}
use Rattle.what_if.specs.Page.{Page, mark_count}
use Rattle.what_if.specs.Settled.{KeepsDates}
use Rattle.what_if.proofs.Lines.{line-within, lines-more, lines-last, comes-more, comes-last, comes-refused}
use Rattle.what_if.proofs.edits.follow_edits.Goals as goal

-- dates that two steps keep
kept : (old between new : Page) → KeepsDates old between → KeepsDates between new → KeepsDates old new
kept old between new before step = record {
  live = step.live ∙ before.live;
  first = step.first ∙ before.first;
  dates = step.dates ∙ before.dates;
  evaluations = step.evaluations ∙ before.evaluations;
}

pub loop-rest-init : goal.loop-rest-init
loop-rest-init c = record {
  made_for = c.requires.made_for;
  comes = λ outcome gives. gives;
  dates = record { live = refl; first = refl; dates = refl; evaluations = refl };
  marks = omega arith;
  counted = omega arith;
}

pub prefix-requires : goal.prefix-requires
prefix-requires c = omega (arith, c.end_before-end.ensures, line-within c.loop-rest.rest.now)

pub returns-then-not-follow_line-clause-refused : goal.returns-then-not-follow_line-clause-refused
returns-then-not-follow_line-clause-refused c =
    let g = c.args.live.now.graph in
    let rest = c.loop-rest.rest.now in
    let end = c.end_before-end.result in
    let text = c.without_return-text.ensures ∙ ap strip_carriage_return c.prefix.ensures in
    let refused = subst (λ line. IsRefused g line c.loop-rest.sheet.inputs) text c.if-not-follow_line.ensures.refused in
    let n = c.loop-rest.line in
    let stops = c.loop-rest.invariant.comes (Err (record { line = n; left = c.loop-rest.sheet.inputs })) (
    comes-refused rest end c.end_before-end.ensures g n c.loop-rest.sheet.inputs (omega (arith, c.end_before-end.ensures, line-within rest)) refused) in
    subst (λ (page : Page). EditsGive g (lines_of c.args.edits.now) 1 c.args.sheet.now.inputs (Err (record { line = n; left = page.inputs })))
    (sym c.if-not-follow_line.ensures.unchanged) stops

pub returns-then-not-follow_line-clause-dates : goal.returns-then-not-follow_line-clause-dates
returns-then-not-follow_line-clause-dates c =
    kept c.args.sheet.now c.loop-rest.sheet c.follow_line.new.sheet c.loop-rest.invariant.dates c.follow_line.ensures.dates

pub returns-then-not-follow_line-clause-marks : goal.returns-then-not-follow_line-clause-marks
returns-then-not-follow_line-clause-marks c =
    omega (arith, c.loop-rest.invariant.marks, ap (λ (page : Page). mark_count page) c.if-not-follow_line.ensures.unchanged)

pub returns-then-end-rest-clause-dates : goal.returns-then-end-rest-clause-dates
returns-then-end-rest-clause-dates c =
    kept c.args.sheet.now c.loop-rest.sheet c.follow_line.new.sheet c.loop-rest.invariant.dates c.follow_line.ensures.dates

pub returns-then-end-rest-clause-marks : goal.returns-then-end-rest-clause-marks
returns-then-end-rest-clause-marks c =
    let one = lines-last c.loop-rest.rest.now c.end_before-end.result c.end_before-end.ensures c.if-end-rest.true in
    omega (arith, c.loop-rest.invariant.marks, c.follow_line.ensures.marks, ap (λ (lines : List (List ℕ)). length lines) one)

pub returns-then-end-rest-clause-followed : goal.returns-then-end-rest-clause-followed
returns-then-end-rest-clause-followed c =
    let g = c.args.live.now.graph in
    let rest = c.loop-rest.rest.now in
    let end = c.end_before-end.result in
    let next = c.follow_line.new.sheet.inputs in
    let text = c.without_return-text.ensures ∙ ap strip_carriage_return c.prefix.ensures in
    let leads = subst (λ line. LeadsTo g line c.loop-rest.sheet.inputs next) text c.if-not-follow_line.ensures.followed in
    c.loop-rest.invariant.comes (Ok next) (
    comes-last rest end c.end_before-end.ensures g c.loop-rest.line c.loop-rest.sheet.inputs next c.if-end-rest.true leads)

pub loop-rest-preserved : goal.loop-rest-preserved
loop-rest-preserved c =
    let g = c.args.live.now.graph in
    let rest = c.loop-rest.rest.now in
    let end = c.end_before-end.result in
    let next = c.follow_line.new.sheet.inputs in
    let more : end < length rest = omega (arith, c.if-end-rest.false, c.end_before-end.ensures, line-within rest) in
    let text = c.without_return-text.ensures ∙ ap strip_carriage_return c.prefix.ensures in
    let leads = subst (λ line. LeadsTo g line c.loop-rest.sheet.inputs next) text c.if-not-follow_line.ensures.followed in
    let h = c.loop-rest.invariant in
    let step = c.follow_line.ensures.dates in
    let cut = lines-more rest end c.end_before-end.ensures more in
    record {
      made_for = h.made_for ∙ sym step.live;
      comes = λ outcome further.
          h.comes outcome (
          comes-more rest end c.end_before-end.ensures g c.loop-rest.line c.loop-rest.sheet.inputs next outcome more leads (
          subst (λ text. EditsGive g (lines_of text) (c.loop-rest.line + 1) next outcome) c.behind-rest.ensures further));
      dates = kept c.args.sheet.now c.loop-rest.sheet c.follow_line.new.sheet h.dates step;
      marks = omega (arith, h.marks, c.follow_line.ensures.marks, ap (λ (lines : List (List ℕ)). length lines) cut, ap (λ text. length (lines_of text)) c.behind-rest.ensures);
      counted = omega (arith, h.counted, ap length c.behind-rest.ensures, length-drop (end + 1) rest, more);
    }

pub overflow_add-end : goal.overflow_add-end
overflow_add-end c =
    omega (arith, c.end_before-end.ensures, line-within c.loop-rest.rest.now, c.loop-rest.invariant.counted, c.loop-rest.auto.line-fits, c.if-end-rest.false)

pub behind-rest-requires : goal.behind-rest-requires
behind-rest-requires c =
    omega (arith, c.end_before-end.ensures, line-within c.loop-rest.rest.now, c.if-end-rest.false)

pub loop-rest-smaller : goal.loop-rest-smaller
loop-rest-smaller c =
    let rest = c.loop-rest.rest.now in
    omega (arith, ap length c.behind-rest.ensures, length-drop (c.end_before-end.result + 1) rest, c.end_before-end.ensures, line-within rest, c.if-end-rest.false)

pub follow_line-requires : goal.follow_line-requires
follow_line-requires c = record { made_for = c.loop-rest.invariant.made_for }
