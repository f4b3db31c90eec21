use Rattle.std.proofs.Common.{ℕ, ◌+◌, length, sym, ap, subst, ◌∙◌}
use Rattle.std.specs.Prelude.{Option, MatchOption}
use Rattle.live_check.specs.Order.{LiveGraph}
use Rattle.what_if.specs.Marks.{HasNone, IsFirstFrom}
use Rattle.what_if.specs.Page.{Page, IsDate, slot}
use Rattle.what_if.proofs.SettledDates.{IsSettling, begins, goes_on, none_next, each_once}
use Rattle.what_if.proofs.sheet.Sheet.settle.Goals as goal

pub loop-next-init : goal.loop-next-init
loop-next-init c = record {
  settled = record {
    from = 0;
    settling = begins c.args.self.now c.first_marked-next.ensures.kept;
    next_is = c.first_marked-next.ensures.first;
  };
  made_for = c.requires.made_for;
}

pub evaluate-requires-clause-date : goal.evaluate-requires-clause-date
evaluate-requires-clause-date c =
    subst (λ (l : LiveGraph). IsDate l.graph c.date_at_slot-t.result.0 c.date_at_slot-t.result.1) c.loop-next.invariant.made_for c.date_at_slot-t.ensures.date

pub loop-next-preserved : goal.loop-next-preserved
loop-next-preserved c =
    let old = c.args.self.now in
    let p = c.loop-next.self in
    let h = c.loop-next.invariant in
    let at = c.in-Some.at in
    let t = c.date_at_slot-t.result.0 in
    let n = c.date_at_slot-t.result.1 in
    let first = subst (λ (o : Option ℕ). MatchOption o (HasNone p.marks h.settled.from (length p.marks)) (IsFirstFrom p.marks h.settled.from)) c.in-Some.is h.settled.next_is in
    let date = subst (λ (l : LiveGraph). IsDate l.graph t n) h.made_for c.date_at_slot-t.ensures.date in
    let slot_is = ap (λ l. slot l t n) (sym h.made_for) ∙ c.date_at_slot-t.ensures.slot in
    let settling = subst (λ (q : Page). IsSettling old q (at + 1)) (sym c.evaluate.ensures.evaluated) (goes_on old p h.settled.from at t n h.settled.settling first date slot_is) in
    record {
      settled = record { from = at + 1; settling = settling; next_is = c.first_marked-next-in-Some.ensures.first };
      made_for = h.made_for ∙ h.settled.settling.inputs.live ∙ sym settling.inputs.live;
    }

pub returns-clause-none_marked : goal.returns-clause-none_marked
returns-clause-none_marked c = (none_next c.args.self.now c.loop-next.self c.loop-next.next c.loop-next.invariant.settled c.in_default.is).0

pub returns-clause-solved : goal.returns-clause-solved
returns-clause-solved c = (none_next c.args.self.now c.loop-next.self c.loop-next.next c.loop-next.invariant.settled c.in_default.is).1

pub returns-clause-once_each : goal.returns-clause-once_each
returns-clause-once_each c = each_once c.args.self.now c.loop-next.self c.loop-next.next c.loop-next.invariant.settled
