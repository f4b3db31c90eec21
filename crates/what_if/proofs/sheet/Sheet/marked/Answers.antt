use Rattle.std.proofs.Common.{◌≡◌, ◌+◌, ◌-◌, ◌*◌, ◌<◌, sym, ap, ◌∙◌, subst, arith, length}
use Rattle.std.proofs.lemmas.List.{get_or_read}
use Rattle.event_graph.specs.Network.{stations}
use Rattle.what_if.specs.Marks.{is_at}
use Rattle.what_if.specs.Page.{Page, IsDate, slot, is_marked}
use Rattle.what_if.specs.Sheet.{IsSheet, date_count}
use Rattle.what_if.proofs.SlotOrder.{slot-by_ranks, slot-below}
use Rattle.what_if.proofs.sheet.Sheet.marked.Goals as goal
use Rattle.what_if.proofs.sheet.Sheet.marked.Goals.{After-len}

pub index-requires : goal.index-requires
index-requires c =
    let ranks = c.self.inside.ranks in
    let up = c.self.invariant.sheet.ranked.upward in
    omega (arith, c.requires.station, ap (λ (p : Page). stations p.live.graph) c.self.view_is, up.rank_for_each, ap length c.self.invariant.same_ranks, ranks.ok.0)

-- the slot of the date, by the ranks that the sheet has beside its page
slot_is : (c : After-len) → (c.args.n - 1) * c.len.result + c.index.result.now ≡ slot c.self.inside.live.value c.args.t c.args.n
slot_is c =
    let before = c.args.n - 1 in
    let ranks = c.self.inside.ranks.items in
    let many : c.len.result ≡ length ranks = omega (arith, c.len.ensures) in
    let up = c.self.invariant.sheet.ranked.upward in
    let there : c.args.t < length ranks = omega (arith, c.requires.station, ap (λ (p : Page). stations p.live.graph) c.self.view_is, up.rank_for_each, ap length c.self.invariant.same_ranks) in
    ap (λ w. before * w + c.index.result.now) many
    ∙ ap (λ rank. before * length ranks + rank) (get_or_read ranks c.args.t c.index.result.now there c.index.ensures 0)
    ∙ slot-by_ranks c.self.inside.live.value ranks c.args.t c.args.n up c.self.invariant.same_ranks

-- which is below the number of dates
below : (c : After-len) → slot c.self.inside.live.value c.args.t c.args.n < date_count c.self.inside.live.value.graph
below c =
    let date = subst (λ (p : Page). IsDate p.live.graph c.args.t c.args.n) (sym c.self.view_is) c.requires in
    slot-below c.self.inside.live.value c.self.invariant.sheet.ranked.upward c.args.t c.args.n date

pub slot_at-requires-clause-small : goal.slot_at-requires-clause-small
slot_at-requires-clause-small c =
    let at = (goal.at.slot_at-requires-clause-small c).After-len in
    omega (arith, slot_is at, below at, c.self.invariant.sheet.ranked.limits.small_table)

pub has-requires : goal.has-requires
has-requires c =
    let at = (goal.at.has-requires c).After-len in
    omega (arith, c.slot_at.ensures, slot_is at, below at, c.self.invariant.sheet.room)

pub returns-clause-marked : goal.returns-clause-marked
returns-clause-marked c =
    c.has.ensures
    ∙ ap (is_at c.self.inside.marks) (c.slot_at.ensures ∙ slot_is (goal.at.returns-clause-marked c).After-len)
    ∙ ap (λ (p : Page). is_marked p c.args.t c.args.n) c.self.view_is

pub returns-clause-kept : goal.returns-clause-kept
returns-clause-kept c = subst IsSheet c.self.view_is c.self.invariant.sheet
