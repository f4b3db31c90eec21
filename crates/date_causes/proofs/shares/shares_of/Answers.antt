use Rattle.std.proofs.Common.{◌<◌, length, ap, ◌∙◌, get_or, arith}
use Rattle.std.proofs.lemmas.List.{take_all, get_or_default}
use Rattle.std.proofs.lemmas.List.FromFn.{fill_by_all}
use Rattle.date_causes.specs.declared.link.Cause.TheVariants.{DemandDate}
use Rattle.date_causes.specs.declared.link.Link.{Link}
use Rattle.date_causes.specs.Shares.{share}
use Rattle.date_causes.proofs.Sums.{share_room}
use Rattle.date_causes.proofs.shares.shares_of.Goals as goal

pub overflow_add-index_mut : goal.overflow_add-index_mut
overflow_add-index_mut c =
    let none : Link = record { station = 0; job = 0; date = 0; cause = DemandDate; added = 0 } in
    let l = get_or c.args.links.now c.loop-link.link-index none in
    let room = share_room c.args.links.now c.loop-link.link-index none c.loop-link-test.true in
    let there = c.requires.stations c.loop-link.link-index none c.loop-link-test.true in
    let here = c.loop-link.invariant.each l.station there in
    let read = c.index_mut.ensures.value in
    let inside : l.station < length c.loop-link.shares.items = omega (arith, there, c.loop-link.invariant.long) in
    let same = get_or_default c.loop-link.shares.items l.station c.index_mut.result.now 0 inside in
    omega (arith, room, here, read, same, c.requires.small)

pub returns : goal.returns
returns c =
    fill_by_all (share c.args.links.now) c.loop-link.shares.items c.args.stations 0 c.loop-link.invariant.long
    (λ t low. c.loop-link.invariant.each t low ∙ ap (λ links. share links t) (take_all c.loop-link.link-index c.args.links.now c.loop-link-test.false))
