use Rattle.std.proofs.Common.{◌≡◌, ◌<◌, [], replicate, length, sym, ap, ◌∙◌, arith}
use Rattle.event_graph.specs.Network.{arc_count}
use Rattle.event_graph.proofs.ArcNumbers.{first_lists, first_lists-none, first_lists-more, first_lists-all, length-first_lists, station_at-exists, station_at-read}
use Rattle.event_graph.proofs.lists.arcs_by_station.Goals as goal

pub loop-number-init : goal.loop-number-init
loop-number-init c =
    c.in_ok-lists.ensures ∙ ap (λ n. replicate n []) c.len.ensures ∙ sym (first_lists-none c.args.end c.args.parts.now)

pub add-requires : goal.add-requires
add-requires c =
    let there : c.loop-number.number < arc_count c.args.parts.now = omega (arith, ap length c.as_slice-arc-items.ensures) in
    let at_end = station_at-read c.args.end c.args.parts.now _ c.loop-number.number c.station.result c.as_slice-arc-items.ensures c.station.ensures in
    let exists = station_at-exists c.args.end c.args.parts.now c.loop-number.number (c.requires.ends _ there) in
    omega (arith, at_end, exists, ap length c.loop-number.invariant, length-first_lists c.args.end c.args.parts.now c.loop-number.number)

pub loop-number-preserved : goal.loop-number-preserved
loop-number-preserved c =
    let there : c.loop-number.number < arc_count c.args.parts.now = omega (arith, ap length c.as_slice-arc-items.ensures) in
    let at_end = station_at-read c.args.end c.args.parts.now _ c.loop-number.number c.station.result c.as_slice-arc-items.ensures c.station.ensures in
    let exists = station_at-exists c.args.end c.args.parts.now c.loop-number.number (c.requires.ends _ there) in
    c.in_ok-add.ensures
    ∙ first_lists-more c.args.end c.args.parts.now c.loop-number.number c.station.result c.loop-number.lists c.loop-number.invariant at_end (omega (arith, at_end, exists))

pub returns : goal.returns
returns c =
    let last : c.loop-number.number ≡ arc_count c.args.parts.now = omega (arith, ap length c.as_slice-arc-items.ensures) in
    c.loop-number.invariant ∙ ap (first_lists c.args.end c.args.parts.now) last ∙ first_lists-all c.args.end c.args.parts.now
