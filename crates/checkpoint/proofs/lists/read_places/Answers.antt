use Rattle.std.proofs.Common.{◌≡◌, ℕ, List, ◌+◌, ◌<◌, ◌++◌, ◌^◌, length, refl, sym, ap, ◌∙◌, subst, arith}
use Rattle.std.proofs.lemmas.List.{length_push}
use Rattle.line_base.specs.Roomy.{dates_of}
use Rattle.event_graph.specs.Network.{stations, arc_count}
use Rattle.checkpoint.specs.Text.{place_words}
use Rattle.checkpoint.specs.Reading.{HasReadPlaces, head_count}
use Rattle.checkpoint.proofs.ReadLines.{length-lines, line_at-place, dated_stop, rest_short, some_head}
use Rattle.checkpoint.proofs.ReadParts.{places_none, places_next}
use Rattle.checkpoint.proofs.lists.read_places.Goals as goal

pub loop-a-init : goal.loop-a-init
loop-a-init c = record {
  read = places_none c.args.format c.args.graph.now (dates_of c.args.logs.now) c.in-Ok.counts.items c.args.reader.now c.in-Ok.ensures.items;
  text = refl;
  counted = ap length c.in-Ok.ensures.items;
  room = omega (arith, c.in-Ok.ensures.exact, ap length c.arcs.ensures.arcs);
}

pub read_place-requires-clause-short : goal.read_place-requires-clause-short
read_place-requires-clause-short c =
    let so_far = c.loop-a.invariant.read in
    rest_short c.args.format c.args.graph.now _ (c.requires.read.0 ++ so_far.places) c.loop-a.reader (2 ^ 32) (so_far.read c.requires.read.0 c.requires.read.1) (omega (arith, c.requires.short, ap length c.loop-a.invariant.text))

pub read_place-requires-clause-arc : goal.read_place-requires-clause-arc
read_place-requires-clause-arc c = omega (arith, ap length c.arcs.ensures.arcs, c.loop-a-test.true)

pub returns-in-Err-clause-text : goal.returns-in-Err-clause-text
returns-in-Err-clause-text c = c.in-Err.ensures.text ∙ c.loop-a.invariant.text

pub returns-in-Err-clause-refused : goal.returns-in-Err-clause-refused
returns-in-Err-clause-refused c =
    let format = c.args.format in
    let g = c.args.graph.now in
    let a = c.loop-a.a in
    let n = head_count format + stations g + a in
    let there : a < arc_count g = omega (arith, ap length c.arcs.ensures.arcs, c.loop-a-test.true) in
    let so_far = c.loop-a.invariant.read in
    dated_stop format g n (c.requires.read.0 ++ so_far.places) c.loop-a.reader c.args.reader.now.text (place_words a) c.in-Err.stop _ c.at_line.result
    (so_far.read c.requires.read.0 c.requires.read.1) c.requires.readable (omega (arith, some_head format)) (omega (arith, there, length-lines format g)) c.requires.short c.loop-a.invariant.text (line_at-place format g a n (omega arith) there) c.in-Err.ensures.tells (omega (arith, c.head_count.ensures, c.from.ensures, c.from-in-Err.ensures, c.stations.ensures.count)) c.at_line.ensures

pub loop-a-preserved : goal.loop-a-preserved
loop-a-preserved c =
    let format = c.args.format in
    let g = c.args.graph.now in
    let a = c.loop-a.a in
    let count = c.in-Ok-read_place.count in
    let there : a < arc_count g = omega (arith, ap length c.arcs.ensures.arcs, c.loop-a-test.true) in
    let next = places_next format g (dates_of c.args.logs.now) a c.loop-a.counts.items count c.loop-a.wrong c.read_place.new.noted c.args.reader.now c.loop-a.reader c.read_place.new.reader c.loop-a.invariant.read there c.in-Ok-read_place.ensures.read c.in-Ok-read_place.ensures.text in
    record {
      read = subst (λ (l : List ℕ). HasReadPlaces format g (dates_of c.args.logs.now) (a + 1) l c.read_place.new.noted c.args.reader.now c.read_place.new.reader) (sym c.push_reserved.ensures.items) next;
      text = c.in-Ok-read_place.ensures.text ∙ c.loop-a.invariant.text;
      counted = ap length c.push_reserved.ensures.items ∙ length_push c.loop-a.counts.items count ∙ ap (λ m. m + 1) c.loop-a.invariant.counted;
      room = c.push_reserved.ensures.capacity ∙ c.loop-a.invariant.room;
    }

pub push_reserved-requires : goal.push_reserved-requires
push_reserved-requires c =
    omega (arith, c.loop-a.invariant.counted, c.loop-a.invariant.room, c.loop-a-test.true, ap length c.arcs.ensures.arcs, c.loop-a.counts.ok.0)

pub returns-clause-read : goal.returns-clause-read
returns-clause-read c =
    let format = c.args.format in
    let g = c.args.graph.now in
    let dates = dates_of c.args.logs.now in
    let all : c.loop-a.a ≡ arc_count g = omega (arith, c.loop-a-test.false, c.loop-a.auto.a-end, ap length c.arcs.ensures.arcs) in
    subst (λ (n : ℕ). HasReadPlaces format g dates n c.from_vec.result c.loop-a.wrong c.args.reader.now c.loop-a.reader) all (
    subst (λ (l : List ℕ). HasReadPlaces format g dates c.loop-a.a l c.loop-a.wrong c.args.reader.now c.loop-a.reader) (sym c.from_vec.ensures) c.loop-a.invariant.read)
