use Rattle.std.proofs.Common.{◌+◌, ◌<◌, ◌≤◌, ◌^◌, length, refl, sym, ap, ◌∙◌, subst, arith}
use Rattle.std.proofs.lemmas.List.{length_push}
use Rattle.std.proofs.lemmas.List.Elements.{All-nil, All-push}
use Rattle.line_base.specs.Roomy.{RoomyLog, RoomyLogs}
use Rattle.event_graph.specs.Network.{stations, jobs}
use Rattle.checkpoint.specs.Text.{station_words}
use Rattle.checkpoint.specs.Reading.{HasReadLogs, head_count}
use Rattle.checkpoint.proofs.ReadLines.{length-lines, line_at-station, dated_stop, rest_short, some_head}
use Rattle.checkpoint.proofs.ReadParts.{logs_none, logs_next}
use Rattle.checkpoint.proofs.lists.read_stations.Goals as goal

pub loop-t-init : goal.loop-t-init
loop-t-init c = record {
  read = logs_none c.args.format c.args.graph.now c.in-Ok.logs c.args.reader.now (ap (λ (l : RoomyLogs). l.logs) c.in-Ok.ensures) c.requires.read;
  text = refl;
  counted = ap (λ (l : RoomyLogs). length l.logs) c.in-Ok.ensures;
  list_room = ap (λ (l : RoomyLogs). l.room) c.in-Ok.ensures ∙ c.stations-stations.ensures.count;
  room = rw c.in-Ok.ensures (All-nil (λ (l : RoomyLog). jobs c.args.graph.now ≤ l.room));
}

pub read_station-requires-clause-short : goal.read_station-requires-clause-short
read_station-requires-clause-short c =
    let so_far = c.loop-t.invariant.read in
    rest_short c.args.format c.args.graph.now _ so_far.lists c.loop-t.reader (2 ^ 32) so_far.read (omega (arith, c.requires.short, ap length c.loop-t.invariant.text))

pub returns-in-Err-clause-text : goal.returns-in-Err-clause-text
returns-in-Err-clause-text c = c.in-Err.ensures.text ∙ c.loop-t.invariant.text

pub returns-in-Err-clause-refused : goal.returns-in-Err-clause-refused
returns-in-Err-clause-refused c =
    let format = c.args.format in
    let g = c.args.graph.now in
    let t = c.loop-t.t in
    let n = head_count format + t in
    let there : t < stations g = omega (arith, c.stations-stations.ensures.count, c.loop-t-test.true) in
    let so_far = c.loop-t.invariant.read in
    dated_stop format g n so_far.lists c.loop-t.reader c.args.reader.now.text (station_words g t) c.in-Err.stop _ c.at_line.result
    so_far.read c.requires.readable (omega (arith, some_head format)) (omega (arith, there, length-lines format g)) c.requires.short c.loop-t.invariant.text (line_at-station format g t n (omega arith) there) c.in-Err.ensures.tells (omega (arith, c.head_count.ensures, c.from.ensures)) c.at_line.ensures

pub loop-t-preserved : goal.loop-t-preserved
loop-t-preserved c =
    let format = c.args.format in
    let g = c.args.graph.now in
    let t = c.loop-t.t in
    let logs = c.loop-t.logs in
    let line = c.in-Ok-read_station.line in
    let there : t < stations g = omega (arith, c.stations-stations.ensures.count, c.loop-t-test.true) in
    let next = logs_next format g t logs line.log line.count c.loop-t.long c.note_log.new.noted c.loop-t.reader c.read_station.new.reader c.loop-t.invariant.read there c.in-Ok-read_station.ensures.read c.in-Ok-read_station.ensures.text c.note_log.ensures in
    record {
      read = subst (λ (l : RoomyLogs). HasReadLogs format g (t + 1) l c.note_log.new.noted c.read_station.new.reader) (sym c.add.ensures) next;
      text = c.in-Ok-read_station.ensures.text ∙ c.loop-t.invariant.text;
      counted = ap (λ (l : RoomyLogs). length l.logs) c.add.ensures ∙ length_push logs.logs line.log ∙ ap (λ m. m + 1) c.loop-t.invariant.counted;
      list_room = ap (λ (l : RoomyLogs). l.room) c.add.ensures ∙ c.loop-t.invariant.list_room;
      room = rw c.add.ensures (All-push (λ (l : RoomyLog). jobs g ≤ l.room) logs.logs line.log c.loop-t.invariant.room (omega (arith, c.in-Ok-read_station.ensures.room)));
    }

pub returns-clause-a_log_each : goal.returns-clause-a_log_each
returns-clause-a_log_each c =
    let all = c.loop-t.auto.t-end in
    omega (arith, c.loop-t.invariant.counted, c.loop-t-test.false, all, c.stations-stations.ensures.count)
