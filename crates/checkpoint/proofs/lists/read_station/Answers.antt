use Rattle.std.proofs.Common.{◌++◌, List, ℕ, take, ap, ◌∙◌, refl}
use Rattle.std.proofs.lemmas.Result.{IfOk-weaker}
use Rattle.event_graph.specs.Network.{jobs}
use Rattle.checkpoint.specs.declared.log.LineDates.{LineDates}
use Rattle.checkpoint.specs.Text.{station_words}
use Rattle.checkpoint.specs.Reading.{KeepsLine}
use Rattle.checkpoint.proofs.lists.read_station.Goals as goal

pub returns-clause-read : goal.returns-clause-read
returns-clause-read c =
    let g = c.args.graph.now in
    let t = c.args.t in
    let left = c.read_log.new.reader.rest in
    IfOk-weaker c.read_log.result _ (λ (line : LineDates). KeepsLine c.args.format (station_words g t) line.count (jobs g) c.args.reader.now.rest line.log.dates left)
    (λ line k. record {
      dates = k.dates;
      given = k.given;
      counted = k.counted;
      is = c.if-not-pass_station.ensures.passed refl ∙ ap (λ (l : List ℕ). station_words g t ++ l) k.is;
      kept_is = k.kept_is ∙ ap (λ n. take n k.dates) c.jobs.ensures.count;
    })
    c.read_log.ensures.read

pub returns-clause-text : goal.returns-clause-text
returns-clause-text c = c.read_log.ensures.text ∙ c.if-not-pass_station.ensures.text
