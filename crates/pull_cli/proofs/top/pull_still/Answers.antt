use Rattle.command_line.specs.Options.{texts}
use Rattle.live_plant.specs.Actions.{disk_over}
use Rattle.live_plant.specs.Outside.{sink_over, store_over}
use Rattle.pull_cli.proofs.Ended.{ended}
use Rattle.pull_cli.proofs.top.pull_still.Goals as goal

pub returns : goal.returns
returns g c = record {
  ended = ended {words = texts c.args.words.now} {store = store_over g.S.Store.tells (g.S.Store.shown c.args.store.now)
      (g.S.Store.shown c.do_words_still-outcome.new.store)}
      {disk = disk_over g.D.Disk.tells (g.D.Disk.shown c.args.disk.now)
      (g.D.Disk.shown c.do_words_still-outcome.new.disk)}
      {answer = c.do_words_still-outcome.result} {status = c.write_outcome.result}
      (sink_over (g.K.Sink.shown c.args.sink.now) (g.K.Sink.shown c.write_outcome.new.sink))
      c.do_words_still-outcome.ensures c.write_outcome.ensures;
}
