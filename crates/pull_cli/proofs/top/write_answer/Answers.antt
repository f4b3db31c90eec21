use Rattle.pull_cli.proofs.WriteStatus.{done, failed, cut_short}
use Rattle.pull_cli.proofs.top.write_answer.Goals as goal

pub returns-in-Ok : goal.returns-in-Ok
returns-in-Ok g c =
    done (g.K.Sink.shown c.args.sink.now) (g.K.Sink.shown c.write.new.sink) c.args.answer c.in-Ok.field-0
    c.in-Ok.ensures.puts

pub returns-in-Err-Failed : goal.returns-in-Err-Failed
returns-in-Err-Failed g c =
    let put = rw c.in-Err-Failed.field-0-is at c.in-Err-Failed.ensures.puts in
    failed (g.K.Sink.shown c.args.sink.now) (g.K.Sink.shown c.write.new.sink) c.args.answer put

pub returns-in-Err-NoMemory : goal.returns-in-Err-NoMemory
returns-in-Err-NoMemory g c =
    let put = rw c.in-Err-NoMemory.field-0-is at c.in-Err-NoMemory.ensures.puts in
    cut_short (g.K.Sink.shown c.args.sink.now) (g.K.Sink.shown c.write.new.sink)
    (g.K.Sink.shown c.write_no_memory.new.sink) c.args.answer c.write_no_memory.result put c.write_no_memory.ensures
