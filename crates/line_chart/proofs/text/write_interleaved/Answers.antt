use Rattle.std.proofs.Common.{arith}
use Rattle.line_chart.proofs.Interleaved.{pushed_interleaved, pushed_last_text}
use Rattle.line_chart.proofs.text.write_interleaved.Goals as goal

pub loop-before-preserved : goal.loop-before-preserved
loop-before-preserved g c = λ s later.
    c.loop-before.invariant s (pushed_interleaved c.args.texts.now c.args.numbers.now c.loop-before.before _ c.requires (omega arith) c.write_numbered.ensures later)

pub returns : goal.returns
returns g c =
    c.loop-before.invariant _ (pushed_last_text c.args.texts.now c.args.numbers.now c.loop-before.before _ c.requires (omega arith) (omega arith) c.push.ensures)
