use Rattle.std.proofs.lemmas.Bool.{lt-ltb, le-ltb}
use Rattle.line_chart.proofs.bars.meets.Goals as goal

pub returns-then-bar-window : goal.returns-then-bar-window
returns-then-bar-window c = rw (lt-ltb c.args.bar.start c.args.window.to c.if-bar-window.true)

pub returns-else-bar-window : goal.returns-else-bar-window
returns-else-bar-window c = rw (le-ltb c.args.bar.start c.args.window.to c.if-bar-window.false)
