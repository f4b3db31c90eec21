use Rattle.std.proofs.Common.{sym, ◌∙◌, arith}
use Rattle.plant_lint.proofs.HeadLines.{line_here, line_later, line_past}
use Rattle.plant_lint.proofs.headers.has_line.Goals as goal

pub returns-then-begins_line_behind : goal.returns-then-begins_line_behind
returns-then-begins_line_behind c =
    line_here c.args.start.now c.args.text.now c.loop-n.n (omega (arith, c.loop-n-test.true)) (sym c.begins_line_behind.ensures ∙ c.if-begins_line_behind.true)
    ∙ c.loop-n.invariant

pub loop-n-preserved : goal.loop-n-preserved
loop-n-preserved c =
    line_later c.args.start.now c.args.text.now c.loop-n.n (omega (arith, c.loop-n-test.true)) (sym c.begins_line_behind.ensures ∙ c.if-begins_line_behind.false)
    ∙ c.loop-n.invariant

pub returns : goal.returns
returns c =
    line_past c.args.start.now c.args.text.now c.loop-n.n (omega arith)
    ∙ c.loop-n.invariant
