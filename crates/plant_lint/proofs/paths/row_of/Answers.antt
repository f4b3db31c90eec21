use Rattle.std.proofs.Common.{refl, sym, ◌∙◌, arith}
use Rattle.plant_lint.specs.Paths.{begins_with, row_of, table_in}
use Rattle.plant_lint.proofs.Searches.{find-number_here, find-number_later, find-number_past}
use Rattle.plant_lint.proofs.paths.row_of.Goals as goal

pub loop-n-init : goal.loop-n-init
unfolding row_of
loop-n-init c = refl

pub returns-then-branch : goal.returns-then-branch
returns-then-branch c =
    let begins = rw c.table_in.ensures at c.in_ok-begins_with.ensures in
    find-number_here (λ n. begins_with c.args.path.now (table_in c.args.tables n)) c.args.count c.loop-n.n (omega (arith, c.loop-n-test.true)) (sym begins ∙ c.if-branch.true)
    ∙ c.loop-n.invariant

pub loop-n-preserved : goal.loop-n-preserved
loop-n-preserved c =
    let begins = rw c.table_in.ensures at c.in_ok-begins_with.ensures in
    find-number_later (λ n. begins_with c.args.path.now (table_in c.args.tables n)) c.args.count c.loop-n.n (omega (arith, c.loop-n-test.true)) (sym begins ∙ c.if-branch.false)
    ∙ c.loop-n.invariant

pub returns : goal.returns
returns c =
    find-number_past (λ n. begins_with c.args.path.now (table_in c.args.tables n)) c.args.count c.loop-n.n (omega arith)
    ∙ c.loop-n.invariant
