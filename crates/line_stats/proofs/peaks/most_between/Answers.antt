use Rattle.std.proofs.Common.{◌≡◌, ◌+◌, ◌-◌, max, get_or, refl, subst, arith}
use Rattle.line_stats.proofs.DateWalks.{WalksDates, WalksDates-begins, WalksDates-goes, WalksDates-covers}
use Rattle.line_stats.proofs.peaks.most_between.Goals as goal

pub loop-before-init : goal.loop-before-init
loop-before-init c =
    let entered = c.dates_until.ensures.count in
    let left = c.dates_until-2.ensures.count in
    WalksDates-begins c.args.entered.now c.args.left.now c.args.start c.saturating_sub-most.result (omega arith)

pub loop-before-preserved : goal.loop-before-preserved
loop-before-preserved c =
    let entered = c.args.entered.now in
    let left = c.args.left.now in
    let gone = c.dates_until_from-gone.result in
    let most : max c.loop-before.most (c.args.start + c.loop-before.before + 1 - gone) ≡ c.max-most.result = omega arith in
    let walk = WalksDates-goes entered left c.args.start c.loop-before.most c.loop-before.gone c.loop-before.before (get_or entered c.loop-before.before 0) gone c.requires.entered_in_order c.loop-before-test.true refl c.dates_until_from-gone.ensures.count c.loop-before.invariant in
    subst (λ m. WalksDates entered left c.args.start m gone (c.loop-before.before + 1)) most walk

pub returns-clause-covers : goal.returns-clause-covers
returns-clause-covers c =
    WalksDates-covers c.args.entered.now c.args.left.now c.args.start c.loop-before.most c.loop-before.gone c.loop-before.before c.requires.entered_in_order (omega arith) c.loop-before.invariant
