use Rattle.std.proofs.Common.{◌∙◌, sym, arith}
use Rattle.std.proofs.lemmas.List.{get_or_default}
use Rattle.demand_feed.proofs.JobTimesLemmas.{numbers_in-all, numbers_in-more, index-within-column}
use Rattle.demand_feed.proofs.columns.Columns.column.Goals as goal

pub loop-job-init : goal.loop-job-init
loop-job-init c = c.in_ok-times.ensures.items

pub overflow_mul-job : goal.overflow_mul-job
overflow_mul-job c =
    let inside = index-within-column _ _ _ c.loop-job.job _ _ c.self.invariant c.loop-job-test.true c.as_slice-columns.ensures.value c.index_of-index.ensures.within in
    omega (arith, inside, c.self.inside.times.ok.0, c.self.inside.times.ok.1, c.self.inside.times.small)

pub overflow_add-job : goal.overflow_add-job
overflow_add-job c =
    let inside = index-within-column _ _ _ c.loop-job.job _ _ c.self.invariant c.loop-job-test.true c.as_slice-columns.ensures.value c.index_of-index.ensures.within in
    omega (arith, inside, c.self.inside.times.ok.0, c.self.inside.times.ok.1, c.self.inside.times.small)

pub index-requires : goal.index-requires
index-requires c =
    let inside = index-within-column _ _ _ c.loop-job.job _ _ c.self.invariant c.loop-job-test.true c.as_slice-columns.ensures.value c.index_of-index.ensures.within in
    omega (arith, inside, c.self.inside.times.ok.0)

pub loop-job-preserved : goal.loop-job-preserved
loop-job-preserved c =
    let same = c.as_slice-columns.ensures.value in
    let index = c.index_of-index.ensures in
    let inside = index-within-column _ _ _ c.loop-job.job _ _ c.self.invariant c.loop-job-test.true same index.within in
    let read = c.index.ensures ∙ get_or_default c.self.inside.times.items _ _ 0 inside in
    let more = numbers_in-more _ _ _ _ c.loop-job.job _ _ _ c.self.view_is c.loop-job-test.true same index.within index.index in
    c.in_ok-push.ensures.items ∙ rw (c.loop-job.invariant, read) (sym more)

pub returns : goal.returns
returns c =
    c.loop-job.invariant ∙ numbers_in-all _ _ _ _ c.loop-job.job _ c.self.view_is (omega (arith, c.loop-job-test.false))
