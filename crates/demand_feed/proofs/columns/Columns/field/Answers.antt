use Rattle.std.proofs.Common.{◌∙◌, arith}
use Rattle.std.proofs.lemmas.List.{get_or_default}
use Rattle.demand_feed.proofs.JobTimesLemmas.{field_of-index, index-within-times}
use Rattle.demand_feed.proofs.columns.Columns.field.Goals as goal

pub overflow_mul-job : goal.overflow_mul-job
overflow_mul-job c =
    let inside = index-within-times _ _ _ _ _ _ _ c.self.view_is c.self.invariant c.requires.job c.as_slice-columns.ensures.value c.index_of-index.ensures.within in
    omega (arith, inside, c.self.inside.times.ok.0, c.self.inside.times.ok.1, c.self.inside.times.small)

pub overflow_add-job : goal.overflow_add-job
overflow_add-job c =
    let inside = index-within-times _ _ _ _ _ _ _ c.self.view_is c.self.invariant c.requires.job c.as_slice-columns.ensures.value c.index_of-index.ensures.within in
    omega (arith, inside, c.self.inside.times.ok.0, c.self.inside.times.ok.1, c.self.inside.times.small)

pub index-requires : goal.index-requires
index-requires c =
    let inside = index-within-times _ _ _ _ _ _ _ c.self.view_is c.self.invariant c.requires.job c.as_slice-columns.ensures.value c.index_of-index.ensures.within in
    omega (arith, inside, c.self.inside.times.ok.0)

pub returns-clause-time : goal.returns-clause-time
returns-clause-time c =
    let inside = index-within-times _ _ _ _ _ _ _ c.self.view_is c.self.invariant c.requires.job c.as_slice-columns.ensures.value c.index_of-index.ensures.within in
    c.index.ensures
    ∙ get_or_default c.self.inside.times.items _ _ 0 inside
    ∙ field_of-index _ _ _ _ _ _ _ _ c.self.view_is c.self.invariant c.requires.job c.as_slice-columns.ensures.value c.index_of-index.ensures.within c.index_of-index.ensures.index

pub returns-clause-limit : goal.returns-clause-limit
returns-clause-limit c =
    let inside = index-within-times _ _ _ _ _ _ _ c.self.view_is c.self.invariant c.requires.job c.as_slice-columns.ensures.value c.index_of-index.ensures.within in
    rw c.index.ensures (c.self.invariant.limit _ _ inside)
