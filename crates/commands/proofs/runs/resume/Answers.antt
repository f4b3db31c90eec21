use Rattle.std.proofs.Common.{◌≡◌, ◌⊎◌, sym, subst}
use Rattle.line_base.specs.declared.event.Parts.{Parts}
use Rattle.live_plant.specs.Checkpoints.{checkpoint_refusal, NamesStation}
use Rattle.live_plant.specs.declared.refusals.refusal.Refusal.TheVariants.{NoMemory}
use Rattle.commands.proofs.Resumings.{refused_names, refuses, resumes}
use Rattle.commands.proofs.runs.resume.Goals as goal

pub checkpoint_refusal-refusal-requires : goal.checkpoint_refusal-refusal-requires
checkpoint_refusal-refusal-requires g c =
    subst (λ (h : Parts). NamesStation h c.in-Err.error) (sym c.graph.ensures.graph)
    (refused_names c.args.line.live.graph c.args.bytes.now c.in-Err.error c.in-Err.ensures.resumes)

pub returns-in-Err : goal.returns-in-Err
returns-in-Err g c =
    let live = c.args.line.live in
    let refusal = c.checkpoint_refusal-refusal.result in
    refuses c.args.line.plant live.graph c.args.bytes.now c.in-Err.error refusal c.requires.plant.graph c.in-Err.ensures.resumes
    (subst (λ (h : Parts). (refusal ≡ NoMemory) ⊎ (refusal ≡ checkpoint_refusal h c.in-Err.error)) c.graph.ensures.graph
    c.checkpoint_refusal-refusal.ensures)

pub report_of-requires-clause-table : goal.report_of-requires-clause-table
report_of-requires-clause-table g c = c.in-Ok.ensures.resumes.least

pub returns-in-Ok : goal.returns-in-Ok
returns-in-Ok g c =
    resumes c.args.line.plant c.args.line.live.graph c.args.bytes.now c.in-Ok.table c.report_of.result
    c.requires.plant.graph c.in-Ok.ensures.resumes c.report_of.ensures
