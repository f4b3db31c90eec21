-- What lint answers needs no cause outside: its refusals name no file that failed, and no disk.
use Rattle.std.proofs.Common.{ℕ, List, Option, sym, subst}
use Rattle.std.specs.Prelude.{Result, Ok, Err, IfErr}
use Rattle.line_base.specs.declared.event.Parts.{Parts}
use Rattle.plant_file.specs.Finish.{plant_of_bytes}
use Rattle.plant_lint.specs.DraftLints.{lint_of_draft}
use Rattle.plant_lint.specs.PlantLints.{clean_text}
use Rattle.plant_lint.specs.declared.lint.Lint.{Lint}
use Rattle.plant_lint.specs.declared.lint.Lint.TheVariants as lint
use Rattle.plant_model.specs.declared.plant.Plant.{Plant}
use Rattle.plant_model.specs.Graph.{graph}
use Rattle.live_plant.specs.declared.refusals.refusal.Refusal.{Refusal}
use Rattle.live_plant.specs.declared.refusals.refusal.Refusal.TheVariants.{Dead}
use Rattle.live_plant.specs.Outside.{NeedsNoCause}
use Rattle.live_plant.specs.LintSteps.{IsRefusedWith, IsFileLint, IsCleanOrDead, IsSaid, IsDraftLint}
use Rattle.live_plant.specs.LiveSteps.{IsDeadRefusal}
use Rattle.live_plant.specs.declared.sound_file.SoundFile.{SoundFile}

said_needs_none : (said : Lint) (refusal : Refusal) → IsRefusedWith said refusal → NeedsNoCause refusal
said_needs_none (lint.Refused lines) refusal is = subst NeedsNoCause (sym is) tt
said_needs_none (lint.Sound notes) refusal is = absurd is

pub file_needs_none : (bytes : List ℕ) (answer : Result SoundFile Refusal) → IsFileLint bytes answer → IfErr answer NeedsNoCause
file_needs_none bytes (Ok file) is = tt
file_needs_none bytes (Err refusal) is = said_needs_none is.said refusal is.refused

dead_needs_none : (g : Parts) (refusal : Refusal) → IsDeadRefusal g refusal → NeedsNoCause refusal
dead_needs_none g (Dead labels) is = tt
dead_needs_none g other is = absurd is

clean_needs_none : (p : Plant) (text : List ℕ) (answer : Result (List ℕ) Refusal) → IsCleanOrDead p text answer → IfErr answer NeedsNoCause
clean_needs_none p text (Ok same) is = tt
clean_needs_none p text (Err refusal) is = dead_needs_none (graph p) refusal is

answer_needs_none : (p : Plant) (notes : List ℕ) (said : Lint) (answer : Result (List ℕ) Refusal) → IsSaid p notes said answer → IfErr answer NeedsNoCause
answer_needs_none p notes (lint.Refused lines) answer is = subst (λ (r : Result (List ℕ) Refusal). IfErr r NeedsNoCause) (sym is) tt
answer_needs_none p notes (lint.Sound more) answer is = clean_needs_none p (clean_text notes more) answer is

pub draft_needs_none : (file : SoundFile) (demands times : Option (List ℕ)) (answer : Result (List ℕ) Refusal) → IsDraftLint file demands times answer → IfErr answer NeedsNoCause
draft_needs_none file demands times answer is =
    answer_needs_none (plant_of_bytes file.draft demands times) file.notes (lint_of_draft file.draft demands times) answer is
