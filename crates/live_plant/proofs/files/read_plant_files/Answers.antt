use Rattle.std.proofs.Common.{◌≡◌, ℕ, List, ap, sym, inl}
use Rattle.std.specs.Prelude.{Ok, Err}
use Rattle.plant_file.specs.Reading.{reading}
use Rattle.live_plant.specs.Refused.{refusal_of}
use Rattle.live_plant.specs.Steps.{LooksAt, Then}
use Rattle.live_plant.specs.PlantSteps.{or_refused, OfBytes, OfDraft}
use Rattle.live_plant.proofs.FileReads.{refusal_answers, refusal_caused}
use Rattle.live_plant.proofs.StepLemmas.{settles, then_makes, then_hands_on, then_stops}
use Rattle.live_plant.proofs.files.read_plant_files.Goals as goal

pub returns-in_err-bytes-clause-makes : goal.returns-in_err-bytes-clause-makes
returns-in_err-bytes-clause-makes g c =
    then_hands_on g.S.Store.tells (g.S.Store.shown c.args.store.now) (g.S.Store.shown c.read_file.new.store) (LooksAt c.args.name.now) (λ (bytes : List ℕ). Then (OfBytes bytes) OfDraft) c.in_err-bytes.field-0.0 c.from_residual.result c.from_residual.ensures.1 c.in_err-bytes.ensures.makes

pub returns-in-Ok-clause-makes : goal.returns-in-Ok-clause-makes
returns-in-Ok-clause-makes g c =
    let tells = g.S.Store.tells in
    let between = g.S.Store.shown c.read_file.new.store in
    let new = g.S.Store.shown c.complete.new.store in
    let bytes = c.in_ok-bytes.bytes in
    then_makes tells (g.S.Store.shown c.args.store.now) between new (LooksAt c.args.name.now) (λ (bytes : List ℕ). Then (OfBytes bytes) OfDraft) bytes c.complete.result c.in_ok-bytes.ensures.makes
    (then_makes tells between between new (OfBytes bytes) OfDraft c.in-Ok.draft c.complete.result
    (settles tells between (λ answer. answer ≡ or_refused (reading bytes)) (Ok c.in-Ok.draft) (inl (sym (ap or_refused c.in-Ok.ensures))) tt)
    c.complete.ensures.makes)

pub returns-in-Err-clause-makes : goal.returns-in-Err-clause-makes
returns-in-Err-clause-makes g c =
    let tells = g.S.Store.tells in
    let between = g.S.Store.shown c.read_file.new.store in
    let bytes = c.in_ok-bytes.bytes in
    let error = c.in-Err.error in
    rw c.refusal_of.ensures
    (then_makes tells (g.S.Store.shown c.args.store.now) between between (LooksAt c.args.name.now) (λ (bytes : List ℕ). Then (OfBytes bytes) OfDraft) bytes (Err (refusal_of error)) c.in_ok-bytes.ensures.makes
    (then_stops tells between between (OfBytes bytes) OfDraft (refusal_of error)
    (settles tells between (λ answer. answer ≡ or_refused (reading bytes)) (Err (refusal_of error)) (refusal_answers (reading bytes) error c.in-Err.ensures) (refusal_caused tells between between error))))
