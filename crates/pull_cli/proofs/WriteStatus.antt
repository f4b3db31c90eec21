-- What a call has written, and the status that it then answers.
use Rattle.std.proofs.Common.{ℕ, List, refl, subst, inl, inr}
use Rattle.std.specs.Prelude.{Result, Ok, Err}
use Rattle.outside_io.specs.SinkView.{SinkView, WritesText}
use Rattle.outside_io.specs.declared.sink.Failed.{Failed}
use Rattle.live_plant.specs.Outside.{SinkOver, sink_over}
use Rattle.live_plant.specs.Refusal.{status_of, text_of}
use Rattle.live_plant.specs.declared.refusals.refusal.Refusal.TheVariants.{NoMemory}
use Rattle.answers.specs.Answer.{answer_bytes}
use Rattle.answers.specs.Put.{BytesArePut, IsPut}
use Rattle.answers.specs.declared.answer.Answer.{Answer}
use Rattle.answers.specs.declared.answer.Answer.TheVariants.{Help, Version, Text, Stopped, Reported, Summarized, Caused}
use Rattle.answers.specs.declared.answer.Answer.TheVariants.{Summary, Drawn, Dates, Latest, Curved, Changed}
use Rattle.answers.specs.declared.unwritten.Unwritten.TheVariants as unwritten
use Rattle.commands.specs.Reports.{Writes as Answers}
use Rattle.pull_cli.specs.Ends.{Finishes, IsStatusAfter, Writes}

pub writes : {old new : SinkView} (bytes : List ℕ) (written : Result (Unit {0}) Failed) (good status : ℕ) →
    WritesText old new bytes written → IsStatusAfter written good status → Writes (sink_over old new) bytes good status
writes bytes (Ok done) good status text is = inl (is, text.written)
writes bytes (Err failed) good status text is = inr (is, text.cause, text.prefix)

-- bytes that were put, all of them or a prefix
all_put : {old new : SinkView} (bytes : List ℕ) (done : Unit {0}) → BytesArePut bytes old new (Ok done) →
    Writes (sink_over old new) bytes 0 0
all_put bytes done put = inl (refl, put.text.written)

prefix_put : {old new : SinkView} (bytes : List ℕ) → BytesArePut bytes old new (Err unwritten.Failed) →
    Writes (sink_over old new) bytes 0 6
prefix_put bytes put = inr (refl, put.text.cause, put.text.prefix)

-- an answer that was written whole
pub done : (old new : SinkView) (answer : Answer) (unit : Unit {0}) → IsPut answer old new (Ok unit) →
    Finishes (sink_over old new) (Ok answer) 0
done old new (Help topic) unit put = all_put (answer_bytes (Help topic)) unit put
done old new Version unit put = all_put (answer_bytes Version) unit put
done old new (Text text) unit put = all_put (answer_bytes (Text text)) unit put
done old new (Stopped fired) unit put = all_put (answer_bytes (Stopped fired)) unit put
done old new (Reported report) unit put = all_put (answer_bytes (Reported report)) unit put
done old new (Summarized report) unit put = all_put (answer_bytes (Summarized report)) unit put
done old new (Caused causes) unit put = all_put (answer_bytes (Caused causes)) unit put
done old new (Summary summary) unit put = all_put (answer_bytes (Summary summary)) unit put
done old new (Drawn chart) unit put = all_put (answer_bytes (Drawn chart)) unit put
done old new (Dates dates) unit put = all_put (answer_bytes (Dates dates)) unit put
done old new (Latest latest) unit put = all_put (answer_bytes (Latest latest)) unit put
done old new (Changed changes) unit put = all_put (answer_bytes (Changed changes)) unit put
done old new (Curved counts) unit put = inl (refl, put)

-- one behind which the sink failed
pub failed : (old new : SinkView) (answer : Answer) → IsPut answer old new (Err unwritten.Failed) →
    Finishes (sink_over old new) (Ok answer) 6
failed old new (Help topic) put = prefix_put (answer_bytes (Help topic)) put
failed old new Version put = prefix_put (answer_bytes Version) put
failed old new (Text text) put = prefix_put (answer_bytes (Text text)) put
failed old new (Stopped fired) put = prefix_put (answer_bytes (Stopped fired)) put
failed old new (Reported report) put = prefix_put (answer_bytes (Reported report)) put
failed old new (Summarized report) put = prefix_put (answer_bytes (Summarized report)) put
failed old new (Caused causes) put = prefix_put (answer_bytes (Caused causes)) put
failed old new (Summary summary) put = prefix_put (answer_bytes (Summary summary)) put
failed old new (Drawn chart) put = prefix_put (answer_bytes (Drawn chart)) put
failed old new (Dates dates) put = prefix_put (answer_bytes (Dates dates)) put
failed old new (Latest latest) put = prefix_put (answer_bytes (Latest latest)) put
failed old new (Changed changes) put = prefix_put (answer_bytes (Changed changes)) put
failed old new (Curved counts) put = inr (inl (refl, put))

-- one for which memory ran out, which is a curve
pub cut_short : (old between new : SinkView) (answer : Answer) (status : ℕ) →
    IsPut answer old between (Err unwritten.NoMemory) →
    Writes (sink_over between new) (text_of NoMemory) (status_of NoMemory) status →
    Finishes (sink_over old new) (Ok answer) status
cut_short old between new (Help topic) status put line = absurd (put.memory refl)
cut_short old between new Version status put line = absurd (put.memory refl)
cut_short old between new (Text text) status put line = absurd (put.memory refl)
cut_short old between new (Stopped fired) status put line = absurd (put.memory refl)
cut_short old between new (Reported report) status put line = absurd (put.memory refl)
cut_short old between new (Summarized report) status put line = absurd (put.memory refl)
cut_short old between new (Caused causes) status put line = absurd (put.memory refl)
cut_short old between new (Summary summary) status put line = absurd (put.memory refl)
cut_short old between new (Drawn chart) status put line = absurd (put.memory refl)
cut_short old between new (Dates dates) status put line = absurd (put.memory refl)
cut_short old between new (Latest latest) status put line = absurd (put.memory refl)
cut_short old between new (Changed changes) status put line = absurd (put.memory refl)
cut_short old between new (Curved counts) status put line = inr (inr (record {
  between = between;
  rows = put;
  line = line;
}))

-- an answer with this text
pub whole : (sink : SinkOver) (text : List ℕ) (answer : Answer) (status : ℕ) → Answers text (Ok answer) →
    Finishes sink (Ok answer) status → Writes sink text 0 status
whole sink text (Help topic) status is ended = subst (λ (bytes : List ℕ). Writes sink bytes 0 status) is ended
whole sink text Version status is ended = subst (λ (bytes : List ℕ). Writes sink bytes 0 status) is ended
whole sink text (Text own) status is ended = subst (λ (bytes : List ℕ). Writes sink bytes 0 status) is ended
whole sink text (Stopped fired) status is ended = subst (λ (bytes : List ℕ). Writes sink bytes 0 status) is ended
whole sink text (Reported report) status is ended = subst (λ (bytes : List ℕ). Writes sink bytes 0 status) is ended
whole sink text (Summarized report) status is ended = subst (λ (bytes : List ℕ). Writes sink bytes 0 status) is ended
whole sink text (Caused causes) status is ended = subst (λ (bytes : List ℕ). Writes sink bytes 0 status) is ended
whole sink text (Summary summary) status is ended = subst (λ (bytes : List ℕ). Writes sink bytes 0 status) is ended
whole sink text (Drawn chart) status is ended = subst (λ (bytes : List ℕ). Writes sink bytes 0 status) is ended
whole sink text (Dates dates) status is ended = subst (λ (bytes : List ℕ). Writes sink bytes 0 status) is ended
whole sink text (Latest latest) status is ended = subst (λ (bytes : List ℕ). Writes sink bytes 0 status) is ended
whole sink text (Changed changes) status is ended = subst (λ (bytes : List ℕ). Writes sink bytes 0 status) is ended
whole sink text (Curved counts) status is ended = absurd is
