-- What a question is answered over its live plant needs no cause outside: it names no file that failed, and no disk. A
-- question that is answered by a text alone is one of the first two.
use Rattle.std.proofs.Common.{◌≡◌, ◌⊎◌, ℕ, List, sym, subst, inl, inr, ⊎_elim}
use Rattle.std.specs.Prelude.{Option, Result, Ok, Err, IfErr}
use Rattle.answers.specs.CardsText.{cards_text}
use Rattle.answers.specs.ChangesText.{changes_text}
use Rattle.answers.specs.EachCardsText.{each_cards_text}
use Rattle.answers.specs.declared.answer.Answer.{Answer}
use Rattle.card_sizing.specs.declared.sizing.SizingError.{SizingError}
use Rattle.card_sizing.specs.declared.sizing.SizingError.TheVariants as sizing
use Rattle.checkpoint.specs.declared.error.CheckpointError.{CheckpointError}
use Rattle.checkpoint.specs.declared.error.CheckpointError.TheVariants as checkpoint
use Rattle.commands.specs.Answers.{IsEnd, IsCycled, IsCards, IsCardsEach}
use Rattle.commands.specs.Answers.{IsCurve, IsLatest, IsWhy, IsChart, picture_of, IsWhatIf}
use Rattle.commands.specs.Reports.{Writes, WritesOfLeast, IsResumed}
use Rattle.commands.proofs.OrNoMemory.{OrNoMemory}
use Rattle.cycle_time.specs.declared.certificate.CycleError.{CycleError}
use Rattle.cycle_time.specs.declared.certificate.CycleError.TheVariants as cycle
use Rattle.date_causes.specs.WhyText.{why_text}
use Rattle.event_graph.specs.State.{State}
use Rattle.event_graph.specs.Table.{date_in}
use Rattle.latest_dates.specs.LatestText.{latest_text}
use Rattle.line_base.specs.declared.event.Parts.{Parts}
use Rattle.line_core.specs.declared.error.ReplayError.{ReplayError}
use Rattle.line_core.specs.declared.error.ReplayError.TheVariants as replay
use Rattle.line_report.specs.ReportText.{report}
use Rattle.line_chart.specs.Picture.{bars_and_lanes, text_of}
use Rattle.live_plant.specs.Outside.{NeedsNoCause}
use Rattle.plant_model.specs.declared.plant.Plant.{Plant}
use Rattle.plant_model.specs.Graph.{graph}
use Rattle.live_plant.specs.Checkpoints.{checkpoint_refusal}
use Rattle.live_plant.specs.Refusals.{cycle_refusal, sizing_refusal}
use Rattle.live_plant.specs.Schedules.{schedule_refusal}
use Rattle.live_plant.specs.declared.refusals.refusal.Refusal.{Refusal}
use Rattle.live_plant.specs.declared.refusals.refusal.Refusal.TheVariants.{NoMemory, NoSingleCount, NotEdited, NoDate, Late}
use Rattle.live_plant.specs.declared.refusals.refusal.Refusal.TheVariants.{TooLarge}

-- what holds of an answer that need not have a cause
abbrev pub NeedsNone : Result Answer Refusal → Type 0
NeedsNone answer = IfErr answer NeedsNoCause

-- an answer that is this refusal
says : (refusal : Refusal) → NeedsNoCause refusal → (answer : Result Answer Refusal) → answer ≡ Err refusal →
    NeedsNone answer
says refusal none answer is = subst NeedsNone (sym is) none

-- a text that is written
of_text : (text : List ℕ) (answer : Result Answer Refusal) → Writes text answer → NeedsNone answer
of_text text (Ok done) is = tt
of_text text (Err refusal) is = absurd is

of_least : (p : Plant) (text : (ℕ → ℕ → ℕ) → List ℕ) (answer : Result Answer Refusal) →
    WritesOfLeast p text answer → NeedsNone answer
of_least p text (Ok done) is = tt
of_least p text (Err refusal) is = absurd is.written

schedule_needs_none : (g : Parts) (error : ReplayError) → NeedsNoCause (schedule_refusal g error)
schedule_needs_none g (replay.NoStation line) = tt
schedule_needs_none g (replay.Done line t) = tt
schedule_needs_none g (replay.Empty line a) = tt
schedule_needs_none g (replay.Unfinished t have) = tt
schedule_needs_none g replay.NoMemory = tt

of_end : (p : Plant) (end : Result State ReplayError) (answer : Result Answer Refusal) → IsEnd p end answer →
    NeedsNone answer
of_end p (Ok state) answer is = of_least p (report p) answer is
of_end p (Err error) answer is = says (schedule_refusal (graph p) error) (schedule_needs_none (graph p) error) answer is

checkpoint_needs_none : (g : Parts) (error : CheckpointError) → NeedsNoCause (checkpoint_refusal g error)
checkpoint_needs_none g (checkpoint.Line number) = tt
checkpoint_needs_none g (checkpoint.Count t have limit) = tt
checkpoint_needs_none g (checkpoint.Marking a have need) = tt
checkpoint_needs_none g (checkpoint.Date t job have need) = tt
checkpoint_needs_none g (checkpoint.PlaceDate a token have need) = tt
checkpoint_needs_none g checkpoint.NoMemory = tt

of_resumed : (p : Plant) (bytes : List ℕ) (answer : Result Answer Refusal) → IsResumed p bytes answer →
    NeedsNone answer
of_resumed p bytes answer (inl both) = of_least p (report p) answer both.1
of_resumed p bytes answer (inr other) =
    says (checkpoint_refusal (graph p) other.error) (checkpoint_needs_none (graph p) other.error) answer other.says

cycle_needs_none : (g : Parts) (error : CycleError) → NeedsNoCause (cycle_refusal g error)
cycle_needs_none g (cycle.Varying t) = tt
cycle_needs_none g cycle.NoMemory = tt

of_cycled : (p : Plant) (answer : Result Answer Refusal) → IsCycled p answer → NeedsNone answer
of_cycled p answer (inl found) = of_text found.text answer found.written
of_cycled p answer (inr unfit) =
    says (cycle_refusal (graph p) unfit.error) (cycle_needs_none (graph p) unfit.error) answer unfit.says

sizing_needs_none : (error : SizingError) → NeedsNoCause (sizing_refusal error)
sizing_needs_none sizing.NoSingleCount = tt
sizing_needs_none (sizing.NoCount job wait) = tt
sizing_needs_none sizing.NoMemory = tt

of_cards : (p : Plant) (wait : ℕ) (answer : Result Answer Refusal) → IsCards p wait answer → NeedsNone answer
of_cards p wait answer (inl found) = of_text (cards_text found.sizing) answer found.written
of_cards p wait answer (inr unfit) = says (sizing_refusal unfit.error) (sizing_needs_none unfit.error) answer unfit.says

of_chart : (p : Plant) (window : Option (ℕ × ℕ)) (answer : Result Answer Refusal) → IsChart p window answer →
    NeedsNone answer
of_chart p window answer (inl drawn) = of_text (text_of (picture_of p drawn.rows window)) answer drawn.written
of_chart p window answer (inr large) =
    says (TooLarge (bars_and_lanes (picture_of p large.rows window))) tt answer large.says

of_why : (p : Plant) (label : List ℕ) (job : ℕ) (answer : Result Answer Refusal) → IsWhy p label job answer →
    NeedsNone answer
of_why p label job answer (inl caused) = of_text (why_text p caused.chained.links) answer caused.chained.written
of_why p label job answer (inr unnamed) = says (NoDate label job) tt answer unnamed.says

of_cards_each : (p : Plant) (wait : ℕ) (answer : Result Answer Refusal) → IsCardsEach p wait answer →
    NeedsNone answer
of_cards_each p wait answer (inl found) = of_text (each_cards_text found.each) answer found.written
of_cards_each p wait answer (inr unfit) =
    says (sizing_refusal unfit.error) (sizing_needs_none unfit.error) answer unfit.says

of_curve : (p : Plant) (from to : ℕ) (answer : Result Answer Refusal) → IsCurve p from to answer → NeedsNone answer
of_curve p from to answer (inl found) = subst NeedsNone (sym found.1) tt
of_curve p from to answer (inr none) = says NoSingleCount tt answer none.1

of_latest : (g : Parts) (wait : ℕ) (answer : Result Answer Refusal) → IsLatest g wait answer → NeedsNone answer
of_latest g wait answer (inl found) = of_text (latest_text g (date_in found.rows) found.dates) answer found.written
of_latest g wait answer (inr late) = says (Late late.job late.waits) tt answer late.says

of_what_if : (p : Plant) (edits : List ℕ) (answer : Result Answer Refusal) → IsWhatIf p edits answer →
    NeedsNone answer
of_what_if p edits answer (inl change) = of_text (changes_text change.page) answer change.written
of_what_if p edits answer (inr refused) = says (NotEdited refused.line) tt answer refused.says

-- ---- and so do these answers, or no memory

or_memory : (P : Result Answer Refusal → Type 0) (answer : Result Answer Refusal) → (P answer → NeedsNone answer) →
    OrNoMemory P answer → NeedsNone answer
or_memory P answer none is = ⊎_elim none (λ memory. subst NeedsNone (sym memory) tt) is

pub text_inside : (text : List ℕ) {answer : Result Answer Refusal} → OrNoMemory (Writes text) answer → NeedsNone answer
text_inside text {answer} is = or_memory (Writes text) answer (of_text text answer) is

pub least_inside : (p : Plant) (text : (ℕ → ℕ → ℕ) → List ℕ) {answer : Result Answer Refusal} →
    OrNoMemory (WritesOfLeast p text) answer → NeedsNone answer
least_inside p text {answer} is = or_memory (WritesOfLeast p text) answer (of_least p text answer) is

pub end_inside : (p : Plant) (end : Result State ReplayError) {answer : Result Answer Refusal} →
    OrNoMemory (IsEnd p end) answer → NeedsNone answer
end_inside p end {answer} is = or_memory (IsEnd p end) answer (of_end p end answer) is

pub resumed_inside : (p : Plant) (bytes : List ℕ) {answer : Result Answer Refusal} →
    OrNoMemory (IsResumed p bytes) answer → NeedsNone answer
resumed_inside p bytes {answer} is = or_memory (IsResumed p bytes) answer (of_resumed p bytes answer) is

pub cycle_inside : (p : Plant) {answer : Result Answer Refusal} → OrNoMemory (IsCycled p) answer → NeedsNone answer
cycle_inside p {answer} is = or_memory (IsCycled p) answer (of_cycled p answer) is

pub cards_inside : (p : Plant) (wait : ℕ) {answer : Result Answer Refusal} → OrNoMemory (IsCards p wait) answer →
    NeedsNone answer
cards_inside p wait {answer} is = or_memory (IsCards p wait) answer (of_cards p wait answer) is

pub each_inside : (p : Plant) (wait : ℕ) {answer : Result Answer Refusal} → OrNoMemory (IsCardsEach p wait) answer →
    NeedsNone answer
each_inside p wait {answer} is = or_memory (IsCardsEach p wait) answer (of_cards_each p wait answer) is

pub curve_inside : (p : Plant) (from to : ℕ) {answer : Result Answer Refusal} → IsCurve p from to answer →
    NeedsNone answer
curve_inside p from to {answer} is = of_curve p from to answer is

pub latest_inside : (g : Parts) (wait : ℕ) {answer : Result Answer Refusal} → OrNoMemory (IsLatest g wait) answer →
    NeedsNone answer
latest_inside g wait {answer} is = or_memory (IsLatest g wait) answer (of_latest g wait answer) is

pub why_inside : (p : Plant) (label : List ℕ) (job : ℕ) {answer : Result Answer Refusal} →
    OrNoMemory (IsWhy p label job) answer → NeedsNone answer
why_inside p label job {answer} is = or_memory (IsWhy p label job) answer (of_why p label job answer) is

pub chart_inside : (p : Plant) (window : Option (ℕ × ℕ)) {answer : Result Answer Refusal} →
    OrNoMemory (IsChart p window) answer → NeedsNone answer
chart_inside p window {answer} is = or_memory (IsChart p window) answer (of_chart p window answer) is

pub edits_inside : (p : Plant) (edits : List ℕ) {answer : Result Answer Refusal} → OrNoMemory (IsWhatIf p edits) answer →
    NeedsNone answer
edits_inside p edits {answer} is = or_memory (IsWhatIf p edits) answer (of_what_if p edits answer) is
