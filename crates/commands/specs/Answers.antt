-- What is answered to each question, where no file is written and no disk touched: exactly which bytes are written, or
-- the refusal. `NoMemory` may be answered in place of it; where a question is asked, that is said.
use Rattle.std.specs.Prelude.{◌≡◌, ◌⊎◌, ◌<◌, ◌≤◌, ℕ, List, map, sum, length, Option, Some, Result, Ok, Err}
use Rattle.answers.specs.Answer.{version}
use Rattle.command_line.specs.Screens.{help_text}
use Rattle.live_plant.specs.Big.{big_plant}
use Rattle.std.specs.Bool.{IsTrue}
use Rattle.card_sizing.specs.Sizing.{NoneServesBelow, IsBelow, IsSizingRefusal}
use Rattle.card_sizing.specs.Sized.{has_single_count}
use Rattle.card_sizing.specs.Serving.{Serves, IsFirstLate}
use Rattle.card_sizing.specs.declared.sizing.Sizing.{Sizing}
use Rattle.card_sizing.specs.Counted.{has_stage_counts, ServeEach, NoneServesLess}
use Rattle.card_sizing.specs.Each.{AreLeastInOrder, counts_of, names_of, HaveReasons, IsEachRefusal}
use Rattle.card_sizing.specs.declared.each.EachSizing.{EachSizing}
use Rattle.answers.specs.CardsText.{cards_text}
use Rattle.answers.specs.EachCardsText.{each_cards_text}
use Rattle.date_causes.specs.Chain.{IsChain}
use Rattle.date_causes.specs.Named.{HasNoDate}
use Rattle.date_causes.specs.WhyText.{why_text}
use Rattle.date_causes.specs.declared.link.Link.{Link}
use Rattle.line_chart.specs.Picture.{Picture, bars_and_lanes, text_of}
use Rattle.line_chart.specs.Window.{window_of}
use Rattle.line_stats.specs.Counts.{last_date}
use Rattle.line_summary.specs.SummaryText.{summary_text}
use Rattle.line_chart.specs.TableText.{table_text}
use Rattle.answers.specs.ChangesText.{changes_text}
use Rattle.answers.specs.CycleText.{IsCycleText}
use Rattle.cycle_time.specs.CycleTime.{IsCycleTime}
use Rattle.cycle_time.specs.Certificate.{NoneVaries, IsCycleRefusal}
use Rattle.cycle_time.specs.declared.certificate.Certificate.{Certificate}
use Rattle.event_graph.specs.Least.{IsLeast}
use Rattle.event_graph.specs.Network.{jobs}
use Rattle.event_graph.specs.State.{State}
use Rattle.latest_dates.specs.Found.{IsInTime, NoneIsBefore, wait_of}
use Rattle.latest_dates.specs.Latest.{LatestTable, AreLatest}
use Rattle.latest_dates.specs.LatestText.{latest_text}
use Rattle.event_graph.specs.Table.{date_in}
use Rattle.line_base.specs.Limits.{most_bars}
use Rattle.line_base.specs.declared.event.Parts.{Parts}
use Rattle.line_core.specs.Schedule.{follow, lines_of, station_with}
use Rattle.line_core.specs.declared.error.ReplayError.{ReplayError}
use Rattle.line_report.specs.SummaryText.{summary}
use Rattle.plant_model.specs.declared.plant.Plant.{Plant}
use Rattle.plant_model.specs.Graph.{graph}
use Rattle.answers.specs.CheckText.{check_text}
use Rattle.live_plant.specs.Refusals.{cycle_refusal, sizing_refusal}
use Rattle.live_plant.specs.Schedules.{schedule_refusal}
use Rattle.live_plant.specs.declared.refusals.refusal.Refusal.{Refusal}
use Rattle.live_plant.specs.declared.refusals.refusal.Refusal.TheVariants.{NoSingleCount, NotEdited, NoDate, Late}
use Rattle.live_plant.specs.declared.refusals.refusal.Refusal.TheVariants.{TooLarge}
use Rattle.what_if.specs.Edited.{Inputs, inputs_of}
use Rattle.what_if.specs.Edits.{EditsGive}
use Rattle.what_if.specs.Page.{Page}
use Rattle.what_if.specs.Settled.{IsSolved}
use Rattle.answers.specs.declared.answer.Answer.{Answer}
use Rattle.answers.specs.declared.answer.Answer.TheVariants.{Curved}
use Rattle.commands.specs.Reports.{Writes, WritesOfLeast, IsReport, IsResumed}
use Rattle.command_line.specs.declared.alone_question.AloneQuestion.{AloneQuestion}
use Rattle.command_line.specs.declared.alone_question.AloneQuestion.TheVariants as alone
use Rattle.command_line.specs.declared.file_question.FileQuestion.{FileQuestion}
use Rattle.command_line.specs.declared.file_question.FileQuestion.TheVariants as file
use Rattle.command_line.specs.declared.plant_question.PlantQuestion.{PlantQuestion}
use Rattle.command_line.specs.declared.plant_question.PlantQuestion.TheVariants as of_plant

-- there is none, and an error says why: its refusal is answered
pub record IsRefusedFor {E : Type 0} (IsReason : E → Type 0) (refusal_of : E → Refusal)
    (answer : Result Answer Refusal) : Type 0 where
  pub error : E
  pub reason : IsReason error
  pub says : answer ≡ Err (refusal_of error)

-- `replay`: the report at the end of a schedule that can be followed, and its refusal at any other
abbrev pub IsEnd : Plant → Result State ReplayError → Result Answer Refusal → Type 0
IsEnd p (Ok end) answer = IsReport p answer
IsEnd p (Err error) answer = answer ≡ Err (schedule_refusal (graph p) error)

-- `check`
abbrev pub IsCheck : Plant → Result Answer Refusal → Type 0
IsCheck p = Writes (check_text p)

-- no station has a list of times, and this is the cycle time of the plant's graph, with its certificate
pub record IsCycle (p : Plant) (answer : Result Answer Refusal) : Type 0 where
  pub certificate : Certificate
  pub fixed : NoneVaries (graph p)
  pub cycle_time : IsCycleTime (graph p) certificate
  pub text : List ℕ
  pub certified : IsCycleText (graph p) certificate text
  pub written : Writes text answer

-- `cycle`: the cycle time, or none
abbrev pub IsCycled : Plant → Result Answer Refusal → Type 0
IsCycled p answer = IsCycle p answer ⊎ IsRefusedFor (IsCycleRefusal (graph p)) (cycle_refusal (graph p)) answer

-- the plant has a single count of cards, and this is the least that serves, with why it can't be one less
pub record IsSized (p : Plant) (wait : ℕ) (answer : Result Answer Refusal) : Type 0 where
  pub sizing : Sizing
  pub single : IsTrue (has_single_count p)
  pub serves : Serves p wait sizing.cards
  pub least : NoneServesBelow p wait sizing.cards
  pub below : IsBelow p wait sizing.cards sizing.below
  pub written : Writes (cards_text sizing) answer

-- `cards`: the least count, or none
abbrev pub IsCards : Plant → ℕ → Result Answer Refusal → Type 0
IsCards p wait answer = IsSized p wait answer ⊎ IsRefusedFor (IsSizingRefusal p wait) sizing_refusal answer

-- each stage has a count of cards: from the least single count on each is lowered, from the last stage back to the
-- first; these counts serve, and with one card less at any one stage they don't, or the count is the stage's least, and
-- why
pub record IsSizedEach (p : Plant) (wait : ℕ) (answer : Result Answer Refusal) : Type 0 where
  pub each : EachSizing
  pub counted : IsTrue (has_stage_counts p)
  pub serves : ServeEach p wait (counts_of each.stages)
  pub least : NoneServesLess p wait (counts_of each.stages)
  pub in_order : AreLeastInOrder p wait (counts_of each.stages)
  pub below : HaveReasons p wait (counts_of each.stages) each.stages (length p.stages)
  pub named : names_of each.stages ≡ map (λ s. s.name) p.stages
  pub total : each.total ≡ sum (counts_of each.stages)
  pub written : Writes (each_cards_text each) answer

-- `cards --each`: the least counts, or none
abbrev pub IsCardsEach : Plant → ℕ → Result Answer Refusal → Type 0
IsCardsEach p wait answer = IsSizedEach p wait answer ⊎ IsRefusedFor (IsEachRefusal p wait) sizing_refusal answer

-- the plant has a single count of cards, and its curve is written from one count to another; or it has none
abbrev pub IsCurve : Plant → ℕ → ℕ → Result Answer Refusal → Type 0
IsCurve p from to answer =
    (IsTrue (has_single_count p) × (answer ≡ Ok (Curved (record { plant = p; from = from; to = to }))))
    ⊎ (¬ IsTrue (has_single_count p) × (answer ≡ Err NoSingleCount))

-- the latest dates are written, over the least solution, in which no job waits longer than it may
pub record IsLatestOf (g : Parts) (wait : ℕ) (answer : Result Answer Refusal) : Type 0 where
  pub rows : List (List ℕ)
  pub least : IsLeast g (date_in rows)
  pub in_time : IsInTime g (date_in rows) wait
  pub dates : LatestTable
  pub latest : AreLatest g wait dates
  pub not_before : NoneIsBefore g (date_in rows) dates
  pub written : Writes (latest_text g (date_in rows) dates) answer

-- a job of the least solution waits longer: the first, and how long it waits
pub record IsLateJob (g : Parts) (wait : ℕ) (answer : Result Answer Refusal) : Type 0 where
  pub rows : List (List ℕ)
  pub least : IsLeast g (date_in rows)
  pub job : ℕ
  pub waits : ℕ
  pub first : IsFirstLate (wait_of g (date_in rows)) (jobs g) wait job waits
  pub says : answer ≡ Err (Late job waits)

-- `latest`
abbrev pub IsLatest : Parts → ℕ → Result Answer Refusal → Type 0
IsLatest g wait answer = IsLatestOf g wait answer ⊎ IsLateJob g wait answer

-- the chain of causes of the date of a job at a station is written
pub record IsChained (p : Plant) (station job : ℕ) (answer : Result Answer Refusal) : Type 0 where
  pub rows : List (List ℕ)
  pub least : IsLeast (graph p) (date_in rows)
  pub links : List Link
  pub chain : IsChain (graph p) (date_in rows) station job links
  pub written : Writes (why_text p links) answer

-- it is that of the first station with the label
pub record IsCausedBy (p : Plant) (label : List ℕ) (job : ℕ) (answer : Result Answer Refusal) : Type 0 where
  pub station : ℕ
  pub named : station_with (graph p) label ≡ Some station
  pub chained : IsChained p station job answer

-- no station has the label, or there are fewer jobs
pub record IsNoDate (p : Plant) (label : List ℕ) (job : ℕ) (answer : Result Answer Refusal) : Type 0 where
  pub none : HasNoDate (graph p) label job
  pub says : answer ≡ Err (NoDate label job)

-- `why`
abbrev pub IsWhy : Plant → List ℕ → ℕ → Result Answer Refusal → Type 0
IsWhy p label job answer = IsCausedBy p label job answer ⊎ IsNoDate p label job answer

-- `summary`: over the least solution
abbrev pub IsLineSummary : Plant → Result Answer Refusal → Type 0
IsLineSummary p = WritesOfLeast p (summary_text p)

-- the picture of the least solution over these dates, in the window that is asked for
abbrev pub picture_of : Plant → List (List ℕ) → Option (ℕ × ℕ) → Picture
picture_of p rows window = record {
  plant = p;
  rows = rows;
  window = window_of window (last_date (graph p) (date_in rows));
}

-- the picture of the least solution is written; it has no more bars and lanes than a picture may have
pub record IsPictured (p : Plant) (window : Option (ℕ × ℕ)) (answer : Result Answer Refusal) : Type 0 where
  pub rows : List (List ℕ)
  pub least : IsLeast (graph p) (date_in rows)
  pub small : bars_and_lanes (picture_of p rows window) ≤ most_bars
  pub written : Writes (text_of (picture_of p rows window)) answer

-- it has more, as many as are named
pub record IsTooLarge (p : Plant) (window : Option (ℕ × ℕ)) (answer : Result Answer Refusal) : Type 0 where
  pub rows : List (List ℕ)
  pub least : IsLeast (graph p) (date_in rows)
  pub large : most_bars < bars_and_lanes (picture_of p rows window)
  pub says : answer ≡ Err (TooLarge (bars_and_lanes (picture_of p rows window)))

-- `chart`
abbrev pub IsChart : Plant → Option (ℕ × ℕ) → Result Answer Refusal → Type 0
IsChart p window answer = IsPictured p window answer ⊎ IsTooLarge p window answer

-- `table`: over the least solution
abbrev pub IsDateTable : Plant → Result Answer Refusal → Type 0
IsDateTable p = WritesOfLeast p (table_text p)

-- the dates that differ between the least solution of a graph and that of the edited one
pub record IsPageOf (g : Parts) (edits : List ℕ) (page : Page) : Type 0 where
  pub graph_is : page.live.graph ≡ g
  pub first : IsLeast g (date_in page.first)
  pub edited : EditsGive g (lines_of edits) 1 (inputs_of g) (Ok page.inputs)
  pub solved : IsSolved page

-- these dates are written
pub record IsChange (p : Plant) (edits : List ℕ) (answer : Result Answer Refusal) : Type 0 where
  pub page : Page
  pub edited : IsPageOf (graph p) edits page
  pub written : Writes (changes_text page) answer

-- the first line that can't be followed, and what the lines before it leave
pub record IsRefusedLine (g : Parts) (edits : List ℕ) (answer : Result Answer Refusal) : Type 0 where
  pub line : ℕ
  pub left : Inputs
  pub refused : EditsGive g (lines_of edits) 1 (inputs_of g) (Err (record { line = line; left = left }))
  pub says : answer ≡ Err (NotEdited line)

-- `whatif`
abbrev pub IsWhatIf : Plant → List ℕ → Result Answer Refusal → Type 0
IsWhatIf p edits answer = IsChange p edits answer ⊎ IsRefusedLine (graph p) edits answer

-- `big`: the summary of the plant of the seed
abbrev pub IsSummary : ℕ → Result Answer Refusal → Type 0
IsSummary seed = WritesOfLeast (big_plant seed) (summary (big_plant seed))

-- each question for which nothing is read
abbrev pub AnswersAlone : AloneQuestion → Result Answer Refusal → Type 0
AnswersAlone (alone.Help topic) = Writes (help_text topic)
AnswersAlone alone.Version = Writes version
AnswersAlone (alone.Big seed workers) = IsSummary seed

-- each question about a live plant
abbrev pub AnswersOfPlant : PlantQuestion → Plant → Result Answer Refusal → Type 0
AnswersOfPlant (of_plant.Run workers) p = IsReport p
AnswersOfPlant (of_plant.RunRoom room workers) p = IsReport p
AnswersOfPlant of_plant.Check p = IsCheck p
AnswersOfPlant of_plant.Cycle p = IsCycled p
AnswersOfPlant (of_plant.Cards wait) p = IsCards p wait
AnswersOfPlant (of_plant.CardsEach wait) p = IsCardsEach p wait
AnswersOfPlant (of_plant.Curve from to workers) p = IsCurve p from to
AnswersOfPlant (of_plant.Latest wait) p = IsLatest (graph p) wait
AnswersOfPlant (of_plant.Why label job) p = IsWhy p label job
AnswersOfPlant of_plant.Summary p = IsLineSummary p
AnswersOfPlant (of_plant.Chart window) p = IsChart p window
AnswersOfPlant of_plant.Table p = IsDateTable p

-- each question about a live plant and the bytes of a further file
abbrev pub AnswersOfFile : FileQuestion → Plant → List ℕ → Result Answer Refusal → Type 0
AnswersOfFile (file.Resume workers) p bytes = IsResumed p bytes
AnswersOfFile file.Replay p bytes = IsEnd p (follow (graph p) bytes)
AnswersOfFile file.WhatIf p bytes = IsWhatIf p bytes
