-- A run of a plant that is asked to stop.
use Rattle.std.proofs.Common.{◌≡◌, ◌⊎◌, ℕ, ◌<◌, ◌≤◌, Bool, List, [], length, refl, ap, sym, ◌∙◌, subst, inl, inr, arith}
use Rattle.std.proofs.Common.{mul-pos, mul-zero}
use Rattle.std.specs.Prelude.{Result, Ok, Err, IfErr}
use Rattle.std.proofs.lemmas.List.Folds.{sum_by-replicate}
use Rattle.checkpoint.specs.declared.format.Format.TheVariants.{Differences}
use Rattle.checkpoint.specs.Length.{FitsLimit}
use Rattle.checkpoint.specs.Text.{text}
use Rattle.event_graph.specs.Network.{stations, jobs}
use Rattle.event_graph.specs.State.{State, start}
use Rattle.line_base.specs.declared.event.Parts.{Parts}
use Rattle.line_core.specs.Consistent.{firing_count}
use Rattle.line_core.specs.Run.{Run}
use Rattle.outside_io.specs.Calls.{Asked, none_asked}
use Rattle.outside_io.specs.StoreView.{StoreView}
use Rattle.line_runs.specs.Headline.{MayBeResumed}
use Rattle.line_runs.specs.AllFirings.{all_firings}
use Rattle.line_runs.specs.Bursts.{BurstsBelow}
use Rattle.line_runs.specs.Stop.{EndsFirst, IsShort, IsStopAt}
use Rattle.line_runs.specs.declared.stop.Outcome.{Outcome}
use Rattle.line_runs.specs.declared.stop.Outcome.TheVariants.{Finished, Stopped}
use Rattle.line_runs.specs.Store.{text_of}
use Rattle.line_workers.specs.Line.{WorkLine, Stands}
use Rattle.live_check.specs.Order.{LiveGraph}
use Rattle.plant_model.proofs.SoundPlants.{HasSoundSizes-sound}
use Rattle.plant_model.specs.declared.plant.Plant.{Plant}
use Rattle.plant_model.specs.Graph.{graph, labels}
use Rattle.plant_model.specs.Sound.{IsSound}
use Rattle.live_plant.specs.declared.refusals.refusal.Refusal.{Refusal}
use Rattle.live_plant.specs.declared.refusals.refusal.Refusal.TheVariants.{NoMemory}
use Rattle.live_plant.specs.Actions.{DiskOver, HasCause, DoesOnStore}
use Rattle.live_plant.specs.Outside.{StoreOver, store_over}
use Rattle.commands.proofs.Actions.{no_memory_caused, does_also, leaves_store}
use Rattle.commands.specs.FirstEnd.{IsDoneFirst, IsFirstEnd, IsLedBelow}
use Rattle.commands.specs.EndsAsAsked.{EndsAtFirst}
use Rattle.commands.specs.Reports.{IsReport}
use Rattle.commands.specs.Saving.{WritesText, AsksNothing, SavesText, RunsUntil}
use Rattle.answers.specs.declared.answer.Answer.{Answer}

-- ---- firings

-- no station has fired at the start
pub none_fired : (g : Parts) → firing_count (start g) ≡ 0
unfolding start
none_fired g = sum_by-replicate length (stations g) [] ∙ mul-zero (stations g)

a_station : (p : Plant) → 0 < stations (graph p)
unfolding graph labels
a_station p = omega arith

some_jobs : (p : Plant) → IsSound p → 0 < jobs (graph p)
unfolding graph
some_jobs p sound = (HasSoundSizes-sound p sound).some_demand

-- a sound plant has firings to make
some_firings : (p : Plant) → IsSound p → 0 < all_firings (graph p)
some_firings p sound = mul-pos (a_station p) (some_jobs p sound)

pub fired_at_start : (g : Parts) (begun : State) → begun ≡ start g → firing_count begun ≡ 0
fired_at_start g begun is = ap firing_count is ∙ none_fired g

-- a run from the start that wasn't stopped
pub short_of : (p : Plant) (g : Parts) (n : ℕ) → IsSound p → g ≡ graph p → (0 < all_firings g → IsShort g n 0) →
    IsShort (graph p) n 0
short_of p g n sound same counts =
    subst (λ (h : Parts). (0 < all_firings h → IsShort h n 0) → IsShort (graph p) n 0) (sym same)
    (λ of. of (some_firings p sound)) counts

-- ---- the first burst's end

-- bursts led a new line at the start on to this one
led_below : (live : LiveGraph) (n workers count : ℕ) (first last : WorkLine) →
    Stands live (start live.graph) workers first → BurstsBelow n first count last → IsLedBelow live.graph n workers last
led_below live n workers count first last stands bursts =
    record { live = live; graph_is = refl; first = first; begins = stands; count = count; bursts = bursts }

-- a run of a new line at the start ends at the first burst's end with n firings
pub ends_at_first : (live : LiveGraph) (n workers : ℕ) (first : WorkLine) (o : Outcome) →
    Stands live (start live.graph) workers first → EndsFirst n first o → EndsAtFirst live.graph n workers o
ends_at_first live n workers first (Finished d) stands ends = record {
  last = ends.last;
  led = led_below live n workers ends.count first ends.last stands ends.bursts;
  done = ends.done;
}
ends_at_first live n workers first (Stopped r) stands ends =
    let same : r.state ≡ ends.last.state = ap (λ (run : Run). run.state) ends.state in
    record {
      last = ends.last;
      led = led_below live n workers ends.count first ends.last stands ends.bursts;
      state_is = same;
      enough = subst (λ (s : State). n ≤ firing_count s) (sym same) ends.enough;
    }

-- ---- what the run answers

-- a report needs no cause
pub report_caused : (store : StoreOver) (disk : DiskOver) (p : Plant) (answer : Result Answer Refusal) →
    IsReport p answer → IfErr answer (HasCause store disk [])
report_caused store disk p (Ok output) is = tt
report_caused store disk p (Err refusal) is = absurd is.written

pub reported_caused : (store : StoreOver) (disk : DiskOver) (p : Plant) (answer : Result Answer Refusal) →
    IsReport p answer ⊎ (answer ≡ Err NoMemory) → IfErr answer (HasCause store disk [])
reported_caused store disk p answer (inl is) = report_caused store disk p answer is
reported_caused store disk p answer (inr none) = no_memory_caused store disk [] answer none

end_answers : (p : Plant) (workers n : ℕ) (file : List ℕ) (answer : Result Answer Refusal) (disk : DiskOver) →
    disk.new ≡ disk.old → IsShort (graph p) n 0 → IsDoneFirst (graph p) n workers →
    IsReport p answer ⊎ (answer ≡ Err NoMemory) → RunsUntil p workers n file none_asked disk answer
end_answers p workers n file answer disk same short first (inl report) = record {
  untouched = same;
  answers = inr (inl (record { nothing = refl; first = first; short = short; report = report }));
}
end_answers p workers n file answer disk same short first (inr none) = record {
  untouched = same;
  answers = inr (inr (refl, none));
}

-- the run answered its end
pub ends_run : (tells : Bool) (view : StoreView) (p : Plant) (workers n : ℕ) (file : List ℕ)
    (answer : Result Answer Refusal) → IsShort (graph p) n 0 → IsDoneFirst (graph p) n workers →
    IsReport p answer ⊎ (answer ≡ Err NoMemory) →
    DoesOnStore (store_over tells view view) (RunsUntil p workers n file) answer
ends_run tells view p workers n file answer short first is =
    leaves_store tells view (RunsUntil p workers n file) answer
    (λ disk. reported_caused (store_over tells view view) disk p answer is)
    (λ disk same. end_answers p workers n file answer disk same short first is)

-- there was no memory for the run
pub runs_not : (tells : Bool) (view : StoreView) (p : Plant) (workers n : ℕ) (file : List ℕ)
    (answer : Result Answer Refusal) → answer ≡ Err NoMemory →
    DoesOnStore (store_over tells view view) (RunsUntil p workers n file) answer
runs_not tells view p workers n file answer none =
    leaves_store tells view (RunsUntil p workers n file) answer
    (λ disk. no_memory_caused (store_over tells view view) disk [] answer none)
    (λ disk same. record { untouched = same; answers = inr (inr (refl, none)) })

stop_answers : (p : Plant) (workers n : ℕ) (file : List ℕ) (state : State) (asked : Asked) (disk : DiskOver)
    (answer : Result Answer Refusal) → FitsLimit (graph p) → MayBeResumed (graph p) state →
    IsStopAt (graph p) n 0 (firing_count state) → IsFirstEnd (graph p) n workers state → disk.new ≡ disk.old →
    WritesText file (text Differences (graph p) state) (firing_count state) asked answer ⊎ AsksNothing asked answer →
    RunsUntil p workers n file asked disk answer
stop_answers p workers n file state asked disk answer fits resumed stop first same (inl writes) = record {
  untouched = same;
  answers = inl (record {
    state = state;
    resumed = resumed;
    first_end = first;
    stop = stop;
    fits = fits Differences state resumed.reached;
    saved = writes;
  });
}
stop_answers p workers n file state asked disk answer fits resumed stop first same (inr none) = record {
  untouched = same;
  answers = inr (inr none);
}

-- the run was stopped, and its state saved
pub stops_run : (store : StoreOver) (p : Plant) (workers n : ℕ) (file : List ℕ) (r : Run)
    (answer : Result Answer Refusal) → FitsLimit (graph p) → r.graph ≡ graph p → MayBeResumed (graph p) r.state →
    IsStopAt (graph p) n 0 (firing_count r.state) → IsFirstEnd (graph p) n workers r.state →
    DoesOnStore store (SavesText file (text_of r) (firing_count r.state)) answer →
    DoesOnStore store (RunsUntil p workers n file) answer
stops_run store p workers n file r answer fits same resumed stop first saved =
    let of_plant : DoesOnStore store (SavesText file (text Differences (graph p) r.state) (firing_count r.state)) answer =
    subst (λ (g : Parts). DoesOnStore store (SavesText file (text Differences g r.state) (firing_count r.state)) answer) same
    saved in
    λ disk still.
    does_also store disk (SavesText file (text Differences (graph p) r.state) (firing_count r.state))
    (RunsUntil p workers n file) answer
    (λ asked answers. stop_answers p workers n file r.state asked disk answer fits resumed stop first answers.0
    answers.1)
    (of_plant disk still)
