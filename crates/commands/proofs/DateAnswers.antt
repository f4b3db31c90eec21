-- The chain of causes of a date, a picture, and latest dates, over the least solution.
use Rattle.std.proofs.Common.{◌≡◌, ◌<◌, ◌≤◌, ℕ, List, refl, ap, subst, inl, inr}
use Rattle.std.specs.Prelude.{Option, None, Some, Result, Ok, IfSome}
use Rattle.answers.specs.declared.answer.Answer.{Answer}
use Rattle.answers.specs.declared.answer.Answer.TheVariants.{Caused as CausedAnswer, Drawn, Latest as LatestAnswer}
use Rattle.command_line.specs.Ranges.{IsWindowGiven}
use Rattle.commands.proofs.OrNoMemory.{OrNoMemory, said}
use Rattle.commands.specs.Answers.{IsChained, IsWhy, IsChart, picture_of, IsLatest}
use Rattle.date_causes.specs.Caused.{Caused}
use Rattle.date_causes.specs.Chain.{IsChain}
use Rattle.date_causes.specs.Named.{HasNoDate}
use Rattle.date_causes.specs.WhyText.{why_text}
use Rattle.event_graph.specs.Least.{IsLeast}
use Rattle.event_graph.specs.Table.{date_in}
use Rattle.latest_dates.specs.Found.{Found, IsFound, IsLatestRefusal, latest_of}
use Rattle.latest_dates.specs.declared.error.LatestError.{LatestError}
use Rattle.latest_dates.specs.declared.error.LatestError.TheVariants as late
use Rattle.line_base.specs.Limits.{most_bars}
use Rattle.line_base.specs.declared.event.Parts.{Parts}
use Rattle.line_chart.specs.Picture.{Picture, IsDrawn, MayBeAskedFor, bars_and_lanes, text_of}
use Rattle.line_core.specs.Schedule.{station_with}
use Rattle.plant_model.specs.Graph.{graph}
use Rattle.plant_model.specs.declared.plant.Plant.{Plant}
use Rattle.live_plant.specs.Refusals.{latest_refusal}
use Rattle.live_plant.specs.declared.refusals.refusal.Refusal.{Refusal}
use Rattle.live_plant.specs.declared.refusals.refusal.Refusal.TheVariants.{NoDate, TooLarge}

-- the chain of causes of a date
pub chains : (p : Plant) (station job : ℕ) (rows : List (List ℕ)) (c : Caused) → c.plant ≡ p →
    IsLeast (graph p) (date_in rows) → IsChain (graph c.plant) (date_in rows) station job c.links →
    OrNoMemory (IsChained p station job) (Ok (CausedAnswer c))
chains p station job rows c is least chain = inl (record {
  rows = rows;
  least = least;
  links = c.links;
  chain = subst (λ (q : Plant). IsChain (graph q) (date_in rows) station job c.links) is chain;
  written = ap (λ (q : Plant). why_text q c.links) is;
})

-- of the first station with a label
pub names : (p : Plant) (g : Parts) (label text : List ℕ) (station job : ℕ) (answer : Result Answer Refusal) →
    g ≡ graph p → text ≡ label → station_with g text ≡ Some station → OrNoMemory (IsChained p station job) answer →
    OrNoMemory (IsWhy p label job) answer
names p g label text station job answer same word found (inl chained) =
    let named = subst (λ (h : Parts). station_with h label ≡ Some station) same
    (subst (λ l. station_with g l ≡ Some station) word found) in
    inl (inl (record { station = station; named = named; chained = chained }))
names p g label text station job answer same word found (inr none) = inr none

pub names_none : (p : Plant) (g : Parts) (label text : List ℕ) (job : ℕ) → g ≡ graph p → text ≡ label →
    HasNoDate g text job → OrNoMemory (IsWhy p label job) (said (NoDate label job))
names_none p g label text job same word none =
    let lacking = subst (λ (h : Parts). HasNoDate h label job) same (subst (λ l. HasNoDate g l job) word none) in
    inl (inr (record { none = lacking; says = refl }))

-- a window that was given may be asked for
pub may_ask : (window : Option (ℕ × ℕ)) → IfSome window IsWindowGiven → MayBeAskedFor window
may_ask None given = tt
may_ask (Some (from, to)) given = record { forward = given.0; early = given.1 }

-- a picture, and one that is too large
pub draws : (p : Plant) (rows : List (List ℕ)) (window : Option (ℕ × ℕ)) (c : Picture) →
    IsLeast (graph p) (date_in rows) → c ≡ picture_of p rows window → IsDrawn c →
    OrNoMemory (IsChart p window) (Ok (Drawn c))
draws p rows window c least is drawn = inl (inl (record {
  rows = rows;
  least = least;
  small = subst (λ (d : Picture). bars_and_lanes d ≤ most_bars) is drawn.small;
  written = ap (λ (d : Picture). text_of d) is;
}))

pub draws_none : (p : Plant) (rows : List (List ℕ)) (window : Option (ℕ × ℕ)) (bars : ℕ) →
    IsLeast (graph p) (date_in rows) → (bars ≡ bars_and_lanes (picture_of p rows window)) × (most_bars < bars) →
    OrNoMemory (IsChart p window) (said (TooLarge bars))
draws_none p rows window bars least large = inl (inr (record {
  rows = rows;
  least = least;
  large = subst (λ n. most_bars < n) large.0 large.1;
  says = ap (λ n. said (TooLarge n)) large.0;
}))

-- latest dates, and none
pub latest_found : (g : Parts) (wait : ℕ) (f : Found) → f.live.graph ≡ g → f.may ≡ wait → IsFound f →
    OrNoMemory (IsLatest g wait) (Ok (LatestAnswer f))
latest_found g wait f same asked is =
    subst (λ (h : Parts). OrNoMemory (IsLatest h wait) (Ok (LatestAnswer f))) same
    (subst (λ w. OrNoMemory (IsLatest f.live.graph w) (Ok (LatestAnswer f))) asked
    (inl (inl (record {
      rows = f.rows;
      least = is.least.least;
      in_time = is.in_time;
      dates = latest_of f;
      latest = is.latest;
      not_before = is.not_before;
      written = refl;
    }))))

pub latest_refused : (g : Parts) (wait : ℕ) (rows : List (List ℕ)) (error : LatestError) (refusal : Refusal) →
    IsLeast g (date_in rows) → IsLatestRefusal g (date_in rows) wait error → refusal ≡ latest_refusal error →
    OrNoMemory (IsLatest g wait) (said refusal)
latest_refused g wait rows (late.Late job waits) refusal least first is =
    inl (inr (record { rows = rows; least = least; job = job; waits = waits; first = first; says = ap said is }))
latest_refused g wait rows late.NoMemory refusal least first is = inr (ap said is)
