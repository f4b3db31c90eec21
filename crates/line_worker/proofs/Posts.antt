-- The stations of a team on their shelf: where one of them changed, and what their logs are.
use Rattle.std.proofs.Common.{◌≡◌, ◌≢◌, ℕ, ◌+◌, ◌<◌, ◌≤◌, List, [], ◌∷◌, map, length, set, get_or, refl, sym, ap, ◌∙◌, subst, arith, ⊎_elim, sum_by}
use Rattle.std.proofs.lemmas.Bool.{cases_eq}
use Rattle.std.proofs.lemmas.List.{length-map, length-set, get_or-map, get_or_read, get_or-set_same, get_or-set_other, set-get_or, ext_get_or}
use Rattle.std.proofs.lemmas.List.Sums.{sum_by-cons}
use Rattle.line_base.specs.Roomy.{RoomyLog}
use Rattle.station_step.specs.Shelf.{WorkShelf, log_on}
use Rattle.station_step.specs.Station.{WorkStation, StandsAt, bare_station}
use Rattle.station_step.proofs.Posts.{stands-same}
use Rattle.line_worker.specs.Team.{WorkTeam, AreAt, member, no_station}
use Rattle.line_worker.specs.Logs.{log_of, copy_of, copy_with, dates_in}
use Rattle.line_worker.specs.Cleared.{cleared_station}
use Rattle.line_worker.specs.Work.{dates_of}
use Rattle.line_worker.proofs.Cleared.{member-cleared}
use Rattle.line_worker.proofs.TeamSteps.{graph-same, number-same, inputs-same, inputs-count, outlets-same, outlets-count}

-- a station that is the same but for its tokens, by its log on a shelf with the same queues
stands-bare : (i : ℕ) (old new : WorkShelf) (before after : WorkStation) → length new.logs ≡ length old.logs → log_on new.logs i ≡ after.log → new.sources ≡ old.sources → length new.queues ≡ length old.queues → bare_station after ≡ bare_station before → StandsAt i old before → StandsAt i new after
stands-bare i old new before after logs log sources count same stands =
    stands-same i old new before after logs log sources count (graph-same before after same) (number-same before after same) (inputs-count before after same) (inputs-same before after same) (outlets-count before after same) (outlets-same before after same) stands

-- station i is another one, which is the same but for its tokens and its log
pub at-set : (old new : WorkShelf) (stations : List WorkStation) (i : ℕ) (after : WorkStation) → i < length stations → bare_station after ≡ bare_station (member stations i) → new.logs ≡ set old.logs i after.log → new.sources ≡ old.sources → length new.queues ≡ length old.queues → AreAt old stations → AreAt new (set stations i after)
at-set old new stations i after low same logs sources count are =
    let no_log : RoomyLog = record { dates = []; room = 0 } in
    let many : length new.logs ≡ length old.logs = ap length logs ∙ length-set old.logs i after.log in
    let all = length-set stations i after in
    record {
      count = many ∙ are.count ∙ sym all;
      each = λ j there.
          let was = are.each j (omega (arith, there, all)) in
          ⊎_elim
          (λ (e : j ≡ i).
          subst (λ (k : ℕ). StandsAt k new (member (set stations i after) k)) (sym e)
          (subst (StandsAt i new) (sym (get_or-set_same stations i after no_station low))
          (stands-bare i old new (member stations i) after many
          (ap (λ (l : List RoomyLog). log_on l i) logs ∙ get_or-set_same old.logs i after.log no_log (omega (arith, low, are.count)))
          sources count same (are.each i low))))
          (λ (ne : j ≢ i).
          subst (StandsAt j new) (sym (get_or-set_other stations i j after no_station ne))
          (stands-bare j old new (member stations j) (member stations j) many
          (ap (λ (l : List RoomyLog). log_on l j) logs ∙ get_or-set_other old.logs i j after.log no_log ne ∙ was.log)
          sources count refl was))
          (cases_eq j i);
    }

-- one of them met another
pub at-met : (shelf : WorkShelf) (stations : List WorkStation) (team : WorkTeam) (i : ℕ) (before after : WorkStation) → record { stations = stations; shelf = shelf.queues } ≡ team → i < length team.stations → before ≡ get_or stations i before → bare_station after ≡ bare_station before → after.log ≡ before.log → AreAt shelf stations → AreAt shelf (set stations i after)
at-met shelf stations team i before after view low at same log are =
    let there : i < length stations = omega (arith, low, ap (λ (t : WorkTeam). length t.stations) view) in
    let here : before ≡ member stations i = get_or_read stations i before there at no_station in
    let no_log : RoomyLog = record { dates = []; room = 0 } in
    at-set shelf shelf stations i after there (same ∙ ap bare_station here)
    (sym (set-get_or shelf.logs i no_log) ∙ ap (set shelf.logs i) ((are.each i there).log ∙ ap (λ (s : WorkStation). s.log) (sym here) ∙ sym log))
    refl refl are

-- their turns were counted from 0 again
pub at-cleared : (shelf : WorkShelf) (stations : List WorkStation) → AreAt shelf stations → AreAt shelf (map cleared_station stations)
at-cleared shelf stations are =
    let all = length-map stations cleared_station in
    record {
      count = are.count ∙ sym all;
      each = λ i low.
          let was = are.each i (omega (arith, low, all)) in
          subst (StandsAt i shelf) (sym (member-cleared stations i))
          (record { there = was.there; log = was.log; come = was.come; later = was.later });
    }

-- ---- their logs

pub logs-of : (shelf : WorkShelf) (stations : List WorkStation) → AreAt shelf stations → map log_of stations ≡ shelf.logs
logs-of shelf stations are =
    let count : length (map log_of stations) ≡ length stations = length-map stations log_of in
    ext_get_or (record { dates = []; room = 0 }) (map log_of stations) shelf.logs (count ∙ sym are.count)
    (λ i there.
    let low : i < length stations = omega (arith, there, count) in
    get_or-map log_of stations i no_station (record { dates = []; room = 0 }) low ∙ sym (are.each i low).log)

-- and of a team, as contracts see it
pub logs-in_team : (shelf : WorkShelf) (stations : List WorkStation) (team : WorkTeam) → record { stations = stations; shelf = shelf.queues } ≡ team → AreAt shelf stations → shelf.logs ≡ map log_of team.stations
logs-in_team shelf stations team view are = sym (logs-of shelf stations are) ∙ ap (λ (t : WorkTeam). map log_of t.stations) view

-- how many dates they have together
pub dates-map : (stations : List WorkStation) → sum_by dates_in (map log_of stations) ≡ sum_by dates_of stations
dates-map [] = refl
dates-map (s ∷ stations) =
    sum_by-cons dates_in (log_of s) (map log_of stations)
    ∙ ap (λ n. dates_of s + n) (dates-map stations)
    ∙ sym (sum_by-cons dates_of s stations)

-- and each
pub dates-at : (stations : List WorkStation) (i : ℕ) → i < length stations → dates_in (log_on (map log_of stations) i) ≡ dates_of (member stations i)
dates-at stations i low = ap dates_in (get_or-map log_of stations i no_station (record { dates = []; room = 0 }) low)

-- their copies
pub copies-map : (room : ℕ) (stations : List WorkStation) → map (copy_with room) (map log_of stations) ≡ map (copy_of room) stations
copies-map room [] = refl
copies-map room (s ∷ stations) = ap (λ (l : List RoomyLog). copy_of room s ∷ l) (copies-map room stations)

-- where each station has made at most this many dates, each log has as few
pub logs-few : (logs : List RoomyLog) (stations : List WorkStation) (most : ℕ) → logs ≡ map log_of stations → ((i : ℕ) → i < length stations → dates_of (member stations i) ≤ most) → (i : ℕ) → i < length logs → dates_in (log_on logs i) ≤ most
logs-few logs stations most are few i there =
    let low : i < length stations = omega (arith, there, ap length are, length-map stations log_of) in
    omega (arith, few i low, ap (λ (l : List RoomyLog). dates_in (log_on l i)) are ∙ dates-at stations i low)

-- each station has made this many dates where each log has them
pub all-done : (logs : List RoomyLog) (stations : List WorkStation) (target : ℕ) → logs ≡ map log_of stations → ((i : ℕ) → i < length logs → dates_in (log_on logs i) ≡ target) → (i : ℕ) → i < length stations → dates_of (member stations i) ≡ target
all-done logs stations target are done i low =
    sym (ap (λ (l : List RoomyLog). dates_in (log_on l i)) are ∙ dates-at stations i low)
    ∙ done i (omega (arith, low, ap length are, length-map stations log_of))

pub done-all : (logs : List RoomyLog) (stations : List WorkStation) (target : ℕ) → logs ≡ map log_of stations → ((i : ℕ) → i < length stations → dates_of (member stations i) ≡ target) → (i : ℕ) → i < length logs → dates_in (log_on logs i) ≡ target
done-all logs stations target are done i there =
    let low : i < length stations = omega (arith, there, ap length are, length-map stations log_of) in
    ap (λ (l : List RoomyLog). dates_in (log_on l i)) are ∙ dates-at stations i low ∙ done i low
