-- The two stations that meet over a ring, among those of their teams.
use Rattle.std.proofs.Common.{◌≡◌, ℕ, ◌<◌, List, length, get_or, set, sym, ap, ◌∙◌, subst, arith}
use Rattle.std.proofs.lemmas.List.{get_or_read, get_or-set_same}
use Rattle.card_queue.specs.Plain.{PlainQueue}
use Rattle.station_step.specs.declared.ends.Inlet.{Inlet}
use Rattle.station_step.specs.declared.ends.Outlet.{Outlet}
use Rattle.station_step.specs.Ends.{AreMet, unseen_inlet, unseen_outlet}
use Rattle.station_step.specs.Input.{input_at}
use Rattle.station_step.specs.Station.{WorkStation, bare_station, outlet_at, with_inlet, with_outlet}
use Rattle.line_worker.specs.Meeting.{OutletMet, InletMet}
use Rattle.line_worker.specs.Team.{WorkTeam, member, no_station}

-- a station that was found at its number
pub team-found : (stations : List WorkStation) (shelf : List PlainQueue) (team : WorkTeam) (i : ℕ) (before : WorkStation) → record { stations = stations; shelf = shelf } ≡ team → i < length team.stations → before ≡ get_or stations i before → before ≡ member team.stations i
team-found stations shelf team i before view low at =
    let there : i < length stations = omega (arith, low, ap (λ (t : WorkTeam). length t.stations) view) in
    get_or_read stations i before there at no_station ∙ ap (λ (t : WorkTeam). member t.stations i) view

-- a team with another station in its place
pub set-is : (stations : List WorkStation) (shelf : List PlainQueue) (i : ℕ) (after now : WorkStation) → now ≡ after → (let team : WorkTeam = record { stations = set stations i after; shelf = shelf } in team) ≡ record { stations = set stations i now; shelf = shelf }
set-is stations shelf i after now is = ap (λ (s : WorkStation). (let team : WorkTeam = record { stations = set stations i s; shelf = shelf } in team)) (sym is)

-- station i of a team changed in this way, and is the same to this look; nothing else of the team changed
record ChangedAt (Look : Type 0) (i : ℕ) (change : WorkStation → WorkStation → WorkStation) (look : WorkStation → Look) (old new : WorkTeam) : Type 0 where
  only : new ≡ record { stations = set old.stations i (member new.stations i); shelf = old.shelf }
  changed : member new.stations i ≡ change (member old.stations i) (member new.stations i)
  same : look (member new.stations i) ≡ look (member old.stations i)
  bare : bare_station (member new.stations i) ≡ bare_station (member old.stations i)

changed-at : (Look : Type 0) (change : WorkStation → WorkStation → WorkStation) (look : WorkStation → Look) (stations : List WorkStation) (shelf : List PlainQueue) (team : WorkTeam) (i : ℕ) (before after : WorkStation) → record { stations = stations; shelf = shelf } ≡ team → i < length team.stations → before ≡ get_or stations i before → after ≡ change before after → look after ≡ look before → bare_station after ≡ bare_station before → ChangedAt Look i change look team (record { stations = set stations i after; shelf = shelf })
changed-at Look change look stations shelf team i before after view low at changed same bare =
    let there : i < length stations = omega (arith, low, ap (λ (t : WorkTeam). length t.stations) view) in
    let here : before ≡ member stations i = get_or_read stations i before there at no_station in
    let is : member (set stations i after) i ≡ after = get_or-set_same stations i after no_station there in
    let new : WorkTeam = record { stations = set stations i after; shelf = shelf } in
    subst (λ (t : WorkTeam). ChangedAt Look i change look t new) view (record {
      only = set-is stations shelf i after (member (set stations i after) i) is;
      changed = is ∙ changed ∙ ap (λ (s : WorkStation). change s after) here ∙ ap (change (member stations i)) (sym is);
      same = ap look is ∙ same ∙ ap look here;
      bare = ap bare_station is ∙ bare ∙ ap bare_station here;
    })

pub outlet-met : (stations : List WorkStation) (shelf : List PlainQueue) (team : WorkTeam) (i k : ℕ) (before after : WorkStation) → record { stations = stations; shelf = shelf } ≡ team → i < length team.stations → before ≡ get_or stations i before → after ≡ with_outlet before k (outlet_at after.outlets k) → unseen_outlet (outlet_at after.outlets k) ≡ unseen_outlet (outlet_at before.outlets k) → bare_station after ≡ bare_station before → OutletMet i k team (record { stations = set stations i after; shelf = shelf })
outlet-met stations shelf team i k before after view low at met unseen bare =
    let meets : WorkStation → WorkStation → WorkStation = λ s now. with_outlet s k (outlet_at now.outlets k) in
    let is = changed-at Outlet meets (λ (s : WorkStation). unseen_outlet (outlet_at s.outlets k)) stations shelf team i before after view low at met unseen bare in
    record { only = is.only; outlet = is.changed; unseen = is.same; bare = is.bare }

pub inlet-met : (stations : List WorkStation) (shelf : List PlainQueue) (team : WorkTeam) (j l : ℕ) (before after : WorkStation) → record { stations = stations; shelf = shelf } ≡ team → j < length team.stations → before ≡ get_or stations j before → after ≡ with_inlet before l (input_at after.inputs l).inlet → unseen_inlet (input_at after.inputs l).inlet ≡ unseen_inlet (input_at before.inputs l).inlet → bare_station after ≡ bare_station before → InletMet j l team (record { stations = set stations j after; shelf = shelf })
inlet-met stations shelf team j l before after view low at met unseen bare =
    let meets : WorkStation → WorkStation → WorkStation = λ s now. with_inlet s l (input_at now.inputs l).inlet in
    let is = changed-at Inlet meets (λ (s : WorkStation). unseen_inlet (input_at s.inputs l).inlet) stations shelf team j before after view low at met unseen bare in
    record { only = is.only; inlet = is.changed; unseen = is.same; bare = is.bare }

-- two stations that met, in their places
pub are-met : (froms tos : List WorkStation) (i j k l : ℕ) (from to : WorkStation) → i < length froms → j < length tos → AreMet (outlet_at from.outlets k) (input_at to.inputs l).inlet → AreMet (outlet_at (member (set froms i from) i).outlets k) (input_at (member (set tos j to) j).inputs l).inlet
are-met froms tos i j k l from to low_i low_j met =
    subst (λ (s : WorkStation). AreMet (outlet_at s.outlets k) (input_at (member (set tos j to) j).inputs l).inlet) (sym (get_or-set_same froms i from no_station low_i)) (
    subst (λ (s : WorkStation). AreMet (outlet_at from.outlets k) (input_at s.inputs l).inlet) (sym (get_or-set_same tos j to no_station low_j)) met)
