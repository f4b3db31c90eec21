-- Sums over all stations of a line, team by team.
use Rattle.std.proofs.Common.{◌≡◌, ℕ, zero, suc, ◌+◌, ◌-◌, ◌<◌, ◌≤◌, List, [], ◌∷◌, map, take, length, refl, ap, ◌∙◌, sym, arith, zero-add, add-zero, add_assoc}
use Rattle.std.specs.List.{sum_by, range_with_len}
use Rattle.std.proofs.lemmas.List.{take_more, take_all}
use Rattle.std.proofs.lemmas.List.FromFn.{map-range_with_len_more, fill_by_all}
use Rattle.std.proofs.lemmas.List.Sums.{sum_by-cons, sum_by_push}
use Rattle.line_base.specs.declared.event.Parts.{Parts}
use Rattle.event_graph.specs.Network.{stations}
use Rattle.event_graph.specs.State.{State}
use Rattle.station_step.specs.Station.{WorkStation}
use Rattle.line_worker.specs.Share.{first_of}
use Rattle.line_worker.specs.Team.{WorkTeam, member, no_station}
use Rattle.line_worker.specs.Teams.{team_at, owner_of, station_of, AreTeams}
use Rattle.line_worker.proofs.Share.{worker_is, first-zero, first-all}

-- ---- sums

pub sum_by-map : {X Y : Type 0} (f : Y → ℕ) (h : X → Y) (xs : List X) → sum_by f (map h xs) ≡ sum_by (λ x. f (h x)) xs
sum_by-map f h [] = refl
sum_by-map f h (x ∷ xs) =
    sum_by-cons f (h x) (map h xs)
    ∙ ap (λ n. f (h x) + n) (sum_by-map f h xs)
    ∙ sym (sum_by-cons (λ y. f (h y)) x xs)

sum_map : (f : WorkStation → ℕ) (h : ℕ → WorkStation) (n : ℕ) → sum_by f (map h (range_with_len 0 (n + 1))) ≡ sum_by f (map h (range_with_len 0 n)) + f (h n)
sum_map f h n = ap (sum_by f) (map-range_with_len_more h 0 n n (zero-add n)) ∙ sum_by_push f (map h (range_with_len 0 n)) (h n)

-- the numbers from a on, one after the other
sum_from : (f : WorkStation → ℕ) (h k : ℕ → WorkStation) (a n : ℕ) → ((i : ℕ) → i < n → h (a + i) ≡ k i) → sum_by f (map h (range_with_len 0 (a + n))) ≡ sum_by f (map h (range_with_len 0 a)) + sum_by f (map k (range_with_len 0 n))
sum_from f h k a zero same = ap (λ m. sum_by f (map h (range_with_len 0 m))) (add-zero a) ∙ sym (add-zero _)
sum_from f h k a (suc n) same =
    let before = sum_from f h k a n (λ i low. same i (omega arith)) in
    let next : a + suc n ≡ a + n + 1 = omega arith in
    let one : suc n ≡ n + 1 = omega arith in
    ap (λ m. sum_by f (map h (range_with_len 0 m))) next
    ∙ sum_map f h (a + n)
    ∙ ap (λ s. s + f (h (a + n))) before
    ∙ ap (λ (s : WorkStation). sum_by f (map h (range_with_len 0 a)) + sum_by f (map k (range_with_len 0 n)) + f s) (same n (omega arith))
    ∙ add_assoc (sum_by f (map h (range_with_len 0 a))) (sum_by f (map k (range_with_len 0 n))) (f (k n))
    ∙ ap (λ s. sum_by f (map h (range_with_len 0 a)) + s) (sym (ap (λ m. sum_by f (map k (range_with_len 0 m))) one ∙ sum_map f k n))

-- the stations of a list by their numbers
pub by_number : (xs : List WorkStation) → xs ≡ map (member xs) (range_with_len 0 (length xs))
by_number xs = fill_by_all (member xs) xs (length xs) no_station refl (λ k low. refl)

-- ---- team by team

module _ (g : Parts) (begun : State) (teams : List WorkTeam) (some : 1 ≤ stations g) (are : AreTeams g begun teams) (f : WorkStation → ℕ) where
  abbrev first : ℕ → ℕ
  first w = first_of (length teams) (stations g) w

  -- a station of the team of worker w, by its number in the graph
  pub of_worker : (w i : ℕ) → w < length teams → i < length (team_at teams w).stations → station_of g teams (first_of (length teams) (stations g) w + i) ≡ member (team_at teams w).stations i
  of_worker w i low low_i =
      let t = first w + i in
      let at : owner_of g teams t ≡ w = worker_is (length teams) (stations g) are.some some w t (omega arith) (omega (arith, are.sizes w low, low_i)) in
      let number : t - first w ≡ i = omega arith in
      ap (λ v. member (team_at teams v).stations (t - first v)) at
      ∙ ap (member (team_at teams w).stations) number

  sum_upto : (w : ℕ) → w ≤ length teams → sum_by f (map (station_of g teams) (range_with_len 0 (first_of (length teams) (stations g) w))) ≡ sum_by (λ team. sum_by f team.stations) (take w teams)
  sum_upto zero low = ap (λ n. sum_by f (map (station_of g teams) (range_with_len 0 n))) (first-zero (length teams) (stations g) are.some some)
  sum_upto (suc w) low =
      let w_low : w < length teams = omega arith in
      let team = team_at teams w in
      let n = length team.stations in
      let next : suc w ≡ w + 1 = omega arith in
      let size : first (suc w) ≡ first w + n = ap first next ∙ sym (are.sizes w w_low) in
      ap (λ m. sum_by f (map (station_of g teams) (range_with_len 0 m))) size
      ∙ sum_from f (station_of g teams) (member team.stations) (first w) n (λ i low_i. of_worker w i w_low low_i)
      ∙ ap (λ s. s + sum_by f (map (member team.stations) (range_with_len 0 n))) (sum_upto w (omega arith))
      ∙ ap (λ l. sum_by (λ (t : WorkTeam). sum_by f t.stations) (take w teams) + sum_by f l) (sym (by_number team.stations))
      ∙ sym (
      ap (λ m. sum_by (λ (t : WorkTeam). sum_by f t.stations) (take m teams)) next
      ∙ ap (sum_by (λ (t : WorkTeam). sum_by f t.stations)) (take_more teams w (record { stations = []; shelf = [] }) w_low)
      ∙ sum_by_push (λ (t : WorkTeam). sum_by f t.stations) (take w teams) team)

  pub sum-among : sum_by f (map (station_of g teams) (range_with_len 0 (stations g))) ≡ sum_by (λ team. sum_by f team.stations) teams
  sum-among =
      ap (λ n. sum_by f (map (station_of g teams) (range_with_len 0 n))) (sym (first-all (length teams) (stations g) are.some some))
      ∙ sum_upto (length teams) (omega arith)
      ∙ ap (sum_by (λ (t : WorkTeam). sum_by f t.stations)) (take_all (length teams) teams (omega arith))
