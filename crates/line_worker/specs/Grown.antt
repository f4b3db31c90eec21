-- Logs that stations made on their own from a state on, each over the tokens that it took.
use Rattle.std.specs.Prelude.{◌≡◌, ℕ, ◌+◌, ◌<◌, ◌≤◌, List, [], ◌++◌, map, take, drop, length, slice_index, slice_index_or}
use Rattle.line_base.specs.declared.event.Parts.{Parts}
use Rattle.event_graph.specs.Network.{stations, jobs, arc_count, arc, delay, ins}
use Rattle.event_graph.specs.State.{State, log, place}
use Rattle.station_step.specs.Kept.{saturating, date_for}

-- station t's list among these logs
abbrev pub log_in : List (List ℕ) → ℕ → List ℕ
log_in logs t = slice_index_or logs t []

-- how many dates station t had made when the logs began to grow
abbrev pub made_at : State → ℕ → ℕ
made_at begun t = length (log begun t)

-- the tokens that arc a held then, and those put since: one for each date that the station where it starts has added
unfoldable pub tokens_put : Parts → State → List (List ℕ) → ℕ → List ℕ
tokens_put g begun logs a =
    place begun a ++
    map (λ date. saturating date (delay g a)) (drop (made_at begun (arc g a).from) (log_in logs (arc g a).from))

-- the token with number n on input k of station t, where those put on each arc are these lists
abbrev pub token_on : Parts → (ℕ → List ℕ) → ℕ → ℕ → ℕ → ℕ
token_on g tokens t n k = slice_index (tokens (slice_index (ins g t) k)) n

-- each log begins as in the state and isn't too long, each station has taken no more tokens than were put, and each
-- date that it added is the one over the tokens that it took for it
pub record HasGrown (g : Parts) (begun : State) (logs : List (List ℕ)) : Type 0 where
  pub a_log_each : length logs ≡ stations g
  pub few_dates : (t : ℕ) → t < stations g → length (log_in logs t) ≤ jobs g
  pub kept : (t : ℕ) → t < stations g → take (made_at begun t) (log_in logs t) ≡ log begun t
  pub tokens_suffice : (a : ℕ) → a < arc_count g →
      length (log_in logs (arc g a).to) ≤ made_at begun (arc g a).to + length (tokens_put g begun logs a)
  pub dates : (t n : ℕ) → t < stations g → made_at begun t + n < length (log_in logs t) →
      slice_index (log_in logs t) (made_at begun t + n) ≡
      date_for g t (made_at begun t + n + 1) (token_on g (tokens_put g begun logs) t n)
