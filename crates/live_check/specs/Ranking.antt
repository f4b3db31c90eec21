-- An order of the stations in the making, for the functions that make it.
use Rattle.std.specs.Prelude.{◌≡◌, ℕ, ◌+◌, ◌-◌, ◌<◌, ◌≤◌, ◌==◌, ◌&&◌, nat_le, if◌then◌else◌, Bool, List, [], ◌∷◌, ◌++◌, length, slice_index, slice_set, count_by, All}
use Rattle.std.specs.List.{range_with_len}
use Rattle.line_base.specs.declared.event.Parts.{Parts}
use Rattle.event_graph.specs.Network.{IsGraph, stations, arc_count, arc}
use Rattle.event_graph.specs.Limits.{IsWithinLimits}

-- for each station how many of its arcs out without a token are not passed, and its rank; the ranked stations by rank
pub record Ranks : Type 0 where
  pub waiting : List ℕ
  pub ranks : List ℕ
  pub order : List ℕ

-- station t gets the next rank
abbrev pub with_next : Ranks → ℕ → Ranks
with_next r t = record r { ranks = slice_set r.ranks t (length r.order); order = r.order ++ t ∷ [] }

-- one more arc out of station t is passed
abbrev pub with_passed : Ranks → ℕ → Ranks
with_passed r t = record r { waiting = slice_set r.waiting t (slice_index r.waiting t - 1) }

-- one more arc out of station t is passed, and t gets the next rank if that was the last one
abbrev pub with_release : Ranks → ℕ → Ranks
with_release r t =
    if slice_index r.waiting t - 1 == 0 then with_next (with_passed r t) t else with_passed r t

-- arc a leads out of station t, and holds no token
abbrev pub is_free_from : Parts → ℕ → ℕ → Bool
is_free_from g t a = (arc g a).from == t && (arc g a).tokens == 0

-- and the rank of the station at its end is not below the number of stations that were passed
abbrev pub is_open : Parts → List ℕ → ℕ → ℕ → ℕ → Bool
is_open g ranks passed t a = is_free_from g t a && nat_le passed (slice_index ranks (arc g a).to)

-- how many arcs out of station t are open
unfoldable pub open_count : Parts → List ℕ → ℕ → ℕ → ℕ
open_count g ranks passed t = count_by (is_open g ranks passed t) (range_with_len 0 (arc_count g))

-- the stations in the order have their ranks in it as ranks, the others none below the number of stations;
-- each arc without a token out of a ranked station leads to one of lower rank
pub record IsFalling (g : Parts) (ranks order : List ℕ) : Type 0 where
  pub rank_for_each : length ranks ≡ stations g
  pub unranked : count_by (nat_le (stations g)) ranks + length order ≡ stations g
  pub has_rank : (t : ℕ) → t < stations g → slice_index ranks t < stations g → slice_index ranks t < length order
  pub at_rank : (t : ℕ) → t < stations g → slice_index ranks t < stations g →
      slice_index order (slice_index ranks t) ≡ t
  pub in_order : (k : ℕ) → k < length order → slice_index order k < stations g
  pub rank_at : (k : ℕ) → k < length order → slice_index ranks (slice_index order k) ≡ k
  pub falls : (a : ℕ) → a < arc_count g → (arc g a).tokens ≡ 0 → slice_index ranks (arc g a).from < stations g →
      slice_index ranks (arc g a).to < slice_index ranks (arc g a).from

-- the first stations of the order were passed, but for these arcs into the last of them
pub record IsPassing (g : Parts) (r : Ranks) (passed : ℕ) (arcs : List ℕ) : Type 0 where
  pub falling : IsFalling g r.ranks r.order
  pub within : passed ≤ length r.order
  pub waiting_for_each : length r.waiting ≡ stations g
  pub waits : (t : ℕ) → t < stations g →
      slice_index r.waiting t ≡ open_count g r.ranks passed t + count_by (is_free_from g t) arcs
  pub no_wait : (t : ℕ) → t < stations g → slice_index r.ranks t < stations g → slice_index r.waiting t ≡ 0

-- the count of each station is the number of its arcs out without a token among the first n arcs
pub record CountsFree (g : Parts) (waiting : List ℕ) (n : ℕ) : Type 0 where
  pub one_for_each : length waiting ≡ stations g
  pub counts : (t : ℕ) → t < stations g → slice_index waiting t ≡ count_by (is_free_from g t) (range_with_len 0 n)

-- the first stations of the order were passed
abbrev pub IsPassed : Parts → Ranks → ℕ → Type 0
IsPassed g r passed = IsPassing g r passed []

-- of the first n stations, each that has no rank waits for an arc
pub record NoneIsReady (g : Parts) (r : Ranks) (n : ℕ) : Type 0 where
  pub all_wait : (t : ℕ) → t < n → stations g ≤ slice_index r.ranks t → 0 < slice_index r.waiting t

-- every station has a rank, below their number
abbrev pub AllRanked : List ℕ → Type 0
AllRanked ranks = All (λ rank. rank < length ranks) ranks

-- the station has no rank
abbrev pub IsUnranked : List ℕ → ℕ → Type 0
IsUnranked ranks t = (t < length ranks) × (length ranks ≤ slice_index ranks t)

-- the rank of a rank among n stations, counted from the other end
abbrev pub from_end : ℕ → ℕ → ℕ
from_end n rank = n - 1 - rank

-- every station that can have a rank has one
pub record IsComplete (g : Parts) (r : Ranks) : Type 0 where
  pub sound : IsGraph g
  pub limits : IsWithinLimits g
  pub passed : IsPassed g r (length r.order)
  pub ready : NoneIsReady g r (stations g)
