-- The stations of a graph have an order in which arcs without tokens go upwards, or the graph has a dead circuit:
-- stations get ranks one by one, and where none can get the next, a walk among those without a rank comes back.
use Rattle.std.proofs.Common.{◌≡◌, ℕ, zero, suc, ◌+◌, ◌<◌, ◌≤◌, ◌⊎◌, List, [], ◌∷◌, ◌++◌, length, get_or, set, map, drop, replicate, ap, ◌∙◌, subst, inl, inr, arith}
use Rattle.std.proofs.lemmas.Bool.{cases_lt, cases_eq}
use Rattle.std.proofs.lemmas.List.{length_push, get_or_default}
use Rattle.line_base.specs.declared.event.Parts.{Parts}
use Rattle.event_graph.specs.Network.{IsGraph, arc, arc_count, stations}
use Rattle.event_graph.specs.Live.{IsLive}
use Rattle.live_check.specs.Order.{HasOrder}
use Rattle.live_check.specs.Ranking.{Ranks, with_next, IsFalling, from_end}
use Rattle.live_check.specs.DeadCircuit.{IsDeadCircuit, LeadsOn, IsStuck}
use Rattle.live_check.proofs.StuckWalks.{IsStuckWalk, walk_none, walk_room, walk_more, walk_closed}
use Rattle.live_check.proofs.RankSteps.{has_room, next_falls, start_falls}
use Rattle.live_check.proofs.Upward.{falling_upward}

-- some circuit holds no token
abbrev HasDeadCircuit : Parts → Type 0
HasDeadCircuit g = (arcs : List ℕ) × IsDeadCircuit g arcs

-- a walk among stuck stations comes back
comes_back : (g : Parts) (ranks : List ℕ) → IsGraph g → IsStuck g ranks → (room : ℕ) (path left : List ℕ) (start at : ℕ) → IsStuckWalk g ranks path left start at → stations g ≤ room + length path → HasDeadCircuit g
comes_back g ranks graph stuck zero path left start at h enough =
    elim (cases_eq (get_or left at 0) (stations g)) [
      | inl fresh ↦ absurd (omega (arith, walk_room g ranks path left start at h fresh))
      | inr seen ↦ (drop (get_or left at 0) path, walk_closed g ranks path left start at h seen)
    ]
comes_back g ranks graph stuck (suc room) path left start at h enough =
    elim (cases_eq (get_or left at 0) (stations g)) [
      | inl fresh ↦
          let on = stuck.way at h.here h.unranked in
          comes_back g ranks graph stuck room (path ++ on.0 ∷ []) (set left at (length path)) start (arc g on.0).to
          (walk_more g ranks path left start at on.0 graph h fresh on.1)
          (omega (arith, length_push path on.0))
      | inr seen ↦ (drop (get_or left at 0) path, walk_closed g ranks path left start at h seen)
    ]

-- each of the first n arcs that leads out of the station without a token ends at a ranked one
abbrev EndsRanked : Parts → List ℕ → ℕ → ℕ → Type 0
EndsRanked g ranks t n =
    (a : ℕ) → a < n → (arc g a).from ≡ t → (arc g a).tokens ≡ 0 → get_or ranks (arc g a).to 0 < stations g

leads_on_or_ends : (g : Parts) (ranks : List ℕ) (t n : ℕ) → n ≤ arc_count g → ((a : ℕ) × LeadsOn g ranks t a) ⊎ EndsRanked g ranks t n
leads_on_or_ends g ranks t zero few = inr (λ a low. absurd (omega arith))
leads_on_or_ends g ranks t (suc n) few =
    let Answer = ((a : ℕ) × LeadsOn g ranks t a) ⊎ EndsRanked g ranks t (suc n) in
    elim (leads_on_or_ends g ranks t n (omega arith)) [
      | inl on ↦ inl on
      | inr before ↦
          let last : ((arc g n).from ≡ t → (arc g n).tokens ≡ 0 → get_or ranks (arc g n).to 0 < stations g) → Answer =
          λ here. inr (λ a low from free. elim (cases_lt a n) [
            | inl early ↦ before a early from free
            | inr end ↦ let is : n ≡ a = omega arith in
                subst (λ b. get_or ranks (arc g b).to 0 < stations g) is (here (ap (λ b. (arc g b).from) is ∙ from) (ap (λ b. (arc g b).tokens) is ∙ free))
          ]) in
          elim (cases_lt (get_or ranks (arc g n).to 0) (stations g)) [
            | inl ranked ↦ last (λ from free. ranked)
            | inr unranked ↦ elim (cases_eq (arc g n).from t) [
              | inl from ↦ elim (cases_eq (arc g n).tokens 0) [
                | inl free ↦ inl (n, record { exists = omega arith; from = from; free = free; unranked = unranked })
                | inr held ↦ last (λ from free. absurd (held free))
              ]
              | inr other ↦ last (λ from free. absurd (other from))
            ]
          ]
    ]

-- a station without a rank that can get the next one
record IsReady (g : Parts) (ranks : List ℕ) (t : ℕ) : Type 0 where
  exists : t < stations g
  unranked : stations g ≤ get_or ranks t 0
  ends : EndsRanked g ranks t (arc_count g)

-- of the first n stations some is ready, or each without a rank is stuck
ready_or_stuck : (g : Parts) (ranks : List ℕ) (n : ℕ) → n ≤ stations g → ((t : ℕ) × IsReady g ranks t) ⊎ ((t : ℕ) → t < n → stations g ≤ get_or ranks t 0 → (a : ℕ) × LeadsOn g ranks t a)
ready_or_stuck g ranks zero few = inr (λ t low. absurd (omega arith))
ready_or_stuck g ranks (suc n) few =
    let Answer = ((t : ℕ) × IsReady g ranks t) ⊎ ((t : ℕ) → t < suc n → stations g ≤ get_or ranks t 0 → (a : ℕ) × LeadsOn g ranks t a) in
    elim (ready_or_stuck g ranks n (omega arith)) [
      | inl ready ↦ inl ready
      | inr before ↦
          let last : (stations g ≤ get_or ranks n 0 → (a : ℕ) × LeadsOn g ranks n a) → Answer =
          λ here. inr (λ t low unranked. elim (cases_lt t n) [
            | inl early ↦ before t early unranked
            | inr end ↦ let is : n ≡ t = omega arith in
                subst (λ u. (a : ℕ) × LeadsOn g ranks u a) is (here (omega (arith, ap (λ u. get_or ranks u 0) is)))
          ]) in
          elim (cases_lt (get_or ranks n 0) (stations g)) [
            | inl ranked ↦ last (λ unranked. absurd (omega arith))
            | inr unranked ↦ elim (leads_on_or_ends g ranks n (arc_count g) (omega arith)) [
              | inl on ↦ last (λ again. on)
              | inr ends ↦ inl (n, record { exists = omega arith; unranked = unranked; ends = ends })
            ]
          ]
    ]

-- of the first n stations some has no rank, or each has one
unranked_or_all : (T : ℕ) (ranks : List ℕ) (n : ℕ) → ((t : ℕ) × (t < n) × (T ≤ get_or ranks t 0)) ⊎ ((t : ℕ) → t < n → get_or ranks t 0 < T)
unranked_or_all T ranks zero = inr (λ t low. absurd (omega arith))
unranked_or_all T ranks (suc n) =
    elim (unranked_or_all T ranks n) [
      | inl found ↦ inl (found.0, omega (arith, found.1), found.2)
      | inr before ↦ elim (cases_lt (get_or ranks n 0) T) [
        | inl ranked ↦ inr (λ t low. elim (cases_lt t n) [
          | inl early ↦ before t early
          | inr end ↦ let is : n ≡ t = omega arith in subst (λ u. get_or ranks u 0 < T) is ranked
        ])
        | inr unranked ↦ inl (n, omega arith, unranked)
      ]
    ]

-- with no station that is ready, all have a rank, or one that has none leads to a dead circuit
no_more : (g : Parts) (r : Ranks) → IsGraph g → IsFalling g r.ranks r.order → IsStuck g r.ranks → HasOrder g ⊎ HasDeadCircuit g
no_more g r graph falling stuck =
    elim (unranked_or_all (stations g) r.ranks (stations g)) [
      | inl found ↦
          inr (comes_back g r.ranks graph stuck (stations g) [] (replicate (stations g) (stations g)) found.0 found.0 (walk_none g r.ranks found.0 found.1 found.2) (omega arith))
      | inr all ↦
          let ranked : (t d : ℕ) → t < length r.ranks → get_or r.ranks t d < length r.ranks =
          λ t d low. omega (arith, falling.rank_for_each, all t (omega (arith, falling.rank_for_each)), get_or_default r.ranks t d 0 low) in
          inl (map (from_end (stations g)) r.ranks, falling_upward g r.ranks r.order graph falling ranked)
    ]

order_or_circuit : (g : Parts) → IsGraph g → (room : ℕ) (r : Ranks) → IsFalling g r.ranks r.order → stations g ≤ room + length r.order → HasOrder g ⊎ HasDeadCircuit g
order_or_circuit g graph zero r falling enough =
    elim (ready_or_stuck g r.ranks (stations g) (omega arith)) [
      | inl ready ↦ absurd (omega (arith, has_room g r ready.0 falling ready.1.exists ready.1.unranked))
      | inr stuck ↦ no_more g r graph falling (record { way = stuck })
    ]
order_or_circuit g graph (suc room) r falling enough =
    elim (ready_or_stuck g r.ranks (stations g) (omega arith)) [
      | inl ready ↦
          let t = ready.0 in
          let ranked_ends : (a : ℕ) → a < arc_count g → (arc g a).from ≡ t → (arc g a).tokens ≡ 0 → get_or r.ranks (arc g a).to 0 < length r.order =
          λ a known from free. falling.has_rank (arc g a).to (graph.ends_exist a known) (ready.1.ends a known from free) in
          order_or_circuit g graph room (with_next r t) (next_falls g r t falling ready.1.exists ready.1.unranked ranked_ends) (omega (arith, length_push r.order t))
      | inr stuck ↦ no_more g r graph falling (record { way = stuck })
    ]

pub has_order : (g : Parts) → IsGraph g → IsLive g → HasOrder g
has_order g graph live =
    let T = stations g in
    let none : Ranks = record { waiting = []; ranks = replicate T T; order = [] } in
    elim (order_or_circuit g graph T none (start_falls g graph) (omega arith)) [
      | inl order ↦ order
      | inr dead ↦ absurd (omega (arith, live dead.0 dead.1.circuit, dead.1.empty))
    ]
