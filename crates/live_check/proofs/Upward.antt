-- A graph whose arcs without tokens go upwards is live, and falling ranks give such an order.
use Rattle.std.proofs.Common.{◌≡◌, ℕ, ◌+◌, ◌-◌, ◌<◌, ◌≤◌, cond, leb, List, [], ◌∷◌, length, get_or, map, reverse, count_by, sym, ap, ◌∙◌, inl, inr, arith, ◌*◌}
use Rattle.std.proofs.lemmas.Bool.{cases_lt, lt-leb}
use Rattle.std.proofs.lemmas.List.{length-map, length-reverse, get_or-map, get_or-reverse}
use Rattle.std.proofs.lemmas.List.Elements.{All-map}
use Rattle.std.proofs.lemmas.List.Sums.{sum_by-cons, sum_by-le}
use Rattle.line_base.specs.declared.event.Parts.{Parts}
use Rattle.event_graph.specs.Network.{IsGraph, arc, stations}
use Rattle.event_graph.specs.Circuit.{IsWalk, tokens_on}
use Rattle.event_graph.specs.Live.{IsLive}
use Rattle.live_check.specs.Order.{IsUpward, StandsAt, IsOrdered}
use Rattle.live_check.specs.Ranking.{Ranks, IsFalling, IsComplete, AllRanked, from_end}

-- along arcs without tokens each step is one rank up at least
climbs : (g : Parts) (ranks : List ℕ) → IsUpward g ranks → (t u : ℕ) (arcs : List ℕ) → IsWalk g t arcs u → tokens_on g arcs ≡ 0 → get_or ranks t 0 + length arcs ≤ get_or ranks u 0
climbs g ranks up t u [] walk empty = omega (arith, ap (λ v. get_or ranks v 0) walk)
climbs g ranks up t u (a ∷ arcs) walk empty =
    let whole = sum_by-cons (λ b. (arc g b).tokens) a arcs in
    let step = up.upward a walk.0 (omega (arith, whole, empty)) in
    let rest = climbs g ranks up (arc g a).to u arcs walk.2 (omega (arith, whole, empty)) in
    omega (arith, step, rest, ap (λ v. get_or ranks v 0) walk.1)

-- so no circuit is without a token
pub upward_live : (g : Parts) (ranks : List ℕ) → IsUpward g ranks → IsLive g
upward_live g ranks up arcs circuit =
    elim (cases_lt 0 (tokens_on g arcs)) [
      | inl some ↦ some
      | inr none ↦ absurd (omega (arith, climbs g ranks up circuit.base circuit.base arcs circuit.closed (omega (arith, none)), circuit.some))
    ]

rank_below : (g : Parts) (ranks : List ℕ) → length ranks ≡ stations g → AllRanked ranks → (t : ℕ) → t < stations g → get_or ranks t 0 < stations g
rank_below g ranks long ranked t exists = omega (arith, long, ranked t 0 (omega (arith, long)))

place_is : (g : Parts) (ranks : List ℕ) → length ranks ≡ stations g → (t : ℕ) → t < stations g → get_or (map (from_end (stations g)) ranks) t 0 ≡ from_end (stations g) (get_or ranks t 0)
place_is g ranks long t exists = get_or-map (from_end (stations g)) ranks t 0 0 (omega (arith, long))

pub falling_upward : (g : Parts) (ranks order : List ℕ) → IsGraph g → IsFalling g ranks order → AllRanked ranks → IsUpward g (map (from_end (stations g)) ranks)
falling_upward g ranks order graph falling ranked =
    let T = stations g in
    let long = falling.rank_for_each in
    record {
      rank_for_each = length-map ranks (from_end T) ∙ long;
      below = All-map (λ rank. rank < T) (from_end T) ranks (λ k d below. omega (arith, ranked k d below));
      distinct = λ i j d before within same.
          (let j_in : j < T = omega (arith, length-map ranks (from_end T)) in
          let i_in : i < T = omega arith in
          let ri = get_or ranks i 0 in
          let rj = get_or ranks j 0 in
          let e : ri ≡ rj = omega (arith, get_or-map (from_end T) ranks i 0 d (omega (arith, long)), get_or-map (from_end T) ranks j 0 d (omega (arith, long)), same, rank_below g ranks long ranked i i_in, rank_below g ranks long ranked j j_in) in
          let back : i ≡ j = sym (falling.at_rank i i_in (rank_below g ranks long ranked i i_in)) ∙ (ap (λ r. get_or order r 0) e ∙ falling.at_rank j j_in (rank_below g ranks long ranked j j_in)) in
          omega (arith, back));
      upward = λ a there none.
          (let from = (arc g a).from in
          let to = (arc g a).to in
          let low = rank_below g ranks long ranked from (graph.starts_exist a there) in
          let fall = falling.falls a there none low in
          omega (arith, low, fall, place_is g ranks long from (graph.starts_exist a there), place_is g ranks long to (graph.ends_exist a there)));
    }

-- then the order has all stations
all_in_order : (g : Parts) (ranks order : List ℕ) → IsFalling g ranks order → AllRanked ranks → length order ≡ stations g
all_in_order g ranks order falling ranked =
    let low : (k d : ℕ) → k < length ranks → get_or ranks k d < stations g = λ k d below. omega (arith, falling.rank_for_each, ranked k d below) in
    let none : count_by (leb (stations g)) ranks ≤ length ranks * 0 = sum_by-le (λ x. cond (leb (stations g) x) 1 0) 0 ranks (λ k d below. omega (arith, ap {B = ℕ} (λ b. cond b 1 0) (lt-leb (stations g) (get_or ranks k d) (low k d below)))) in
    omega (arith, falling.unranked, none)

pub falling_stands : (g : Parts) (ranks order : List ℕ) → IsFalling g ranks order → AllRanked ranks → StandsAt g (map (from_end (stations g)) ranks) (reverse order)
falling_stands g ranks order falling ranked =
    let T = stations g in
    let n = all_in_order g ranks order falling ranked in
    let turned : (rank : ℕ) → rank < T → get_or (reverse order) rank 0 ≡ get_or order (T - 1 - rank) 0 = λ rank below. get_or-reverse order rank 0 (omega (arith, n)) ∙ ap (λ m. get_or order (m - 1 - rank) 0) n in
    record {
      one_for_each = length-reverse order ∙ n;
      exists = λ rank below. omega (arith, turned rank below, falling.in_order (T - 1 - rank) (omega (arith, n)));
      rank = λ rank below.
          (let k = T - 1 - rank in
          let t = get_or order k 0 in
          let in_order : k < length order = omega (arith, n) in
          let e = place_is g ranks falling.rank_for_each t (falling.in_order k in_order) in
          ap (λ u. get_or (map (from_end T) ranks) u 0) (turned rank below) ∙ (e ∙ omega (arith, falling.rank_at k in_order)));
    }

-- a complete ranking in which every station has a rank is an order
pub complete_ordered : (g : Parts) (r : Ranks) → IsComplete g r → AllRanked r.ranks → IsOrdered g (map (from_end (length r.ranks)) r.ranks) (reverse r.order)
complete_ordered g r h ranked =
    let falling = h.passed.falling in
    let up = falling_upward g r.ranks r.order h.sound falling ranked in
    rw falling.rank_for_each
    (record {
      ranked = record { sound = h.sound; limits = h.limits; live = upward_live g (map (from_end (stations g)) r.ranks) up; upward = up };
      stands = falling_stands g r.ranks r.order falling ranked;
    })
