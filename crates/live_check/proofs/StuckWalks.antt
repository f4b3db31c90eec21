-- A walk among the stations without a rank comes back to a station that it left, and what lies between is a dead
-- circuit.
use Rattle.std.proofs.Common.{◌≡◌, ◌≢◌, ℕ, ◌+◌, ◌<◌, ◌≤◌, List, [], ◌∷◌, ◌++◌, length, set, get_or, map, drop, replicate, refl, sym, ap, ◌∙◌, subst, inl, inr, arith, length-drop}
use Rattle.std.specs.List.{Contains}
use Rattle.std.proofs.lemmas.Bool.{cases_lt}
use Rattle.std.proofs.lemmas.List.{length-map, get_or-map, get_or-drop, length_push, get_or_push, get_or_append_left, get_or_default, get_or_read}
use Rattle.std.proofs.lemmas.List.Sums.{sum_by_push, sum_by-take-drop}
use Rattle.line_base.specs.declared.event.Parts.{Parts}
use Rattle.event_graph.specs.Network.{IsGraph, arc, arc_count, stations, outs}
use Rattle.event_graph.specs.Circuit.{IsWalk, tokens_on}
use Rattle.event_graph.proofs.ArcNumbers.{Contains-outs}
use Rattle.event_graph.proofs.Walks.{walk_push, walk_drop}
use Rattle.event_graph.proofs.LeftSteps.{AreLeftSteps, left_steps-none, left_steps-room, left_steps-more}
use Rattle.live_check.specs.DeadCircuit.{IsDeadCircuit, LeadsOn}

-- the station at which an arc starts
abbrev pub starts : Parts → ℕ → ℕ
starts g a = (arc g a).from

-- a walk along arcs without tokens among stations without a rank: each station that it left, and at which step
pub record IsStuckWalk (g : Parts) (ranks path left : List ℕ) (start at : ℕ) : Type 0 where
  pub walk : IsWalk g start path at
  pub empty : tokens_on g path ≡ 0
  pub arcs_exist : (k : ℕ) → k < length path → get_or path k 0 < arc_count g
  pub here : at < stations g
  pub unranked : stations g ≤ get_or ranks at 0
  pub steps : AreLeftSteps (stations g) (starts g) path left

-- the walk that has not begun
pub walk_none : (g : Parts) (ranks : List ℕ) (start : ℕ) → start < stations g → stations g ≤ get_or ranks start 0 → IsStuckWalk g ranks [] (replicate (stations g) (stations g)) start start
walk_none g ranks start here unranked = record {
  walk = refl;
  empty = refl;
  arcs_exist = λ k below. absurd (omega (arith, below));
  here = here;
  unranked = unranked;
  steps = left_steps-none (stations g) (starts g);
}

-- at a station that it has not left, the walk has room for one more arc
pub walk_room : (g : Parts) (ranks path left : List ℕ) (start at : ℕ) → IsStuckWalk g ranks path left start at → get_or left at 0 ≡ stations g → length path < stations g
walk_room g ranks path left start at h fresh = left_steps-room (stations g) (starts g) path left at h.steps h.here fresh

-- and goes on
pub walk_more : (g : Parts) (ranks path left : List ℕ) (start at a : ℕ) → IsGraph g → IsStuckWalk g ranks path left start at → get_or left at 0 ≡ stations g → LeadsOn g ranks at a → IsStuckWalk g ranks (path ++ a ∷ []) (set left at (length path)) start (arc g a).to
walk_more g ranks path left start at a graph h fresh on =
    let n = length path in
    record {
      walk = walk_push g start at a path h.walk on.exists on.from;
      empty = omega (arith, h.empty, on.free, sum_by_push (λ b. (arc g b).tokens) path a);
      arcs_exist = λ k below.
          elim (cases_lt k n) [
            | inl before ↦ omega (arith, get_or_append_left path (a ∷ []) 0 k before, h.arcs_exist k before)
            | inr end ↦ (let e : n ≡ k = omega (arith, length_push path a) in omega (arith, get_or_push path a 0 k e, on.exists))
          ];
      here = graph.ends_exist a on.exists;
      unranked = on.unranked;
      steps = left_steps-more (stations g) (starts g) path left at a h.steps h.here fresh on.from;
    }

-- back at a station that it left, its last arcs from there are a circuit without a token
pub walk_closed : (g : Parts) (ranks path left : List ℕ) (start at : ℕ) → IsStuckWalk g ranks path left start at → get_or left at 0 ≢ stations g → IsDeadCircuit g (drop (get_or left at 0) path)
walk_closed g ranks path left start at h seen =
    let k = get_or left at 0 in
    let below = h.steps.step_of at h.here seen in
    let from = λ (b : ℕ). (arc g b).from in
    record {
      circuit = record {
        some = omega (arith, below, length-drop k path);
        base = at;
        closed = (let P : ℕ → Type 0 = λ t. IsWalk g t (drop k path) at in subst P (h.steps.left_at at h.here seen) (walk_drop g start at k path h.walk below));
        distinct = λ i j d before within same.
            (let j_in : j < length (drop k path) = omega (arith, within, length-map (drop k path) from) in
            let i_in : i < length (drop k path) = omega (arith, before, j_in) in
            let at_i : get_or (map from (drop k path)) i d ≡ from (get_or path (k + i) 0) = get_or-map from (drop k path) i 0 d i_in ∙ ap from (get_or-drop k path i 0) in
            let at_j : get_or (map from (drop k path)) j d ≡ from (get_or path (k + j) 0) = get_or-map from (drop k path) j 0 d j_in ∙ ap from (get_or-drop k path j 0) in
            let one : from (get_or path (k + i) 0) ≡ from (get_or path (k + j) 0) = sym at_i ∙ (same ∙ at_j) in
            omega (arith, h.steps.left_once (k + i) (omega (arith, i_in, length-drop k path)), h.steps.left_once (k + j) (omega (arith, j_in, length-drop k path)), ap (λ t. get_or left t 0) one));
      };
      empty = omega (arith, h.empty, sum_by-take-drop (λ b. (arc g b).tokens) path k);
    }

-- one of the arcs out of a stuck station leads on
pub some_leads_on : (g : Parts) (ranks out_of : List ℕ) (t i : ℕ) → out_of ≡ outs g t → (a : ℕ) × LeadsOn g ranks t a → length out_of ≤ i → ((k : ℕ) → k < i → (arc g (get_or out_of k 0)).tokens ≡ 0 → stations g ≤ get_or ranks (arc g (get_or out_of k 0)).to 0 → ⊥) → ⊥
some_leads_on g ranks out_of t i is (a, on) end none =
    let P : List ℕ → Type 0 = λ xs. Contains xs a in
    let found = subst P (sym is) (Contains-outs g t a on.exists on.from) in
    let k = found.0 in
    let here : get_or out_of k 0 ≡ a = get_or_default out_of k 0 a found.1 ∙ found.2 in
    none k (omega (arith, found.1)) (ap (λ b. (arc g b).tokens) here ∙ on.free) (omega (arith, ap (λ b. get_or ranks (arc g b).to 0) here, on.unranked))

-- ---- the step at which a station was left, as it is read

step_read : (g : Parts) (ranks path left : List ℕ) (start at step : ℕ) → IsStuckWalk g ranks path left start at → step ≡ get_or left at step → step ≡ get_or left at 0
step_read g ranks path left start at step h read =
    get_or_read left at step (omega (arith, h.steps.left_for_each, h.here)) read 0

pub walk_room_read : (g : Parts) (ranks path left : List ℕ) (start at step : ℕ) → IsStuckWalk g ranks path left start at → step ≡ get_or left at step → step ≡ stations g → length path < stations g
walk_room_read g ranks path left start at step h read fresh =
    walk_room g ranks path left start at h (sym (step_read g ranks path left start at step h read) ∙ fresh)

pub walk_more_read : (g : Parts) (ranks path left : List ℕ) (start at a n step : ℕ) → IsGraph g → IsStuckWalk g ranks path left start at → step ≡ get_or left at step → step ≡ stations g → LeadsOn g ranks at a → n ≡ length path → IsStuckWalk g ranks (path ++ a ∷ []) (set left at n) start (arc g a).to
walk_more_read g ranks path left start at a n step graph h read fresh on is =
    rw is (walk_more g ranks path left start at a graph h (sym (step_read g ranks path left start at step h read) ∙ fresh) on)

pub walk_closed_read : (g : Parts) (ranks path left : List ℕ) (start at last step : ℕ) → IsStuckWalk g ranks path left start at → last ≡ get_or left at last → last ≢ stations g → step ≡ get_or left at step → (step < length path) × IsDeadCircuit g (drop step path)
walk_closed_read g ranks path left start at last step h read_last seen read =
    let is = step_read g ranks path left start at step h read in
    let seen_at : get_or left at 0 ≢ stations g = λ fresh. seen (step_read g ranks path left start at last h read_last ∙ fresh) in
    (omega (arith, is, h.steps.step_of at h.here seen_at), rw is (walk_closed g ranks path left start at h seen_at))
