-- Back along entries: the way ends at a station without one, or comes back to a station that it left, and what lies
-- between is a circuit that gains more than it loses.
use Rattle.std.proofs.Common.{◌≡◌, ◌≢◌, ℕ, zero, suc, ◌+◌, ◌-◌, ◌<◌, ◌≤◌, List, [], ◌∷◌, ◌++◌, length, set, get_or, map, drop, reverse, replicate, refl, sym, ap, ◌∙◌, subst, inl, inr, arith, length-drop}
use Rattle.std.specs.List.{All, sum_by}
use Rattle.std.proofs.lemmas.Bool.{cases_lt}
use Rattle.std.proofs.lemmas.List.{length-map, length-reverse, get_or-map, get_or-drop, get_or-reverse, length_push, get_or_push, get_or_append_left, get_or_read}
use Rattle.std.proofs.lemmas.List.Elements.{All-head, All-tail, All-push, All-drop, All-from_get_or}
use Rattle.std.proofs.lemmas.List.Sorted.{sum_by-IsPermutation, IsPermutation-reverse}
use Rattle.std.proofs.lemmas.Grind.{reverse_onto}
use Rattle.line_base.specs.declared.event.Parts.{Parts}
use Rattle.event_graph.specs.Network.{IsGraph, arc, arc_count, stations}
use Rattle.event_graph.specs.Circuit.{IsWalk, IsCircuit}
use Rattle.cycle_time.specs.declared.weights.Weighing.{Weighing}
use Rattle.cycle_time.specs.Search.{gain, loss, gains, losses, Potentials, AreEntries, IsGrown, IsHeavy, IsSoonReached, EntriesEnter}
use Rattle.event_graph.proofs.Walks.{walk_push}
use Rattle.event_graph.proofs.LeftSteps.{AreLeftSteps, left_steps-none, left_steps-room, left_steps-more}
use Rattle.cycle_time.proofs.Weighed.{gains-cons, losses-cons}

-- ---- walks back

-- the arcs lead from station t, each back to where it starts, to station s
abbrev pub IsBackWalk : Parts → ℕ → List ℕ → ℕ → Type 0
IsBackWalk g t [] s = t ≡ s
IsBackWalk g t (a ∷ arcs) s = (a < arc_count g) × ((arc g a).to ≡ t) × IsBackWalk g (arc g a).from arcs s

back_push : (g : Parts) (t s a : ℕ) (path : List ℕ) → IsBackWalk g t path s → a < arc_count g → (arc g a).to ≡ s → IsBackWalk g t (path ++ a ∷ []) (arc g a).from
back_push g t s a [] walk exists to = (exists, to ∙ sym walk, refl)
back_push g t s a (b ∷ path) walk exists to = (walk.0, walk.1, back_push g (arc g b).from s a path walk.2 exists to)

back_drop : (g : Parts) (t s k : ℕ) (path : List ℕ) → IsBackWalk g t path s → k < length path → IsBackWalk g (arc g (get_or path k 0)).to (drop k path) s
back_drop g t s k [] walk below = absurd (omega (arith, below))
back_drop g t s zero (a ∷ path) walk below = (walk.0, refl, walk.2)
back_drop g t s (suc k) (a ∷ path) walk below = back_drop g (arc g a).from s k path walk.2 (omega arith)

-- a walk back is a walk the other way round
back_walk : (g : Parts) (t s : ℕ) (path : List ℕ) → IsBackWalk g t path s → IsWalk g s (reverse path) t
back_walk g t s [] walk = sym walk
back_walk g t s (a ∷ path) walk =
    let before = walk_push g s (arc g a).from a (reverse path) (back_walk g (arc g a).from s path walk.2) walk.0 refl in
    let ends = subst (IsWalk g s (reverse path ++ a ∷ [])) walk.1 before in
    subst (λ arcs. IsWalk g s arcs t) (sym (reverse_onto path a [])) ends

back_exist : (g : Parts) (t s : ℕ) (path : List ℕ) → IsBackWalk g t path s → (k : ℕ) → k < length path → get_or path k 0 < arc_count g
back_exist g t s [] walk k below = absurd (omega (arith, below))
back_exist g t s (a ∷ path) walk zero below = walk.0
back_exist g t s (a ∷ path) walk (suc k) below = back_exist g (arc g a).from s path walk.2 k (omega arith)

-- along entries a potential comes at most from where they lead back to
back_sum : (g : Parts) (w : Weighing) (p : Potentials) (t s : ℕ) (path : List ℕ) → IsGraph g → IsGrown g w p → IsBackWalk g t path s → AreEntries g p.entries path → get_or p.potentials t 0 + losses g w path ≤ get_or p.potentials s 0 + gains g w path
back_sum g w p t s [] graph grown walk entries = omega (arith, ap (λ u. get_or p.potentials u 0) walk)
back_sum g w p t s (a ∷ path) graph grown walk entries =
    let P = p.potentials in
    let to = (arc g a).to in
    let is : get_or p.entries to 0 ≡ a = All-head (λ b. get_or p.entries (arc g b).to 0 ≡ b) a path entries in
    let come = grown.comes to (graph.ends_exist a walk.0) (omega (arith, is, walk.0)) in
    let here : get_or P to 0 + loss g w a ≤ get_or P (arc g a).from 0 + gain g w a = omega (arith, come, ap (loss g w) is, ap (gain g w) is, ap (λ b. get_or P (arc g b).from 0) is) in
    let rest = back_sum g w p (arc g a).from s path graph grown walk.2 (All-tail (λ b. get_or p.entries (arc g b).to 0 ≡ b) a path entries) in
    omega (arith, here, rest, gains-cons g w a path, losses-cons g w a path, ap (λ u. get_or P u 0) walk.1)

sum-reverse : (f : ℕ → ℕ) (xs : List ℕ) → sum_by f (reverse xs) ≡ sum_by f xs
sum-reverse f xs = sum_by-IsPermutation f xs (reverse xs) (IsPermutation-reverse xs)

All-reverse : (P : ℕ → Type 0) (xs : List ℕ) → All P xs → All P (reverse xs)
All-reverse P xs all =
    All-from_get_or P (reverse xs) 0
    (λ i below.
    (let low : i < length xs = omega (arith, below, length-reverse xs) in
    subst P (sym (get_or-reverse xs i 0 low)) (all (length xs - 1 - i) 0 (omega (arith, low)))))

-- ---- trails

-- the station at which an arc ends, which a trail leaves by it
abbrev pub ends : Parts → ℕ → ℕ
ends g a = (arc g a).to

-- a walk back along entries: each station that it left, and at which step
pub record IsTrail (g : Parts) (p : Potentials) (path left : List ℕ) (start at : ℕ) : Type 0 where
  pub walk : IsBackWalk g start path at
  pub entries : AreEntries g p.entries path
  pub here : at < stations g
  pub next : (k : ℕ) → k + 1 < length path → (arc g (get_or path k 0)).from ≡ (arc g (get_or path (k + 1) 0)).to
  pub last : (k : ℕ) → k + 1 ≡ length path → (arc g (get_or path k 0)).from ≡ at
  pub steps : AreLeftSteps (stations g) (ends g) path left

-- the same, with room for an arc of each station
pub record IsRoomyTrail (g : Parts) (p : Potentials) (path left : List ℕ) (start at capacity : ℕ) : Type 0 where
  pub trail : IsTrail g p path left start at
  pub room : stations g ≤ capacity

pub trail_none : (g : Parts) (p : Potentials) (start : ℕ) → start < stations g → IsTrail g p [] (replicate (stations g) (stations g)) start start
trail_none g p start here = record {
  walk = refl;
  entries = λ k d below. absurd (omega (arith, below));
  here = here;
  next = λ k below. absurd (omega (arith, below));
  last = λ k below. absurd (omega (arith, below));
  steps = left_steps-none (stations g) (ends g);
}

-- at a station that it has not left, the trail has room for one more arc
pub trail_room : (g : Parts) (p : Potentials) (path left : List ℕ) (start at : ℕ) → IsTrail g p path left start at → get_or left at 0 ≡ stations g → length path < stations g
trail_room g p path left start at h fresh = left_steps-room (stations g) (ends g) path left at h.steps h.here fresh

pub trail_more : (g : Parts) (p : Potentials) (path left : List ℕ) (start at a : ℕ) → IsGraph g → IsTrail g p path left start at → get_or left at 0 ≡ stations g → a < arc_count g → a ≡ get_or p.entries at 0 → (arc g a).to ≡ at → IsTrail g p (path ++ a ∷ []) (set left at (length path)) start (arc g a).from
trail_more g p path left start at a graph h fresh exists entry to =
    let n = length path in
    let path' = path ++ a ∷ [] in
    let old : (k : ℕ) → k < n → get_or path' k 0 ≡ get_or path k 0 = λ k below. get_or_append_left path (a ∷ []) 0 k below in
    record {
      walk = back_push g start at a path h.walk exists to;
      entries = All-push (λ b. get_or p.entries (arc g b).to 0 ≡ b) path a h.entries (ap (λ u. get_or p.entries u 0) to ∙ sym entry);
      here = graph.starts_exist a exists;
      next = λ k below.
          elim (cases_lt (k + 1) n) [
            | inl before ↦
                ap (λ b. (arc g b).from) (old k (omega arith)) ∙ (h.next k before ∙ sym (ap (λ b. (arc g b).to) (old (k + 1) before)))
            | inr past ↦
                (let e : k + 1 ≡ n = omega (arith, length_push path a) in
                ap (λ b. (arc g b).from) (old k (omega arith)) ∙ (h.last k e ∙ (sym to ∙ sym (ap (λ b. (arc g b).to) (get_or_push path a 0 (k + 1) (sym e))))))
          ];
      last = λ k end_at. ap (λ b. (arc g b).from) (get_or_push path a 0 k (omega (arith, length_push path a)));
      steps = left_steps-more (stations g) (ends g) path left at a h.steps h.here fresh to;
    }

-- back at a station that it left, its last arcs from there, turned round, are a circuit
pub trail_circuit : (g : Parts) (p : Potentials) (path left : List ℕ) (start at : ℕ) → IsTrail g p path left start at → get_or left at 0 ≢ stations g → IsCircuit g (reverse (drop (get_or left at 0) path))
trail_circuit g p path left start at h seen =
    let k = get_or left at 0 in
    let n = length path in
    let below : k < n = h.steps.step_of at h.here seen in
    let from = λ (b : ℕ). (arc g b).from in
    let rest = drop k path in
    let many : length rest ≡ n - k = length-drop k path in
    let whole : length (reverse rest) ≡ n - k = length-reverse rest ∙ many in
    let ways_on : (m : ℕ) → m + 1 < n → get_or left (from (get_or path m 0)) 0 ≡ m + 1 =
    λ m on. ap (λ t. get_or left t 0) (h.next m on) ∙ h.steps.left_once (m + 1) on in
    let way_back : (m : ℕ) → m + 1 ≡ n → get_or left (from (get_or path m 0)) 0 ≡ k = λ m end. ap (λ t. get_or left t 0) (h.last m end) in
    record {
      some = omega (arith, below, whole);
      base = at;
      closed = (let P : ℕ → Type 0 = λ t. IsBackWalk g t rest at in back_walk g at at rest (subst P (h.steps.left_at at h.here seen) (back_drop g start at k path h.walk below)));
      distinct = λ i j d before within same.
          (let j_in : j < length (reverse rest) = omega (arith, within, length-map (reverse rest) from) in
          let i_in : i < length (reverse rest) = omega (arith, before, j_in) in
          let mi = k + (length rest - 1 - i) in
          let mj = k + (length rest - 1 - j) in
          let at_i : get_or (map from (reverse rest)) i d ≡ from (get_or path mi 0) = get_or-map from (reverse rest) i 0 d i_in ∙ ap from (get_or-reverse rest i 0 (omega (arith, i_in, length-reverse rest)) ∙ get_or-drop k path (length rest - 1 - i) 0) in
          let at_j : get_or (map from (reverse rest)) j d ≡ from (get_or path mj 0) = get_or-map from (reverse rest) j 0 d j_in ∙ ap from (get_or-reverse rest j 0 (omega (arith, j_in, length-reverse rest)) ∙ get_or-drop k path (length rest - 1 - j) 0) in
          let one : get_or left (from (get_or path mi 0)) 0 ≡ get_or left (from (get_or path mj 0)) 0 = ap (λ t. get_or left t 0) (sym at_i ∙ (same ∙ at_j)) in
          let less : mj < mi = omega (arith, before, j_in, whole, many) in
          let last : mi < n = omega (arith, i_in, whole, many, below) in
          let go_on = ways_on mj (omega arith) in
          elim (cases_lt (mi + 1) n) [
            | inl on ↦ omega (arith, one, go_on, ways_on mi on, less)
            | inr end ↦ omega (arith, one, go_on, way_back mi (omega arith))
          ]);
    }

-- which gains more than it loses
pub trail_heavy : (g : Parts) (w : Weighing) (p : Potentials) (path left : List ℕ) (start at : ℕ) → IsGrown g w p → IsTrail g p path left start at → get_or left at 0 ≢ stations g → IsHeavy g w (reverse (drop (get_or left at 0) path))
trail_heavy g w p path left start at grown h seen =
    let k = get_or left at 0 in
    let rest = drop k path in
    let circuit = trail_circuit g p path left start at h seen in
    let entries = All-reverse (λ b. get_or p.entries (arc g b).to 0 ≡ b) rest (All-drop (λ b. get_or p.entries (arc g b).to 0 ≡ b) k path h.entries) in
    let exist : All (λ b. b < arc_count g) path = All-from_get_or (λ b. b < arc_count g) path 0 (back_exist g start at path h.walk) in
    record {
      circuit = circuit;
      heavier = grown.heavier circuit.base (reverse rest) circuit.some circuit.closed entries;
      few = omega (arith, h.steps.unseen, length-reverse rest, length-drop k path);
      exist = All-reverse (λ b. b < arc_count g) rest (All-drop (λ b. b < arc_count g) k path exist);
    }

-- at a station without an entry, the trail is a short walk that sums to what its end has
pub trail_reaches : (g : Parts) (w : Weighing) (p : Potentials) (path left : List ℕ) (start at : ℕ) → IsGraph g → IsGrown g w p → IsTrail g p path left start at → get_or left at 0 ≡ stations g → arc_count g ≤ get_or p.entries at 0 → IsSoonReached g w p start
trail_reaches g w p path left start at graph grown h fresh free =
    record {
      start = at;
      walk = reverse path;
      ends = back_walk g start at path h.walk;
      short = omega (arith, trail_room g p path left start at h fresh, length-reverse path);
      sum = omega (arith, back_sum g w p start at path graph grown h.walk h.entries, grown.grounded at h.here free, sum-reverse (gain g w) path, sum-reverse (loss g w) path);
    }

-- ---- the step at which a station was left, and its entry, as they are read

pub step_read : (g : Parts) (p : Potentials) (path left : List ℕ) (start at step : ℕ) → IsTrail g p path left start at → step ≡ get_or left at step → step ≡ get_or left at 0
step_read g p path left start at step h read = get_or_read left at step (omega (arith, h.steps.left_for_each, h.here)) read 0

-- where the walk ends, at a station whose step is not that of a station not left yet, the station was left
pub left_before : (g : Parts) (p : Potentials) (path left : List ℕ) (start at step none : ℕ) → IsTrail g p path left start at → step ≡ get_or left at step → step ≢ none → none ≡ stations g → get_or left at 0 ≢ stations g
left_before g p path left start at step none h read differs is =
    λ same. differs (step_read g p path left start at step h read ∙ (same ∙ sym is))

pub step_below : (g : Parts) (p : Potentials) (path left : List ℕ) (start at step : ℕ) → IsTrail g p path left start at → get_or left at 0 ≢ stations g → step ≡ get_or left at step → step < length path
step_below g p path left start at step h seen read =
    omega (arith, step_read g p path left start at step h read, h.steps.step_of at h.here seen)

pub entry_read : (g : Parts) (p : Potentials) (at entry : ℕ) (entries : List ℕ) → length p.entries ≡ stations g → at < stations g → entries ≡ p.entries → entry ≡ get_or entries at entry → entry ≡ get_or p.entries at 0
entry_read g p at entry entries each here is read =
    get_or_read p.entries at entry (omega (arith, each, here)) (read ∙ ap (λ xs. get_or xs at entry) is) 0

pub trail_more_read : (g : Parts) (p : Potentials) (path left : List ℕ) (start at a n : ℕ) → IsGraph g → IsTrail g p path left start at → get_or left at 0 ≡ stations g → a < arc_count g → a ≡ get_or p.entries at 0 → EntriesEnter g p → n ≡ length path → IsTrail g p (path ++ a ∷ []) (set left at n) start (arc g a).from
trail_more_read g p path left start at a n graph h fresh exists entry enter is =
    let to : (arc g a).to ≡ at = ap (λ b. (arc g b).to) entry ∙ enter at h.here (omega (arith, entry, exists)) in
    rw is (trail_more g p path left start at a graph h fresh exists entry to)

pub trail_starts : (g : Parts) (p : Potentials) (start : ℕ) (left : List ℕ) → left ≡ replicate (stations g) (stations g) → start < stations g → IsTrail g p [] left start start
trail_starts g p start left is here = subst (λ (l : List ℕ). IsTrail g p [] l start start) (sym is) (trail_none g p start here)
