-- Walks through stations of ascending numbers: one arc, one walk after another, and a walk that an arc closes.
use Rattle.std.proofs.Common.{◌≡◌, ◌≢◌, ℕ, suc, ◌+◌, ◌<◌, ◌≤◌, List, [], ◌∷◌, ◌++◌, length, get_or, refl, sym, ◌∙◌, subst, arith}
use Rattle.std.specs.List.{All, AllPairs}
use Rattle.std.proofs.lemmas.List.{map-append, length-append}
use Rattle.std.proofs.lemmas.List.Sums.{sum_by-append}
use Rattle.std.proofs.lemmas.List.Quantifiers.{all_pairs_push}
use Rattle.std.proofs.lemmas.List.Kept.{AllPairs-cons}
use Rattle.std.proofs.lemmas.List.Elements.{All-nil, All-cons, All-append, All-weaker, All-from_get_or}
use Rattle.line_base.specs.declared.event.Parts.{Parts}
use Rattle.plant_model.specs.declared.plant.Plant.{Plant}
use Rattle.plant_model.specs.Graph.{graph}
use Rattle.event_graph.specs.Network.{arc}
use Rattle.event_graph.specs.Circuit.{IsWalk, IsCircuit, starting_stations, tokens_on}
use Rattle.circuit_sums.specs.Laws.{LeadsOn}
use Rattle.circuit_sums.proofs.RowNumbers.{HasArc}

-- one walk after another
pub walk-append : (g : Parts) (t : ℕ) (xs : List ℕ) (u : ℕ) (ys : List ℕ) (v : ℕ) → IsWalk g t xs u → IsWalk g u ys v → IsWalk g t (xs ++ ys) v
walk-append g t [] u ys v same later = subst (λ s. IsWalk g s ys v) (sym same) later
walk-append g t (a ∷ xs) u ys v (there, starts, rest) later = (there, starts, walk-append g (arc g a).to xs u ys v rest later)

-- the station where the one ends and the other begins
pub walk-split : (g : Parts) (t : ℕ) (xs ys : List ℕ) (v : ℕ) → IsWalk g t (xs ++ ys) v → (u : ℕ) × IsWalk g t xs u × IsWalk g u ys v
walk-split g t [] ys v walk = (t, refl, walk)
walk-split g t (a ∷ xs) ys v (there, starts, rest) =
    let later = walk-split g (arc g a).to xs ys v rest in
    (later.0, (there, starts, later.1), later.2)

-- arcs lead from one station alone to one station alone
pub walk-begin : (g : Parts) (t u : ℕ) (a : ℕ) (xs : List ℕ) (v w : ℕ) → IsWalk g t (a ∷ xs) v → IsWalk g u (a ∷ xs) w → (t ≡ u) × (v ≡ w)
walk-begin g t u a xs v w (there, starts, rest) (there_2, starts_2, rest_2) = (sym starts ∙ starts_2, walk-end g (arc g a).to xs v w rest rest_2)
  where
    walk-end : (g : Parts) (t : ℕ) (xs : List ℕ) (v w : ℕ) → IsWalk g t xs v → IsWalk g t xs w → v ≡ w
    walk-end g t [] v w first second = sym first ∙ second
    walk-end g t (a ∷ xs) v w (there, starts, first) (there_2, starts_2, second) = walk-end g (arc g a).to xs v w first second

-- an ascending list, the rest of which stands above its first
ascending-head : (x : ℕ) (xs : List ℕ) → AllPairs (λ v w. v < w) (x ∷ xs) → All (λ y. x < y) xs
ascending-head x xs h = All-from_get_or (λ y. x < y) xs 0 (λ i below. h 0 (suc i) 0 (omega arith) (omega arith))

ascending-tail : (x : ℕ) (xs : List ℕ) → AllPairs (λ v w. v < w) (x ∷ xs) → AllPairs (λ v w. v < w) xs
ascending-tail x xs h = λ i j d before inside. h (suc i) (suc j) d (omega arith) (omega arith)

-- an ascending list below a number, then one from that number on
ascending-append : (u : ℕ) (xs ys : List ℕ) → AllPairs (λ v w. v < w) xs → AllPairs (λ v w. v < w) ys → All (λ x. x < u) xs → All (λ y. u ≤ y) ys → AllPairs (λ v w. v < w) (xs ++ ys)
ascending-append u [] ys first second below above = second
ascending-append u (x ∷ xs) ys first second below above =
    let here : x < u = below 0 0 (omega arith) in
    let later = All-weaker (λ y. u ≤ y) (λ y. x < y) (λ y h. omega arith) ys above in
    let rest = ascending-append u xs ys (ascending-tail x xs first) second (λ i d inside. below (suc i) d (omega arith)) above in
    AllPairs-cons (λ v w. v < w) x (xs ++ ys) (All-append (λ y. x < y) xs ys (ascending-head x xs first) later) rest

-- a walk through stations of ascending numbers, from t on and before u
pub record IsLine (g : Parts) (t : ℕ) (arcs : List ℕ) (u tokens : ℕ) : Type 0 where
  pub forward : t ≤ u
  pub leads : LeadsOn g t arcs u tokens
  pub within : All (λ v. (t ≤ v) × (v < u)) (starting_stations g arcs)

-- one arc to a later station
pub IsLine-one : (p : Plant) (a t u tokens : ℕ) → HasArc p a t u tokens → t < u → IsLine (graph p) t (a ∷ []) u tokens
IsLine-one p a t u tokens has later =
    let from = has.from_is in
    record {
      forward = omega arith;
      leads = record {
        walk = (has.inside, has.from_is, has.to_is);
        stock = omega (arith, has.tokens_are);
        ascending = λ i j d before inside. absurd (omega arith);
      };
      within = All-cons (λ v. (t ≤ v) × (v < u)) (arc (graph p) a).from [] (omega arith, omega arith) (All-nil (λ v. (t ≤ v) × (v < u)));
    }

-- one line after another
pub IsLine-append : (g : Parts) (t : ℕ) (xs : List ℕ) (u : ℕ) (ys : List ℕ) (v m n : ℕ) → IsLine g t xs u m → IsLine g u ys v n → IsLine g t (xs ++ ys) v (m + n)
IsLine-append g t xs u ys v m n first second =
    let forward = first.forward in
    let forward_2 = second.forward in
    let starts = map-append (λ a. (arc g a).from) xs ys in
    let stock = first.leads.stock in
    let stock_2 = second.leads.stock in
    let near = All-weaker (λ w. (t ≤ w) × (w < u)) (λ w. (t ≤ w) × (w < v)) (λ w h. (h.0, omega (arith, h.1))) (starting_stations g xs) first.within in
    let far = All-weaker (λ w. (u ≤ w) × (w < v)) (λ w. (t ≤ w) × (w < v)) (λ w h. (omega (arith, h.0), h.1)) (starting_stations g ys) second.within in
    let below = All-weaker (λ w. (t ≤ w) × (w < u)) (λ w. w < u) (λ w h. h.1) (starting_stations g xs) first.within in
    let above = All-weaker (λ w. (u ≤ w) × (w < v)) (λ w. u ≤ w) (λ w h. h.0) (starting_stations g ys) second.within in
    record {
      forward = omega arith;
      leads = record {
        walk = walk-append g t xs u ys v first.leads.walk second.leads.walk;
        stock = sum_by-append (λ a. (arc g a).tokens) xs ys ∙ omega arith;
        ascending = rw starts (ascending-append u (starting_stations g xs) (starting_stations g ys) first.leads.ascending second.leads.ascending below above);
      };
      within = rw starts (All-append (λ w. (t ≤ w) × (w < v)) (starting_stations g xs) (starting_stations g ys) near far);
    }

-- a line that an arc closes is a circuit, with the tokens of both
pub IsLine-close : (p : Plant) (t : ℕ) (arcs : List ℕ) (u c m n : ℕ) → IsLine (graph p) t arcs u m → HasArc p c u t n → IsCircuit (graph p) (arcs ++ c ∷ []) × (tokens_on (graph p) (arcs ++ c ∷ []) ≡ m + n)
IsLine-close p t arcs u c m n line has =
    let g = graph p in
    let starts = starting_stations g arcs in
    let from = has.from_is in
    let stock = line.leads.stock in
    let tokens = has.tokens_are in
    let differ : AllPairs (λ v w. v ≢ w) starts = λ i j d before inside same. let less = line.leads.ascending i j d before inside in absurd (omega arith) in
    let last : (k d : ℕ) → k < length starts → get_or starts k d ≢ (arc g c).from = λ k d inside same. let less = (line.within k d inside).1 in absurd (omega arith) in (
      record {
        some = omega (arith, length-append arcs (c ∷ []));
        base = t;
        closed = walk-append g t arcs u (c ∷ []) t line.leads.walk (has.inside, has.from_is, has.to_is);
        distinct = rw map-append (all_pairs_push (λ v w. v ≢ w) starts (arc g c).from differ last);
      },
      sum_by-append (λ a. (arc g a).tokens) arcs (c ∷ []) ∙ omega arith,
    )
