-- Where an arc stands in the lists of its stations.
use Rattle.std.proofs.Common.{◌≡◌, ◌≢◌, ℕ, ◌<◌, ◌≤◌, eqb, List, length, get_or, refl, ap, ◌∙◌, sym, arith}
use Rattle.std.specs.List.{AllPairs, Contains, range_with_len}
use Rattle.std.proofs.lemmas.Bool.{eq-eqb, ne_eqb}
use Rattle.std.proofs.lemmas.List.{get_or_default}
use Rattle.std.proofs.lemmas.List.FromFn.{length-range_with_len, get_or-range_with_len}
use Rattle.std.proofs.lemmas.List.Kept.{AllPairs-filter}
use Rattle.std.proofs.lemmas.List.Sums.{position_or_len_is, length-filter, count_by-le-length}
use Rattle.line_base.specs.declared.event.Parts.{Parts}
use Rattle.event_graph.specs.Network.{arc, arc_count, ins, outs}
use Rattle.event_graph.proofs.ArcNumbers.{Contains-ins, Contains-outs}
use Rattle.line_worker.specs.Teams.{index_in}

distinct-range : (n : ℕ) → AllPairs (λ x y. x ≢ y) (range_with_len 0 n)
distinct-range n i j d before low same =
    let many = length-range_with_len 0 n in
    omega (arith, get_or-range_with_len 0 n i d (omega arith), get_or-range_with_len 0 n j d (omega arith))

pub distinct-ins : (g : Parts) (t : ℕ) → AllPairs (λ x y. x ≢ y) (ins g t)
unfolding ins
distinct-ins g t = AllPairs-filter (λ x y. x ≢ y) _ (range_with_len 0 (arc_count g)) (distinct-range (arc_count g))

pub distinct-outs : (g : Parts) (t : ℕ) → AllPairs (λ x y. x ≢ y) (outs g t)
unfolding outs
distinct-outs g t = AllPairs-filter (λ x y. x ≢ y) _ (range_with_len 0 (arc_count g)) (distinct-range (arc_count g))

-- the place of the number at k is k
pub index_in-at : (xs : List ℕ) (k a : ℕ) → AllPairs (λ x y. x ≢ y) xs → k < length xs → get_or xs k 0 ≡ a → index_in xs a ≡ k
index_in-at xs k a distinct low at =
    position_or_len_is
    (λ x. eqb x a)
    xs
    k
    0
    (omega arith)
    (λ j before. ne_eqb (get_or xs j 0) a (λ same. distinct j k 0 before low (same ∙ sym at)))
    (λ there. eq-eqb (get_or xs k 0) a at)

-- a number that a list has stands at its place
pub record StandsIn (xs : List ℕ) (a : ℕ) : Type 0 where
  pub low : index_in xs a < length xs
  pub at : get_or xs (index_in xs a) 0 ≡ a

stands : (xs : List ℕ) (a : ℕ) → AllPairs (λ x y. x ≢ y) xs → Contains xs a → StandsIn xs a
stands xs a distinct found =
    let k = found.0 in
    let here : get_or xs k 0 ≡ a = get_or_default xs k 0 a found.1 ∙ found.2 in
    let same = index_in-at xs k a distinct found.1 here in
    record {
      low = omega (arith, same, found.1);
      at = ap (λ i. get_or xs i 0) same ∙ here;
    }

pub in-stands : (g : Parts) (a : ℕ) → a < arc_count g → StandsIn (ins g (arc g a).to) a
in-stands g a listed = stands (ins g (arc g a).to) a (distinct-ins g (arc g a).to) (Contains-ins g (arc g a).to a listed refl)

pub out-stands : (g : Parts) (a : ℕ) → a < arc_count g → StandsIn (outs g (arc g a).from) a
out-stands g a listed = stands (outs g (arc g a).from) a (distinct-outs g (arc g a).from) (Contains-outs g (arc g a).from a listed refl)

-- a station has no more arcs than there are
pub ins-few : (g : Parts) (t : ℕ) → length (ins g t) ≤ arc_count g
unfolding ins
ins-few g t =
    omega (arith, length-filter (λ a. eqb (arc g a).to t) (range_with_len 0 (arc_count g)), count_by-le-length (λ a. eqb (arc g a).to t) (range_with_len 0 (arc_count g)), length-range_with_len 0 (arc_count g))

pub outs-few : (g : Parts) (t : ℕ) → length (outs g t) ≤ arc_count g
unfolding outs
outs-few g t =
    omega (arith, length-filter (λ a. eqb (arc g a).from t) (range_with_len 0 (arc_count g)), count_by-le-length (λ a. eqb (arc g a).from t) (range_with_len 0 (arc_count g)), length-range_with_len 0 (arc_count g))
