-- Lemmas on the lists of arcs into and out of a station.
use Rattle.std.proofs.Common.{◌≡◌, ◌≢◌, ℕ, ◌+◌, ◌<◌, ◌≤◌, false, cond, eqb, List, [], ◌∷◌, ◌++◌, map, length, get_or, set, replicate, refl, sym, ap, zero-add, ◌∙◌, arith, ⊎_elim, inl, inr, subst}
use Rattle.std.specs.List.{filter, range_with_len, All, Contains}
use Rattle.std.proofs.lemmas.Bool.{eqb-true, eq-eqb, ne_eqb, cases_eq, cases_lt}
use Rattle.std.proofs.lemmas.List.{append-nil, get_or-set_same, get_or-set_other, length-set, get_or-replicate, length-replicate}
use Rattle.std.proofs.lemmas.List.Elements.{All-filter, filter_passes, All-contains}
use Rattle.std.proofs.lemmas.List.FromFn.{length-map-range_with_len, get_or-map-range_with_len, fill_by_all}
use Rattle.line_base.specs.declared.event.Arc.{Arc}
use Rattle.line_base.specs.declared.event.Parts.{Parts}
use Rattle.event_graph.specs.declared.lists.End.{End}
use Rattle.event_graph.specs.declared.lists.End.TheVariants.{Start, Finish}
use Rattle.event_graph.specs.Network.{stations, arc_count, arc, ins, outs, EndsAt, StartsAt, IsGraph}
use Rattle.event_graph.specs.Faults.{HasNone, NamesNoStation, EntersFeed, LacksInput}
use Rattle.event_graph.specs.Lists.{station_at, arcs_at, lists_at}
use Rattle.line_base.proofs.RangeLists.{filter-range_more}
use Rattle.event_graph.proofs.Ranges.{Contains-filter-range, All-range}

module _ (g : Parts) (end : ℕ → ℕ) (t : ℕ) where
  Contains-at_end : (a : ℕ) → a < arc_count g → end a ≡ t → Contains (filter (λ b. eqb (end b) t) (range_with_len 0 (arc_count g))) a
  Contains-at_end a there e = Contains-filter-range (λ b. eqb (end b) t) (arc_count g) a there (eq-eqb (end a) t e)

  All-at_end : All (λ a. (a < arc_count g) × (end a ≡ t)) (filter (λ b. eqb (end b) t) (range_with_len 0 (arc_count g)))
  All-at_end k d low =
      let numbers = range_with_len 0 (arc_count g) in
      (All-filter (λ b. eqb (end b) t) (λ a. a < arc_count g) numbers (All-range (arc_count g)) k d low, eqb-true _ _ (filter_passes (λ b. eqb (end b) t) numbers k d low))

-- an arc that ends at a station is listed there, and an arc that starts there too
pub Contains-ins : (g : Parts) (t a : ℕ) → a < arc_count g → (arc g a).to ≡ t → Contains (ins g t) a
unfolding ins
Contains-ins g t a there e = Contains-at_end g (λ b. (arc g b).to) t a there e

pub Contains-outs : (g : Parts) (t a : ℕ) → a < arc_count g → (arc g a).from ≡ t → Contains (outs g t) a
unfolding outs
Contains-outs g t a there e = Contains-at_end g (λ b. (arc g b).from) t a there e

-- each arc that is listed as an input exists and ends at the station, and as an output starts there
pub All-ins : (g : Parts) (t : ℕ) → All (EndsAt g t) (ins g t)
unfolding ins
All-ins g t = All-at_end g (λ b. (arc g b).to) t

pub All-outs : (g : Parts) (t : ℕ) → All (StartsAt g t) (outs g t)
unfolding outs
All-outs g t = All-at_end g (λ b. (arc g b).from) t

-- what holds of each listed input holds of each arc that ends at the station
pub each_input : (g : Parts) (t : ℕ) (P : ℕ → Type 0) → All P (ins g t) → (a : ℕ) → a < arc_count g → (arc g a).to ≡ t → P a
each_input g t P all a h e = All-contains P (ins g t) a all (Contains-ins g t a h e)

pub each_output : (g : Parts) (t : ℕ) (P : ℕ → Type 0) → All P (outs g t) → (a : ℕ) → a < arc_count g → (arc g a).from ≡ t → P a
each_output g t P all a h e = All-contains P (outs g t) a all (Contains-outs g t a h e)

-- of the first n arcs, those that have this end at station t
unfoldable pub first_arcs_at : End → Parts → ℕ → ℕ → List ℕ
first_arcs_at end g n t = filter (λ a. eqb (station_at end (arc g a)) t) (range_with_len 0 n)

-- for each station the arcs, among the first n, that have this end there
abbrev pub first_lists : End → Parts → ℕ → List (List ℕ)
first_lists end g n = map (first_arcs_at end g n) (range_with_len 0 (stations g))

-- of no arc there is an empty list for each station
pub first_lists-none : (end : End) (g : Parts) → first_lists end g 0 ≡ replicate (stations g) []
unfolding first_arcs_at
first_lists-none end g =
    sym (
    fill_by_all
    (first_arcs_at end g 0)
    (replicate (stations g) [])
    (stations g)
    []
    (length-replicate (stations g) [])
    (λ k low. get_or-replicate (stations g) k [] [] low))

pub get_or-first_lists : (end : End) (g : Parts) (n t : ℕ) → t < stations g → get_or (first_lists end g n) t [] ≡ first_arcs_at end g n t
get_or-first_lists end g n t h =
    get_or-map-range_with_len (first_arcs_at end g n) 0 (stations g) t t [] h (zero-add t)

pub length-first_lists : (end : End) (g : Parts) (n : ℕ) → length (first_lists end g n) ≡ stations g
length-first_lists end g n = length-map-range_with_len (first_arcs_at end g n) 0 (stations g)

first_arcs_at-more : (end : End) (g : Parts) (n t : ℕ) → first_arcs_at end g (n + 1) t ≡ first_arcs_at end g n t ++ cond (eqb (station_at end (arc g n)) t) (n ∷ []) []
unfolding first_arcs_at
first_arcs_at-more end g n t = filter-range_more (λ a. eqb (station_at end (arc g a)) t) n

-- one more arc goes to the list of the station at its end
pub first_lists-more : (end : End) (g : Parts) (n s : ℕ) (lists : List (List ℕ)) → lists ≡ first_lists end g n → s ≡ station_at end (arc g n) → s < stations g → set lists s (get_or lists s [] ++ n ∷ []) ≡ first_lists end g (n + 1)
first_lists-more end g n s lists e at there =
    let added = get_or lists s [] ++ n ∷ [] in
    let many = ap length e ∙ length-first_lists end g n in
    let listed = λ (t : ℕ) (low : t < stations g). ap (λ l. get_or l t []) e ∙ get_or-first_lists end g n t low in
    let at_s : (t : ℕ) → t ≡ s → get_or (set lists s added) t [] ≡ first_arcs_at end g (n + 1) t =
    λ t same.
    ap (λ u. get_or (set lists s added) u []) same
    ∙ get_or-set_same lists s added [] (omega arith)
    ∙ ap (λ l. l ++ n ∷ []) (listed s there)
    ∙ ap (λ b. first_arcs_at end g n s ++ cond b (n ∷ []) []) (sym (eq-eqb _ s (sym at)))
    ∙ sym (first_arcs_at-more end g n s)
    ∙ ap (first_arcs_at end g (n + 1)) (sym same) in
    let elsewhere : (t : ℕ) → t < stations g → t ≢ s → get_or (set lists s added) t [] ≡ first_arcs_at end g (n + 1) t =
    λ t low other.
    get_or-set_other lists s t added [] other
    ∙ listed t low
    ∙ sym (append-nil _)
    ∙ ap (λ b. first_arcs_at end g n t ++ cond b (n ∷ []) []) (sym (ne_eqb _ t (λ same. other (sym same ∙ sym at))))
    ∙ sym (first_arcs_at-more end g n t) in
    fill_by_all
    (first_arcs_at end g (n + 1))
    (set lists s added)
    (stations g)
    []
    (length-set lists s added ∙ many)
    (λ t low. ⊎_elim (at_s t) (elsewhere t low) (cases_eq t s))

-- after the last arc they are the lists of all arcs
pub first_lists-all : (end : End) (g : Parts) → first_lists end g (arc_count g) ≡ lists_at end g
unfolding first_arcs_at ins outs
first_lists-all Start g = refl
first_lists-all Finish g = refl

pub length-lists_at : (end : End) (g : Parts) → length (lists_at end g) ≡ stations g
length-lists_at end g = length-map-range_with_len (arcs_at end g) 0 (stations g)

pub get_or-lists_at : (end : End) (g : Parts) (t : ℕ) → t < stations g → get_or (lists_at end g) t [] ≡ arcs_at end g t
get_or-lists_at end g t h = get_or-map-range_with_len (arcs_at end g) 0 (stations g) t t [] h (zero-add t)

-- a station whose list of inputs is empty lacks an input, and one whose list isn't has one
pub lacks_input : (g : Parts) (t : ℕ) (listed : List ℕ) → listed ≡ ins g t → 1 ≤ t → length listed ≡ 0 → LacksInput g t
lacks_input g t listed are from_one none =
    (from_one, λ a there ends. let at = Contains-ins g t a there ends in omega (arith, ap length are, at.1))

pub has_input : (g : Parts) (t : ℕ) (listed : List ℕ) → listed ≡ ins g t → (length listed ≡ 0 → ⊥) → LacksInput g t → ⊥
has_input g t listed are some lacks =
    let at = All-ins g t 0 0 (omega (arith, ap length are)) in lacks.1 _ at.0 at.1

-- the station at an end of an arc exists where every arc names stations
pub station_at-exists : (end : End) (g : Parts) (a : ℕ) → (NamesNoStation g a → ⊥) → station_at end (arc g a) < stations g
station_at-exists Start g a names = ⊎_elim (λ low. low) (λ high. absurd (names (inl high))) (cases_lt (arc g a).from (stations g))
station_at-exists Finish g a names = ⊎_elim (λ low. low) (λ high. absurd (names (inr high))) (cases_lt (arc g a).to (stations g))

-- parts without a fault are a graph
input_of : (g : Parts) (t : ℕ) → 1 ≤ t → (LacksInput g t → ⊥) → (a : ℕ) × (a < arc_count g) × ((arc g a).to ≡ t)
input_of g t from_one has =
    ⊎_elim
    (λ none. absurd (has (lacks_input g t (ins g t) refl from_one none)))
    (λ some. let at = All-ins g t 0 0 (omega arith) in (get_or (ins g t) 0 0, at.0, at.1))
    (cases_eq (length (ins g t)) 0)

pub graph_from_no_fault : (g : Parts) → HasNone (NamesNoStation g) (arc_count g) → HasNone (EntersFeed g) (arc_count g) → HasNone (LacksInput g) (stations g) → IsGraph g
graph_from_no_fault g ends feed inputs = record {
  starts_exist = λ a there. station_at-exists Start g a (ends a there);
  ends_exist = λ a there. station_at-exists Finish g a (ends a there);
  feed_has_no_input = feed;
  others_have_input = λ t from_one there. input_of g t from_one (inputs t there);
}

-- the station at an end of an arc that is read from the list of arcs
pub station_at-read : (end : End) (g : Parts) (arcs : List Arc) (a s : ℕ) → arcs ≡ g.arcs → s ≡ station_at end (get_or arcs a (record { from = 0; to = 0; tokens = 0; worked = false })) → s ≡ station_at end (arc g a)
station_at-read end g arcs a s same read =
    read ∙ ap (λ l. station_at end (get_or l a (record { from = 0; to = 0; tokens = 0; worked = false }))) same

-- a list of numbers that is the station's
pub All-listed_ins : (g : Parts) (t : ℕ) (arcs : List ℕ) → arcs ≡ ins g t → All (EndsAt g t) arcs
All-listed_ins g t arcs are = subst (All (EndsAt g t)) (sym are) (All-ins g t)

pub All-listed_outs : (g : Parts) (t : ℕ) (arcs : List ℕ) → arcs ≡ outs g t → All (StartsAt g t) arcs
All-listed_outs g t arcs are = subst (All (StartsAt g t)) (sym are) (All-outs g t)

-- for the functions that read the list of a station
pub ruleset listed = (length-lists_at, get_or-lists_at)
