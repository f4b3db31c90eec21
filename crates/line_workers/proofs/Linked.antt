-- The list of the arcs between two workers, and a meeting of their ends.
use Rattle.std.proofs.Common.{true≢false, ◌≡◌, ℕ, ◌+◌, ◌<◌, ◌≤◌, true, false, not, cond, List, [], ◌∷◌, ◌++◌, map, length, get_or, refl, sym, ap, ◌∙◌, subst, arith, ⊎_elim, inl, inr}
use Rattle.std.specs.List.{filter, range_with_len, Contains}
use Rattle.std.proofs.lemmas.Bool.{eq-eqb, ne_eqb, cases_eq}
use Rattle.std.proofs.lemmas.List.{append-nil, map-append, length-map, get_or-map, get_or_default}
use Rattle.std.proofs.lemmas.List.Elements.{All-filter, filter_passes}
use Rattle.line_base.specs.declared.event.Parts.{Parts}
use Rattle.line_base.proofs.RangeLists.{filter-range_more}
use Rattle.event_graph.specs.Network.{stations, arc, arc_count}
use Rattle.event_graph.proofs.Ranges.{Contains-filter-range, All-range}
use Rattle.live_check.specs.Order.{LiveGraph}
use Rattle.line_worker.specs.Share.{worker_of}
use Rattle.line_worker.specs.Teams.{AreAllMet}
use Rattle.line_worker.specs.Worker.{LineWorker, teams_of}
use Rattle.line_worker.specs.Workers.{live_of, AreWorkers}
use Rattle.line_workers.specs.declared.link.Link.{Link}
use Rattle.line_workers.specs.Link.{IsInside, IsRing, HaveMet, link_of, is_between, arcs_between, first_links, links_of}
use Rattle.line_workers.specs.Meeting.{IsMeeting, IsAmong}
use Rattle.line_workers.proofs.AllWorkers.{may_meet, met_inside, met_between, same_after, meeting_begins, meeting_goes_on}

-- ---- the list

between-inside : (g : Parts) (n a : ℕ) → IsInside g n a → is_between g n a ≡ false
between-inside g n a inside = ap not (eq-eqb _ _ inside)

between-apart : (g : Parts) (n a : ℕ) → (IsInside g n a → ⊥) → is_between g n a ≡ true
between-apart g n a apart = ap not (ne_eqb _ _ apart)

arcs-more : (g : Parts) (n a : ℕ) → arcs_between g n (a + 1) ≡ arcs_between g n a ++ cond (is_between g n a) (a ∷ []) []
unfolding arcs_between
arcs-more g n a = filter-range_more (is_between g n) a

pub links_none : (g : Parts) (n : ℕ) → first_links g n 0 ≡ []
unfolding arcs_between
links_none g n = refl

pub links_skip : (g : Parts) (n a : ℕ) → IsInside g n a → first_links g n (a + 1) ≡ first_links g n a
links_skip g n a inside =
    ap (map (link_of g n)) (arcs-more g n a ∙ ap (λ b. arcs_between g n a ++ cond b (a ∷ []) []) (between-inside g n a inside) ∙ append-nil (arcs_between g n a))

links_add : (g : Parts) (n a : ℕ) → (IsInside g n a → ⊥) → first_links g n (a + 1) ≡ first_links g n a ++ link_of g n a ∷ []
links_add g n a apart =
    ap (map (link_of g n)) (arcs-more g n a ∙ ap (λ b. arcs_between g n a ++ cond b (a ∷ []) []) (between-apart g n a apart))
    ∙ map-append (link_of g n) (arcs_between g n a) (a ∷ [])

-- the links after the one of arc a was pushed
pub links_pushed : (g : Parts) (n a : ℕ) (links pushed : List Link) (link : Link) → pushed ≡ links ++ link ∷ [] → link ≡ link_of g n a → links ≡ first_links g n a → (IsInside g n a → ⊥) → pushed ≡ first_links g n (a + 1)
links_pushed g n a links pushed link push is are apart =
    push
    ∙ ap (λ (l : Link). links ++ l ∷ []) is
    ∙ ap (λ (l : List Link). l ++ link_of g n a ∷ []) are
    ∙ sym (links_add g n a apart)

-- an arc that is listed exists, and leads from one worker to another
record IsCrossing (g : Parts) (n a : ℕ) : Type 0 where
  exists : a < arc_count g
  apart : IsInside g n a → ⊥

crosses : (g : Parts) (n k : ℕ) → k < length (arcs_between g n (arc_count g)) → IsCrossing g n (get_or (arcs_between g n (arc_count g)) k 0)
unfolding arcs_between
crosses g n k low =
    let numbers = range_with_len 0 (arc_count g) in
    let passes : is_between g n (get_or (filter (is_between g n) numbers) k 0) ≡ true = filter_passes (is_between g n) numbers k 0 low in
    record {
      exists = All-filter (is_between g n) (λ a. a < arc_count g) numbers (All-range (arc_count g)) k 0 low;
      apart = λ inside. absurd (true≢false (sym passes ∙ between-inside g n _ inside));
    }

listed : (g : Parts) (n a : ℕ) → a < arc_count g → (IsInside g n a → ⊥) → Contains (arcs_between g n (arc_count g)) a
unfolding arcs_between
listed g n a there apart = Contains-filter-range (is_between g n) (arc_count g) a there (between-apart g n a apart)

-- ---- a meeting at each of them

module _ (live : LiveGraph) (old now : List LineWorker) (k : ℕ) (inv : IsMeeting live old now (IsAmong (arcs_between live.graph (length old) (arc_count live.graph)) k)) where
  abbrev arcs : List ℕ
  arcs = arcs_between live.graph (length old) (arc_count live.graph)

  inside-then : (a : ℕ) → IsInside live.graph (length now) a → IsInside live.graph (length old) a
  inside-then a = subst (λ n. IsInside live.graph n a) inv.same.count

  module _ (low : k < length (arcs_between live.graph (length old) (arc_count live.graph))) (link : Link) (is : link ≡ link_of live.graph (length old) (get_or (arcs_between live.graph (length old) (arc_count live.graph)) k 0)) where
    abbrev a : ℕ
    a = get_or (arcs_between live.graph (length old) (arc_count live.graph)) k 0

    crossing : IsCrossing live.graph (length old) a
    crossing = crosses live.graph (length old) k low

    link-is : link ≡ link_of live.graph (length now) a
    link-is = is ∙ ap (λ n. link_of live.graph n a) (sym inv.same.count)

    pub ring_at : IsRing now link
    ring_at = may_meet now inv.whole live inv.live_is a crossing.exists link link-is (λ inside. crossing.apart (inside-then a inside))

    pub met_at : (next : List LineWorker) → HaveMet link now next → IsMeeting live old next (IsAmong (arcs_between live.graph (length old) (arc_count live.graph)) (k + 1))
    met_at next met =
        meeting_goes_on live old now next (IsAmong arcs k) (IsAmong arcs (k + 1)) a inv
        (λ b among.
        ⊎_elim
        (λ last. inl (sym among.at ∙ ap (λ i. get_or arcs i 0) last))
        (λ before. inr (record { number = among.number; low = omega (arith, among.low, before); at = among.at }))
        (cases_eq among.number k))
        (same_after now inv.whole live inv.live_is a crossing.exists link link-is next met)
        (met_between now inv.whole live inv.live_is a crossing.exists link link-is next met (λ inside. crossing.apart (inside-then a inside)))

  -- after the last all queues were met, since those inside a worker always are
  pub all_met : length (arcs_between live.graph (length old) (arc_count live.graph)) ≤ k → AreAllMet live.graph (teams_of now)
  all_met last b there =
      ⊎_elim
      (λ inside. (met_inside now inv.whole live inv.live_is b there inside).met)
      (λ apart.
      let found = listed live.graph (length old) b there (λ inside. apart (subst (λ n. IsInside live.graph n b) (sym inv.same.count) inside)) in
      inv.met b there (record {
        number = found.0;
        low = omega (arith, found.1, last);
        at = get_or_default arcs found.0 0 b found.1 ∙ found.2;
      }))
      (cases_eq (worker_of (length now) (stations live.graph) (arc live.graph b).from) (worker_of (length now) (stations live.graph) (arc live.graph b).to))

pub listed_begins : (live : LiveGraph) (workers : List LineWorker) → AreWorkers workers → live ≡ live_of workers → IsMeeting live workers workers (IsAmong (arcs_between live.graph (length workers) (arc_count live.graph)) 0)
listed_begins live workers are made_for =
    meeting_begins live workers (IsAmong (arcs_between live.graph (length workers) (arc_count live.graph)) 0) (λ b among. absurd (omega (arith, among.low))) are made_for

-- stands for a link past the end of a list
abbrev pub no_link : Link
no_link = record {
  from = record { worker_number = 0; number = 0 };
  output = 0;
  to = record { worker_number = 0; number = 0 };
  input = 0;
}

-- there is a link for each arc, and that with number k is the one of the arc there
pub links_many : (g : Parts) (n : ℕ) (links : List Link) → links ≡ links_of g n → length links ≡ length (arcs_between g n (arc_count g))
links_many g n links are = ap length are ∙ length-map (arcs_between g n (arc_count g)) (link_of g n)

pub link_at : (g : Parts) (n k : ℕ) (links : List Link) → links ≡ links_of g n → k < length links → (k < length (arcs_between g n (arc_count g))) × (get_or links k no_link ≡ link_of g n (get_or (arcs_between g n (arc_count g)) k 0))
link_at g n k links are low =
    let arcs = arcs_between g n (arc_count g) in
    let there : k < length arcs = omega (arith, low, links_many g n links are) in (
      there,
      ap (λ (l : List Link). get_or l k no_link) are ∙ get_or-map (link_of g n) arcs k 0 no_link there,
    )
