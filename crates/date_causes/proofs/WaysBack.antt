-- The walk back along a chain of causes: what is kept of it on the way, and that it ends.
use Rattle.std.proofs.Common.{◌≡◌, ℕ, ◌+◌, ◌*◌, ◌<◌, ◌≤◌, eqb, inl, inr, List, [], ◌∷◌, ◌++◌, reverse, length, get_or, refl, sym, ap, ◌∙◌, subst, arith, append-nil, append_assoc}
use Rattle.std.specs.Prelude.{Option, None, Some}
use Rattle.std.specs.List.{AllPairs, range_with_len}
use Rattle.std.proofs.lemmas.Bool.{cases_eq, cases_lt}
use Rattle.std.proofs.lemmas.List.{reverse-append, get_or_default}
use Rattle.std.proofs.lemmas.List.Kept.{AllPairs-filter}
use Rattle.std.proofs.lemmas.List.FromFn.{length-range_with_len, get_or-range_with_len}
use Rattle.line_base.specs.declared.event.Parts.{Parts}
use Rattle.event_graph.specs.Network.{stations, jobs, arc, arc_count, ins, IsGraph, EndsAt}
use Rattle.event_graph.specs.Table.{Table}
use Rattle.event_graph.proofs.ArcNumbers.{Contains-ins}
use Rattle.live_check.specs.Order.{LiveGraph, IsRanked}
use Rattle.date_causes.specs.declared.link.Cause.{Cause}
use Rattle.date_causes.specs.declared.link.Cause.TheVariants.{DemandDate, Start, Along}
use Rattle.date_causes.specs.declared.link.Link.{Link}
use Rattle.date_causes.specs.Chain.{IsLed, IsLink, IsChain, demanded, started, led, before_of}
use Rattle.date_causes.proofs.Chains.{caused_by}
use Rattle.date_causes.proofs.OneChain.{walk_falls}

-- ---- the arcs into a station, in the order of their numbers

ins_ascend : (g : Parts) (t : ℕ) → AllPairs (λ a b. a < b) (ins g t)
unfolding ins
ins_ascend g t =
    AllPairs-filter (λ a b. a < b) (λ a. eqb (arc g a).to t) (range_with_len 0 (arc_count g)) (λ i j d before inside.
    let below : j < arc_count g = omega (arith, length-range_with_len 0 (arc_count g)) in
    omega (arith, get_or-range_with_len 0 (arc_count g) i d (omega arith), get_or-range_with_len 0 (arc_count g) j d below))

-- an arc into the station that has a lower number stands earlier
pub earlier_input : (g : Parts) (t i b : ℕ) → i < length (ins g t) → b < get_or (ins g t) i 0 → EndsAt g t b → (j : ℕ) × (j < i) × (get_or (ins g t) j 0 ≡ b)
earlier_input g t i b inside lower enters =
    let found = Contains-ins g t b enters.0 enters.1 in
    let j = found.0 in
    let here : get_or (ins g t) j 0 ≡ b = get_or_default (ins g t) j 0 b found.1 ∙ found.2 in
    elim (cases_lt j i) [
      | inl before ↦ (j, before, here)
      | inr not_before ↦ elim (cases_eq i j) [
        | inl same ↦ absurd (omega (arith, ap (λ k. get_or (ins g t) k 0) same, here))
        | inr apart ↦ absurd (omega (arith, ins_ascend g t i j 0 (omega arith) found.1, here))
      ]
    ]

-- the same of a list that is the station's
pub earlier_listed : (g : Parts) (t : ℕ) (listed : List ℕ) → listed ≡ ins g t → (i b : ℕ) → i < length listed → b < get_or listed i 0 → EndsAt g t b → (j : ℕ) × (j < i) × (get_or listed j 0 ≡ b)
earlier_listed g t listed are i b inside lower enters =
    let found = earlier_input g t i b (omega (arith, ap length are)) (omega (arith, ap (λ l. get_or l i 0) are, lower)) enters in
    (found.0, found.1, ap (λ l. get_or l found.0 0) are ∙ found.2)

pub listed_input : (g : Parts) (t : ℕ) (listed : List ℕ) → listed ≡ ins g t → (a : ℕ) → EndsAt g t a → (j : ℕ) × (j < length listed) × (get_or listed j 0 ≡ a)
listed_input g t listed are a enters =
    let found = Contains-ins g t a enters.0 enters.1 in
    (found.0, omega (arith, found.1, ap length are), ap (λ l. get_or l found.0 0) are ∙ (get_or_default (ins g t) found.0 0 a found.1 ∙ found.2))

-- ---- the way back

pub record IsAhead (g : Parts) (x : Table) (t n : ℕ) (links : List Link) (station job : ℕ) : Type 0 where
  pub there : station < stations g
  pub from_one : 1 ≤ job
  pub within : job ≤ jobs g
  pub follows : (front : List Link) → IsChain g x station job front → IsChain g x t n (front ++ reverse links)

-- the links turned round are the chain, or what follows any chain of the date that is next
abbrev pub IsOnWay : Parts → Table → ℕ → ℕ → List Link → Option (ℕ × ℕ) → Type 0
IsOnWay g x t n links None = IsChain g x t n (reverse links)
IsOnWay g x t n links (Some at) = IsAhead g x t n links at.0 at.1

-- how many dates can come before, at most
abbrev pub steps_left : LiveGraph → Option (ℕ × ℕ) → ℕ
steps_left l None = 0
steps_left l (Some at) = 1 + (at.1 * stations l.graph + get_or l.ranks at.0 0)

pub begins : (g : Parts) (x : Table) (t n : ℕ) → t < stations g → 1 ≤ n → n ≤ jobs g → IsAhead g x t n [] t n
begins g x t n there one within =
    record { there = there; from_one = one; within = within; follows = λ front chain. subst (IsChain g x t n) (sym (append-nil front)) chain }

module _ (g : Parts) (x : Table) (t n : ℕ) (links : List Link) (l : Link) (link : IsLink g x l) (graph : IsGraph g) (ahead : IsAhead g x t n links l.station l.job) where
  turned : reverse (links ++ l ∷ []) ≡ l ∷ reverse links
  turned = reverse-append links (l ∷ [])

  goes_on : (c : Cause) → l.cause ≡ c → IsOnWay g x t n (links ++ l ∷ []) (before_of g l.job c)
  goes_on DemandDate is =
      subst (IsChain g x t n) (sym turned) (ahead.follows (l ∷ []) (demanded l link is))
  goes_on Start is =
      subst (IsChain g x t n) (sym turned) (ahead.follows (l ∷ []) (started l link is))
  goes_on (Along a) is =
      let by : IsLed g x l.station l.job a l.added = caused_by g x l (Along a) link is in
      record {
        there = graph.starts_exist a by.cause.enters.0;
        from_one = omega (arith, by.later);
        within = omega (arith, link.job);
        follows = λ front chain.
            subst (IsChain g x t n) (append_assoc front (l ∷ []) (reverse links) ∙ ap (λ z. front ++ z) (sym turned))
            (ahead.follows (front ++ l ∷ []) (led front l a link is chain));
      }

  -- one link more
  pub one_more : (next : Option (ℕ × ℕ)) → next ≡ before_of g l.job l.cause → IsOnWay g x t n (links ++ l ∷ []) next
  one_more next is = subst (IsOnWay g x t n (links ++ l ∷ [])) (sym is) (goes_on l.cause refl)

module _ (live : LiveGraph) (ranked : IsRanked live) (x : Table) (l : Link) (link : IsLink live.graph x l) where
  falls : (c : Cause) → l.cause ≡ c → steps_left live (before_of live.graph l.job c) < steps_left live (Some (l.station, l.job))
  falls DemandDate is = omega arith
  falls Start is = omega arith
  falls (Along a) is =
      let by : IsLed live.graph x l.station l.job a l.added = caused_by live.graph x l (Along a) link is in
      omega (arith, walk_falls live.graph live.ranks ranked.upward ranked.sound l.station l.job a by.cause.enters by.later)

  pub steps_fall : (next : Option (ℕ × ℕ)) → next ≡ before_of live.graph l.job l.cause → steps_left live next < steps_left live (Some (l.station, l.job))
  steps_fall next is = subst (λ o. steps_left live o < steps_left live (Some (l.station, l.job))) (sym is) (falls l.cause refl)
