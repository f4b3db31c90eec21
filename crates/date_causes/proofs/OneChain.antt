-- Each date of the least solution of a live graph has one chain of causes: the walk back goes down by job and then by
-- rank, and leaves no choice.
use Rattle.std.proofs.Common.{◌≡◌, ◌≢◌, ℕ, zero, suc, ◌+◌, ◌-◌, ◌*◌, ◌<◌, ◌≤◌, ◌⊎◌, List, [], ◌∷◌, ◌++◌, get_or, refl, sym, ap, ◌∙◌, subst, arith, inl, inr, ⊎_elim}
use Rattle.std.proofs.lemmas.Bool.{cases_eq, cases_lt, cases_order}
use Rattle.line_base.specs.declared.event.Parts.{Parts}
use Rattle.event_graph.specs.Network.{stations, jobs, arc, arc_count, demand, delay, IsGraph, EndsAt}
use Rattle.event_graph.specs.Table.{Table}
use Rattle.event_graph.specs.Term.{term, work}
use Rattle.event_graph.specs.Greatest.{IsGreatestTerm, IsGreatestOfTerms}
use Rattle.live_check.specs.Order.{IsUpward}
use Rattle.date_causes.specs.declared.link.Cause.{Cause}
use Rattle.date_causes.specs.declared.link.Cause.TheVariants.{DemandDate, Start, Along}
use Rattle.date_causes.specs.declared.link.Link.{Link}
use Rattle.date_causes.specs.Chain.{IsFirstTight, IsCaused, IsLink, IsChain, demanded, started, led}
use Rattle.date_causes.specs.Laws.{HasOneChain}

-- ---- the walk back goes down

falls_by : (m j T r : ℕ) → r < T → m * T + r < (m + suc j) * T
falls_by m j T r low = omega arith

pub job_falls : (n k T r s : ℕ) → 1 ≤ k → k < n → r < T → (n - k) * T + r < n * T + s
job_falls n k T r s some few low =
    let n_is : (n - k) + suc (k - 1) ≡ n = omega arith in
    omega (arith, falls_by (n - k) (k - 1) T r low, ap (λ m. m * T) n_is)

-- where arc a leads to job n of station t from a job before, that job comes before by job and then by rank
pub walk_falls : (g : Parts) (ranks : List ℕ) → IsUpward g ranks → IsGraph g → (t n a : ℕ) → EndsAt g t a → (arc g a).tokens < n → (n - (arc g a).tokens) * stations g + get_or ranks (arc g a).from 0 < n * stations g + get_or ranks t 0
walk_falls g ranks up graph t n a enters later =
    let from = (arc g a).from in
    let rank : get_or ranks from 0 < stations g = up.below from 0 (omega (arith, graph.starts_exist a enters.0, up.rank_for_each)) in
    elim (cases_eq (arc g a).tokens 0) [
      | inl none ↦
          let job : (n - (arc g a).tokens) * stations g ≡ n * stations g = ap (λ k. k * stations g) (omega arith) in
          omega (arith, job, up.upward a enters.0 none, ap (λ u. get_or ranks u 0) enters.1)
      | inr some ↦ job_falls n (arc g a).tokens (stations g) (get_or ranks from 0) (get_or ranks t 0) (omega arith) later rank
    ]

-- ---- the first tight arc

module _ (g : Parts) (x : Table) (t n : ℕ) where
  record IsTight (a : ℕ) : Type 0 where
    enters : EndsAt g t a
    tight : term g x a n ≡ x t n

  IsLoose : ℕ → Type 0
  IsLoose a = EndsAt g t a → term g x a n ≢ x t n

  tight_or_not : (a : ℕ) → a < arc_count g → IsTight a ⊎ IsLoose a
  unfolding IsLoose
  tight_or_not a there =
      elim (cases_eq (arc g a).to t) [
        | inl to ↦ elim (cases_eq (term g x a n) (x t n)) [
          | inl same ↦ inl (record { enters = (there, to); tight = same })
          | inr other ↦ inr (λ enters. other)
        ]
        | inr other ↦ inr (λ enters. absurd (other enters.1))
      ]

  first_below : (m : ℕ) → m ≤ arc_count g → ((a : ℕ) × IsFirstTight g x t n a) ⊎ ((b : ℕ) → b < m → IsLoose b)
  unfolding IsLoose
  first_below zero few = inr (λ b low. absurd (omega arith))
  first_below (suc m) few =
      elim (first_below m (omega arith)) [
        | inl found ↦ inl found
        | inr none ↦ elim (tight_or_not m (omega arith)) [
          | inl here ↦ inl (m, record { enters = here.enters; tight = here.tight; first = none })
          | inr loose ↦ inr (λ b low. elim (cases_lt b m) [
            | inl before ↦ none b before
            | inr last ↦ let same : m ≡ b = omega arith in subst IsLoose same loose
          ])
        ]
      ]

  pub first_tight_there : IsGreatestTerm g x t n → (a : ℕ) × IsFirstTight g x t n a
  unfolding IsLoose
  first_tight_there greatest =
      elim (first_below (arc_count g) (omega arith)) [
        | inl found ↦ found
        | inr none ↦ absurd (none greatest.last greatest.enters.0 greatest.enters (sym greatest.equal))
      ]

  pub same_cause : (a b : ℕ) → IsFirstTight g x t n a → IsFirstTight g x t n b → a ≡ b
  same_cause a b here there =
      ⊎_elim
      (λ same. same)
      (λ apart.
      ⊎_elim (λ before. absurd (there.first a before here.enters here.tight)) (λ after. absurd (here.first b after there.enters there.tight)) apart)
      (cases_order a b)

-- ---- there is a chain

module _ (g : Parts) (x : Table) (ranks : List ℕ) (graph : IsGraph g) (greatest : IsGreatestOfTerms g x) (up : IsUpward g ranks) where
  has_chain : (most t n : ℕ) → n * stations g + get_or ranks t 0 < most → t < stations g → 1 ≤ n → n ≤ jobs g → (links : List Link) × IsChain g x t n links
  has_chain zero t n low there one within = absurd (omega arith)
  has_chain (suc most) t n low there one within =
      elim (cases_eq t 0) [
        | inl feed ↦
            let l : Link = record { station = t; job = n; date = x t n; cause = DemandDate; added = demand g n } in
            let is : x t n ≡ demand g n = ap (λ u. x u n) feed ∙ greatest.feed (omega arith) n one within in
            let link : IsLink g x l = record { station = there; from_one = one; job = within; date = refl; caused = record { feed = feed; demanded = is; added_is = refl } } in
            (l ∷ [], demanded l link refl)
        | inr other ↦
            let found = first_tight_there g x t n (greatest.others t n (omega arith) there one within) in
            let a = found.0 in
            let cause : IsFirstTight g x t n a = found.1 in
            elim (cases_lt (arc g a).tokens n) [
              | inl later ↦
                  let l : Link = record { station = t; job = n; date = x t n; cause = Along a; added = work g a n + delay g a } in
                  let link : IsLink g x l = record { station = there; from_one = one; job = within; date = refl; caused = record { cause = cause; later = later; added_is = refl } } in
                  let before = has_chain most (arc g a).from (n - (arc g a).tokens) (omega (arith, walk_falls g ranks up graph t n a cause.enters later, low)) (graph.starts_exist a cause.enters.0) (omega arith) (omega arith) in
                  (before.0 ++ l ∷ [], led before.0 l a link refl before.1)
              | inr initial ↦
                  let l : Link = record { station = t; job = n; date = x t n; cause = Start; added = work g a n } in
                  let link : IsLink g x l = record { station = there; from_one = one; job = within; date = refl; caused = record { last = a; cause = cause; initial = initial; added_is = refl } } in
                  (l ∷ [], started l link refl)
            ]
      ]

-- ---- and no other

link_of : ℕ → ℕ → ℕ → Cause → ℕ → Link
link_of station job date cause added = record { station = station; job = job; date = date; cause = cause; added = added }

same_parts : (k l : Link) → k.station ≡ l.station → k.job ≡ l.job → k.date ≡ l.date → k.cause ≡ l.cause → k.added ≡ l.added → k ≡ l
unfolding link_of
same_parts k l s j d c a =
    ap (λ v. link_of v k.job k.date k.cause k.added) s
    ∙ ap (λ v. link_of l.station v k.date k.cause k.added) j
    ∙ ap (λ v. link_of l.station l.job v k.cause k.added) d
    ∙ ap (λ v. link_of l.station l.job l.date v k.added) c
    ∙ ap (λ v. link_of l.station l.job l.date l.cause v) a

module _ (g : Parts) (x : Table) (graph : IsGraph g) where
  not_the_feed : (t n a : ℕ) → IsFirstTight g x t n a → t ≢ 0
  not_the_feed t n a cause feed = graph.feed_has_no_input a cause.enters.0 (cause.enters.1 ∙ feed)

  record IsSame (c d : Cause) (p q : ℕ) : Type 0 where
    cause : c ≡ d
    added : p ≡ q

  cause_same : (t n : ℕ) (c d : Cause) (p q : ℕ) → IsCaused g x t n c p → IsCaused g x t n d q → IsSame c d p q
  cause_same t n DemandDate DemandDate p q h k = record { cause = refl; added = h.added_is ∙ sym k.added_is }
  cause_same t n DemandDate Start p q h k = absurd (not_the_feed t n k.last k.cause h.feed)
  cause_same t n DemandDate (Along b) p q h k = absurd (not_the_feed t n b k.cause h.feed)
  cause_same t n Start DemandDate p q h k = absurd (not_the_feed t n h.last h.cause k.feed)
  cause_same t n Start Start p q h k =
      record { cause = refl; added = h.added_is ∙ ap (λ a. work g a n) (same_cause g x t n h.last k.last h.cause k.cause) ∙ sym k.added_is }
  cause_same t n Start (Along b) p q h k =
      absurd (omega (arith, h.initial, k.later, ap (λ a. (arc g a).tokens) (same_cause g x t n h.last b h.cause k.cause)))
  cause_same t n (Along a) DemandDate p q h k = absurd (not_the_feed t n a h.cause k.feed)
  cause_same t n (Along a) Start p q h k =
      absurd (omega (arith, k.initial, h.later, ap (λ b. (arc g b).tokens) (same_cause g x t n a k.last h.cause k.cause)))
  cause_same t n (Along a) (Along b) p q h k =
      let same = same_cause g x t n a b h.cause k.cause in
      record { cause = ap Along same; added = h.added_is ∙ ap (λ c. work g c n + delay g c) same ∙ sym k.added_is }

  same_link : (k l : Link) → IsLink g x k → IsLink g x l → k.station ≡ l.station → k.job ≡ l.job → k ≡ l
  same_link k l kk ll s j =
      let moved : IsCaused g x l.station l.job k.cause k.added =
      subst (λ m. IsCaused g x l.station m k.cause k.added) j (subst (λ u. IsCaused g x u k.job k.cause k.added) s kk.caused) in
      let same = cause_same l.station l.job k.cause l.cause k.added l.added moved ll.caused in
      let date : k.date ≡ l.date = kk.date ∙ ap (λ u. x u k.job) s ∙ ap (x l.station) j ∙ sym ll.date in
      same_parts k l s j date same.cause same.added

  clash-demand : (k l : Link) (a : ℕ) → k ≡ l → k.cause ≡ DemandDate → l.cause ≡ Along a → ⊥
  clash-demand k l a same first second = let e : k.cause ≡ l.cause = ap (λ (m : Link). m.cause) same in cc

  clash-start : (k l : Link) (a : ℕ) → k ≡ l → k.cause ≡ Start → l.cause ≡ Along a → ⊥
  clash-start k l a same first second = let e : k.cause ≡ l.cause = ap (λ (m : Link). m.cause) same in cc

  along-same : (k l : Link) (a b : ℕ) → k ≡ l → k.cause ≡ Along a → l.cause ≡ Along b → a ≡ b
  along-same k l a b same first second = let e : k.cause ≡ l.cause = ap (λ (m : Link). m.cause) same in cc

  one_chain : (t n : ℕ) (links : List Link) → IsChain g x t n links → (u m : ℕ) (others : List Link) → IsChain g x u m others → u ≡ t → m ≡ n → others ≡ links
  one_chain t n links (demanded l link is) u m others (demanded k link_2 is_2) s j = ap (λ z. z ∷ []) (same_link k l link_2 link s j)
  one_chain t n links (demanded l link is) u m others (started k link_2 is_2) s j = ap (λ z. z ∷ []) (same_link k l link_2 link s j)
  one_chain t n links (demanded l link is) u m others (led rest k b link_2 is_2 chain_2) s j =
      absurd (clash-demand l k b (sym (same_link k l link_2 link s j)) is is_2)
  one_chain t n links (started l link is) u m others (demanded k link_2 is_2) s j = ap (λ z. z ∷ []) (same_link k l link_2 link s j)
  one_chain t n links (started l link is) u m others (started k link_2 is_2) s j = ap (λ z. z ∷ []) (same_link k l link_2 link s j)
  one_chain t n links (started l link is) u m others (led rest k b link_2 is_2 chain_2) s j =
      absurd (clash-start l k b (sym (same_link k l link_2 link s j)) is is_2)
  one_chain t n links (led before l a link is chain) u m others (demanded k link_2 is_2) s j =
      absurd (clash-demand k l a (same_link k l link_2 link s j) is_2 is)
  one_chain t n links (led before l a link is chain) u m others (started k link_2 is_2) s j =
      absurd (clash-start k l a (same_link k l link_2 link s j) is_2 is)
  one_chain t n links (led before l a link is chain) u m others (led rest k b link_2 is_2 chain_2) s j =
      let same = same_link k l link_2 link s j in
      let arcs = along-same k l b a same is_2 is in
      let station : (arc g b).from ≡ (arc g a).from = ap (λ c. (arc g c).from) arcs in
      let job : k.job - (arc g b).tokens ≡ l.job - (arc g a).tokens = omega (arith, j, ap (λ c. (arc g c).tokens) arcs) in
      let fronts = one_chain (arc g a).from (l.job - (arc g a).tokens) before chain (arc g b).from (k.job - (arc g b).tokens) rest chain_2 station job in
      ap (λ z. z ++ k ∷ []) fronts ∙ ap (λ z. before ++ z ∷ []) same

pub has_one_chain : (g : Parts) (x : Table) (ranks : List ℕ) → IsGraph g → IsGreatestOfTerms g x → IsUpward g ranks → (t n : ℕ) → t < stations g → 1 ≤ n → n ≤ jobs g → HasOneChain g x t n
has_one_chain g x ranks graph greatest up t n there one within =
    let found = has_chain g x ranks graph greatest up (suc (n * stations g + get_or ranks t 0)) t n (omega arith) there one within in
    record { links = found.0; chain = found.1; only = λ others other. one_chain g x graph t n found.0 found.1 t n others other refl refl }
