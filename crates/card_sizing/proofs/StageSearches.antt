-- The steps of the search for the least counts, stage by stage.
use Rattle.std.proofs.Common.{◌≡◌, ◌≢◌, ℕ, ◌+◌, ◌-◌, ◌<◌, ◌≤◌, ◌⊎◌, true, List, [], ◌∷◌, ◌++◌, length, replicate, take, map, get_or, set, inl, inr, refl, sym, ap, ◌∙◌, subst, arith, ⊎_elim}
use Rattle.std.proofs.lemmas.Bool.{cases_lt, cases_eq, false≢true}
use Rattle.std.proofs.lemmas.List.{length-set, get_or-set_same, get_or-set_other, set-get_or, set-set, get_or-replicate, length-replicate, get_or_append_left, get_or_at, map_push, take_more}
use Rattle.line_base.specs.Limits.{most_cards}
use Rattle.plant_model.specs.declared.plant.Policy.{Policy}
use Rattle.plant_model.specs.declared.plant.Policy.TheVariants.{Kanban, Conwip, BaseStock, Extended}
use Rattle.plant_model.specs.Stages.{Stage}
use Rattle.plant_model.specs.declared.plant.Plant.{Plant}
use Rattle.plant_model.specs.Line.{stage_at}
use Rattle.plant_model.specs.Graph.{graph}
use Rattle.plant_model.specs.Sound.{IsSound}
use Rattle.card_sizing.specs.declared.sizing.Below.{Below}
use Rattle.card_sizing.specs.declared.sizing.Below.TheVariants.{Lowest, Job, Dead}
use Rattle.card_sizing.specs.Sized.{lowest}
use Rattle.card_sizing.specs.Serving.{IsInTime, Serves}
use Rattle.card_sizing.specs.Trying.{FailsBy}
use Rattle.card_sizing.specs.Counted.{has_stage_counts, least_under, least_at, with_counts, AreCounts, ServeEach, NoneServesLessFrom, IsStageSearch}
use Rattle.card_sizing.specs.Lowered.{with_count, IsLeastCount}
use Rattle.card_sizing.specs.Each.{no_sizing, counts_of, names_of, below_at, IsBelowAt, HaveReasons, IsEachRefusal}
use Rattle.card_sizing.specs.Sizing.{IsSizingRefusal}
use Rattle.card_sizing.specs.declared.each.StageSizing.{StageSizing}
use Rattle.card_sizing.specs.declared.sizing.SizingError.{SizingError}
use Rattle.card_sizing.specs.declared.sizing.SizingError.TheVariants.{NoSingleCount, NoCount, NoMemory}
use Rattle.card_sizing.proofs.SizedSound.{stock-lowest}
use Rattle.card_sizing.proofs.EnoughCards.{in_time_more, late_not_in_time, dead_not_live}
use Rattle.card_sizing.proofs.CountedPlants.{single_count, sound_counted, more-counted, counted-sized}

-- the count of a stage where one was changed: the new one there, the old one elsewhere
pub count-with : (counts : List ℕ) (i c k : ℕ) → i < length counts → ((k ≡ i) × (get_or (set counts i c) k 0 ≡ c)) ⊎ ((k ≢ i) × (get_or (set counts i c) k 0 ≡ get_or counts k 0))
count-with counts i c k there =
    ⊎_elim
    (λ same. inl (same, ap (λ n. get_or (set counts i c) n 0) same ∙ get_or-set_same counts i c 0 there))
    (λ other. inr (other, get_or-set_other counts i k c 0 other))
    (cases_eq k i)

module _ (p : Plant) (sound : IsSound p) (has : has_stage_counts p ≡ true) where
  -- counts with another one at a stage
  pub fit_with : (counts : List ℕ) (i c : ℕ) → AreCounts p counts → i < length p.stages → least_at p i ≤ c → c ≤ most_cards → AreCounts p (with_count counts i c)
  fit_with counts i c fit below enough few =
      let there : i < length counts = omega (arith, fit.number) in
      record {
        number = length-set counts i c ∙ fit.number;
        enough = λ k low.
            ⊎_elim
            (λ here. omega (arith, here.1, subst (λ (n : ℕ). least_at p n ≤ c) (sym here.0) enough))
            (λ other. omega (arith, other.1, fit.enough k low))
            (count-with counts i c k there);
        within = λ k low.
            ⊎_elim
            (λ here. omega (arith, here.1))
            (λ other. omega (arith, other.1, fit.within k low))
            (count-with counts i c k there);
      }

  -- greater counts keep the line in time: more tokens, never later
  pub serve_more : (may : ℕ) (few many : List ℕ) → ServeEach p may few → AreCounts p many → ((i : ℕ) → i < length p.stages → get_or few i 0 ≤ get_or many i 0) → ServeEach p may many
  serve_more may few many serves fit more =
      record {
        counts_fit = fit;
        in_time = in_time_more (with_counts p few) (with_counts p many) may (more-counted p few many has more) (sound_counted p few sound has serves.counts_fit) (sound_counted p many sound has fit) serves.in_time;
      }

  -- counts with which a line isn't in time don't serve
  pub fails_not_serve : (may : ℕ) (counts : List ℕ) (why : Below) → FailsBy (with_counts p counts) may why → ServeEach p may counts → ⊥
  fails_not_serve may counts Lowest fails serves = fails
  fails_not_serve may counts (Job job wait) fails serves =
      late_not_in_time (with_counts p counts) may job wait (sound_counted p counts sound has serves.counts_fit) fails serves.in_time
  fails_not_serve may counts (Dead labels) fails serves =
      dead_not_live (graph (with_counts p counts)) labels fails serves.in_time.live

  -- ---- the start

  least-under : (policy : Policy) (c i : ℕ) → p.policy ≡ policy → lowest p ≤ c → i < length p.stages → least_under policy (stage_at p i) ≤ c
  least-under Kanban c i is enough below = omega arith
  least-under (Conwip _) c i is enough below = omega arith
  least-under BaseStock c i is enough below = omega arith
  least-under Extended c i is enough below = stock-lowest p c sound is enough i below

  -- a count that serves, at each stage
  pub serve_at_each : (may c : ℕ) (counts : List ℕ) → counts ≡ replicate (length p.stages) c → Serves p may c → ServeEach p may counts
  serve_at_each may c counts is serves =
      let n = length p.stages in
      let at = λ (i : ℕ). λ (low : i < n). ap (λ (cs : List ℕ). get_or cs i 0) is ∙ get_or-replicate n i c 0 low in
      record {
        counts_fit = record {
          number = ap (λ (cs : List ℕ). length cs) is ∙ length-replicate n c;
          enough = λ i low. omega (arith, at i low, least-under p.policy c i refl serves.enough low);
          within = λ i low. omega (arith, at i low, serves.within);
        };
        in_time = subst (λ (q : Plant). IsInTime q may) (counted-sized p c has ∙ ap (with_counts p) (sym is)) serves.in_time;
      }

  -- ---- one stage

  module _ (may : ℕ) (counts : List ℕ) (i : ℕ) (serves : ServeEach p may counts) (below : i < length p.stages) where
    pub search_begins : IsStageSearch p may counts i (least_at p i) (get_or counts i 0)
    search_begins = record {
      ordered = serves.counts_fit.enough i below;
      enough = omega arith;
      none = λ d low served.
          let fit = served.counts_fit.enough i below in
          let there : i < length counts = omega (arith, serves.counts_fit.number) in
          let at = get_or-set_same counts i d 0 there in
          omega (arith, fit, at, low);
      serves = subst (ServeEach p may) (sym (set-get_or counts i 0)) serves;
      no_more = omega arith;
    }

    -- a count that fails has none below that serves
    pub search_on : (low high middle : ℕ) (why : Below) → IsStageSearch p may counts i low high → low ≤ middle → middle < high → FailsBy (with_counts p (with_count counts i middle)) may why → IsStageSearch p may counts i (middle + 1) high
    search_on low high middle why search after before fails =
        let there : i < length counts = omega (arith, serves.counts_fit.number) in
        let fit = fit_with counts i middle serves.counts_fit below (omega (arith, search.enough)) (omega (arith, search.no_more, serves.counts_fit.within i below)) in
        record {
          ordered = omega arith;
          enough = omega (arith, search.enough);
          none = λ d less served. fails_not_serve may (with_count counts i middle) why fails (
              serve_more may (with_count counts i d) (with_count counts i middle) served fit (λ k low_k.
              ⊎_elim
              (λ here.
              ⊎_elim (λ also. omega (arith, here.1, also.1, less)) (λ other. absurd (other.0 here.0)) (count-with counts i middle k there))
              (λ other.
              ⊎_elim (λ here. absurd (other.0 here.0)) (λ also. omega (arith, other.1, also.1)) (count-with counts i middle k there))
              (count-with counts i d k there)));
          serves = search.serves;
          no_more = search.no_more;
        }

    pub search_down : (low high middle : ℕ) → IsStageSearch p may counts i low high → low ≤ middle → middle < high → IsInTime (with_counts p (with_count counts i middle)) may → IsStageSearch p may counts i low middle
    search_down low high middle search after before in_time = record {
      ordered = after;
      enough = search.enough;
      none = search.none;
      serves = record {
        counts_fit = fit_with counts i middle serves.counts_fit below (omega (arith, search.enough)) (omega (arith, search.no_more, serves.counts_fit.within i below));
        in_time = in_time;
      };
      no_more = omega (arith, search.no_more);
    }

  -- ---- from stage to stage

  -- the least count is no more than the stage has
  no_more_than : (may : ℕ) (counts : List ℕ) (i c : ℕ) → ServeEach p may counts → IsLeastCount (ServeEach p may) counts i c → c ≤ get_or counts i 0
  no_more_than may counts i c serves least =
      ⊎_elim
      (λ less. absurd (least.none (get_or counts i 0) less (subst (ServeEach p may) (sym (set-get_or counts i 0)) serves)))
      (λ ge. ge)
      (cases_lt (get_or counts i 0) c)

  -- where stage i gets its least count, the stages from i on have no less count that serves
  pub lowered_from : (may : ℕ) (counts : List ℕ) (i c : ℕ) → ServeEach p may counts → i < length p.stages → NoneServesLessFrom p may counts (i + 1) → IsLeastCount (ServeEach p may) counts i c → NoneServesLessFrom p may (with_count counts i c) i
  lowered_from may counts i c serves below none least j d from inside less served =
      let number = serves.counts_fit.number in
      let there : i < length counts = omega (arith, number) in
      let long = length-set counts i c in
      let no_more = no_more_than may counts i c serves least in
      ⊎_elim
      (λ here.
      let at : get_or (set counts i c) j 0 ≡ c = here.1 in
      let same = ap (λ n. set (set counts i c) n d) here.0 ∙ set-set counts i c d in
      least.none d (omega (arith, less, at)) (subst (ServeEach p may) same served))
      (λ other.
      let after : i + 1 ≤ j = ⊎_elim (λ before. omega arith) (λ past. let apart = other.0 in ⊎_elim (λ e. absurd (apart (sym e))) (λ lt. lt) (at_least i j from)) (cases_lt i j) in
      let at : get_or (set counts i c) j 0 ≡ get_or counts j 0 = other.1 in
      let own = served.counts_fit in
      let there_j : j < length counts = omega (arith, number) in
      let new_there : j < length (set counts i c) = omega (arith, long) in
      let new_at = get_or-set_same (set counts i c) j d 0 new_there in
      let fit = fit_with counts j d serves.counts_fit inside (omega (arith, new_at, own.enough j inside)) (omega (arith, new_at, own.within j inside)) in
      none j d after inside (omega (arith, less, at)) (
      serve_more may (set (set counts i c) j d) (set counts j d) served fit (λ k low_k.
      ⊎_elim
      (λ first. ⊎_elim (λ also. omega (arith, first.1, also.1)) (λ not. absurd (not.0 first.0)) (count-with counts j d k there_j))
      (λ first. ⊎_elim
      (λ also. absurd (first.0 also.0))
      (λ also. ⊎_elim
      (λ at_i. let here_i = ap (λ n. get_or counts n 0) at_i.0 in omega (arith, first.1, also.1, at_i.1, here_i, no_more))
      (λ not_i. omega (arith, first.1, also.1, not_i.1))
      (count-with counts i c k there))
      (count-with counts j d k there_j))
      (count-with (set counts i c) j d k new_there))))
      (count-with counts i c j there)
    where
      at_least : (a b : ℕ) → a ≤ b → (a ≡ b) ⊎ (a + 1 ≤ b)
      at_least a b le = ⊎_elim (λ lt. inr (omega arith)) (λ ge. inl (omega arith)) (cases_lt a b)

  -- ---- the reasons

  -- one card less fails, and why
  pub reason_at : (may : ℕ) (counts : List ℕ) (i : ℕ) (why : Below) → least_at p i < get_or counts i 0 → FailsBy (with_counts p (with_count counts i (get_or counts i 0 - 1))) may why → IsBelowAt p may counts i why
  reason_at may counts i Lowest more fails = absurd fails
  reason_at may counts i (Job job wait) more fails = (more, fails)
  reason_at may counts i (Dead labels) more fails = (more, fails)

-- ---- refusals

-- why no count is answered for all stages is why none is for each
pub each_refusal : (p : Plant) (may : ℕ) (e : SizingError) → has_stage_counts p ≡ true → IsSizingRefusal p may e → IsEachRefusal p may e
each_refusal p may NoSingleCount has refused = absurd (false≢true (sym refused ∙ single_count p has))
each_refusal p may (NoCount job wait) has refused = (has, refused.1)
each_refusal p may NoMemory has refused = tt

-- the stages have counts, so that is not it
pub has_counts : (p : Plant) (may : ℕ) (e : SizingError) → has_stage_counts p ≡ true → IsSizingRefusal p may e → e ≢ NoSingleCount
has_counts p may NoSingleCount has refused is = false≢true (sym refused ∙ single_count p has)
has_counts p may (NoCount job wait) has refused is = cc
has_counts p may NoMemory has refused is = cc

-- ---- lists of answers

below_after : (sizings : List StageSizing) (s : StageSizing) (i : ℕ) → i < length sizings → below_at (sizings ++ s ∷ []) i ≡ below_at sizings i
below_after sizings s i low =
    ap (λ (t : StageSizing). t.below) (get_or_append_left sizings (s ∷ []) no_sizing i low)

below_last : (sizings : List StageSizing) (s : StageSizing) (i : ℕ) → length sizings ≡ i → below_at (sizings ++ s ∷ []) i ≡ s.below
below_last sizings s i is = ap (λ (t : StageSizing). t.below) (get_or_at sizings s [] no_sizing i is)

-- one reason more
pub reasons_more : (p : Plant) (may : ℕ) (counts : List ℕ) (sizings : List StageSizing) (s : StageSizing) (i : ℕ) → length sizings ≡ i → HaveReasons p may counts sizings i → IsBelowAt p may counts i s.below → HaveReasons p may counts (sizings ++ s ∷ []) (i + 1)
reasons_more p may counts sizings s i long before here k low =
    ⊎_elim
    (λ early. subst (IsBelowAt p may counts k) (sym (below_after sizings s k (omega arith))) (before k early))
    (λ late.
    let same : i ≡ k = omega arith in
    let last = below_last sizings s k (long ∙ same) in
    subst (IsBelowAt p may counts k) (sym last) (subst (λ n. IsBelowAt p may counts n s.below) same here))
    (cases_lt k i)

-- one count and one name more
pub counts_more : (old new : List StageSizing) (s : StageSizing) (counts : List ℕ) (i : ℕ) → new ≡ old ++ s ∷ [] → counts_of old ≡ take i counts → s.cards ≡ get_or counts i 0 → i < length counts → counts_of new ≡ take (i + 1) counts
counts_more old new s counts i is before at low =
    ap counts_of is
    ∙ map_push (λ (t : StageSizing). t.cards) old s
    ∙ ap (λ (l : List ℕ). l ++ s.cards ∷ []) before
    ∙ ap (λ (n : ℕ). take i counts ++ n ∷ []) at
    ∙ sym (take_more counts i 0 low)

pub names_more : (old new : List StageSizing) (s : StageSizing) (stages : List Stage) (i : ℕ) (d : Stage) → new ≡ old ++ s ∷ [] → names_of old ≡ map (λ t. t.name) (take i stages) → s.stage ≡ (get_or stages i d).name → i < length stages → names_of new ≡ map (λ t. t.name) (take (i + 1) stages)
names_more old new s stages i d is before at low =
    ap names_of is
    ∙ map_push (λ (t : StageSizing). t.stage) old s
    ∙ ap (λ (l : List (List ℕ)). l ++ s.stage ∷ []) before
    ∙ ap (λ (name : List ℕ). map (λ (t : Stage). t.name) (take i stages) ++ name ∷ []) at
    ∙ sym (map_push (λ (t : Stage). t.name) (take i stages) (get_or stages i d))
    ∙ sym (ap (λ (l : List Stage). map (λ (t : Stage). t.name) l) (take_more stages i d low))
