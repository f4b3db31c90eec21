-- The status of `cards`, of `cards --each` and of a curve is decided by the plant: more cards keep a line in time, so
-- where a count serves the most cards do.
use Rattle.std.proofs.Common.{◌≡◌, ◌⊎◌, ◌<◌, ℕ, Bool, false, true, List, cond, length, replicate, refl, ap, sym, ◌∙◌}
use Rattle.std.proofs.Common.{subst, inl, inr, arith}
use Rattle.std.specs.Prelude.{Result, Ok, Err, IsTrue}
use Rattle.std.proofs.lemmas.Bool.{false≢true}
use Rattle.std.proofs.lemmas.List.{get_or-replicate, length-replicate}
use Rattle.answers.specs.CardsText.{cards_text}
use Rattle.answers.specs.EachCardsText.{each_cards_text}
use Rattle.answers.specs.declared.answer.Answer.{Answer}
use Rattle.answers.specs.declared.answer.Answer.TheVariants.{Curved}
use Rattle.card_sizing.specs.Counted.{has_stage_counts, AreCounts, ServeEach}
use Rattle.card_sizing.specs.Each.{counts_of, IsEachRefusal}
use Rattle.card_sizing.specs.Serving.{Serves, IsInTime, IsLateWith}
use Rattle.card_sizing.specs.Sized.{has_single_count, sized_plant}
use Rattle.card_sizing.specs.Sizing.{IsSizingRefusal}
use Rattle.card_sizing.specs.declared.sizing.SizingError.{SizingError}
use Rattle.card_sizing.specs.declared.sizing.SizingError.TheVariants as sizing
use Rattle.card_sizing.proofs.CountedPlants.{sound_counted, counted-sized}
use Rattle.card_sizing.proofs.EnoughCards.{serves_more, late_not_in_time}
use Rattle.card_sizing.proofs.SizedSound.{sound_sized}
use Rattle.card_sizing.proofs.StageSearches.{serve_more}
use Rattle.commands.specs.Answers.{IsRefusedFor, IsSized, IsCards, IsSizedEach, IsCardsEach, IsCurve}
use Rattle.line_base.specs.Limits.{most_cards}
use Rattle.plant_model.specs.declared.plant.Plant.{Plant}
use Rattle.plant_model.specs.Sound.{IsSound}
use Rattle.live_plant.specs.Refusals.{sizing_refusal}
use Rattle.live_plant.specs.declared.refusals.refusal.Refusal.{Refusal}
use Rattle.live_plant.specs.declared.refusals.refusal.Refusal.TheVariants.{NoSingleCount}
use Rattle.pull_laws.specs.Verdicts.{IsFree}
use Rattle.pull_laws.proofs.AnswersAlike.{Ends, IsDone, text_done, IsOrFree, refused_free, refused_alike, ways_alike}

-- no job is late with a count that serves
not_late : (p : Plant) → IsSound p → IsTrue (has_single_count p) → (wait c job long : ℕ) → Serves p wait c →
    IsLateWith p wait c job long → ⊥
not_late p sound single wait c job long serves late =
    late_not_in_time (sized_plant p c) wait job long (sound_sized p c sound single serves.enough serves.within) late
    serves.in_time

-- What is asked of cards is answered alike: where counts serve, nothing but no memory is a refusal, and else a refusal
-- has 13 where there are counts, and 17 where there are none.
module _ (has : Bool) (IsReason : SizingError → Type 0) (none : IsReason sizing.NoSingleCount → has ≡ false)
    (some : (job long : ℕ) → IsReason (sizing.NoCount job long) → has ≡ true) where
  unsized_status : (error : SizingError) → IsReason error → IsOrFree (cond has 13 17) (sizing_refusal error)
  unsized_status sizing.NoSingleCount why = inr (ap (λ (b : Bool). cond b 13 17) (sym (none why)))
  unsized_status (sizing.NoCount job long) why = inr (ap (λ (b : Bool). cond b 13 17) (sym (some job long why)))
  unsized_status sizing.NoMemory why = inl tt

  sized_free : has ≡ true → ((job long : ℕ) → IsReason (sizing.NoCount job long) → ⊥) → (error : SizingError) →
      IsReason error → IsFree (sizing_refusal error)
  sized_free counted serves sizing.NoSingleCount why = absurd (false≢true (sym (none why) ∙ counted))
  sized_free counted serves (sizing.NoCount job long) why = absurd (serves job long why)
  sized_free counted serves sizing.NoMemory why = tt

  sizings_alike : (IsFound : Result Answer Refusal → Type 0) → ((a : Result Answer Refusal) → IsFound a → IsDone a) →
      ((a : Result Answer Refusal) → IsFound a → has ≡ true) →
      ((a : Result Answer Refusal) → IsFound a → (job long : ℕ) → IsReason (sizing.NoCount job long) → ⊥) →
      (one other : Result Answer Refusal) → IsFound one ⊎ IsRefusedFor IsReason sizing_refusal one →
      IsFound other ⊎ IsRefusedFor IsReason sizing_refusal other → Ends one other
  sizings_alike IsFound done counted serves =
      ways_alike IsFound (IsRefusedFor IsReason sizing_refusal) done
      (λ a b is not.
      refused_free (sizing_refusal not.error) b not.says (sized_free (counted a is) (serves a is) not.error not.reason))
      (λ a b not nor.
      refused_alike (cond has 13 17) (sizing_refusal not.error) (sizing_refusal nor.error) a b not.says nor.says
      (unsized_status not.error not.reason) (unsized_status nor.error nor.reason))

module _ (p : Plant) (sound : IsSound p) (wait : ℕ) where
  -- where a count serves, the most cards do
  serves_most : (answer : Result Answer Refusal) → IsSized p wait answer → (job long : ℕ) →
      IsSizingRefusal p wait (sizing.NoCount job long) → ⊥
  serves_most answer is job long why =
      let most = serves_more p sound is.single wait is.sizing.cards most_cards is.serves is.serves.within
      (omega arith) in
      not_late p sound is.single wait most_cards job long most why.1

  pub cards_alike : (one other : Result Answer Refusal) → IsCards p wait one → IsCards p wait other → Ends one other
  cards_alike =
      sizings_alike (has_single_count p) (IsSizingRefusal p wait) (λ why. why) (λ job long why. why.0) (IsSized p wait)
      (λ a is. text_done (cards_text is.sizing) a is.written) (λ a is. is.single) serves_most

  -- where counts serve, the most cards at each stage do
  most_in_time : (counts : List ℕ) → has_stage_counts p ≡ true → ServeEach p wait counts → (job long : ℕ) →
      IsLateWith p wait most_cards job long → ⊥
  most_in_time counts has serves job long late =
      let n = length p.stages in
      let most = replicate n most_cards in
      let at = λ (i : ℕ). λ (low : i < n). get_or-replicate n i most_cards 0 low in
      let fit : AreCounts p most = record {
        number = length-replicate n most_cards;
        enough = λ i low. omega (arith, at i low, serves.counts_fit.enough i low, serves.counts_fit.within i low);
        within = λ i low. omega (arith, at i low);
      } in
      let all =
      serve_more p sound has wait counts most serves fit
      (λ i low. omega (arith, at i low, serves.counts_fit.within i low)) in
      let same = counted-sized p most_cards has in
      late_not_in_time (sized_plant p most_cards) wait job long
      (subst IsSound (sym same) (sound_counted p most sound has fit)) late
      (subst (λ (q : Plant). IsInTime q wait) (sym same) all.in_time)

  pub each_alike : (one other : Result Answer Refusal) → IsCardsEach p wait one → IsCardsEach p wait other →
      Ends one other
  each_alike =
      sizings_alike (has_stage_counts p) (IsEachRefusal p wait) (λ why. why) (λ job long why. why.0)
      (IsSizedEach p wait) (λ a is. text_done (each_cards_text is.each) a is.written) (λ a is. is.counted)
      (λ a is job long why. most_in_time (counts_of is.each.stages) why.0 is.serves job long why.1)

-- a curve is written where the plant has a single count
abbrev HasCurve : Plant → ℕ → ℕ → Result Answer Refusal → Type 0
HasCurve p from to answer =
    IsTrue (has_single_count p) × (answer ≡ Ok (Curved (record { plant = p; from = from; to = to })))

abbrev HasNoCurve : Plant → Result Answer Refusal → Type 0
HasNoCurve p answer = ¬ IsTrue (has_single_count p) × (answer ≡ Err NoSingleCount)

pub curves_alike : (p : Plant) (from to : ℕ) (one other : Result Answer Refusal) → IsCurve p from to one →
    IsCurve p from to other → Ends one other
curves_alike p from to =
    ways_alike (HasCurve p from to) (HasNoCurve p)
    (λ a is. subst IsDone (sym is.1) tt)
    (λ a b is not. absurd (not.0 is.0))
    (λ a b not nor. refused_alike 17 NoSingleCount NoSingleCount a b not.1 nor.1 (inr refl) (inr refl))
