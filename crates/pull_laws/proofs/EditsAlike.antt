-- The status of `whatif` is decided by the plant and the edits: a line writes one edit, and leads on or is refused.
use Rattle.std.proofs.Common.{◌≡◌, ◌≢◌, ◌⊎◌, ◌+◌, ◌<◌, ◌^◌, ℕ, List, [], ◌∷◌, length, get_or, ⊎_elim, refl, ap, sym}
use Rattle.std.proofs.Common.{◌∙◌, subst, inl, inr, arith}
use Rattle.std.specs.Prelude.{Option, Some, Result, Ok, Err, decimal}
use Rattle.std.specs.Str.Lines.{strip_carriage_return}
use Rattle.std.proofs.lemmas.Fmt.{decimal_injective}
use Rattle.answers.specs.ChangesText.{changes_text}
use Rattle.answers.specs.declared.answer.Answer.{Answer}
use Rattle.commands.specs.Answers.{IsChange, IsRefusedLine, IsWhatIf}
use Rattle.event_graph.specs.Network.{jobs, label}
use Rattle.line_base.specs.declared.event.Parts.{Parts}
use Rattle.line_core.specs.Schedule.{lines_of}
use Rattle.line_graph.proofs.Sizes.{jobs-graph}
use Rattle.plant_model.specs.declared.plant.Plant.{Plant}
use Rattle.plant_model.specs.Graph.{graph}
use Rattle.plant_model.specs.Sound.{IsSound}
use Rattle.plant_model.proofs.SoundPlants.{HasSoundSizes-sound}
use Rattle.live_plant.specs.declared.refusals.refusal.Refusal.{Refusal}
use Rattle.live_plant.specs.declared.refusals.refusal.Refusal.TheVariants.{NotEdited}
use Rattle.what_if.specs.declared.edit.Edit.{Edit}
use Rattle.what_if.specs.declared.edit.Edit.TheVariants.{Time, Demand}
use Rattle.what_if.specs.Edited.{Inputs, inputs_of}
use Rattle.what_if.specs.Edits.{machine_with, before_space, Writes, inputs_after, LeadsTo, IsRefused, Stopped, EditsGive}
use Rattle.what_if.specs.Edits.{ends, follows, refuses}
use Rattle.what_if.proofs.WordsOfEdits.{decimal-no_space, one_word-no_edit, time-parts, demand-parts}
use Rattle.pull_laws.proofs.AnswersAlike.{Ends, text_done, refused_alike, ways_alike}

-- one answer
one_station : (o : Option ℕ) (t u : ℕ) → o ≡ Some t → o ≡ Some u → t ≡ u
one_station o t u is also = cc

module _ (g : Parts) (few : jobs g < 2 ^ 64) where
  -- an empty text writes none
  empty_writes_none : (text : List ℕ) (edit : Edit) → text ≡ [] → Writes g text edit → ⊥
  empty_writes_none text edit empty writes =
      one_word-no_edit g text edit (subst (λ (bytes : List ℕ). (k d : ℕ) → k < length bytes → get_or bytes k d ≢ 32)
      (sym empty) (λ k d low. absurd (omega arith))) writes

  -- a text writes one edit
  one_edit : (text : List ℕ) (a b : Edit) → Writes g text a → Writes g text b → a ≡ b
  one_edit text (Time t n time) b first second =
      let own = first.valid in
      let rest = before_space (decimal n) (decimal time) in
      time-parts g (before_space (label g t) rest) (label g t) rest (decimal n) (decimal time) b
      (λ (e : Edit). Time t n time ≡ e)
      (record { whole = refl; no_space = own.word })
      (record { whole = refl; no_space = decimal-no_space n (omega (arith, own.job, few)) })
      few
      (subst (λ (bytes : List ℕ). Writes g bytes b) first.text_is second)
      (λ u m long valid named job last.
      let station =
      one_station (machine_with g (label g t)) t u own.machine (ap (machine_with g) named ∙ valid.machine) in
      let number = decimal_injective n m (omega (arith, own.job, few)) (omega (arith, valid.job, few)) job in
      let span = decimal_injective time long (omega (arith, own.short)) (omega (arith, valid.short)) last in
      λ j. Time (station j) (number j) (span j))
  one_edit text (Demand n date) b first second =
      let own = first.valid in
      demand-parts g (before_space (decimal n) (decimal date)) (decimal n) (decimal date) b (λ (e : Edit). Demand n date ≡ e)
      (record { whole = refl; no_space = decimal-no_space n (omega (arith, own.job, few)) })
      few
      (subst (λ (bytes : List ℕ). Writes g bytes b) first.text_is second)
      (λ m day valid job last.
      let number = decimal_injective n m (omega (arith, own.job, few)) (omega (arith, valid.job, few)) job in
      let dates = decimal_injective date day (omega (arith, own.early)) (omega (arith, valid.early)) last in
      λ j. Demand (number j) (dates j))

  -- a line leads on to one thing
  one_next : (text : List ℕ) (inputs a b : Inputs) → LeadsTo g text inputs a → LeadsTo g text inputs b → a ≡ b
  one_next text inputs a b (inl is) (inl also) = is.same ∙ sym also.same
  one_next text inputs a b (inl is) (inr also) = absurd (empty_writes_none text also.edit is.empty also.written)
  one_next text inputs a b (inr is) (inl also) = absurd (empty_writes_none text is.edit also.empty is.written)
  one_next text inputs a b (inr is) (inr also) =
      is.next_is ∙ (ap (inputs_after inputs) (one_edit text is.edit also.edit is.written also.written) ∙
      sym also.next_is)

  -- and one that leads on isn't refused
  not_refused : (text : List ℕ) (inputs next : Inputs) → LeadsTo g text inputs next → IsRefused g text inputs → ⊥
  not_refused text inputs next (inl is) refused = refused.not_empty is.empty
  not_refused text inputs next (inr is) refused = refused.no_edit is.edit is.written is.may

  -- what a first line does
  pub record GoesOn (line : List ℕ) (lines : List (List ℕ)) (n : ℕ) (inputs : Inputs)
      (end : Result Inputs Stopped) : Type 0 where
    pub next : Inputs
    pub leads : LeadsTo g (strip_carriage_return line) inputs next
    pub rest : EditsGive g lines (n + 1) next end

  abbrev Stops : List ℕ → ℕ → Inputs → Result Inputs Stopped → Type 0
  Stops line n inputs end =
      IsRefused g (strip_carriage_return line) inputs × (end ≡ Err (record { line = n; left = inputs }))

  abbrev Does : List (List ℕ) → ℕ → Inputs → Result Inputs Stopped → Type 0
  Does [] n inputs end = end ≡ Ok inputs
  Does (line ∷ lines) n inputs end = GoesOn line lines n inputs end ⊎ Stops line n inputs end

  does : (lines : List (List ℕ)) (n : ℕ) (inputs : Inputs) (end : Result Inputs Stopped) →
      EditsGive g lines n inputs end → Does lines n inputs end
  does _ _ _ _ (ends n inputs) = refl
  does _ _ _ _ (follows line lines n inputs next end leads rest) = inl (record {
    next = next;
    leads = leads;
    rest = rest;
  })
  does _ _ _ _ (refuses line lines n inputs refused) = inr (refused, refl)

  no_stop : (kept : Inputs) (stop : Stopped) → ◌≡◌ {A = Result Inputs Stopped} (Ok kept) (Err stop) → ⊥
  no_stop kept stop is = absurd (cc)

  -- lines are followed to their end, or not
  not_both : (lines : List (List ℕ)) (n : ℕ) (inputs kept : Inputs) (stop : Stopped) →
      EditsGive g lines n inputs (Ok kept) → EditsGive g lines n inputs (Err stop) → ⊥
  not_both [] n inputs kept stop gives also =
      no_stop inputs stop (sym (does [] n inputs (Err stop) also))
  not_both (line ∷ lines) n inputs kept stop gives also =
      ⊎_elim
      (λ on.
      ⊎_elim
      (λ on_too.
      let same = one_next (strip_carriage_return line) inputs on.next on_too.next on.leads on_too.leads in
      not_both lines (n + 1) on.next kept stop on.rest
      (subst (λ (i : Inputs). EditsGive g lines (n + 1) i (Err stop)) (sym same) on_too.rest))
      (λ stopped. not_refused (strip_carriage_return line) inputs on.next on.leads stopped.0)
      (does (line ∷ lines) n inputs (Err stop) also))
      (λ stopped. no_stop kept (record { line = n; left = inputs }) stopped.1)
      (does (line ∷ lines) n inputs (Ok kept) gives)

pub edits_alike : (p : Plant) → IsSound p → (edits : List ℕ) (one other : Result Answer Refusal) →
    IsWhatIf p edits one → IsWhatIf p edits other → Ends one other
edits_alike p sound edits =
    let g = graph p in
    let few : jobs g < 2 ^ 64 = omega (arith, jobs-graph p, (HasSoundSizes-sound p sound).few_demands) in
    ways_alike (IsChange p edits) (IsRefusedLine g edits)
    (λ a is. text_done (changes_text is.page) a is.written)
    (λ a b is not.
    absurd (not_both g few (lines_of edits) 1 (inputs_of g) is.page.inputs
    (record { line = not.line; left = not.left }) is.edited.edited not.refused))
    (λ a b not nor. refused_alike 16 (NotEdited not.line) (NotEdited nor.line) a b not.says nor.says (inr refl)
    (inr refl))
