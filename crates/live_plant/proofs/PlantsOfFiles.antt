-- Where the store's files are known, the live plant of the steps is that of the files.
use Rattle.std.proofs.Common.{◌≡◌, ◌⊎◌, ℕ, Bool, List, [], ◌∷◌, ◌++◌, refl, ap, sym, ◌∙◌, subst, ⊎_elim, inl}
use Rattle.std.specs.Prelude.{Option, Some, None, Result, Ok, Err, IfOk, IfErr, OnOk, IsTrue, All, unwrap_or, ⊤}
use Rattle.std.proofs.lemmas.List.Elements.{All-nil, All-cons, All-head, All-tail}
use Rattle.event_graph.specs.Live.{IsLive}
use Rattle.line_base.specs.declared.event.Parts.{Parts}
use Rattle.outside_io.specs.Calls.{Read}
use Rattle.outside_io.specs.Contents.{Contents}
use Rattle.outside_io.specs.StoreView.{StoreView}
use Rattle.outside_io.specs.declared.store.StoreError.{StoreError}
use Rattle.outside_io.specs.declared.store.StoreError.TheVariants as store_error
use Rattle.plant_model.specs.declared.error.PlantError.{PlantError}
use Rattle.plant_model.specs.declared.plant.Plant.{Plant}
use Rattle.plant_model.specs.Graph.{graph}
use Rattle.plant_file.specs.declared.draft.DraftPlant.{DraftPlant}
use Rattle.plant_file.specs.Draft.{demands_file}
use Rattle.plant_file.specs.Finish.{completed_plant}
use Rattle.plant_file.specs.PlantOfFiles.{bytes_of, plant_of_reading, plant_of}
use Rattle.plant_file.specs.Reading.{reading}
use Rattle.live_plant.specs.declared.refusals.refusal.Refusal.{Refusal}
use Rattle.live_plant.specs.declared.refusals.refusal.Refusal.TheVariants.{Refused, Dead, StoreFault, NoMemory, TooLong}
use Rattle.live_plant.specs.LivePlant.{plant_in}
use Rattle.live_plant.specs.Outside.{StoreOver, store_over, Fits, IsOfFile, IsCaused}
use Rattle.live_plant.specs.Steps.{Step, Settles, Gives, AnswersRead, LooksAt, LooksAtNamed, GoesOn, Then, Makes}
use Rattle.live_plant.proofs.FileReads.{stopped, dead_caused, dead_answer}
use Rattle.live_plant.proofs.StepLemmas.{then_settles}
use Rattle.live_plant.specs.PlantSteps.{or_refused, OfDraft, OfBytes, OfPlantFile}
use Rattle.live_plant.specs.LiveSteps.{OfLivePlant, OfPlantNamed, IsDeadRefusal, IsLiveOrDead, IsOfPlant}
use Rattle.live_plant.specs.declared.live_plant.LivePlant.{LivePlant}

-- each of a list, and so each of its two parts
all_front : {X : Type 0} (P : X → Type 0) (xs ys : List X) → All P (xs ++ ys) → All P xs
all_front P [] ys all = All-nil P
all_front P (x ∷ xs) ys all =
    All-cons P x xs (All-head P x (xs ++ ys) all) (all_front P xs ys (All-tail P x (xs ++ ys) all))

all_back : {X : Type 0} (P : X → Type 0) (xs ys : List X) → All P (xs ++ ys) → All P ys
all_back P [] ys all = all
all_back P (x ∷ xs) ys all = all_back P xs ys (All-tail P x (xs ++ ys) all)

-- where each part of two steps leads
goes_on_leads : {A B : Type 0} (next : A → Step B) (Q : Result B Refusal → Type 0) (between : Result A Refusal) (after : List Read) (answer : Result B Refusal) → GoesOn next between after answer → ((refusal : Refusal) → between ≡ Err refusal → Q (Err refusal)) → ((x : A) → between ≡ Ok x → next x after answer → Q answer) → Q answer
goes_on_leads next Q (Ok x) after answer on stop go = go x refl on
goes_on_leads next Q (Err refusal) after answer on stop go = subst Q (sym on.1) (stop refusal refl)

pub then_leads : {A B : Type 0} (first : Step A) (next : A → Step B) (P : Read → Type 0) (Q : Result B Refusal → Type 0) (reads : List Read) (answer : Result B Refusal) → Then first next reads answer → All P reads → ((refusal : Refusal) (before : List Read) → All P before → first before (Err refusal) → Q (Err refusal)) → ((x : A) (before after : List Read) → All P before → All P after → first before (Ok x) → next x after answer → Q answer) → Q answer
then_leads {A} first next P Q reads answer both all stop go =
    let whole : All P (both.before ++ both.after) = subst (All P) both.split all in
    let front = all_front P both.before both.after whole in
    let back = all_back P both.before both.after whole in
    goes_on_leads next Q both.between both.after answer both.goes_on
    (λ refusal is. stop refusal both.before front (subst (λ (r : Result A Refusal). first both.before r) is both.answers))
    (λ x is on. go x both.before both.after front back (subst (λ (r : Result A Refusal). first both.before r) is both.answers) on)

-- the refusals to a read, and no memory
abbrev pub IsOfRead : Refusal → Type 0
IsOfRead (StoreFault file) = ⊤
IsOfRead (TooLong file) = ⊤
IsOfRead NoMemory = ⊤
IsOfRead other = ⊥

read_reply : (name : List ℕ) (given : Result (List ℕ) StoreError) (refusal : Refusal) → AnswersRead name given (Err refusal) → IsOfRead refusal
read_reply name (Ok bytes) refusal answers = absurd (cc)
read_reply name (Err store_error.Failed) refusal answers =
    ⊎_elim (λ is. let same : refusal ≡ StoreFault name = cc in subst IsOfRead (sym same) tt) (λ is. let same : refusal ≡ NoMemory = cc in subst IsOfRead (sym same) tt) answers
read_reply name (Err store_error.TooLong) refusal answers =
    ⊎_elim (λ is. let same : refusal ≡ TooLong name = cc in subst IsOfRead (sym same) tt) (λ is. let same : refusal ≡ NoMemory = cc in subst IsOfRead (sym same) tt) answers
read_reply name (Err store_error.NoMemory) refusal answers =
    let same : refusal ≡ NoMemory = cc in subst IsOfRead (sym same) tt

-- the plant that is read is this one, and its refusal this refusal
abbrev pub AgreesWith : Result Plant PlantError → Result Plant Refusal → Type 0
AgreesWith W (Ok p) = W ≡ Ok p
AgreesWith W (Err (Refused error)) = W ≡ Err error
AgreesWith W (Err other) = IsOfRead other

pub agrees_read : (W : Result Plant PlantError) (refusal : Refusal) → IsOfRead refusal → AgreesWith W (Err refusal)
agrees_read W (StoreFault file) is = tt
agrees_read W (TooLong file) is = tt
agrees_read W NoMemory is = tt
agrees_read W (Refused error) is = absurd is
agrees_read W other is = is

agrees_memory : (W : Result Plant PlantError) (answer : Result Plant Refusal) → answer ≡ Err NoMemory → AgreesWith W answer
agrees_memory W answer is = subst (AgreesWith W) (sym is) tt

agrees_refused : (r : Result Plant PlantError) → AgreesWith r (or_refused r)
agrees_refused (Ok p) = refl
agrees_refused (Err error) = refl

draft_read : (r : Result DraftPlant PlantError) (d : DraftPlant) → Ok d ≡ or_refused r → r ≡ Ok d
draft_read (Ok e) d is = cc
draft_read (Err error) d is = cc

-- and so it is said of a plant that is live, or has a circuit without a token
pub agrees_of_plant : (W : Result Plant PlantError) (refusal : Refusal) → AgreesWith W (Err refusal) → IsOfPlant W (Err refusal)
agrees_of_plant W (Refused error) is = is
agrees_of_plant W (Dead labels) is = absurd is
agrees_of_plant W other is = tt

live_or_dead : (W : Result Plant PlantError) (p : Plant) (answer : Result Plant Refusal) → W ≡ Ok p → IsLiveOrDead p answer → IsOfPlant W answer
live_or_dead W p (Ok same) is live = is ∙ ap Ok (sym live.0)
live_or_dead W p (Err (Dead labels)) is dead = (p, is, dead)
live_or_dead W p (Err other) is dead = absurd dead

module _ (store : StoreOver) (known : IsTrue store.tells) where
  abbrev files : Contents
  files = store.old.files

  abbrev pub Held : Read → Type 0
  Held = IsOfFile store

  given_held : (name : List ℕ) (given : Result (List ℕ) StoreError) (bytes : List ℕ) → AnswersRead name given (Ok bytes) → Fits store.tells files name given → files name ≡ Some bytes
  given_held name (Ok own) bytes answers fits = let same : own ≡ bytes = cc in fits.1 known ∙ ap Some same
  given_held name (Err store_error.Failed) bytes answers fits = ⊎_elim (λ is. absurd (cc)) (λ is. absurd (cc)) answers
  given_held name (Err store_error.TooLong) bytes answers fits = ⊎_elim (λ is. absurd (cc)) (λ is. absurd (cc)) answers
  given_held name (Err store_error.NoMemory) bytes answers fits = absurd (cc)

  -- the bytes of a read are those of the file
  pub looked : (name : List ℕ) (reads : List Read) (bytes : List ℕ) → LooksAt name reads (Ok bytes) → All Held reads → files name ≡ Some bytes
  looked name reads bytes looks all =
      let read : Read = record { name = name; answer = looks.given } in
      given_held name looks.given bytes looks.answers (All-head Held read [] (subst (All Held) looks.one all))

  pub looked_reply : (name : List ℕ) (reads : List Read) (refusal : Refusal) → LooksAt name reads (Err refusal) → IsOfRead refusal
  looked_reply name reads refusal looks = read_reply name looks.given refusal looks.answers

  -- and of a read where a file is named
  abbrev IsNamed : Option (List ℕ) → Result (Option (List ℕ)) Refusal → Type 0
  IsNamed name (Ok bytes) = bytes ≡ bytes_of files name
  IsNamed name (Err refusal) = IsOfRead refusal

  named_some : (name : List ℕ) (bytes : List ℕ) (answer : Result (Option (List ℕ)) Refusal) → files name ≡ Some bytes → (answer ≡ Ok (Some bytes)) ⊎ (answer ≡ Err NoMemory) → IsNamed (Some name) answer
  named_some name bytes answer held is =
      ⊎_elim
      (λ same. subst (IsNamed (Some name)) (sym same) (ap (λ (o : Option (List ℕ)). Some (unwrap_or o [])) (sym held)))
      (λ none. subst (IsNamed (Some name)) (sym none) tt)
      is

  named : (name : Option (List ℕ)) (reads : List Read) (answer : Result (Option (List ℕ)) Refusal) → LooksAtNamed name reads answer → All Held reads → IsNamed name answer
  named None reads answer looks all =
      ⊎_elim (λ same. subst (IsNamed None) (sym same) refl) (λ none. subst (IsNamed None) (sym none) tt) looks.1
  named (Some name) reads answer looks all =
      then_leads (LooksAt name) (λ bytes. Gives (Ok (Some bytes))) Held (IsNamed (Some name)) reads answer looks all
      (λ refusal before held stops. looked_reply name before refusal stops)
      (λ bytes before after held rest reads_it gives. named_some name bytes answer (looked name before bytes reads_it held) gives.1)

  -- the plant of a draft
  of_draft : (d : DraftPlant) (reads : List Read) (answer : Result Plant Refusal) → OfDraft d reads answer → All Held reads → AgreesWith (completed_plant d (bytes_of files (demands_file d)) (bytes_of files d.times_file)) answer
  of_draft d reads answer steps all =
      let W = completed_plant d (bytes_of files (demands_file d)) (bytes_of files d.times_file) in
      then_leads (LooksAtNamed (demands_file d)) (λ demands. Then (LooksAtNamed d.times_file) (λ times. Gives (or_refused (completed_plant d demands times)))) Held (AgreesWith W) reads answer steps all
      (λ refusal before held stops. agrees_read W refusal (named (demands_file d) before (Err refusal) stops held))
      (λ demands before after held rest first next.
      then_leads (LooksAtNamed d.times_file) (λ times. Gives (or_refused (completed_plant d demands times))) Held (AgreesWith W) after answer next rest
      (λ refusal before held stops. agrees_read W refusal (named d.times_file before (Err refusal) stops held))
      (λ times later end held_times none second gives.
      let own : completed_plant d demands times ≡ W = ap (λ (o : Option (List ℕ)). completed_plant d o times) (named (demands_file d) before (Ok demands) first held) ∙ ap (λ (o : Option (List ℕ)). completed_plant d (bytes_of files (demands_file d)) o) (named d.times_file later (Ok times) second held_times) in
      ⊎_elim
      (λ same. subst (AgreesWith W) (sym same) (subst (λ (r : Result Plant PlantError). AgreesWith W (or_refused r)) (sym own) (agrees_refused W)))
      (λ no_memory. agrees_memory W answer no_memory)
      gives.1))

  -- no memory for a draft
  no_draft : (W : Result Plant PlantError) (refusal : Refusal) → stopped {A = DraftPlant} refusal ≡ stopped NoMemory → AgreesWith W (Err refusal)
  no_draft W refusal none = let same : refusal ≡ NoMemory = cc in subst (λ v. AgreesWith W (Err v)) (sym same) tt

  -- the refusal to bytes that are no draft
  refused_reading : (r : Result DraftPlant PlantError) (refusal : Refusal) → Err refusal ≡ or_refused r → AgreesWith (plant_of_reading files r) (Err refusal)
  refused_reading (Ok d) refusal is = absurd (cc)
  refused_reading (Err error) refusal is = let same : refusal ≡ Refused error = cc in subst (λ v. AgreesWith (Err error) (Err v)) (sym same) refl

  -- the plant of bytes
  of_bytes : (bytes : List ℕ) (reads : List Read) (answer : Result Plant Refusal) → Then (OfBytes bytes) OfDraft reads answer → All Held reads → AgreesWith (plant_of_reading files (reading bytes)) answer
  of_bytes bytes reads answer steps all =
      let W = plant_of_reading files (reading bytes) in
      then_leads (OfBytes bytes) OfDraft Held (AgreesWith W) reads answer steps all
      (λ refusal before held stops. ⊎_elim (refused_reading (reading bytes) refusal) (λ none. no_draft W refusal none) stops.1)
      (λ d before after held rest first next.
      ⊎_elim
      (λ same. subst (λ (r : Result DraftPlant PlantError). AgreesWith (plant_of_reading files r) answer) (sym (draft_read (reading bytes) d same)) (of_draft d after answer next rest))
      (λ none. absurd (cc))
      first.1)

  -- the plant of a plant file
  of_plant_file : (name : List ℕ) (reads : List Read) (answer : Result Plant Refusal) → OfPlantFile name reads answer → All Held reads → AgreesWith (plant_of name files) answer
  unfolding plant_of
  of_plant_file name reads answer steps all =
      let W = plant_of_reading files (reading (unwrap_or (files name) [])) in
      then_leads (LooksAt name) (λ bytes. Then (OfBytes bytes) OfDraft) Held (AgreesWith W) reads answer steps all
      (λ refusal before held stops. agrees_read W refusal (looked_reply name before refusal stops))
      (λ bytes before after held rest first next.
      subst (λ (o : Option (List ℕ)). AgreesWith (plant_of_reading files (reading (unwrap_or o []))) answer) (sym (looked name before bytes first held)) (of_bytes bytes after answer next rest))

  -- the live plant of a plant file
  pub of_live_plant : (name : List ℕ) (reads : List Read) (answer : Result Plant Refusal) → OfLivePlant name reads answer → All Held reads → IsOfPlant (plant_of name files) answer
  of_live_plant name reads answer steps all =
      let W = plant_of name files in
      then_leads (OfPlantFile name) (λ p. Settles (IsLiveOrDead p)) Held (IsOfPlant W) reads answer steps all
      (λ refusal before held stops. agrees_of_plant W refusal (of_plant_file name before (Err refusal) stops held))
      (λ p before after held rest first next.
      ⊎_elim
      (λ live. live_or_dead W p answer (of_plant_file name before (Ok p) first held) live)
      (λ none. subst (IsOfPlant W) (sym none) tt)
      next.1)

-- a store that makes the steps of a live plant makes them of the plant that is named
pub makes_named : (tells : Bool) (old new : StoreView) (name : List ℕ) (answer : Result Plant Refusal) → Makes (store_over tells old new) (OfLivePlant name) answer → Makes (store_over tells old new) (OfPlantNamed tells old.files name) answer
makes_named tells old new name answer m = record {
  reads = m.reads;
  asked = m.asked;
  of_files = m.of_files;
  answers = record { answers = m.answers; of_files = λ known. of_live_plant (store_over tells old new) known name m.reads answer m.answers m.of_files };
  caused = m.caused;
  files_stay = m.files_stay;
  read_faults_stay_or_rise = m.read_faults_stay_or_rise;
  write_faults_stay_or_rise = m.write_faults_stay_or_rise;
}

-- a plant that was read, which is live or has a circuit without a token
live_answers : (p : Plant) (r : Result LivePlant Refusal) → IfOk r (λ line. line.plant ≡ p) → OnOk r (IsLive (graph p)) → IfErr r (λ refusal. IsDeadRefusal (graph p) refusal ⊎ (refusal ≡ NoMemory)) → IsLiveOrDead p (plant_in r) ⊎ (plant_in r ≡ Err NoMemory)
live_answers p (Ok line) same live dead = inl (same, live)
live_answers p (Err refusal) same live dead = dead_answer p refusal dead

live_caused : (store : StoreOver) (g : Parts) (r : Result LivePlant Refusal) → IfErr r (λ refusal. IsDeadRefusal g refusal ⊎ (refusal ≡ NoMemory)) → IfErr (plant_in r) (IsCaused store)
live_caused store g (Ok line) dead = tt
live_caused store g (Err refusal) dead = dead_caused store g refusal dead

pub makes_live : (tells : Bool) (old new : StoreView) (name : List ℕ) (p : Plant) (r : Result LivePlant Refusal) → Makes (store_over tells old new) (OfPlantFile name) (Ok p) → IfOk r (λ line. line.plant ≡ p) → OnOk r (IsLive (graph p)) → IfErr r (λ refusal. IsDeadRefusal (graph p) refusal ⊎ (refusal ≡ NoMemory)) → Makes (store_over tells old new) (OfPlantNamed tells old.files name) (plant_in r)
makes_live tells old new name p r reads same live dead =
    makes_named tells old new name (plant_in r)
    (then_settles tells old new (OfPlantFile name) IsLiveOrDead p (plant_in r) reads (live_answers p r same live dead) (live_caused (store_over tells new new) (graph p) r dead))
