-- Steps that are made twice over the same files answer alike, but for what nobody's words and files decide.
use Rattle.std.proofs.Common.{◌≡◌, ◌⊎◌, ℕ, Bool, List, [], ◌++◌, length, refl, sym, ◌∙◌, subst, inl, inr}
use Rattle.std.specs.Prelude.{Option, Some, None, Result, Ok, Err, IsTrue, All, ⊤}
use Rattle.std.proofs.Math.Seq.{take-append_seam}
use Rattle.std.proofs.lemmas.List.Elements.{All-head, All-take}
use Rattle.outside_io.specs.Calls.{Read, none_asked}
use Rattle.outside_io.specs.Contents.{Contents, IsLongerThan}
use Rattle.outside_io.specs.StoreView.{StoreView}
use Rattle.outside_io.specs.declared.store.StoreError.{StoreError}
use Rattle.outside_io.specs.declared.store.StoreError.TheVariants as store_error
use Rattle.event_graph.specs.Live.{IsLive}
use Rattle.plant_file.specs.Draft.{demands_file}
use Rattle.plant_file.specs.Reading.{reading}
use Rattle.plant_file.specs.declared.draft.DraftPlant.{DraftPlant}
use Rattle.plant_file.specs.Finish.{completed_plant}
use Rattle.plant_file.specs.PlantOfFiles.{bytes_at}
use Rattle.plant_model.specs.declared.plant.Plant.{Plant}
use Rattle.plant_model.specs.Graph.{graph}
use Rattle.plant_model.specs.Sound.{IsSound}
use Rattle.live_plant.specs.Refusal.{status_of}
use Rattle.live_plant.specs.declared.refusals.refusal.Refusal.{Refusal}
use Rattle.live_plant.specs.declared.refusals.refusal.Refusal.TheVariants.{Dead, NoMemory, StoreFault, TooLong}
use Rattle.live_plant.specs.Outside.{limit_of, Fits, store_over}
use Rattle.live_plant.specs.PlantSteps.{or_refused, OfDraft, OfBytes, OfPlantFile}
use Rattle.live_plant.specs.LiveSteps.{IsLiveOrDead, OfLivePlant}
use Rattle.live_plant.specs.Steps.{Step, Settles, Gives, AnswersRead, LooksAt, LooksAtNamed, Then}
use Rattle.live_plant.proofs.OneReading.{not_dead, read_live}
use Rattle.live_plant.proofs.PlantsOfFiles.{then_leads, of_live_plant}
use Rattle.pull_laws.specs.Verdicts.{IsFree}
use Rattle.pull_laws.proofs.FileNames.{reading_sound}
use Rattle.pull_laws.proofs.ShortFiles.{IsShort, short_bytes}
use Rattle.pull_laws.proofs.SoundFiles.{plant_of-sound}

-- a read of files that are known gave what its file holds
abbrev pub IsHeld : Bool → Contents → Read → Type 0
IsHeld tells files read = Fits tells files read.name read.answer

-- an answer that is a free refusal
abbrev pub IsFreeAnswer : {A : Type 0} → Result A Refusal → Type 0
IsFreeAnswer (Ok x) = ⊥
IsFreeAnswer (Err refusal) = IsFree refusal

-- two answers with values that fit, or with refusals of one status
abbrev pub Fit : {A : Type 0} → (A → A → Type 0) → Result A Refusal → Result A Refusal → Type 0
Fit E (Ok x) (Ok y) = E x y
Fit E (Err one) (Err other) = status_of one ≡ status_of other
Fit E one other = ⊥

-- two answers are alike, or one of them is a free refusal
abbrev pub AreAlike : {A : Type 0} → (A → A → Type 0) → Result A Refusal → Result A Refusal → Type 0
AreAlike E one other = IsFreeAnswer one ⊎ (IsFreeAnswer other ⊎ Fit E one other)

-- out of memory is free
pub memory_free : {A : Type 0} (answer : Result A Refusal) → answer ≡ Err NoMemory → IsFreeAnswer answer
memory_free answer none = subst IsFreeAnswer (sym none) tt

-- refusals that are alike end a command alike
stops_alike : (A : Type 0) {B : Type 0} (one other : Refusal) (F : B → B → Type 0) →
    AreAlike {A = A} (λ x y. x ≡ y) (Err one) (Err other) → AreAlike F (Err one) (Err other)
stops_alike A one other F (inl free) = inl free
stops_alike A one other F (inr (inl free)) = inr (inl free)
stops_alike A one other F (inr (inr same)) = inr (inr same)

-- a refusal beside a value is free
first_free : {A B : Type 0} (one : Refusal) (y : A) (F : B → B → Type 0) (other : Result B Refusal) →
    AreAlike {A = A} (λ x y. x ≡ y) (Err one) (Ok y) → AreAlike F (Err one) other
first_free one y F other (inl free) = inl free
first_free one y F other (inr (inl free)) = absurd free
first_free one y F other (inr (inr same)) = absurd same

second_free : {A B : Type 0} (x : A) (other : Refusal) (F : B → B → Type 0) (one : Result B Refusal) →
    AreAlike {A = A} (λ x y. x ≡ y) (Ok x) (Err other) → AreAlike F one (Err other)
second_free x other F one (inl free) = absurd free
second_free x other F one (inr (inl free)) = inr (inl free)
second_free x other F one (inr (inr same)) = absurd same

same_value : {A : Type 0} (x y : A) → AreAlike {A = A} (λ x y. x ≡ y) (Ok x) (Ok y) → x ≡ y
same_value x y (inl free) = absurd free
same_value x y (inr (inl free)) = absurd free
same_value x y (inr (inr same)) = same

-- one answer is like itself
like_itself : {A : Type 0} (answer : Result A Refusal) → Fit (λ x y. x ≡ y) answer answer
like_itself (Ok x) = refl
like_itself (Err refusal) = refl

-- so are two that are one
pub gives_alike : {A : Type 0} (want one other : Result A Refusal) → one ≡ want → other ≡ want →
    AreAlike (λ (x y : A). x ≡ y) one other
gives_alike {A} want one other is also =
    subst (λ (a : Result A Refusal). AreAlike (λ (x y : A). x ≡ y) a other) (sym is)
    (subst (λ (b : Result A Refusal). AreAlike (λ (x y : A). x ≡ y) want b) (sym also) (inr (inr (like_itself want))))

-- the refusal of a dead circuit
pub dead_status : (p : Plant) (refusal : Refusal) → IsLiveOrDead p (Err refusal) → status_of refusal ≡ 4
dead_status p (Dead labels) is = refl
dead_status p other is = absurd is

pub live_not_dead : (p : Plant) (refusal : Refusal) → IsLive (graph p) → IsLiveOrDead p (Err refusal) → ⊥
live_not_dead p (Dead labels) live is = not_dead p labels live is
live_not_dead p other live is = absurd is

-- the read of a file: its bytes, or that it is too long, or a free refusal
pub record IsRead (files : Contents) (name : List ℕ) (bytes : List ℕ) : Type 0 where
  pub short : IsShort files name
  pub held : files name ≡ Some bytes

abbrev pub Says : Contents → List ℕ → Result (List ℕ) Refusal → Type 0
Says files name (Ok bytes) = IsRead files name bytes
Says files name (Err refusal) = IsFree refusal ⊎ ((status_of refusal ≡ 10) × IsLongerThan (limit_of name) (files name))

too_long : (files : Contents) (name : List ℕ) (answer : Result (List ℕ) Refusal) →
    IsLongerThan (limit_of name) (files name) → (answer ≡ Err (TooLong name)) ⊎ (answer ≡ Err NoMemory) →
    Says files name answer
too_long files name answer longer (inl is) = subst (Says files name) (sym is) (inr (refl, longer))
too_long files name answer longer (inr none) = subst (Says files name) (sym none) (inl tt)

faulty : (files : Contents) (name : List ℕ) (answer : Result (List ℕ) Refusal) →
    (answer ≡ Err (StoreFault name)) ⊎ (answer ≡ Err NoMemory) → Says files name answer
faulty files name answer (inl is) = subst (Says files name) (sym is) (inl tt)
faulty files name answer (inr none) = subst (Says files name) (sym none) (inl tt)

read_says : (tells : Bool) (files : Contents) → IsTrue tells →
    (name : List ℕ) (given : Result (List ℕ) StoreError) (answer : Result (List ℕ) Refusal) →
    AnswersRead name given answer → Fits tells files name given → Says files name answer
read_says tells files known name (Ok bytes) answer is fits =
    subst (Says files name) (sym is) (record {
      short = short_bytes files name bytes (fits.1 known) fits.0;
      held = fits.1 known;
    })
read_says tells files known name (Err store_error.Failed) answer is fits = faulty files name answer is
read_says tells files known name (Err store_error.TooLong) answer is fits = too_long files name answer (fits known) is
read_says tells files known name (Err store_error.NoMemory) answer is fits = subst (Says files name) (sym is) (inl tt)

look_says : (tells : Bool) (files : Contents) → IsTrue tells →
    (name : List ℕ) (reads : List Read) (answer : Result (List ℕ) Refusal) → LooksAt name reads answer →
    All (IsHeld tells files) reads → Says files name answer
look_says tells files known name reads answer looks all =
    let read : Read = record { name = name; answer = looks.given } in
    read_says tells files known name looks.given answer looks.answers
    (All-head (IsHeld tells files) read [] (subst (All (IsHeld tells files)) looks.one all))

one_content : (o : Option (List ℕ)) (xs ys : List ℕ) → o ≡ Some xs → o ≡ Some ys → xs ≡ ys
one_content o xs ys is also = cc

-- each of a list, and so each of its first part
pub all_of_front : {X : Type 0} (P : X → Type 0) (xs ys : List X) → All P (xs ++ ys) → All P xs
all_of_front P xs ys all = subst (All P) (take-append_seam xs ys) (All-take P (length xs) (xs ++ ys) all)

-- a sound plant with a live graph
pub record IsSoundAndLive (p : Plant) : Type 0 where
  pub sound : IsSound p
  pub live : IsLive (graph p)

-- so is the plant that is answered over files that are known
pub plant_known : (tells : Bool) (files : Contents) → IsTrue tells → (name : List ℕ) (reads : List Read) (p : Plant) →
    OfLivePlant name reads (Ok p) → All (IsHeld tells files) reads → IsSoundAndLive p
plant_known tells files known name reads p steps all =
    let view : StoreView = record {
      files = files;
      read_faults = λ q. 0;
      write_faults = λ q. 0;
      taken = 0;
      asked = none_asked;
    } in
    let is = of_live_plant (store_over tells view view) known name reads (Ok p) steps all in
    record {
      sound = plant_of-sound name files p (reading_sound (bytes_at files name)) is;
      live = (read_live name reads p steps).live;
    }

-- stores that are known to have the same files
module _ (tells_one : Bool) (files_one : Contents) (known_one : IsTrue tells_one) (tells_other : Bool)
    (files_other : Contents) (known_other : IsTrue tells_other)
    (same : (q : List ℕ) → files_one q ≡ files_other q) where
  -- a step that answers alike over both
  abbrev pub Agrees : {A : Type 0} → (A → A → Type 0) → Step A → Type 0
  Agrees {A} E step =
      (reads more : List Read) (one other : Result A Refusal) → step reads one →
      All (IsHeld tells_one files_one) reads → step more other →
      All (IsHeld tells_other files_other) more → AreAlike E one other

  -- a next step may rest on what is known of the value of the first
  pub then_agrees_where : {A B : Type 0} (K : A → Type 0) (F : B → B → Type 0) (first : Step A) (next : A → Step B) →
      Agrees (λ x y. x ≡ y) first → ((before : List Read) (x : A) → first before (Ok x) →
      All (IsHeld tells_one files_one) before → K x) → ((x : A) → K x → Agrees F (next x)) → Agrees F (Then first next)
  then_agrees_where {A} {B} K F first next agrees knows go reads more one other both all both_other all_other =
      then_leads first next (IsHeld tells_one files_one)
      (λ (a : Result B Refusal). AreAlike F a other) reads one both all
      (λ refusal before held stops.
      then_leads first next (IsHeld tells_other files_other)
      (λ (b : Result B Refusal). AreAlike F (Err refusal) b) more other both_other all_other
      (λ also early held_early stops_too.
      stops_alike A {B = B} refusal also F (agrees before early (Err refusal)
      (Err also) stops held stops_too held_early))
      (λ y early late held_early held_late answers on.
      first_free {A = A} {B = B} refusal y F other (agrees before early (Err refusal)
      (Ok y) stops held answers held_early)))
      (λ x before after held rest answers on.
      then_leads first next (IsHeld tells_other files_other)
      (λ (b : Result B Refusal). AreAlike F one b) more other both_other all_other
      (λ also early held_early stops_too.
      second_free {A = A} {B = B} x also F one (agrees before early (Ok x)
      (Err also) answers held stops_too held_early))
      (λ y early late held_early held_late answers_too on_too.
      let is : x ≡ y = same_value x y (agrees before early (Ok x) (Ok y) answers held answers_too held_early) in
      go x (knows before x answers held) after late one other on rest
      (subst (λ (v : A). next v late other) (sym is) on_too) held_late))

  pub then_agrees : {A B : Type 0} (F : B → B → Type 0) (first : Step A) (next : A → Step B) →
      Agrees (λ x y. x ≡ y) first → ((x : A) → Agrees F (next x)) → Agrees F (Then first next)
  then_agrees {A} {B} F first next agrees go =
      then_agrees_where {A = A} {B = B} (λ x. ⊤) F first next agrees (λ before x answers held. tt) (λ x known. go x)

  -- what settles
  settled : {A : Type 0} (E : A → A → Type 0) (P : Result A Refusal → Type 0) (one other : Result A Refusal) →
      (P one → P other → AreAlike E one other) → P one ⊎ (one ≡ Err NoMemory) → P other ⊎ (other ≡ Err NoMemory) →
      AreAlike E one other
  settled E P one other alike (inl is) (inl also) = alike is also
  settled E P one other alike (inl is) (inr none) = inr (inl (memory_free other none))
  settled E P one other alike (inr none) also = inl (memory_free one none)

  pub settles_agrees : {A : Type 0} (E : A → A → Type 0) (P : Result A Refusal → Type 0) →
      ((one other : Result A Refusal) → P one → P other → AreAlike E one other) → Agrees E (Settles P)
  settles_agrees E P alike reads more one other is all also all_other =
      settled E P one other (alike one other) is.1 also.1

  gives_agrees : {A : Type 0} (want : Result A Refusal) → Agrees (λ (x y : A). x ≡ y) (Gives want)
  gives_agrees {A} want = settles_agrees (λ (x y : A). x ≡ y) (λ answer. answer ≡ want) (gives_alike want)

  said_alike : (name : List ℕ) (one other : Result (List ℕ) Refusal) → Says files_one name one →
      Says files_other name other → AreAlike (λ (x y : List ℕ). x ≡ y) one other
  said_alike name (Ok x) (Ok y) is also =
      inr (inr (one_content (files_other name) x y (sym (same name) ∙ is.held) also.held))
  said_alike name (Ok x) (Err other) is (inl free) = inr (inl free)
  said_alike name (Ok x) (Err other) is (inr long) =
      absurd (is.short (subst (IsLongerThan (limit_of name)) (sym (same name)) long.1))
  said_alike name (Err one) other (inl free) also = inl free
  said_alike name (Err one) (Ok y) (inr long) also =
      absurd (also.short (subst (IsLongerThan (limit_of name)) (same name) long.1))
  said_alike name (Err one) (Err other) (inr long) (inl free) = inr (inl free)
  said_alike name (Err one) (Err other) (inr long) (inr also) = inr (inr (long.0 ∙ sym also.0))

  pub look_agrees : (name : List ℕ) → Agrees (λ (x y : List ℕ). x ≡ y) (LooksAt name)
  look_agrees name reads more one other looks all looks_too all_other =
      said_alike name one other (look_says tells_one files_one known_one name reads one looks all)
      (look_says tells_other files_other known_other name more other looks_too all_other)

  pub named_agrees : (name : Option (List ℕ)) → Agrees (λ (x y : Option (List ℕ)). x ≡ y) (LooksAtNamed name)
  named_agrees None = gives_agrees {A = Option (List ℕ)} (Ok None)
  named_agrees (Some name) =
      then_agrees {A = List ℕ} {B = Option (List ℕ)} (λ (x y : Option (List ℕ)). x ≡ y) (LooksAt name)
      (λ bytes. Gives (Ok (Some bytes))) (look_agrees name)
      (λ bytes. gives_agrees {A = Option (List ℕ)} (Ok (Some bytes)))

  -- the draft, the plant and the live plant
  draft_agrees : (d : DraftPlant) → Agrees (λ (x y : Plant). x ≡ y) (OfDraft d)
  draft_agrees d =
      then_agrees {A = Option (List ℕ)} {B = Plant} (λ (x y : Plant). x ≡ y) (LooksAtNamed (demands_file d))
      (λ demands. Then (LooksAtNamed d.times_file) (λ times. Gives (or_refused (completed_plant d demands times))))
      (named_agrees (demands_file d))
      (λ demands.
      then_agrees {A = Option (List ℕ)} {B = Plant} (λ (x y : Plant). x ≡ y) (LooksAtNamed d.times_file)
      (λ times. Gives (or_refused (completed_plant d demands times))) (named_agrees d.times_file)
      (λ times. gives_agrees {A = Plant} (or_refused (completed_plant d demands times))))

  file_agrees : (name : List ℕ) → Agrees (λ (x y : Plant). x ≡ y) (OfPlantFile name)
  file_agrees name =
      then_agrees {A = List ℕ} {B = Plant} (λ (x y : Plant). x ≡ y) (LooksAt name)
      (λ bytes. Then (OfBytes bytes) OfDraft) (look_agrees name)
      (λ bytes.
      then_agrees {A = DraftPlant} {B = Plant} (λ (x y : Plant). x ≡ y) (OfBytes bytes) OfDraft
      (gives_agrees {A = DraftPlant} (or_refused (reading bytes))) draft_agrees)

  live_alike : (p : Plant) (one other : Result Plant Refusal) → IsLiveOrDead p one → IsLiveOrDead p other →
      AreAlike (λ (x y : Plant). x ≡ y) one other
  live_alike p (Ok x) (Ok y) is also = inr (inr (is.0 ∙ sym also.0))
  live_alike p (Ok x) (Err other) is also = absurd (live_not_dead p other is.1 also)
  live_alike p (Err one) (Ok y) is also = absurd (live_not_dead p one also.1 is)
  live_alike p (Err one) (Err other) is also = inr (inr (dead_status p one is ∙ sym (dead_status p other also)))

  pub live_agrees : (name : List ℕ) → Agrees (λ (x y : Plant). x ≡ y) (OfLivePlant name)
  live_agrees name =
      then_agrees {A = Plant} {B = Plant} (λ (x y : Plant). x ≡ y) (OfPlantFile name) (λ p. Settles (IsLiveOrDead p))
      (file_agrees name)
      (λ p. settles_agrees (λ (x y : Plant). x ≡ y) (IsLiveOrDead p) (live_alike p))
