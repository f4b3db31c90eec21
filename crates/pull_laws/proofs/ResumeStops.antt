-- For which reasons a command ends before its live plant is there, or its own file, over files that are known,
-- none of which is longer than it may be.
use Rattle.std.proofs.Common.{◌≡◌, ◌⊎◌, ℕ, List, [], sym, subst, inl, inr}
use Rattle.std.specs.Prelude.{Option, Some, None, Result, Ok, Err, IfErr, IfSome, IsTrue, All}
use Rattle.std.proofs.lemmas.List.Elements.{All-head}
use Rattle.outside_io.specs.Calls.{Read}
use Rattle.outside_io.specs.declared.store.StoreError.{StoreError}
use Rattle.outside_io.specs.declared.store.StoreError.TheVariants as store_error
use Rattle.plant_file.specs.Draft.{demands_file}
use Rattle.plant_file.specs.Reading.{reading}
use Rattle.plant_file.specs.declared.draft.DraftPlant.{DraftPlant}
use Rattle.plant_file.specs.Finish.{completed_plant}
use Rattle.plant_model.specs.declared.error.PlantError.{PlantError}
use Rattle.plant_model.specs.declared.plant.Plant.{Plant}
use Rattle.live_plant.specs.declared.refusals.refusal.Refusal.{Refusal}
use Rattle.live_plant.specs.declared.refusals.refusal.Refusal.TheVariants.{Dead, NoMemory, Refused, StoreFault}
use Rattle.live_plant.specs.Outside.{StoreOver, Fits, IsOfFile}
use Rattle.live_plant.specs.PlantSteps.{or_refused, OfDraft, OfBytes, OfPlantFile}
use Rattle.live_plant.specs.LiveSteps.{IsLiveOrDead, OfLivePlant}
use Rattle.live_plant.specs.Steps.{Step, Settles, Gives, AnswersRead, LooksAt, LooksAtNamed, Then}
use Rattle.live_plant.proofs.PlantsOfFiles.{then_leads, looked}
use Rattle.pull_laws.proofs.ShortFiles.{IsShort, NamesShort, IsShortPlant, drafted, reading_at}

-- reasons among which are those of a read
module _ (store : StoreOver) (known : IsTrue store.tells) (Q : Refusal → Type 0)
    (fault : (file : List ℕ) → Q (StoreFault file)) (memory : Q NoMemory) where
  abbrev Held : Read → Type 0
  Held = IsOfFile store

  -- it is a reason, where it is another refusal that is one
  stops_as : (refusal other : Refusal) → refusal ≡ other → Q other → Q refusal
  stops_as refusal other is stops = subst Q (sym is) stops

  -- a step that ends a command for these reasons alone
  abbrev pub OnlyStops : {A : Type 0} → Step A → Type 0
  OnlyStops step = (reads : List Read) (refusal : Refusal) → step reads (Err refusal) → All Held reads → Q refusal

  then_stops : {A B : Type 0} (first : Step A) (next : A → Step B) → OnlyStops first →
      ((x : A) (before : List Read) → first before (Ok x) → All Held before → OnlyStops (next x)) →
      OnlyStops (Then first next)
  then_stops {A} {B} first next stop go reads refusal both all =
      then_leads first next Held (λ (answer : Result B Refusal). IfErr answer Q) reads (Err refusal) both all
      (λ r before held stops. stop before r stops held)
      (λ x before after held rest answers on. go x before answers held after refusal on rest)

  settled_stops : {A : Type 0} (P : Result A Refusal → Type 0) → ((refusal : Refusal) → P (Err refusal) → Q refusal) →
      (refusal : Refusal) → P (Err refusal) ⊎ (◌≡◌ {A = Result A Refusal} (Err refusal) (Err NoMemory)) → Q refusal
  settled_stops P stops refusal (inl is) = stops refusal is
  settled_stops P stops refusal (inr wanting) =
      let same : refusal ≡ NoMemory = cc in stops_as refusal NoMemory same memory

  settles_stops : {A : Type 0} (P : Result A Refusal → Type 0) → ((refusal : Refusal) → P (Err refusal) → Q refusal) →
      OnlyStops (Settles P)
  settles_stops {A} P stops reads refusal settled all = settled_stops P stops refusal settled.1

  -- the read of a file
  fault_stops : (other : Refusal) → Q other → (refusal : Refusal) →
      (◌≡◌ {A = Result (List ℕ) Refusal} (Err refusal) (Err other)) ⊎
      (◌≡◌ {A = Result (List ℕ) Refusal} (Err refusal) (Err NoMemory)) → Q refusal
  fault_stops other stops refusal (inl is) = let same : refusal ≡ other = cc in stops_as refusal other same stops
  fault_stops other stops refusal (inr wanting) =
      let same : refusal ≡ NoMemory = cc in stops_as refusal NoMemory same memory

  read_stops : (name : List ℕ) (given : Result (List ℕ) StoreError) (refusal : Refusal) → IsShort store.old.files name →
      AnswersRead name given (Err refusal) → Fits store.tells store.old.files name given → Q refusal
  read_stops name (Ok bytes) refusal short answers fits = absurd (cc)
  read_stops name (Err store_error.Failed) refusal short answers fits =
      fault_stops (StoreFault name) (fault name) refusal answers
  read_stops name (Err store_error.TooLong) refusal short answers fits = absurd (short (fits known))
  read_stops name (Err store_error.NoMemory) refusal short answers fits =
      let same : refusal ≡ NoMemory = cc in stops_as refusal NoMemory same memory

  pub look_stops : (name : List ℕ) → IsShort store.old.files name → OnlyStops (LooksAt name)
  look_stops name short reads refusal looks all =
      let read : Read = record { name = name; answer = looks.given } in
      read_stops name looks.given refusal short looks.answers (All-head Held read [] (subst (All Held) looks.one all))

  -- no refusal where there is a value
  no_value : {A : Type 0} (x : A) (refusal : Refusal) → ◌≡◌ {A = Result A Refusal} (Err refusal) (Ok x) → Q refusal
  no_value x refusal is = absurd (cc)

  value_stops : {A : Type 0} (x : A) → OnlyStops {A = A} (Gives (Ok x))
  value_stops {A} x = settles_stops {A = A} (λ answer. answer ≡ Ok x) (no_value x)

  named_stops : (name : Option (List ℕ)) → IfSome name (IsShort store.old.files) → OnlyStops (LooksAtNamed name)
  named_stops None short = value_stops {A = Option (List ℕ)} None
  named_stops (Some name) short =
      then_stops {A = List ℕ} {B = Option (List ℕ)} (LooksAt name) (λ bytes. Gives (Ok (Some bytes)))
      (look_stops name short)
      (λ bytes before looks held. value_stops {A = Option (List ℕ)} (Some bytes))

  -- and those of a plant
  module _ (plant_refused : (error : PlantError) → Q (Refused error))
      (dead : (labels : List (List ℕ)) → Q (Dead labels)) where
    -- a refusal of a plant
    refused : {A : Type 0} (r : Result A PlantError) (refusal : Refusal) → Err refusal ≡ or_refused r → Q refusal
    refused (Ok x) refusal is = absurd (cc)
    refused (Err error) refusal is =
        let same : refusal ≡ Refused error = cc in stops_as refusal (Refused error) same (plant_refused error)

    gives_stops : {A : Type 0} (r : Result A PlantError) → OnlyStops {A = A} (Gives (or_refused r))
    gives_stops {A} r = settles_stops {A = A} (λ answer. answer ≡ or_refused r) (refused r)

    -- the draft, the plant and the live plant
    draft_stops : (d : DraftPlant) → NamesShort store.old.files d → OnlyStops (OfDraft d)
    draft_stops d short =
        then_stops {A = Option (List ℕ)} {B = Plant} (LooksAtNamed (demands_file d))
        (λ demands. Then (LooksAtNamed d.times_file) (λ times. Gives (or_refused (completed_plant d demands times))))
        (named_stops (demands_file d) short.demands)
        (λ demands before looks held. then_stops {A = Option (List ℕ)} {B = Plant} (LooksAtNamed d.times_file)
        (λ times. Gives (or_refused (completed_plant d demands times)))
        (named_stops d.times_file short.times)
        (λ times later looks_on held_on. gives_stops (completed_plant d demands times)))

    file_stops : (name : List ℕ) → IsShortPlant store.old.files name → OnlyStops (OfPlantFile name)
    file_stops name short =
        then_stops {A = List ℕ} {B = Plant} (LooksAt name) (λ bytes. Then (OfBytes bytes) OfDraft)
        (look_stops name short.plant)
        (λ bytes before looks held.
        then_stops {A = DraftPlant} {B = Plant} (OfBytes bytes) OfDraft (gives_stops (reading bytes))
        (λ d none drafts held_none.
        draft_stops d (short.named d (reading_at store.old.files name bytes d
        (looked store known name before bytes looks held) (drafted (reading bytes) d drafts.1)))))

    dead_stops : (p : Plant) (refusal : Refusal) → IsLiveOrDead p (Err refusal) → Q refusal
    dead_stops p (Dead labels) is = dead labels
    dead_stops p other is = absurd is

    pub plant_stops : (name : List ℕ) → IsShortPlant store.old.files name → OnlyStops (OfLivePlant name)
    plant_stops name short =
        then_stops {A = Plant} {B = Plant} (OfPlantFile name) (λ p. Settles (IsLiveOrDead p)) (file_stops name short)
        (λ p before reads held. settles_stops (IsLiveOrDead p) (dead_stops p))
