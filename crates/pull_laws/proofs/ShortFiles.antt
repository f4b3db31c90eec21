-- The files of a live plant that a call has read are no longer than they may be, and so are these files where another
-- call finds them again.
use Rattle.std.proofs.Common.{◌≡◌, ◌⊎◌, ℕ, ◌≤◌, List, [], length, sym, subst, inl, inr, ⊎_elim, arith}
use Rattle.std.specs.Prelude.{Option, Some, None, Result, Ok, Err, OnOk, IfSome, IsTrue, All, unwrap_or}
use Rattle.std.proofs.lemmas.List.Elements.{All-head}
use Rattle.outside_io.specs.Calls.{Read}
use Rattle.outside_io.specs.Contents.{Contents, IsLongerThan}
use Rattle.outside_io.specs.declared.store.StoreError.{StoreError}
use Rattle.outside_io.specs.declared.store.StoreError.TheVariants as store_error
use Rattle.plant_file.specs.Draft.{demands_file}
use Rattle.plant_file.specs.Reading.{reading}
use Rattle.plant_file.specs.declared.draft.DraftPlant.{DraftPlant}
use Rattle.plant_file.specs.Finish.{completed_plant}
use Rattle.plant_file.specs.PlantOfFiles.{bytes_at}
use Rattle.plant_model.specs.declared.error.PlantError.{PlantError}
use Rattle.plant_model.specs.declared.plant.Plant.{Plant}
use Rattle.live_plant.specs.declared.refusals.refusal.Refusal.{Refusal}
use Rattle.live_plant.specs.declared.refusals.refusal.Refusal.TheVariants.{NoMemory}
use Rattle.live_plant.specs.Outside.{StoreOver, limit_of, Fits, IsOfFile}
use Rattle.live_plant.specs.PlantSteps.{or_refused, OfDraft, OfBytes, OfPlantFile}
use Rattle.live_plant.specs.LiveSteps.{IsLiveOrDead, OfLivePlant}
use Rattle.live_plant.specs.Steps.{Settles, Gives, AnswersRead, LooksAt, LooksAtNamed, Then}
use Rattle.live_plant.proofs.PlantsOfFiles.{then_leads, looked}
use Rattle.pull_laws.proofs.FileNames.{IsPlain, reading_names}

-- the file is no longer than a file of its name may be
abbrev pub IsShort : Contents → List ℕ → Type 0
IsShort files name = IsLongerThan (limit_of name) (files name) → ⊥

-- so is each that a draft names
pub record NamesShort (files : Contents) (d : DraftPlant) : Type 0 where
  pub demands : IfSome (demands_file d) (IsShort files)
  pub times : IfSome d.times_file (IsShort files)

-- so is a plant file, with those that it names
pub record IsShortPlant (files : Contents) (name : List ℕ) : Type 0 where
  pub plant : IsShort files name
  pub named : (d : DraftPlant) → reading (bytes_at files name) ≡ Ok d → NamesShort files d

-- a file that holds few bytes
pub short_bytes : (files : Contents) (name bytes : List ℕ) → files name ≡ Some bytes → length bytes ≤ limit_of name →
    IsShort files name
short_bytes files name bytes is few longer =
    let over = subst (IsLongerThan (limit_of name)) is longer in omega (arith, over, few)

-- the draft that is answered is that of the bytes
pub drafted : (r : Result DraftPlant PlantError) (d : DraftPlant) →
    (Ok d ≡ or_refused r) ⊎ (◌≡◌ {A = Result DraftPlant Refusal} (Ok d) (Err NoMemory)) → r ≡ Ok d
drafted (Ok own) d (inl is) = cc
drafted (Err error) d (inl is) = absurd (cc)
drafted r d (inr none) = absurd (cc)

-- and the bytes are those of the file
pub reading_at : (files : Contents) (name bytes : List ℕ) (d : DraftPlant) → files name ≡ Some bytes →
    reading bytes ≡ Ok d → reading (bytes_at files name) ≡ Ok d
reading_at files name bytes d held is =
    subst (λ (o : Option (List ℕ)). reading (unwrap_or o []) ≡ Ok d) (sym held) is

one_draft : (r : Result DraftPlant PlantError) (d e : DraftPlant) → r ≡ Ok d → r ≡ Ok e → d ≡ e
one_draft r d e is also = cc

-- what holds holds where a value was answered
where_ok : {A X : Type 0} (answer : Result A Refusal) → X → OnOk answer X
where_ok (Ok a) x = x
where_ok (Err refusal) x = tt

module _ (store : StoreOver) (known : IsTrue store.tells) where
  abbrev files : Contents
  files = store.old.files

  abbrev Held : Read → Type 0
  Held = IsOfFile store

  given_short : (name : List ℕ) (given : Result (List ℕ) StoreError) (bytes : List ℕ) →
      AnswersRead name given (Ok bytes) → Fits store.tells files name given → IsShort files name
  given_short name (Ok own) bytes answers fits = short_bytes files name own (fits.1 known) fits.0
  given_short name (Err store_error.Failed) bytes answers fits = ⊎_elim (λ is. absurd (cc)) (λ is. absurd (cc)) answers
  given_short name (Err store_error.TooLong) bytes answers fits = ⊎_elim (λ is. absurd (cc)) (λ is. absurd (cc)) answers
  given_short name (Err store_error.NoMemory) bytes answers fits = absurd (cc)

  look_short : (name : List ℕ) (reads : List Read) (bytes : List ℕ) → LooksAt name reads (Ok bytes) → All Held reads →
      IsShort files name
  look_short name reads bytes looks all =
      let read : Read = record { name = name; answer = looks.given } in
      given_short name looks.given bytes looks.answers (All-head Held read [] (subst (All Held) looks.one all))

  named_short : (name : Option (List ℕ)) (reads : List Read) (answer : Result (Option (List ℕ)) Refusal) →
      LooksAtNamed name reads answer → All Held reads → OnOk answer (IfSome name (IsShort files))
  named_short None reads answer looks all = where_ok answer tt
  named_short (Some name) reads answer looks all =
      then_leads (LooksAt name) (λ bytes. Gives (Ok (Some bytes))) Held
      (λ (a : Result (Option (List ℕ)) Refusal). OnOk a (IsShort files name)) reads answer looks all
      (λ refusal before held stops. tt)
      (λ bytes before after held rest first next. where_ok answer (look_short name before bytes first held))

  -- those that a draft names
  draft_short : (d : DraftPlant) (reads : List Read) (answer : Result Plant Refusal) → OfDraft d reads answer →
      All Held reads → OnOk answer (NamesShort files d)
  draft_short d reads answer steps all =
      then_leads (LooksAtNamed (demands_file d)) (λ demands. Then (LooksAtNamed d.times_file)
      (λ times. Gives (or_refused (completed_plant d demands times)))) Held
      (λ (a : Result Plant Refusal). OnOk a (NamesShort files d)) reads answer steps all
      (λ refusal before held stops. tt)
      (λ demands before after held rest first next.
      then_leads (LooksAtNamed d.times_file) (λ times. Gives (or_refused (completed_plant d demands times))) Held
      (λ (a : Result Plant Refusal). OnOk a (NamesShort files d)) after answer next rest
      (λ refusal later held_times stops. tt)
      (λ times later end held_times none second gives.
      where_ok answer (record {
        demands = named_short (demands_file d) before (Ok demands) first held;
        times = named_short d.times_file later (Ok times) second held_times;
      })))

  -- and the plant file, with these
  with_named : (name bytes : List ℕ) (d : DraftPlant) (answer : Result Plant Refusal) → IsShort files name →
      reading (bytes_at files name) ≡ Ok d → OnOk answer (NamesShort files d) → OnOk answer (IsShortPlant files name)
  with_named name bytes d (Ok p) plant is named = record {
    plant = plant;
    named = λ e also. subst (NamesShort files) (one_draft (reading (bytes_at files name)) d e is also) named;
  }
  with_named name bytes d (Err refusal) plant is named = tt

  file_short : (name : List ℕ) (reads : List Read) (answer : Result Plant Refusal) → OfPlantFile name reads answer →
      All Held reads → OnOk answer (IsShortPlant files name)
  file_short name reads answer steps all =
      then_leads (LooksAt name) (λ bytes. Then (OfBytes bytes) OfDraft) Held
      (λ (a : Result Plant Refusal). OnOk a (IsShortPlant files name)) reads answer steps all
      (λ refusal before held stops. tt)
      (λ bytes before after held rest first next.
      then_leads (OfBytes bytes) OfDraft Held (λ (a : Result Plant Refusal). OnOk a (IsShortPlant files name)) after
      answer next rest
      (λ refusal begun held_none stops. tt)
      (λ d begun later held_none held_later drafts last.
      with_named name bytes d answer (look_short name before bytes first held)
      (reading_at files name bytes d (looked store known name before bytes first held)
      (drafted (reading bytes) d drafts.1))
      (draft_short d later answer last held_later)))

  -- the files of a live plant that was read
  pub plant_short : (name : List ℕ) (reads : List Read) (p : Plant) → OfLivePlant name reads (Ok p) → All Held reads →
      IsShortPlant files name
  plant_short name reads p steps all =
      then_leads (OfPlantFile name) (λ q. Settles (IsLiveOrDead q)) Held
      (λ (a : Result Plant Refusal). OnOk a (IsShortPlant files name)) reads (Ok p) steps all
      (λ refusal before held stops. tt)
      (λ q before after held rest first next. file_short name before (Ok q) first held)

module _ (a b : Contents) (agree : (q : List ℕ) → IsPlain q → a q ≡ b q) where
  short_same : (q : List ℕ) → IsPlain q → IsShort b q → IsShort a q
  short_same q plain short longer = short (subst (IsLongerThan (limit_of q)) (agree q plain) longer)

  named_same : (o : Option (List ℕ)) → IfSome o IsPlain → IfSome o (IsShort b) → IfSome o (IsShort a)
  named_same None plain short = tt
  named_same (Some q) plain short = short_same q plain short

  draft_same : (bytes : List ℕ) (d : DraftPlant) → reading bytes ≡ Ok d → NamesShort b d → NamesShort a d
  draft_same bytes d is short =
      let names = reading_names bytes d is in
      record {
        demands = named_same (demands_file d) names.demands short.demands;
        times = named_same d.times_file names.times short.times;
      }

  -- files that differ in checkpoints alone are as short
  pub same_short : (name : List ℕ) → IsPlain name → IsShortPlant b name → IsShortPlant a name
  same_short name plain short = record {
    plant = short_same name plain short.plant;
    named = λ d is. draft_same (bytes_at a name) d is
        (short.named d (subst (λ (o : Option (List ℕ)). reading (unwrap_or o []) ≡ Ok d) (agree name plain) is));
  }
