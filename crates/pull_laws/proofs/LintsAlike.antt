-- The status of `lint` is decided by the files: what it says of bytes by themselves is that they are refused, or one
-- thing more.
use Rattle.std.proofs.Common.{◌≡◌, ◌⊎◌, ℕ, Bool, List, ap, sym, ◌∙◌, subst, inl, inr}
use Rattle.std.specs.Prelude.{Option, Some, None, Result, Ok, Err, IsTrue, MatchOption, ⊤}
use Rattle.outside_io.specs.Contents.{Contents}
use Rattle.live_plant.specs.LintSteps.{IsRefusedWith, IsFileLint, IsCleanOrDead, IsSaid, IsDraftLint, LintsDraft}
use Rattle.live_plant.specs.LintSteps.{LintsPlant}
use Rattle.live_plant.specs.Steps.{Step, Settles, LooksAt, LooksAtNamed, Then}
use Rattle.live_plant.specs.declared.sound_file.SoundFile.{SoundFile}
use Rattle.plant_file.specs.Draft.{demands_file}
use Rattle.plant_file.specs.Reading.{reading, tree_of}
use Rattle.plant_file.specs.declared.draft.DraftPlant.{DraftPlant}
use Rattle.plant_file.specs.Finish.{plant_of_bytes}
use Rattle.plant_lint.specs.DraftLints.{lint_of_draft}
use Rattle.plant_lint.specs.FileLints.{lint_of_tree, IsNoToml, LintsFile}
use Rattle.plant_lint.specs.PlantLints.{clean_text}
use Rattle.plant_lint.specs.declared.lint.Lint.{Lint}
use Rattle.plant_lint.specs.declared.lint.Lint.TheVariants as lint
use Rattle.plant_model.specs.declared.error.PlantError.{PlantError}
use Rattle.plant_model.specs.declared.plant.Plant.{Plant}
use Rattle.live_plant.specs.Refusal.{status_of}
use Rattle.live_plant.specs.declared.refusals.refusal.Refusal.{Refusal}
use Rattle.live_plant.specs.declared.refusals.refusal.Refusal.TheVariants.{Faults}
use Rattle.toml.specs.Data.{Data}
use Rattle.pull_laws.proofs.Alike.{AreAlike, Agrees, dead_status, live_not_dead, then_agrees, settles_agrees}
use Rattle.pull_laws.proofs.Alike.{gives_alike, look_agrees, named_agrees}

-- ---- what is said of the bytes of a file

abbrev IsRefusedLint : Lint → Type 0
IsRefusedLint (lint.Refused lines) = ⊤
IsRefusedLint (lint.Sound notes) = ⊥

-- two things that are said of bytes are one, or each is a refusal
abbrev OneLint : Lint → Lint → Type 0
OneLint a b = (a ≡ b) ⊎ (IsRefusedLint a × IsRefusedLint b)

of_tree : (tree : Option Data) (bytes : List ℕ) (a b : Lint) →
    MatchOption tree (IsNoToml bytes a) (λ top. a ≡ lint_of_tree top) →
    MatchOption tree (IsNoToml bytes b) (λ top. b ≡ lint_of_tree top) → OneLint a b
of_tree None bytes a b is also =
    inr (subst IsRefusedLint (sym is.line) tt, subst IsRefusedLint (sym also.line) tt)
of_tree (Some top) bytes a b is also = inl (is ∙ sym also)

one_lint : (bytes : List ℕ) (a b : Lint) → LintsFile bytes a → LintsFile bytes b → OneLint a b
one_lint bytes a b is also = of_tree (tree_of bytes) bytes a b is also

-- the notes are one
one_notes : (m n : List ℕ) → OneLint (lint.Sound m) (lint.Sound n) → m ≡ n
one_notes m n (inl same) = cc
one_notes m n (inr both) = absurd both.0

-- nothing is refused of a sound file
refused_lint : (said : Lint) (refusal : Refusal) → IsRefusedWith said refusal → IsRefusedLint said
refused_lint (lint.Refused lines) refusal is = tt
refused_lint (lint.Sound notes) refusal is = absurd is

sound_not_refused : (notes : List ℕ) (said : Lint) → OneLint (lint.Sound notes) said → IsRefusedLint said → ⊥
sound_not_refused notes said (inl same) refused = subst IsRefusedLint (sym same) refused
sound_not_refused notes said (inr both) refused = both.0

-- a refusal of a file ends with 3
refused_status : (said : Lint) (refusal : Refusal) → IsRefusedWith said refusal → status_of refusal ≡ 3
refused_status (lint.Refused lines) refusal is = ap status_of is
refused_status (lint.Sound notes) refusal is = absurd is

one_draft : (r : Result DraftPlant PlantError) (d e : DraftPlant) → r ≡ Ok d → r ≡ Ok e → d ≡ e
one_draft r d e is also = cc

file_lint_alike : (bytes : List ℕ) (one other : Result SoundFile Refusal) → IsFileLint bytes one →
    IsFileLint bytes other → AreAlike (λ (x y : SoundFile). x ≡ y) one other
file_lint_alike bytes (Ok x) (Ok y) is also =
    let notes = one_notes x.notes y.notes (one_lint bytes (lint.Sound x.notes) (lint.Sound y.notes) is.0 also.0) in
    let draft = one_draft (reading bytes) x.draft y.draft is.1 also.1 in
    inr (inr (λ j. record { notes = notes j; draft = draft j }))
file_lint_alike bytes (Ok x) (Err refusal) is not =
    absurd (sound_not_refused x.notes not.said (one_lint bytes (lint.Sound x.notes) not.said is.0 not.lints)
    (refused_lint not.said refusal not.refused))
file_lint_alike bytes (Err refusal) (Ok y) not also =
    absurd (sound_not_refused y.notes not.said (one_lint bytes (lint.Sound y.notes) not.said also.0 not.lints)
    (refused_lint not.said refusal not.refused))
file_lint_alike bytes (Err refusal) (Err other) not nor =
    inr (inr (refused_status not.said refusal not.refused ∙ sym (refused_status nor.said other nor.refused)))

-- ---- what is said of a plant

clean_alike : (p : Plant) (text : List ℕ) (one other : Result (List ℕ) Refusal) → IsCleanOrDead p text one →
    IsCleanOrDead p text other → AreAlike (λ (x y : List ℕ). x ≡ y) one other
clean_alike p text (Ok x) (Ok y) is also = inr (inr (is.0 ∙ sym also.0))
clean_alike p text (Ok x) (Err other) is also = absurd (live_not_dead p other is.1 also)
clean_alike p text (Err one) (Ok y) is also = absurd (live_not_dead p one also.1 is)
clean_alike p text (Err one) (Err other) is also = inr (inr (dead_status p one is ∙ sym (dead_status p other also)))

said_alike : (p : Plant) (notes : List ℕ) (said : Lint) (one other : Result (List ℕ) Refusal) →
    IsSaid p notes said one → IsSaid p notes said other → AreAlike (λ (x y : List ℕ). x ≡ y) one other
said_alike p notes (lint.Refused lines) one other is also =
    gives_alike {A = List ℕ} (Err (Faults lines)) one other is also
said_alike p notes (lint.Sound more) one other is also = clean_alike p (clean_text notes more) one other is also

draft_lint_alike : (file : SoundFile) (demands times : Option (List ℕ)) (one other : Result (List ℕ) Refusal) →
    IsDraftLint file demands times one → IsDraftLint file demands times other →
    AreAlike (λ (x y : List ℕ). x ≡ y) one other
draft_lint_alike file demands times one other is also =
    said_alike (plant_of_bytes file.draft demands times) file.notes
    (lint_of_draft file.draft demands times) one other is also

-- ---- over files that are known

module _ (tells_one : Bool) (files_one : Contents) (known_one : IsTrue tells_one) (tells_other : Bool)
    (files_other : Contents) (known_other : IsTrue tells_other)
    (same : (q : List ℕ) → files_one q ≡ files_other q) where
  abbrev Agree : {A : Type 0} → Step A → Type 0
  Agree {A} step =
      Agrees tells_one files_one known_one tells_other files_other known_other same (λ (x y : A). x ≡ y) step

  go_on : {A B : Type 0} (first : Step A) (next : A → Step B) → Agree first → ((x : A) → Agree (next x)) →
      Agree (Then first next)
  go_on {A} {B} first next agrees go =
      then_agrees tells_one files_one known_one tells_other files_other known_other same {A = A} {B = B}
      (λ (x y : B). x ≡ y) first next agrees go

  settle : {A : Type 0} (P : Result A Refusal → Type 0) →
      ((one other : Result A Refusal) → P one → P other → AreAlike (λ (x y : A). x ≡ y) one other) →
      Agree {A = A} (Settles P)
  settle {A} P alike =
      settles_agrees tells_one files_one known_one tells_other files_other known_other same {A = A}
      (λ (x y : A). x ≡ y) P alike

  look : (name : List ℕ) → Agree (LooksAt name)
  look name = look_agrees tells_one files_one known_one tells_other files_other known_other same name

  look_named : (name : Option (List ℕ)) → Agree (LooksAtNamed name)
  look_named name = named_agrees tells_one files_one known_one tells_other files_other known_other same name

  draft_agrees : (file : SoundFile) → Agree (LintsDraft file)
  draft_agrees file =
      go_on {A = Option (List ℕ)} {B = List ℕ} (LooksAtNamed (demands_file file.draft))
      (λ demands. Then (LooksAtNamed file.draft.times_file) (λ times. Settles (IsDraftLint file demands times)))
      (look_named (demands_file file.draft))
      (λ demands.
      go_on {A = Option (List ℕ)} {B = List ℕ} (LooksAtNamed file.draft.times_file)
      (λ times. Settles (IsDraftLint file demands times)) (look_named file.draft.times_file)
      (λ times. settle {A = List ℕ} (IsDraftLint file demands times) (draft_lint_alike file demands times)))

  pub lints_agree : (name : List ℕ) → Agree (LintsPlant name)
  lints_agree name =
      go_on {A = List ℕ} {B = List ℕ} (LooksAt name) (λ bytes. Then (Settles (IsFileLint bytes)) LintsDraft) (look name)
      (λ bytes.
      go_on {A = SoundFile} {B = List ℕ} (Settles (IsFileLint bytes)) LintsDraft
      (settle {A = SoundFile} (IsFileLint bytes) (file_lint_alike bytes)) draft_agrees)
