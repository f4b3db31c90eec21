-- A step is made in one way over the reads of a call: where it answered a value, every other way of it over these reads
-- answers the same value after the same reads, but for out of memory.
use Rattle.std.proofs.Common.{◌≡◌, ◌⊎◌, List, [], ◌∷◌, ◌++◌, ℕ, refl, ap, sym, ◌∙◌, subst, append_assoc, append-nil, inl, inr, arith}
use Rattle.std.specs.Prelude.{Option, Some, None, Result, Ok, Err}
use Rattle.event_graph.specs.Live.{IsLive}
use Rattle.line_graph.specs.DeadLabels.{AreDead}
use Rattle.outside_io.specs.Calls.{Read}
use Rattle.outside_io.specs.declared.store.StoreError.{StoreError}
use Rattle.outside_io.specs.declared.store.StoreError.TheVariants as store_error
use Rattle.plant_file.specs.Draft.{demands_file}
use Rattle.plant_file.specs.Finish.{completed_plant}
use Rattle.plant_file.specs.Reading.{reading}
use Rattle.plant_file.specs.declared.draft.DraftPlant.{DraftPlant}
use Rattle.plant_model.specs.Graph.{graph}
use Rattle.plant_model.specs.declared.plant.Plant.{Plant}
use Rattle.live_plant.specs.declared.refusals.refusal.Refusal.{Refusal}
use Rattle.live_plant.specs.declared.refusals.refusal.Refusal.TheVariants.{Dead, NoMemory}
use Rattle.live_plant.specs.LiveSteps.{IsLiveOrDead, OfLivePlant}
use Rattle.live_plant.specs.PlantSteps.{or_refused, OfDraft, OfBytes, OfPlantFile}
use Rattle.live_plant.specs.Steps.{Step, Settles, Gives, AnswersRead, LooksAt, LooksAtNamed, GoesOn, Then}

-- ---- a live plant: its plant, and that it is live

-- a value isn't a refusal
pub no_refusal : {A : Type 0} (x : A) (refusal : Refusal) → ◌≡◌ {A = Result A Refusal} (Ok x) (Err refusal) → ⊥
no_refusal x refusal is = cc

same_value : {A : Type 0} (x y : A) → ◌≡◌ {A = Result A Refusal} (Ok x) (Ok y) → x ≡ y
same_value x y is = cc

same_refusal : {A : Type 0} (one other : Refusal) → ◌≡◌ {A = Result A Refusal} (Err one) (Err other) → one ≡ other
same_refusal one other is = cc

pub record IsReadLive (name : List ℕ) (reads : List Read) (p : Plant) : Type 0 where
  pub answers : OfPlantFile name reads (Ok p)
  pub live : IsLive (graph p)

settled_live : (name : List ℕ) (reads before : List Read) (q p : Plant) → reads ≡ before →
    OfPlantFile name before (Ok q) →
    IsLiveOrDead q (Ok p) ⊎ (◌≡◌ {A = Result Plant Refusal} (Ok p) (Err NoMemory)) → IsReadLive name reads p
settled_live name reads before q p own answers (inl live) = record {
  answers = subst (λ (v : Plant). OfPlantFile name reads (Ok v)) (sym live.0)
      (subst (λ (rs : List Read). OfPlantFile name rs (Ok q)) (sym own) answers);
  live = subst (λ (v : Plant). IsLive (graph v)) (sym live.0) live.1;
}
settled_live name reads before q p own answers (inr none) = absurd (no_refusal p NoMemory none)

live_on : (name : List ℕ) (reads before after : List Read) (between : Result Plant Refusal) (p : Plant) →
    reads ≡ before ++ after → OfPlantFile name before between →
    GoesOn (λ q. Settles (IsLiveOrDead q)) between after (Ok p) → IsReadLive name reads p
live_on name reads before after (Ok q) p split answers on =
    settled_live name reads before q p
    (split ∙ ap (λ (rs : List Read). before ++ rs) on.0 ∙ append-nil before) answers on.1
live_on name reads before after (Err refusal) p split answers on = absurd (no_refusal p refusal on.1)

-- the steps up to a live plant that answer one: those up to the plant, and it is live
pub read_live : (name : List ℕ) (reads : List Read) (p : Plant) → OfLivePlant name reads (Ok p) → IsReadLive name reads p
read_live name reads p steps =
    live_on name reads steps.before steps.after steps.between p steps.split steps.answers steps.goes_on

-- and the other way round
pub live_read : (name : List ℕ) (reads : List Read) (p : Plant) → OfPlantFile name reads (Ok p) → IsLive (graph p) →
    OfLivePlant name reads (Ok p)
live_read name reads p answers live = record {
  before = reads;
  after = [];
  split = sym (append-nil reads);
  between = Ok p;
  answers = answers;
  goes_on = (refl, inl (refl, live));
}

-- no circuit of a live plant is dead
pub not_dead : (p : Plant) (labels : List (List ℕ)) → IsLive (graph p) → AreDead (graph p) labels → ⊥
not_dead p labels live dead = let some = live dead.arcs dead.dead.circuit in omega (arith, some, dead.dead.empty)

-- ---- two ways of one step

-- what another way answers beside a value after which these reads are left
abbrev pub Follows : {A : Type 0} → A → List Read → Result A Refusal → List Read → Type 0
Follows x left (Ok y) rest = (y ≡ x) × (rest ≡ left)
Follows x left (Err refusal) rest = refusal ≡ NoMemory

-- a step that is made in one way
abbrev pub IsOneStep : {A : Type 0} → Step A → Type 0
IsOneStep {A} step =
    (reads more left rest : List Read) (x : A) (other : Result A Refusal) → step reads (Ok x) → step more other →
    reads ++ left ≡ more ++ rest → Follows x left other rest

-- out of memory follows every value
memory_follows : {A : Type 0} (x : A) (left rest : List Read) (other : Result A Refusal) → other ≡ Err NoMemory →
    Follows x left other rest
memory_follows {A} x left rest other none = subst (λ (r : Result A Refusal). Follows x left r rest) (sym none) refl

-- reads of which none is made
left_of_none : (reads more left rest : List Read) → reads ≡ [] → more ≡ [] → reads ++ left ≡ more ++ rest → rest ≡ left
left_of_none reads more left rest no_reads no_more same =
    sym (ap (λ (rs : List Read). rs ++ left) (sym no_reads) ∙ same ∙ ap (λ (rs : List Read). rs ++ rest) no_more)

-- what settles, where two answers of which one is a value are this value
settled_follows : {A : Type 0} (P : Result A Refusal → Type 0) →
    ((x : A) (other : Result A Refusal) → P (Ok x) → P other → other ≡ Ok x) →
    (x : A) (left rest : List Read) (other : Result A Refusal) → rest ≡ left →
    P (Ok x) ⊎ (◌≡◌ {A = Result A Refusal} (Ok x) (Err NoMemory)) → P other ⊎ (other ≡ Err NoMemory) →
    Follows x left other rest
settled_follows {A} P one x left rest other own (inl is) (inl also) =
    subst (λ (r : Result A Refusal). Follows x left r rest) (sym (one x other is also)) (refl, own)
settled_follows P one x left rest other own (inl is) (inr none) = memory_follows x left rest other none
settled_follows P one x left rest other own (inr none) also = absurd (no_refusal x NoMemory none)

settles_one : {A : Type 0} (P : Result A Refusal → Type 0) →
    ((x : A) (other : Result A Refusal) → P (Ok x) → P other → other ≡ Ok x) → IsOneStep (Settles P)
settles_one P one reads more left rest x other is also same =
    settled_follows P one x left rest other (left_of_none reads more left rest is.0 also.0 same) is.1 also.1

gives_one : {A : Type 0} (want : Result A Refusal) → IsOneStep (Gives want)
gives_one {A} want = settles_one (λ (answer : Result A Refusal). answer ≡ want) (λ x other is also. also ∙ sym is)

-- the read of a file
read_answered : (name : List ℕ) (given : Result (List ℕ) StoreError) (bytes : List ℕ) →
    AnswersRead name given (Ok bytes) → given ≡ Ok bytes
read_answered name (Ok own) bytes answers = ap Ok (sym (same_value bytes own answers))
read_answered name (Err store_error.Failed) bytes (inl is) = absurd (no_refusal bytes _ is)
read_answered name (Err store_error.Failed) bytes (inr is) = absurd (no_refusal bytes _ is)
read_answered name (Err store_error.TooLong) bytes (inl is) = absurd (no_refusal bytes _ is)
read_answered name (Err store_error.TooLong) bytes (inr is) = absurd (no_refusal bytes _ is)
read_answered name (Err store_error.NoMemory) bytes answers = absurd (no_refusal bytes _ answers)

same_head : {X : Type 0} (x y : X) (xs ys : List X) → x ∷ xs ≡ y ∷ ys → x ≡ y
same_head x y xs ys same = cc

same_tail : {X : Type 0} (x y : X) (xs ys : List X) → x ∷ xs ≡ y ∷ ys → xs ≡ ys
same_tail x y xs ys same = cc

pub look_one : (name : List ℕ) → IsOneStep (LooksAt name)
look_one name reads more left rest bytes other looks looks_too same =
    let one : Read = record { name = name; answer = looks.given } in
    let two : Read = record { name = name; answer = looks_too.given } in
    let whole : one ∷ left ≡ two ∷ rest =
    ap (λ (rs : List Read). rs ++ left) (sym looks.one) ∙ same ∙ ap (λ (rs : List Read). rs ++ rest) looks_too.one in
    let given : looks_too.given ≡ Ok bytes =
    sym (ap (λ (r : Read). r.answer) (same_head one two left rest whole)) ∙
    read_answered name looks.given bytes looks.answers in
    let is : other ≡ Ok bytes =
    subst (λ (r : Result (List ℕ) StoreError). AnswersRead name r other) given looks_too.answers in
    subst (λ (r : Result (List ℕ) Refusal). Follows bytes left r rest) (sym is)
    (refl, sym (same_tail one two left rest whole))

-- one step, and then a next one
module _ {A B : Type 0} (first : Step A) (next : A → Step B) (first_one : IsOneStep first)
    (next_one : (x : A) → IsOneStep (next x)) where
  -- the other way of the next step
  next_follows : (u : A) (after : List Read) (left rest : List Read) (x : B) (between : Result A Refusal)
      (end : List Read) (other : Result B Refusal) → next u after (Ok x) → Follows u (after ++ left) between (end ++ rest) →
      GoesOn next between end other → Follows x left other rest
  next_follows u after left rest x (Ok v) end other is follows on =
      next_one u after end left rest x other is (subst (λ (w : A). next w end other) follows.0 on) (sym follows.1)
  next_follows u after left rest x (Err refusal) end other is none on =
      memory_follows x left rest other (on.1 ∙ ap Err none)

  first_follows : (reads more left rest : List Read) (x : B) (other : Result B Refusal) (between : Result A Refusal)
      (before after : List Read) → reads ≡ before ++ after → first before between →
      GoesOn next between after (Ok x) → Then first next more other → reads ++ left ≡ more ++ rest →
      Follows x left other rest
  first_follows reads more left rest x other (Ok u) before after split answers on also same =
      let parts : before ++ (after ++ left) ≡ also.before ++ (also.after ++ rest) =
      sym (append_assoc before after left) ∙ ap (λ (rs : List Read). rs ++ left) (sym split) ∙ same ∙
      ap (λ (rs : List Read). rs ++ rest) also.split ∙ append_assoc also.before also.after rest in
      next_follows u after left rest x also.between also.after other on
      (first_one before also.before (after ++ left) (also.after ++ rest) u also.between answers also.answers parts)
      also.goes_on
  first_follows reads more left rest x other (Err refusal) before after split answers on also same =
      absurd (no_refusal x refusal on.1)

  pub then_one : IsOneStep (Then first next)
  then_one reads more left rest x other is also same =
      first_follows reads more left rest x other is.between is.before is.after is.split is.answers is.goes_on also same

named_one : (name : Option (List ℕ)) → IsOneStep (LooksAtNamed name)
named_one None = gives_one {A = Option (List ℕ)} (Ok None)
named_one (Some name) =
    then_one {A = List ℕ} {B = Option (List ℕ)} (LooksAt name) (λ bytes. Gives (Ok (Some bytes))) (look_one name)
    (λ bytes. gives_one {A = Option (List ℕ)} (Ok (Some bytes)))

draft_one : (d : DraftPlant) → IsOneStep (OfDraft d)
draft_one d =
    then_one {A = Option (List ℕ)} {B = Plant} (LooksAtNamed (demands_file d))
    (λ demands. Then (LooksAtNamed d.times_file) (λ times. Gives (or_refused (completed_plant d demands times))))
    (named_one (demands_file d))
    (λ demands.
    then_one {A = Option (List ℕ)} {B = Plant} (LooksAtNamed d.times_file)
    (λ times. Gives (or_refused (completed_plant d demands times))) (named_one d.times_file)
    (λ times. gives_one {A = Plant} (or_refused (completed_plant d demands times))))

file_one : (name : List ℕ) → IsOneStep (OfPlantFile name)
file_one name =
    then_one {A = List ℕ} {B = Plant} (LooksAt name) (λ bytes. Then (OfBytes bytes) OfDraft) (look_one name)
    (λ bytes.
    then_one {A = DraftPlant} {B = Plant} (OfBytes bytes) OfDraft
    (gives_one {A = DraftPlant} (or_refused (reading bytes))) draft_one)

live_same : (p x : Plant) (other : Result Plant Refusal) → IsLiveOrDead p (Ok x) → IsLiveOrDead p other → other ≡ Ok x
live_same p x (Ok y) is also = ap Ok (also.0 ∙ sym is.0)
live_same p x (Err (Dead labels)) is also = absurd (not_dead p labels is.1 also)
live_same p x (Err other) is also = absurd also

-- so are the steps up to a live plant
pub live_one : (name : List ℕ) → IsOneStep (OfLivePlant name)
live_one name =
    then_one {A = Plant} {B = Plant} (OfPlantFile name) (λ p. Settles (IsLiveOrDead p)) (file_one name)
    (λ p. settles_one (IsLiveOrDead p) (live_same p))
