-- What a write of a file did, from what its steps did.
use Rattle.std.proofs.Common.{◌≡◌, ◌≢◌, inl, inr, ℕ, List, [], ◌∷◌, ◌++◌, Bool, true, false, refl, sym, ap, ◌∙◌, subst, append_assoc, append-nil}
use Rattle.std.specs.Prelude.{Result, Ok, Err, Some, is_ok, OnOk, OnErr, IsTrue}
use Rattle.std.proofs.lemmas.Bool.{true≢false}
use Rattle.outside_io.specs.Contents.{IsTorn}
use Rattle.outside_io.specs.RawFiles.{RawName, Named, Spare, FilesCall, Opens, Reads, Looks, Creates, CreatesSpare, Writes, Syncs, Renames, Removes, FilesView, Asks, SameHeld, SameNamed, OthersHeld, WritesInPlace, WritesBeside, WritesFile, WithoutSpare, AfterMaking, Replaces, AfterLook, AfterLookRefused, AsksToWrite, WritesNamed, SyncsFolder, folder_of, bars_new_files, is_absent, empties, by_kind}
use Rattle.std.specs.IoError.{error_kind}
use Rattle.std.specs.declared.io.Error.{Error}
use Rattle.std.specs.declared.io.ErrorKind.{ErrorKind}
use Rattle.outside_io.proofs.RawFilesModel.{named_not_spare}
use Rattle.outside_io.proofs.RawFilesRuns.{then_on, ended}

-- each file is as it was, also before a step that changed a spare one at most
same_before : {E : Type 0} (tells : Bool) (old mid new : FilesView) (spare : List ℕ) (result : Result (Unit {0}) E) → (IsTrue tells → (q : RawName) → q ≢ Spare spare → mid.held q ≡ old.held q) → OnErr result (SameNamed tells mid new) → OnErr result (SameNamed tells old new)
same_before tells old mid new spare (Ok done) stays same = tt
same_before tells old mid new spare (Err error) stays same = λ known q. same known q ∙ stays known (Named q) (named_not_spare q spare)

-- behind calls that changed a spare file at most
pub writes_behind : {E : Type 0} (tells : Bool) (old mid new : FilesView) (spare name bytes : List ℕ) (first : List FilesCall) (Next Are : List FilesCall → Bool → Type 0) (result : Result (Unit {0}) E) → mid.asked ≡ old.asked ++ first → ((calls : List FilesCall) → empties (first ++ calls) ≡ empties calls) → ((calls : List FilesCall) (whole : Bool) → Next calls whole → Are (first ++ calls) whole) → (IsTrue tells → (q : RawName) → q ≢ Spare spare → mid.held q ≡ old.held q) → WritesFile tells mid new spare name bytes Next result → WritesFile tells old new spare name bytes Are result
writes_behind tells old mid new spare name bytes first Next Are result asked none are stays writes = record {
  asks = (
    first ++ writes.asks.0,
    writes.asks.1 ∙ ap (λ xs. xs ++ writes.asks.0) asked ∙ append_assoc old.asked first writes.asks.0,
    (are writes.asks.0 (is_ok result) writes.asks.2.0, λ empty. same_before tells old mid new spare result stays (writes.asks.2.1 (sym (none writes.asks.0) ∙ empty))),
  );
  written = writes.written;
  torn = λ known. subst (λ held. IsTorn held (new.held (Named name)) bytes) (stays known (Named name) (named_not_spare name spare)) (writes.torn known);
  others_stay = λ known q other apart. writes.others_stay known q other apart ∙ stays known q apart;
}

-- calls that changed a spare file at most, and nothing behind them
pub writes_none : {E : Type 0} (tells : Bool) (old new : FilesView) (spare name bytes : List ℕ) (calls : List FilesCall) (Are : List FilesCall → Bool → Type 0) (error : E) → new.asked ≡ old.asked ++ calls → Are calls false → (IsTrue tells → (q : RawName) → q ≢ Spare spare → new.held q ≡ old.held q) → WritesFile tells old new spare name bytes Are (Err error)
writes_none tells old new spare name bytes calls Are error asked are stays = record {
  asks = (calls, asked, (are, λ empty known q. stays known (Named q) (named_not_spare q spare)));
  written = tt;
  torn = λ known. inl (stays known (Named name) (named_not_spare name spare));
  others_stay = λ known q other apart. stays known q apart;
}

-- a file that is written in its place is emptied
in_place_empties : (name bytes : List ℕ) (calls : List FilesCall) (whole : Bool) → WritesInPlace name bytes calls whole → empties calls ≡ true
in_place_empties name bytes [] whole is = absurd is
in_place_empties name bytes (Opens opened answer ∷ calls) whole is = absurd is
in_place_empties name bytes (Reads most answer ∷ calls) whole is = absurd is
in_place_empties name bytes (Looks looked answer ∷ calls) whole is = absurd is
in_place_empties name bytes (Creates created answer ∷ calls) whole is = refl
in_place_empties name bytes (CreatesSpare spare answer ∷ calls) whole is = absurd is
in_place_empties name bytes (Writes given answer ∷ calls) whole is = absurd is
in_place_empties name bytes (Syncs answer ∷ calls) whole is = absurd is
in_place_empties name bytes (Renames spare renamed answer ∷ calls) whole is = absurd is
in_place_empties name bytes (Removes spare answer ∷ calls) whole is = absurd is

-- so a write in its place is a write, whatever name a spare file has
pub writes_in_place : {E : Type 0} (tells : Bool) (old new : FilesView) (spare name bytes : List ℕ) (result : Result (Unit {0}) E) → Asks old new (λ calls. WritesInPlace name bytes calls (is_ok result)) → OnOk result (IsTrue tells → new.held (Named name) ≡ Some bytes) → (IsTrue tells → IsTorn (old.held (Named name)) (new.held (Named name)) bytes) → (IsTrue tells → (q : RawName) → q ≢ Named name → new.held q ≡ old.held q) → WritesFile tells old new spare name bytes (WritesInPlace name bytes) result
writes_in_place tells old new spare name bytes result asks written torn others = record {
  asks = (asks.0, asks.1, (asks.2, λ none. absurd (true≢false (sym (in_place_empties name bytes asks.0 (is_ok result) asks.2) ∙ none))));
  written = written;
  torn = torn;
  others_stay = λ known q other apart. others known q other;
}

-- a file that holds the bytes, or is as it was
torn_beside : {E : Type 0} (tells : Bool) (old new : FilesView) (name bytes : List ℕ) (result : Result (Unit {0}) E) → OnOk result (IsTrue tells → new.held (Named name) ≡ Some bytes) → OnErr result (SameNamed tells old new) → IsTrue tells → IsTorn (old.held (Named name)) (new.held (Named name)) bytes
torn_beside tells old new name bytes (Ok done) written unharmed known = inr (bytes, [], sym (append-nil bytes), written known)
torn_beside tells old new name bytes (Err error) written unharmed known = inl (unharmed known name)

-- so is a write beside it
pub writes_beside : {E : Type 0} (tells : Bool) (old new : FilesView) (spare name bytes : List ℕ) (result : Result (Unit {0}) E) → Asks old new (λ calls. WritesBeside spare name bytes calls (is_ok result)) → OnOk result (IsTrue tells → new.held (Named name) ≡ Some bytes) → OnErr result (SameNamed tells old new) → OthersHeld tells old new spare name → WritesFile tells old new spare name bytes (WritesBeside spare name bytes) result
writes_beside tells old new spare name bytes result asks written unharmed others = record {
  asks = (asks.0, asks.1, (asks.2, λ none. unharmed));
  written = written;
  torn = torn_beside tells old new name bytes result written unharmed;
  others_stay = others;
}

-- where a spare file was made or not: what it answered decides
pub replaces_behind : (spare name bytes : List ℕ) (gone : Bool) (answer is : Result (Unit {0}) ErrorKind) → answer ≡ is → (calls : List FilesCall) (whole : Bool) → AfterMaking is spare name bytes calls whole → Replaces spare name bytes (Removes spare gone ∷ (CreatesSpare spare answer ∷ calls)) whole
replaces_behind spare name bytes gone answer is same calls whole writes =
    (refl, refl, subst (λ a. AfterMaking a spare name bytes calls whole) (sym same) writes)

pub after_making : (spare name bytes : List ℕ) (kind : ErrorKind) (barred : Bool) → barred ≡ bars_new_files kind → (calls : List FilesCall) (whole : Bool) → WithoutSpare barred name bytes calls whole → AfterMaking (Err kind) spare name bytes calls whole
after_making spare name bytes kind barred is calls whole writes = subst (λ b. WithoutSpare b name bytes calls whole) is writes

-- where a name was looked at: what that answered decides
pub after_answer : (spare name bytes : List ℕ) (answer is : Result Bool ErrorKind) → answer ≡ is → (calls : List FilesCall) (whole : Bool) → AfterLook is spare name bytes calls whole → AfterLook answer spare name bytes calls whole
after_answer spare name bytes answer is same calls whole writes =
    subst (λ a. AfterLook a spare name bytes calls whole) (sym same) writes

pub looks_behind : {E : Type 0} (tells : Bool) (old mid new : FilesView) (spare name bytes : List ℕ) (answer : Result Bool ErrorKind) (Next : List FilesCall → Bool → Type 0) (result : Result (Unit {0}) E) → mid.asked ≡ old.asked ++ Looks name answer ∷ [] → SameHeld tells old mid → ((calls : List FilesCall) (whole : Bool) → Next calls whole → AfterLook answer spare name bytes calls whole) → WritesFile tells mid new spare name bytes Next result → WritesFile tells old new spare name bytes (WritesNamed spare name bytes) result
looks_behind tells old mid new spare name bytes answer Next result asked stays after writes =
    writes_behind tells old mid new spare name bytes (Looks name answer ∷ []) Next (WritesNamed spare name bytes) result asked (λ calls. refl) (λ calls whole is. (refl, after calls whole is)) (λ known q other. stays known q) writes

pub after_look : (spare name bytes : List ℕ) (kind : ErrorKind) (absent : Bool) → absent ≡ is_absent kind → (calls : List FilesCall) (whole : Bool) → AfterLookRefused absent spare name bytes calls whole → AfterLook (Err kind) spare name bytes calls whole
after_look spare name bytes kind absent is calls whole writes =
    subst (λ b. AfterLookRefused b spare name bytes calls whole) is writes

-- the kind of a refusal, which was asked for
pub kind_is : {A : Type 0} (answer : Result A Error) (error : Error) (kind : ErrorKind) → answer ≡ Err error → kind ≡ error_kind error → by_kind answer ≡ Err kind
kind_is answer error kind refused asked =
    ap (λ r. by_kind r) refused ∙ ap (λ (k : ErrorKind). Err k) (sym asked)

-- a file that was written, and its folder synced behind that
pub writes_synced : {E : Type 0} (tells : Bool) (old mid new : FilesView) (spare name bytes folder : List ℕ) → folder ≡ folder_of name → WritesFile {E = E} tells old mid spare name bytes (WritesNamed spare name bytes) (Ok tt) → Asks mid new (λ calls. SyncsFolder folder calls true) → SameHeld tells mid new → WritesFile {E = E} tells old new spare name bytes (AsksToWrite spare name bytes) (Ok tt)
writes_synced tells old mid new spare name bytes folder is writes syncs stays =
    let both = then_on (WritesNamed spare name bytes) (SyncsFolder (folder_of name)) old mid new true (writes.asks.0, writes.asks.1, writes.asks.2.0) (syncs.0, syncs.1, subst (λ f. SyncsFolder f syncs.0 true) is syncs.2) in
    record {
      asks = (both.0, both.1, (both.2, λ empty. tt));
      written = λ known. stays known (Named name) ∙ writes.written known;
      torn = λ known. subst (λ held. IsTorn (old.held (Named name)) held bytes) (sym (stays known (Named name))) (writes.torn known);
      others_stay = λ known q other apart. stays known q ∙ writes.others_stay known q other apart;
    }

-- one that wasn't written
pub writes_ended : {E : Type 0} (tells : Bool) (old new : FilesView) (spare name bytes : List ℕ) (error : E) → WritesFile tells old new spare name bytes (WritesNamed spare name bytes) (Err error) → WritesFile tells old new spare name bytes (AsksToWrite spare name bytes) (Err error)
writes_ended tells old new spare name bytes error writes = record {
  asks = (
    writes.asks.0,
    writes.asks.1,
    (ended (WritesNamed spare name bytes) (SyncsFolder (folder_of name)) writes.asks.0 writes.asks.2.0, writes.asks.2.1),
  );
  written = writes.written;
  torn = writes.torn;
  others_stay = writes.others_stay;
}
