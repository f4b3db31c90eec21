-- What files hold after one call of the machine and another.
use Rattle.std.proofs.Common.{◌≡◌, ◌≢◌, inr, ℕ, ◌+◌, ◌≤◌, List, [], ◌++◌, length, take, drop, Bool, true, false, refl, ◌∙◌, ap, sym, subst, append_assoc, append-nil, arith}
use Rattle.std.specs.Prelude.{Option, Some, None, option_map, Result, Ok, Err, OnOk, OnErr, IsTrue}
use Rattle.std.proofs.Math.Seq.{take-add}
use Rattle.std.proofs.lemmas.Bool.{false≢true}
use Rattle.std.proofs.lemmas.List.{take_all, take-append-drop}
use Rattle.outside_io.specs.Contents.{IsTorn}
use Rattle.outside_io.specs.RawFiles.{FilesView, RawName, Named, Spare, StaysOpen, StartsEmpty, IsEmptyOpen, Grows, GrowsByPrefix, Moves, OthersHeld}

append_none : (known : Option (List ℕ)) → known ≡ option_map (λ c. c ++ []) known
append_none None = refl
append_none (Some bytes) = ap (λ (xs : List ℕ). Some xs) (sym (append-nil bytes))

append_both : (known : Option (List ℕ)) (xs ys : List ℕ) → option_map (λ c. c ++ ys) (option_map (λ c. c ++ xs) known) ≡ option_map (λ c. c ++ (xs ++ ys)) known
append_both None xs ys = refl
append_both (Some bytes) xs ys = ap (λ (zs : List ℕ). Some zs) (append_assoc bytes xs ys)

-- nothing was written
pub grows_none : (a : FilesView) → Grows a a []
grows_none a = record { writes_to = refl; grown = append_none (a.held a.writes_to); others = λ q other. refl }

-- one write behind another
pub grows_both : (a b c : FilesView) (xs ys : List ℕ) → Grows a b xs → Grows b c ys → Grows a c (xs ++ ys)
grows_both a b c xs ys first second = record {
  writes_to = second.writes_to ∙ first.writes_to;
  grown = subst (λ w. c.held w ≡ option_map (λ x. x ++ ys) (b.held w)) first.writes_to second.grown
      ∙ ap (λ o. option_map (λ x. x ++ ys) o) first.grown
      ∙ append_both (a.held a.writes_to) xs ys;
  others = λ q other. second.others q (λ same. other (same ∙ first.writes_to)) ∙ first.others q other;
}

-- a write that is so far done up to some bytes, and takes more
pub grows_more : (a b c : FilesView) (bytes : List ℕ) (taken count : ℕ) → Grows a b (take taken bytes) → Grows b c (take count (drop taken bytes)) → Grows a c (take (taken + count) bytes)
grows_more a b c bytes taken count first second =
    subst (λ xs. Grows a c xs) (sym (take-add taken count bytes)) (grows_both a b c (take taken bytes) (take count (drop taken bytes)) first second)

-- and is then refused
pub grows_torn : (a b c : FilesView) (bytes : List ℕ) (taken : ℕ) → Grows a b (take taken bytes) → GrowsByPrefix b c (drop taken bytes) → GrowsByPrefix a c bytes
grows_torn a b c bytes taken first second =
    (taken + second.0, grows_more a b c bytes taken second.0 first second.1)

-- all was taken
pub grows_all : (a b : FilesView) (bytes : List ℕ) (taken : ℕ) → Grows a b (take taken bytes) → length bytes ≤ taken → Grows a b bytes
grows_all a b bytes taken grows all = subst (λ xs. Grows a b xs) (take_all taken bytes all) grows

-- and then synced
pub grows_synced : (a b c : FilesView) (bytes : List ℕ) → Grows a b bytes → StaysOpen b c → Grows a c bytes
grows_synced a b c bytes grows stays = record {
  writes_to = stays.writes_to ∙ grows.writes_to;
  grown = stays.held a.writes_to ∙ grows.grown;
  others = λ q other. stays.held q ∙ grows.others q other;
}

-- all of it is a prefix of it
pub front_of_all : (a b : FilesView) (bytes : List ℕ) → Grows a b bytes → GrowsByPrefix a b bytes
front_of_all a b bytes grows =
    (length bytes, subst (λ xs. Grows a b xs) (sym (take_all (length bytes) bytes (omega arith))) grows)

-- what a file holds that was empty, and grew
pub held_grown : (a b : FilesView) (file : RawName) (bytes : List ℕ) → a.writes_to ≡ file → a.held file ≡ Some [] → Grows a b bytes → b.held file ≡ Some bytes
held_grown a b file bytes is empty grows =
    subst (λ w. b.held w ≡ option_map (λ x. x ++ bytes) (a.held w)) is grows.grown
    ∙ ap (λ o. option_map (λ x. x ++ bytes) o) empty

-- and each other file
pub others_grown : (a b : FilesView) (file q : RawName) (bytes : List ℕ) → a.writes_to ≡ file → Grows a b bytes → q ≢ file → b.held q ≡ a.held q
others_grown a b file q bytes is grows other = grows.others q (λ same. other (same ∙ is))

-- a file that was made or emptied, and then filled in part
pub torn_in_place : (a b c : FilesView) (file : RawName) (bytes : List ℕ) → StartsEmpty a b file → GrowsByPrefix b c bytes → IsTorn (a.held file) (c.held file) bytes
torn_in_place a b c file bytes starts grows =
    inr (take grows.0 bytes, drop grows.0 bytes, sym (take-append-drop grows.0 bytes), held_grown b c file (take grows.0 bytes) starts.writes_to starts.empty grows.1)

-- so it holds the bytes, where all went well
pub held_on_ok : {T E : Type 0} (tells : Bool) (a b c : FilesView) (file : RawName) (bytes : List ℕ) (result : Result T E) → (IsTrue tells → StartsEmpty a b file) → OnOk result (IsTrue tells → Grows b c bytes) → OnOk result (IsTrue tells → c.held file ≡ Some bytes)
held_on_ok tells a b c file bytes (Ok done) starts grows = λ known.
    held_grown b c file bytes (starts known).writes_to (starts known).empty (grows known)
held_on_ok tells a b c file bytes (Err error) starts grows = tt

-- a file that was filled, and then synced
pub synced_on_ok : {T E : Type 0} (tells : Bool) (a b c : FilesView) (bytes : List ℕ) (result : Result T E) → (IsTrue tells → Grows a b bytes) → (IsTrue tells → StaysOpen b c) → OnOk result (IsTrue tells → Grows a c bytes)
synced_on_ok tells a b c bytes (Ok done) grows stays = λ known. grows_synced a b c bytes (grows known) (stays known)
synced_on_ok tells a b c bytes (Err error) grows stays = tt

-- a spare file that was filled, and then renamed: the named one holds the bytes
pub renamed_on_ok : {T E : Type 0} (tells : Bool) (a b c : FilesView) (spare name bytes : List ℕ) (result : Result T E) → (IsTrue tells → IsEmptyOpen a (Spare spare)) → (IsTrue tells → Grows a b bytes) → OnOk result (IsTrue tells → Moves b c spare name) → OnOk result (IsTrue tells → c.held (Named name) ≡ Some bytes)
renamed_on_ok tells a b c spare name bytes (Ok done) empty grows moves = λ known.
    (moves known).moved ∙ held_grown a b (Spare spare) bytes (empty known).writes_to (empty known).empty (grows known)
renamed_on_ok tells a b c spare name bytes (Err error) empty grows moves = tt

-- or each but the spare one is as it was
pub unharmed_on_err : {T E : Type 0} (tells : Bool) (a b c : FilesView) (spare bytes : List ℕ) (result : Result T E) → (IsTrue tells → IsEmptyOpen a (Spare spare)) → (IsTrue tells → Grows a b bytes) → OnErr result (IsTrue tells → (q : RawName) → c.held q ≡ b.held q) → OnErr result (IsTrue tells → (q : RawName) → q ≢ Spare spare → c.held q ≡ a.held q)
unharmed_on_err tells a b c spare bytes (Ok done) empty grows stays = tt
unharmed_on_err tells a b c spare bytes (Err error) empty grows stays = λ known q apart.
    stays known q ∙ others_grown a b (Spare spare) q bytes (empty known).writes_to (grows known) apart

-- and each other one in both cases
pub others_renamed : {T E : Type 0} (tells : Bool) (a b c : FilesView) (spare name bytes : List ℕ) (result : Result T E) → (IsTrue tells → IsEmptyOpen a (Spare spare)) → (IsTrue tells → Grows a b bytes) → OnOk result (IsTrue tells → Moves b c spare name) → OnErr result (IsTrue tells → (q : RawName) → c.held q ≡ b.held q) → OthersHeld tells a c spare name
others_renamed tells a b c spare name bytes (Ok done) empty grows moves stays = λ known q other apart.
    (moves known).others q other apart ∙ others_grown a b (Spare spare) q bytes (empty known).writes_to (grows known) apart
others_renamed tells a b c spare name bytes (Err error) empty grows moves stays = λ known q other apart.
    stays known q ∙ others_grown a b (Spare spare) q bytes (empty known).writes_to (grows known) apart

-- names of files and of spare ones
name_of : RawName → List ℕ
name_of (Named name) = name
name_of (Spare name) = name

is_spare : RawName → Bool
is_spare (Named name) = false
is_spare (Spare name) = true

pub named_apart : (p q : List ℕ) → p ≢ q → Named p ≢ Named q
unfolding name_of
named_apart p q other = λ same. other (ap name_of same)

pub named_not_spare : (p q : List ℕ) → Named p ≢ Spare q
unfolding is_spare
named_not_spare p q = λ same. false≢true (ap is_spare same)
