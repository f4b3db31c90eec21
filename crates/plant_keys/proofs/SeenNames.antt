-- Names that came so far beside the list of all.
use Rattle.std.proofs.Common.{◌≡◌, ℕ, ◌+◌, ◌<◌, ◌≤◌, Bool, true, false, not, ◌&&◌, ◌||◌, List, [], ◌∷◌, ◌++◌, map, take, length, get_or, cond, refl, ap, sym, subst, ◌∙◌}
use Rattle.std.specs.Prelude.{bytes_eq, codes}
use Rattle.std.specs.List.{list_any}
use Rattle.plant_model.specs.declared.place.FileTable.{FileTable}
use Rattle.plant_model.specs.declared.place.FileTable.TheVariants.{InStage}
use Rattle.plant_model.specs.declared.error.PlantError.TheVariants.{NameTwice}
use Rattle.plant_model.specs.Place.{key_of}
use Rattle.plant_model.specs.Refusals.{refuse_if}
use Rattle.toml.specs.Data.{Data}
use Rattle.toml.specs.View.{view}
use Rattle.toml.specs.declared.value.Value.{Value}
use Rattle.plant_keys.specs.Code.{views, with_name}
use Rattle.plant_keys.specs.Readers.{name_in, tables_at}
use Rattle.plant_keys.specs.Rules.{name_twice, machine_names_twice, stage_name_twice, stage_names_twice}
use Rattle.std.proofs.Math.ListN.{get_or-map}
use Rattle.std.proofs.lemmas.List.{length-map, take_all}
use Rattle.plant_model.proofs.NoRefusals.{append-nil_left, each-none, refuse_if-none}
use Rattle.std.proofs.lemmas.List.Folds.{list_any-append}
use Rattle.std.proofs.lemmas.Slice.Eq.{bytes_eq-Decides}
use Rattle.plant_keys.proofs.NameLists.{names_more}
use Rattle.plant_keys.specs.Seen.{AreNamesSeen, HaveSame}
use Rattle.plant_keys.specs.Walk.{fed_fault, fed_faults}

-- the names that came, with one more or without it where it came before
with_name-same : (seen : List (List ℕ)) (name : List ℕ) → HaveSame (with_name name seen) (seen ++ name ∷ [])
with_name-same seen name =
    elim (list_any (bytes_eq name) seen) as (λ b. list_any (bytes_eq name) seen ≡ b → HaveSame (cond b seen (seen ++ name ∷ [])) (seen ++ name ∷ [])) [
      | true ↦ λ known. record {
        same = λ q.
            sym
            (list_any-append (bytes_eq q) seen (name ∷ [])
            ∙ known_either (list_any (bytes_eq q) seen) (bytes_eq q name) (λ is. ap (λ text. list_any (bytes_eq text) seen) ((bytes_eq-Decides q name).0 is) ∙ known));
      }
      | false ↦ λ _. record { same = λ q. refl }
    ] refl
  where
    known_either : (there here : Bool) → (here ≡ true → there ≡ true) → (there || (here || false)) ≡ there
    known_either true here h = refl
    known_either false true h = sym (h refl)
    known_either false false h = refl

-- the names that came, after one was added
pub added_same : (seen now : List (List ℕ)) (name : List ℕ) → now ≡ with_name name seen → HaveSame now (seen ++ name ∷ [])
added_same seen now name is = rw is (with_name-same seen name)

-- one name more in both
pub same-push : (seen now names : List (List ℕ)) (name : List ℕ) → HaveSame seen names → HaveSame now (seen ++ name ∷ []) → HaveSame now (names ++ name ∷ [])
same-push seen now names name before added =
    record {
      same = λ q.
          added.same q
          ∙ list_any-append (bytes_eq q) seen (name ∷ [])
          ∙ ap (λ b. b || list_any (bytes_eq q) (name ∷ [])) (before.same q)
          ∙ sym (list_any-append (bytes_eq q) names (name ∷ []));
    }

-- no name came yet
pub none_seen : (seen : List (List ℕ)) → seen ≡ [] → HaveSame seen []
none_seen seen is = rw is (record { same = λ q. refl })

-- the name of the next value came too
pub seen_more : (vs : List Value) (j : ℕ) (x : Value) (seen now : List (List ℕ)) → HaveSame seen (take j (map name_in (views vs))) → HaveSame now (seen ++ name_in (view x) ∷ []) → j < length vs → x ≡ get_or vs j x → HaveSame now (take (j + 1) (map name_in (views vs)))
seen_more vs j x seen now before added below is =
    rw (← names_more vs j x (take j (map name_in (views vs))) refl below is)
    (same-push seen now (take j (map name_in (views vs))) (name_in (view x)) before added)

-- what is found of a name that may be new
pub twice_found : (table : FileTable) (seen : List (List ℕ)) (name : List ℕ) (is_new : Bool) → is_new ≡ not (list_any (bytes_eq name) seen) → refuse_if (not is_new) (NameTwice (key_of table (codes "name"))) ≡ name_twice table seen name
twice_found table seen name is_new is =
    ap (λ twice. refuse_if twice (NameTwice (key_of table (codes "name")))) (ap not is ∙ not_not (list_any (bytes_eq name) seen))
  where
    not_not : (b : Bool) → not (not b) ≡ b
    not_not true = refl
    not_not false = refl

-- whether a name stands twice is decided by the names that came, whatever their order
pub name_twice-same : (table : FileTable) (seen names : List (List ℕ)) (name : List ℕ) → HaveSame seen names → name_twice table seen name ≡ name_twice table names name
name_twice-same table seen names name h =
    ap (λ twice. refuse_if twice (NameTwice (key_of table (codes "name")))) (h.same name)

pub stage_name_twice-same : (seen names : List (List ℕ)) (i : ℕ) (s : Data) → HaveSame seen names → stage_name_twice seen i s ≡ stage_name_twice names i s
stage_name_twice-same seen names i s h =
    ap (λ own. own ++ machine_names_twice i (tables_at (codes "machine") s)) (name_twice-same (InStage i) seen names (name_in s) h)

-- whether a later stage has a name is decided by the names of all, and of those up to this one
pub fed_same : (all before names : List (List ℕ)) (i : ℕ) (name : List ℕ) → HaveSame all names → HaveSame before (take (i + 1) names) → fed_fault (list_any (bytes_eq name) all && not (list_any (bytes_eq name) before)) i name ≡ fed_faults names i name
fed_same all before names i name h g =
    ap (λ later. fed_fault later i name)
    (ap (λ there. there && not (list_any (bytes_eq name) before)) (h.same name)
    ∙ ap (λ earlier. list_any (bytes_eq name) names && not earlier) (g.same name))

-- where no name stands twice, the name of the next value is added at the end
pub seen_exact : (vs : List Value) (i : ℕ) (x : Value) (seen now : List (List ℕ)) → (stage_names_twice (views vs) ≡ [] → seen ≡ take i (map name_in (views vs))) → now ≡ with_name (name_in (view x)) seen → i < length vs → x ≡ get_or vs i x → stage_names_twice (views vs) ≡ [] → now ≡ take (i + 1) (map name_in (views vs))
seen_exact vs i x seen now before added below is none =
    let names = map name_in (views vs) in
    let name = name_in (view x) in
    let within : i < length (views vs) = rw (length-map vs view) below in
    let here : get_or (views vs) i (view x) ≡ view x = get_or-map view vs i x ∙ ap view (sym is) in
    let refused : stage_name_twice (take i names) i (view x) ≡ [] =
    ap (stage_name_twice (take i names) i) (sym here) ∙ each-none (λ k s. stage_name_twice (take k names) k s) (views vs) i (view x) within none in
    let new : list_any (bytes_eq name) (take i names) ≡ false =
    refuse_if-none (list_any (bytes_eq name) (take i names)) _ (append-nil_left _ _ refused) in
    added
    ∙ ap (with_name name) (before none)
    ∙ ap (λ known. cond known (take i names) (take i names ++ name ∷ [])) new
    ∙ names_more vs i x (take i names) refl below is

-- the names of all came
pub seen_all : (vs : List Value) (i : ℕ) (seen : List (List ℕ)) → HaveSame seen (take i (map name_in (views vs))) → (stage_names_twice (views vs) ≡ [] → seen ≡ take i (map name_in (views vs))) → length vs ≤ i → AreNamesSeen seen (views vs)
seen_all vs i seen same exact past =
    let names = map name_in (views vs) in
    let long : length names ≡ length vs = length-map (views vs) name_in ∙ length-map vs view in
    let within : length names ≤ i = rw long past in
    let whole : take i names ≡ names = take_all i names within in
    record { same = subst (HaveSame seen) whole same; exact = λ none. exact none ∙ whole }
