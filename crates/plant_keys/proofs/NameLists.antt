-- The names in a set beside the list of them.
use Rattle.std.proofs.Common.{◌≡◌, ℕ, suc, ◌+◌, ◌<◌, ◌≤◌, Bool, true, false, not, ◌||◌, cond, List, [], ◌∷◌, ◌++◌, map, take, length, get_or, Some, None, refl, ap, sym, ◌∙◌, Bor, ltb, arith}
use Rattle.std.specs.Prelude.{bytes_eq, position}
use Rattle.std.specs.List.{list_any, prefix_len, position_or_len}
use Rattle.std.proofs.lemmas.Bool.{ltb-false}
use Rattle.std.proofs.lemmas.List.{take_more}
use Rattle.std.proofs.lemmas.List.Sums.{prefix_len-le-length}
use Rattle.std.proofs.Math.ListN.{get_or-map}
use Rattle.std.proofs.lemmas.List.{length-map}
use Rattle.toml.specs.View.{view}
use Rattle.toml.specs.declared.value.Value.{Value}
use Rattle.plant_keys.specs.Code.{views, with_name}
use Rattle.plant_keys.specs.Readers.{name_in}

texts : List (Bor (List ℕ)) → List (List ℕ)
texts names = map (λ name. name.now) names

pub list_any_texts : (p : List ℕ → Bool) (names : List (Bor (List ℕ))) → list_any p (map (λ name. name.now) names) ≡ list_any (λ name. p name.now) names
list_any_texts p [] = refl
list_any_texts p (n ∷ ns) = ap (λ rest. p n.now || rest) (list_any_texts p ns)

pub texts_more : (names : List (Bor (List ℕ))) (name : Bor (List ℕ)) → map (λ n. n.now) (names ++ name ∷ []) ≡ map (λ n. n.now) names ++ name.now ∷ []
texts_more [] name = refl
texts_more (n ∷ ns) name = ap (λ rest. n.now ∷ rest) (texts_more ns name)

-- the texts of a set after a name was put into it
pub texts_with : (keys after : List (Bor (List ℕ))) (name : Bor (List ℕ)) → after ≡ cond (list_any (λ n. bytes_eq name.now n.now) keys) keys (keys ++ name ∷ []) → map (λ n. n.now) after ≡ with_name name.now (map (λ n. n.now) keys)
texts_with keys after name is =
    rw (is, list_any_texts (bytes_eq name.now) keys, ← texts_more keys name)
    (texts_of_either (list_any (λ n. bytes_eq name.now n.now) keys) keys (keys ++ name ∷ []))
  where
    texts_of_either : (b : Bool) (xs ys : List (Bor (List ℕ))) → map (λ n. n.now) (cond b xs ys) ≡ cond b (map (λ n. n.now) xs) (map (λ n. n.now) ys)
    texts_of_either true xs ys = refl
    texts_of_either false xs ys = refl

pub length_texts : (names : List (Bor (List ℕ))) → length (map (λ n. n.now) names) ≡ length names
length_texts [] = refl
length_texts (n ∷ ns) = ap suc (length_texts ns)

prefix_len_texts : (p : List ℕ → Bool) (names : List (Bor (List ℕ))) → prefix_len p (map (λ n. n.now) names) ≡ prefix_len (λ n. p n.now) names
prefix_len_texts p [] = refl
prefix_len_texts p (n ∷ ns) = rw (prefix_len_texts p ns) refl

pub position_texts : (p : List ℕ → Bool) (names : List (Bor (List ℕ))) → position p (map (λ n. n.now) names) ≡ position (λ n. p n.now) names
position_texts p names =
    rw (length_texts names, prefix_len_texts (λ x. not (p x)) names) refl

-- where no element passes, as many elements stand before the first that does as there are
none_passes : (found all : ℕ) → found ≤ all → None ≡ cond (ltb found all) (Some found) None → all ≡ found
none_passes found all within none =
    elim (ltb found all) as (λ b. ltb found all ≡ b → None ≡ cond b (Some found) None → all ≡ found)
    [ true ↦ λ is none. cc | false ↦ λ is none. let up = ltb-false found all is in omega arith ] refl none

pub number_where_none : {X : Type 0} (p : X → Bool) (xs : List X) → None ≡ position p xs → length xs ≡ position_or_len p xs
number_where_none p xs none =
    none_passes (position_or_len p xs) (length xs) (prefix_len-le-length (λ x. not (p x)) xs) none

-- the place of an element that passes
some_passes : (found all n : ℕ) → Some n ≡ cond (ltb found all) (Some found) None → n ≡ found
some_passes found all n some =
    elim (ltb found all) as (λ b. Some n ≡ cond b (Some found) None → n ≡ found)
    [ true ↦ λ some. cc | false ↦ λ some. cc ] some

pub number_where_some : {X : Type 0} (p : X → Bool) (xs : List X) (n : ℕ) → Some n ≡ position p xs → n ≡ position_or_len p xs
number_where_some p xs n some = some_passes (position_or_len p xs) (length xs) n some

-- the names of the values below number j, and that of value j
pub names_more : (vs : List Value) (j : ℕ) (x : Value) (names : List (List ℕ)) → names ≡ take j (map name_in (views vs)) → j < length vs → x ≡ get_or vs j x → names ++ name_in (view x) ∷ [] ≡ take (j + 1) (map name_in (views vs))
names_more vs j x names e below is =
    let all = map name_in (views vs) in
    let long : length all ≡ length vs = rw (length-map (views vs) name_in, length-map vs view) refl in
    let within : j < length all = rw long below in
    let at : get_or all j (name_in (view x)) ≡ name_in (view x) =
    get_or-map name_in (views vs) j (view x) ∙ ap name_in (get_or-map view vs j x ∙ ap view (sym is)) in
    e-more all j (name_in (view x)) names e within at
  where
    e-more : (all : List (List ℕ)) (j : ℕ) (name : List ℕ) (names : List (List ℕ)) → names ≡ take j all → j < length all → get_or all j name ≡ name → names ++ name ∷ [] ≡ take (j + 1) all
    e-more all j name names e within at = rw (take_more all j name within, at, e) refl
