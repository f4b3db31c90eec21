-- Lists of values beside the lists of their data.
use Rattle.std.proofs.Common.{◌≡◌, Bool, false, ◌||◌, List, [], ◌∷◌, map, refl, ap, sym, ◌∙◌, Vec, Global, Some, None}
use Rattle.std.specs.List.{list_all, list_any}
use Rattle.std.proofs.lemmas.List.Folds.{list_all-map}
use Rattle.toml.specs.Data.{Data, array, Items, as_array}
use Rattle.toml.specs.View.{view, items_of, array_view}
use Rattle.toml.specs.declared.value.Value.{Value}
use Rattle.plant_keys.specs.Code.{views}
use Rattle.plant_keys.specs.Readers.{elements, elements_of, is_list_of}

pub list_all_views : (p : Data → Bool) (vs : List Value) → list_all p (views vs) ≡ list_all (λ v. p (view v)) vs
list_all_views p vs = list_all-map p view vs

-- the elements of the items of a list are the list
pub elements-items_of : (ds : List Data) → elements (items_of ds) ≡ ds
elements-items_of [] = refl
elements-items_of (d ∷ ds) = ap (λ rest. d ∷ rest) (elements-items_of ds)

-- the elements of a value that is an array of these items
pub elements_of-array : (d : Data) (ds : Items) → Some ds ≡ as_array d → elements_of d ≡ elements ds
elements_of-array (array es) ds h = cc
elements_of-array _ ds h = cc

-- the elements of a value that is no array
pub elements_of-none : (d : Data) → None ≡ as_array d → elements_of d ≡ []
elements_of-none (array es) h = cc
elements_of-none _ h = refl

pub elements_of-vec : (d : Data) (v : Vec Value Global) → Some (array_view v) ≡ as_array d → views v.items ≡ elements_of d
elements_of-vec d v h = sym (elements_of-array d (array_view v) h ∙ elements-items_of (views v.items))

-- a value that is an array of these items is a list of what its elements are
pub is_list_of-vec : (p : Data → Bool) (d : Data) (v : Vec Value Global) → Some (array_view v) ≡ as_array d → is_list_of p d ≡ list_all (λ x. p (view x)) v.items
is_list_of-vec p (array es) v h =
    let same : array_view v ≡ es = cc in
    rw (← same, elements-items_of (views v.items)) (list_all_views p v.items)
is_list_of-vec p _ v h = cc

-- a value that is no array is a list of nothing
pub is_list_of-none : (p : Data → Bool) (d : Data) → None ≡ as_array d → is_list_of p d ≡ false
is_list_of-none p (array es) h = cc
is_list_of-none p _ h = refl

pub list_any_views : (p : Data → Bool) (vs : List Value) → list_any p (views vs) ≡ list_any (λ v. p (view v)) vs
list_any_views p [] = refl
list_any_views p (v ∷ vs) = ap (λ rest. p (view v) || rest) (list_any_views p vs)

pub map_views : {X : Type 0} (g : Data → X) (vs : List Value) → map g (views vs) ≡ map (λ v. g (view v)) vs
map_views g [] = refl
map_views g (v ∷ vs) = ap (λ rest. g (view v) ∷ rest) (map_views g vs)
