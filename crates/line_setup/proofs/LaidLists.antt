-- A list of lists, when one list gets one more element.
use Rattle.std.proofs.Common.{◌≡◌, ◌≢◌, ℕ, zero, suc, ◌+◌, ◌<◌, ◌≤◌, List, [], ◌∷◌, ◌++◌, map, length, get_or, set, replicate, Vec, Global, refl, sym, ap, ◌∙◌, arith, ⊎_elim}
use Rattle.std.proofs.lemmas.Bool.{cases_eq}
use Rattle.std.proofs.lemmas.Simd.{map-map}
use Rattle.std.proofs.lemmas.List.{get_or-set_same, get_or-set_other, get_or_append_left, get_or_push, length_push, length-map, map-append, map-set, get_or-map, replicate_more}
use Rattle.line_setup.specs.Making.{with_one}

module _ {X : Type 0} where
  -- the other lists stay
  pub with_one-other : (lists : List (List X)) (k : ℕ) (x : X) (t : ℕ) → t ≢ k → get_or (with_one lists k x) t [] ≡ get_or lists t []
  with_one-other lists k x t other = get_or-set_other lists k t (get_or lists k [] ++ x ∷ []) [] other

  pub with_one-here : (lists : List (List X)) (k : ℕ) (x : X) → k < length lists → get_or (with_one lists k x) k [] ≡ get_or lists k [] ++ x ∷ []
  with_one-here lists k x there = get_or-set_same lists k (get_or lists k [] ++ x ∷ []) [] there

  -- no element changes
  pub get_or-with_one : (lists : List (List X)) (k : ℕ) (x : X) (t i : ℕ) (d : X) → k < length lists → i < length (get_or lists t []) → get_or (get_or (with_one lists k x) t []) i d ≡ get_or (get_or lists t []) i d
  get_or-with_one lists k x t i d there low =
      ⊎_elim
      (λ same.
      let here : i < length (get_or lists k []) = omega (arith, ap (λ u. length (get_or lists u [])) same) in
      ap (λ u. get_or (get_or (with_one lists k x) u []) i d) same
      ∙ ap (λ l. get_or l i d) (with_one-here lists k x there)
      ∙ get_or_append_left (get_or lists k []) (x ∷ []) d i here
      ∙ ap (λ u. get_or (get_or lists u []) i d) (sym same))
      (λ other. ap (λ l. get_or l i d) (with_one-other lists k x t other))
      (cases_eq t k)

  -- the new one is the last
  pub last-with_one : (lists : List (List X)) (k : ℕ) (x : X) (i : ℕ) (d : X) → k < length lists → length (get_or lists k []) ≡ i → get_or (get_or (with_one lists k x) k []) i d ≡ x
  last-with_one lists k x i d there last =
      ap (λ l. get_or l i d) (with_one-here lists k x there) ∙ get_or_push (get_or lists k []) x d i last

  pub length-with_one-here : (lists : List (List X)) (k : ℕ) (x : X) → k < length lists → length (get_or (with_one lists k x) k []) ≡ length (get_or lists k []) + 1
  length-with_one-here lists k x there = ap length (with_one-here lists k x there) ∙ length_push (get_or lists k []) x

  pub length-with_one-other : (lists : List (List X)) (k : ℕ) (x : X) (t : ℕ) → t ≢ k → length (get_or (with_one lists k x) t []) ≡ length (get_or lists t [])
  length-with_one-other lists k x t other = ap length (with_one-other lists k x t other)

  pub length-with_one-le : (lists : List (List X)) (k : ℕ) (x : X) (t : ℕ) → k < length lists → length (get_or lists t []) ≤ length (get_or (with_one lists k x) t [])
  length-with_one-le lists k x t there =
      ⊎_elim
      (λ same. omega (arith, length-with_one-here lists k x there, ap (λ u. length (get_or (with_one lists k x) u [])) same, ap (λ u. length (get_or lists u [])) same))
      (λ other. omega (arith, length-with_one-other lists k x t other))
      (cases_eq t k)

  -- a list of things that contracts see as lists, when one of them changes
  module _ {V : Type 0} (seen_as : V → List X) where
    map-with_one_seen : (things : List V) (k : ℕ) (old new : V) (x : X) (seen : List (List X)) → map seen_as things ≡ seen → k < length seen → old ≡ get_or things k old → seen_as new ≡ seen_as old ++ x ∷ [] → map seen_as (set things k new) ≡ with_one seen k x
    map-with_one_seen things k old new x seen e low at added =
        let here : get_or seen k [] ≡ seen_as old =
        ap (λ l. get_or l k []) (sym e)
        ∙ get_or-map seen_as things k old [] (omega (arith, ap length e, length-map things seen_as))
        ∙ ap seen_as (sym at) in
        map-set seen_as things k new
        ∙ ap (λ l. set l k (seen_as new)) e
        ∙ ap (λ v. set seen k v) (added ∙ ap (λ l. l ++ x ∷ []) (sym here))

    map-emptied_seen : (things : List V) (k : ℕ) (new : V) (seen : List (List X)) → map seen_as things ≡ seen → seen_as new ≡ [] → map seen_as (set things k new) ≡ set seen k []
    map-emptied_seen things k new seen e none =
        map-set seen_as things k new ∙ ap (λ l. set l k (seen_as new)) e ∙ ap (λ v. set seen k v) none

  -- vectors, seen as their items
  abbrev items_of : Vec X Global → List X
  items_of v = v.items

  pub map-with_one : (vectors : List (Vec X Global)) (k : ℕ) (old new : Vec X Global) (x : X) (seen : List (List X)) → map items_of vectors ≡ seen → k < length seen → old ≡ get_or vectors k old → new.items ≡ old.items ++ x ∷ [] → map items_of (set vectors k new) ≡ with_one seen k x
  map-with_one = map-with_one_seen items_of

  pub map-emptied : (vectors : List (Vec X Global)) (k : ℕ) (new : Vec X Global) (seen : List (List X)) → map items_of vectors ≡ seen → new.items ≡ [] → map items_of (set vectors k new) ≡ set seen k []
  map-emptied = map-emptied_seen items_of

  -- one more empty vector behind empty ones
  pub map-one_more_empty : (vectors more : List (Vec X Global)) (v : Vec X Global) (n : ℕ) → map items_of vectors ≡ replicate n [] → v.items ≡ [] → more ≡ vectors ++ v ∷ [] → map items_of more ≡ replicate (n + 1) []
  map-one_more_empty vectors more v n before none pushed =
      ap (map items_of) pushed
      ∙ map-append items_of vectors (v ∷ [])
      ∙ ap (λ l. map items_of vectors ++ l ∷ []) none
      ∙ ap (λ l. l ++ [] ∷ []) before
      ∙ replicate_more n []

map-replicate : {X Y : Type 0} (f : X → Y) (n : ℕ) (x : X) → map f (replicate n x) ≡ replicate n (f x)
map-replicate f zero x = refl
map-replicate f (suc n) x = ap (λ l. f x ∷ l) (map-replicate f n x)

-- vectors of vectors of tokens
module _ where
  abbrev tokens_of : Vec ℕ Global → List ℕ
  tokens_of v = v.items

  abbrev lists_of : Vec (Vec ℕ Global) Global → List (List ℕ)
  lists_of v = map tokens_of v.items

  pub map-with_tokens : (vectors : List (Vec (Vec ℕ Global) Global)) (k : ℕ) (old new : Vec (Vec ℕ Global) Global) (tokens : Vec ℕ Global) (seen : List (List (List ℕ))) → map lists_of vectors ≡ seen → k < length seen → old ≡ get_or vectors k old → new.items ≡ old.items ++ tokens ∷ [] → map lists_of (set vectors k new) ≡ with_one seen k tokens.items
  map-with_tokens vectors k old new tokens seen e low at added =
      map-with_one_seen lists_of vectors k old new tokens.items seen e low at (ap (map tokens_of) added ∙ map-append tokens_of old.items (tokens ∷ []))

  pub map-no_tokens : (vectors : List (Vec (Vec ℕ Global) Global)) (k : ℕ) (new : Vec (Vec ℕ Global) Global) (seen : List (List (List ℕ))) → map lists_of vectors ≡ seen → new.items ≡ [] → map lists_of (set vectors k new) ≡ set seen k []
  map-no_tokens vectors k new seen e none = map-emptied_seen lists_of vectors k new seen e (ap (map tokens_of) none)

  -- as many lists stand in a vector as are seen there
  pub count-seen : (vectors : List (Vec (Vec ℕ Global) Global)) (k : ℕ) (here : Vec (Vec ℕ Global) Global) (seen : List (List (List ℕ))) → map lists_of vectors ≡ seen → k < length seen → here ≡ get_or vectors k here → length here.items ≡ length (get_or seen k [])
  count-seen vectors k here seen e low at =
      sym (length-map here.items tokens_of)
      ∙ ap (λ (v : Vec (Vec ℕ Global) Global). length (lists_of v)) at
      ∙ ap length (sym (get_or-map lists_of vectors k here [] (omega (arith, low, ap length e, length-map vectors lists_of))))
      ∙ ap (λ l. length (get_or l k [])) e

  -- where each is empty, none has tokens
  pub no-tokens : (vectors : List (Vec (Vec ℕ Global) Global)) (n : ℕ) → map (λ (v : Vec (Vec ℕ Global) Global). v.items) vectors ≡ replicate n [] → map lists_of vectors ≡ replicate n []
  no-tokens vectors n none =
      sym (map-map (map tokens_of) (λ (v : Vec (Vec ℕ Global) Global). v.items) vectors)
      ∙ ap (map (map tokens_of)) none
      ∙ map-replicate (map tokens_of) n []
