-- Vectors that are filled by one value after the other, in the room that they were made with.
use Rattle.std.proofs.Common.{◌≡◌, ℕ, ◌+◌, ◌<◌, ◌≤◌, List, [], ◌∷◌, ◌++◌, take, length, get_or, map, Vec, Global, vec_len, vec_capacity, sym, ap, ◌∙◌, arith}
use Rattle.std.specs.List.{range_with_len}
use Rattle.std.proofs.lemmas.List.{take_more, take_all}
use Rattle.std.proofs.lemmas.List.FromFn.{map-range_with_len_more}

-- the first `n` of some values stand in a vector with room for `size`
pub record AreMade {X : Type 0} (first : ℕ → List X) (size n : ℕ) (made : Vec X Global) : Type 0 where
  pub items : made.items ≡ first n
  pub count : vec_len made ≡ n
  pub room : size ≤ vec_capacity made

-- the values of a function at numbers that follow one another
abbrev pub values : {X : Type 0} → (ℕ → X) → ℕ → ℕ → List X
values f a n = map f (range_with_len a n)

-- the values of another list
abbrev pub copied : {X : Type 0} → List X → ℕ → List X
copied all n = take n all

module _ {X : Type 0} (first : ℕ → List X) (size : ℕ) where
  -- none at first
  pub made_none : (made : Vec X Global) → first 0 ≡ [] → made.items ≡ [] → vec_len made ≡ 0 → size ≤ vec_capacity made → AreMade first size 0 made
  made_none made none items count room = record { items = items ∙ sym none; count = count; room = room }

  -- there is room for one more
  pub made_room : (n : ℕ) (made : Vec X Global) → AreMade first size n made → n < size → vec_len made < vec_capacity made
  made_room n made are less = omega (arith, are.count, are.room)

  -- one more
  made_next : (n : ℕ) (old new : Vec X Global) (x : X) → first (n + 1) ≡ first n ++ x ∷ [] → AreMade first size n old → new.items ≡ old.items ++ x ∷ [] → vec_len new ≡ vec_len old + 1 → vec_capacity new ≡ vec_capacity old → AreMade first size (n + 1) new
  made_next n old new x next are pushed count room = record {
    items = pushed ∙ ap (λ l. l ++ x ∷ []) are.items ∙ sym next;
    count = omega (arith, are.count, count);
    room = omega (arith, are.room, room);
  }

-- one more value
pub made_more : {X : Type 0} (f : ℕ → X) (a size n j : ℕ) (old new : Vec X Global) (x : X) → a + n ≡ j → x ≡ f j → AreMade (values f a) size n old → new.items ≡ old.items ++ x ∷ [] → vec_len new ≡ vec_len old + 1 → vec_capacity new ≡ vec_capacity old → AreMade (values f a) size (n + 1) new
made_more f a size n j old new x at is =
    made_next (values f a) size n old new x (map-range_with_len_more f a n j at ∙ ap (λ y. map f (range_with_len a n) ++ y ∷ []) (sym is))

-- one more copy
pub copied_more : {X : Type 0} (all : List X) (size n : ℕ) (d : X) (old new : Vec X Global) (x : X) → n < length all → x ≡ get_or all n d → AreMade (copied all) size n old → new.items ≡ old.items ++ x ∷ [] → vec_len new ≡ vec_len old + 1 → vec_capacity new ≡ vec_capacity old → AreMade (copied all) size (n + 1) new
copied_more all size n d old new x there is =
    made_next (copied all) size n old new x (take_more all n d there ∙ ap (λ y. take n all ++ y ∷ []) (sym is))

-- all are copied
pub copied_all : {X : Type 0} (all : List X) (size n : ℕ) (made : Vec X Global) → length all ≤ n → AreMade (copied all) size n made → made.items ≡ all
copied_all all size n made over are = are.items ∙ take_all n all over
