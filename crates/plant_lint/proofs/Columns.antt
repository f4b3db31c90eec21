-- Lines and columns, one byte after the other.
use Rattle.std.proofs.Common.{◌≡◌, ℕ, ◌+◌, ◌<◌, ◌≤◌, Bool, true, false, ◌||◌, cond, List, [], ◌∷◌, ◌++◌, take, length, get_or, refl, ◌∙◌, arith}
use Rattle.std.specs.List.{list_any, count_by}
use Rattle.std.proofs.lemmas.List.{take_more}
use Rattle.std.proofs.lemmas.List.Sums.{sum_by_push}
use Rattle.std.proofs.lemmas.List.Folds.{list_any-append}
use Rattle.plant_lint.specs.Positions.{ends_line, begins_character, last_line}

push_step : (any late_any ends : Bool) (early late : List ℕ) (x b : ℕ) (xs : List ℕ) → late_any ≡ (any || (ends || false)) → late ≡ cond ends [] (early ++ b ∷ []) → cond late_any late (x ∷ (xs ++ b ∷ [])) ≡ cond ends [] (cond any early (x ∷ xs) ++ b ∷ [])
push_step true late_any true early late x b xs is after = rw (is, after) refl
push_step true late_any false early late x b xs is after = rw (is, after) refl
push_step false late_any true early late x b xs is after = rw (is, after) refl
push_step false late_any false early late x b xs is after = rw is refl

first_step : (ends : Bool) (b : ℕ) → cond (ends || false) [] (b ∷ []) ≡ cond ends [] (b ∷ [])
first_step true b = refl
first_step false b = refl

-- the last line after one more byte
pub last_line-push : (bytes : List ℕ) (b : ℕ) → last_line (bytes ++ b ∷ []) ≡ cond (ends_line b) [] (last_line bytes ++ b ∷ [])
last_line-push [] b = first_step (ends_line b) b
last_line-push (x ∷ xs) b =
    push_step (list_any ends_line (x ∷ xs)) (list_any ends_line (x ∷ (xs ++ b ∷ []))) (ends_line b) (last_line xs) (last_line (xs ++ b ∷ [])) x b xs
    (list_any-append ends_line (x ∷ xs) (b ∷ []))
    (last_line-push xs b)

plus_if : (begins : Bool) (n : ℕ) → n + cond begins 1 0 ≡ cond begins (n + 1) n
plus_if true n = refl
plus_if false n = omega arith

count_step : (begins ends : Bool) (early : List ℕ) (b : ℕ) → begins_character b ≡ begins → count_by begins_character (cond ends [] (early ++ b ∷ [])) ≡ cond ends 0 (cond begins (count_by begins_character early + 1) (count_by begins_character early))
count_step begins true early b is = refl
count_step begins false early b is =
    sum_by_push (λ x. cond (begins_character x) 1 0) early b
    ∙ rw is (plus_if begins (count_by begins_character early))

-- how many characters of the last line begin, after one more byte
pub begun_more : (bytes : List ℕ) (n d : ℕ) → n < length bytes → count_by begins_character (last_line (take (n + 1) bytes)) ≡ cond (ends_line (get_or bytes n d)) 0 (cond (begins_character (get_or bytes n d)) (count_by begins_character (last_line (take n bytes)) + 1) (count_by begins_character (last_line (take n bytes))))
begun_more bytes n d below =
    rw (take_more bytes n d below, last_line-push (take n bytes) (get_or bytes n d))
    (count_step (begins_character (get_or bytes n d)) (ends_line (get_or bytes n d)) (last_line (take n bytes)) (get_or bytes n d) refl)

-- no more characters begin than there are bytes
pub begun_bound : (ends begins : Bool) (before n : ℕ) → before ≤ n → cond ends 0 (cond begins (before + 1) before) ≤ n + 1
begun_bound true begins before n bound = omega arith
begun_bound false true before n bound = omega (arith, bound)
begun_bound false false before n bound = omega (arith, bound)
