-- Options in another order give the same, and an option that is given twice gives nothing.
use Rattle.std.proofs.Common.{refl, sym, ◌∙◌, ap, ◌≡◌, ◌<◌, ℕ, zero, suc, List, [], ◌∷◌, ◌++◌, length, get_or, set, Option, Some, None, option_and_then, IsPermutation, arith}
use Rattle.std.specs.List.Sorted.{apply_swaps, SwapsInRange}
use Rattle.std.proofs.lemmas.List.Sorted.{length_permutation}
use Rattle.std.proofs.lemmas.List.Edits.{swap_is}
use Rattle.command_line.specs.AnyOrder.{Written, words_of_all, name_of}
use Rattle.command_line.specs.Options.{Given, none_given}
use Rattle.command_line.specs.Settings.{asked_run, asked_by}
use Rattle.command_line.proofs.OptionSteps.{with_one, with_all, with_two, same_then, twice, any_two, words_read}

-- two steps and what follows
then_assoc : {A B C : Type 0} (o : Option A) (f : A → Option B) (h : B → Option C) → option_and_then (λ x. option_and_then h (f x)) o ≡ option_and_then h (option_and_then f o)
then_assoc None f h = refl
then_assoc (Some x) f h = refl

none_then : {A B : Type 0} (o : Option A) (f : A → Option B) → ((x : A) → f x ≡ None) → option_and_then f o ≡ None
none_then None f none = refl
none_then (Some x) f none = none x

two_and_rest : (g : Given) (one other : Written) (rest : List Written) → with_all g (one ∷ (other ∷ rest)) ≡ option_and_then (λ more. with_all more rest) (with_two g one other)
two_and_rest g one other rest = then_assoc (with_one g one) (λ more. with_one more other) (λ more. with_all more rest)

first_two : (g : Given) (one other : Written) (rest : List Written) → with_all g (one ∷ (other ∷ rest)) ≡ with_all g (other ∷ (one ∷ rest))
first_two g one other rest =
    two_and_rest g one other rest
    ∙ ap (λ o. option_and_then (λ more. with_all more rest) o) (any_two g one other)
    ∙ sym (two_and_rest g other one rest)

-- the first option exchanged with another
first_exchanged : (g : Given) (options : List Written) (j : ℕ) (one d : Written) → j < length options → with_all g (get_or options j d ∷ set options j one) ≡ with_all g (one ∷ options)
first_exchanged g [] j one d below = absurd (omega (arith, below))
first_exchanged g (other ∷ options) zero one d below = first_two g other one options
first_exchanged g (other ∷ options) (suc j) one d below =
    first_two g (get_or options j d) other (set options j one)
    ∙ same_then (with_one g other) _ _ (λ more. first_exchanged more options j one d (omega (arith, below)))
    ∙ first_two g other one options

-- two options exchanged
exchanged : (g : Given) (options : List Written) (i j : ℕ) (d : Written) → i < length options → j < length options → with_all g (set (set options i (get_or options j d)) j (get_or options i d)) ≡ with_all g options
exchanged g [] i j d first second = absurd (omega (arith, first))
exchanged g (one ∷ options) zero zero d first second = refl
exchanged g (one ∷ options) zero (suc j) d first second = first_exchanged g options j one d (omega (arith, second))
exchanged g (one ∷ options) (suc i) zero d first second = first_exchanged g options i one d (omega (arith, first))
exchanged g (one ∷ options) (suc i) (suc j) d first second =
    same_then (with_one g one) _ _ (λ more. exchanged more options i j d (omega (arith, first)) (omega (arith, second)))

hd : (options : List Written) (i : ℕ) → i < length options → Written
hd [] i below = absurd (omega (arith, below))
hd (one ∷ options) i below = one

-- any number of exchanges
reordered : (g : Given) (options : List Written) (moves : List (ℕ × ℕ)) → SwapsInRange (length options) moves → with_all g (apply_swaps options moves) ≡ with_all g options
reordered g options [] below = refl
reordered g options (move ∷ moves) below =
    let before : List Written = apply_swaps options moves in
    let long : length before ≡ length options = length_permutation options before (record { moves = moves; below = below.2; is = refl }) in
    let first : move.0 < length before = rw long below.0 in
    let second : move.1 < length before = rw long below.1 in
    let d : Written = hd before move.0 first in
    ap (with_all g) (sym (swap_is before move.0 move.1 d first second))
    ∙ exchanged g before move.0 move.1 d first second
    ∙ reordered g options moves below.2

-- the same options ask for the same
pub asked_same : (one other : List Written) → IsPermutation one other → asked_run (words_of_all one) ≡ asked_run (words_of_all other)
unfolding asked_run
asked_same one other same =
    ap (option_and_then asked_by)
    (words_read none_given one
    ∙ sym (reordered none_given one same.moves same.below)
    ∙ ap (with_all none_given) (sym same.is)
    ∙ sym (words_read none_given other))

-- an option and the same one behind it give nothing
twice_behind : (g : Given) (one other : Written) (between after : List Written) → name_of one ≡ name_of other → with_all g (one ∷ (between ++ other ∷ after)) ≡ None
twice_behind g one other [] after same =
    two_and_rest g one other after ∙ ap (λ o. option_and_then (λ more. with_all more after) o) (twice g one other same)
twice_behind g one other (option ∷ between) after same =
    first_two g one option (between ++ other ∷ after)
    ∙ none_then (with_one g option) _ (λ more. twice_behind more one other between after same)

twice_given : (g : Given) (before between after : List Written) (one other : Written) → name_of one ≡ name_of other → with_all g (before ++ one ∷ (between ++ other ∷ after)) ≡ None
twice_given g [] between after one other same = twice_behind g one other between after same
twice_given g (option ∷ before) between after one other same =
    none_then (with_one g option) _ (λ more. twice_given more before between after one other same)

-- and ask for nothing
pub asked_twice : (before between after : List Written) (one other : Written) → name_of one ≡ name_of other → asked_run (words_of_all (before ++ one ∷ (between ++ other ∷ after))) ≡ None
unfolding asked_run
asked_twice before between after one other same =
    ap (option_and_then asked_by)
    (words_read none_given (before ++ one ∷ (between ++ other ∷ after)) ∙ twice_given none_given before between after one other same)
