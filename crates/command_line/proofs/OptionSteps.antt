-- Options one after the other, each as a step on what was given before it: two steps may be exchanged, and an option
-- that was given before gives nothing.
use Rattle.std.proofs.Common.{refl, sym, ◌∙◌, ap, ◌≡◌, ℕ, Bool, true, false, not, List, [], ◌∷◌, Option, Some, None, option_map, option_and_then, if◌then◌else◌}
use Rattle.std.specs.Str.{bytes_eq}
use Rattle.line_base.specs.Limits.{most_workers, most_ring_room}
use Rattle.command_line.specs.AnyOrder.{Written, workers, stop_after, save, every, room, slots, stand, words_of_all, name_of}
use Rattle.command_line.specs.Numbers.{number_in, most_firings}
use Rattle.command_line.specs.Options.{Given, once, checkpoint_in, options_after, with_flag, with_value}

-- what is left of an option that takes no value
abbrev pub left_of : Bool → Option (Unit {0})
left_of true = None
left_of false = Some tt

-- what is given with one more option
abbrev pub with_one : Given → Written → Option Given
with_one g (workers v) = option_map (λ n. record g { workers = Some n }) (once g.workers (number_in 1 most_workers v))
with_one g (stop_after v) = option_map (λ n. record g { stop_after = Some n }) (once g.stop_after (number_in 0 most_firings v))
with_one g (save v) = option_map (λ file. record g { save = Some file }) (once g.save (checkpoint_in v))
with_one g (every v) = option_map (λ n. record g { every = Some n }) (once g.every (number_in 1 most_firings v))
with_one g (room v) = option_map (λ n. record g { room = Some n }) (once g.room (number_in 1 most_ring_room v))
with_one g slots = option_map (λ t. record g { slots = true }) (left_of g.slots)
with_one g stand = option_map (λ t. record g { stand = true }) (left_of g.stand)

-- what is given with options
abbrev pub with_all : Given → List Written → Option Given
with_all g [] = Some g
with_all g (option ∷ options) = option_and_then (λ more. with_all more options) (with_one g option)

-- steps that agree everywhere agree behind a value
pub same_then : {A B : Type 0} (o : Option A) (f h : A → Option B) → ((x : A) → f x ≡ h x) → option_and_then f o ≡ option_and_then h o
same_then None f h same = refl
same_then (Some x) f h same = same x

-- an option that takes no value, as it is read
flag_read : {A : Type 0} (is : Bool) (value : A) → (if not is then Some value else None) ≡ option_map (λ (t : Unit {0}). value) (left_of is)
flag_read true value = refl
flag_read false value = refl

-- the words of options are read so
pub words_read : (g : Given) (options : List Written) → options_after g (words_of_all options) ≡ with_all g options
unfolding options_after with_flag with_value
words_read g [] = refl
words_read g (workers v ∷ options) = same_then (with_one g (workers v)) _ _ (λ more. words_read more options)
words_read g (stop_after v ∷ options) = same_then (with_one g (stop_after v)) _ _ (λ more. words_read more options)
words_read g (save v ∷ options) = same_then (with_one g (save v)) _ _ (λ more. words_read more options)
words_read g (every v ∷ options) = same_then (with_one g (every v)) _ _ (λ more. words_read more options)
words_read g (room v ∷ options) = same_then (with_one g (room v)) _ _ (λ more. words_read more options)
words_read g (slots ∷ options) =
    ap (λ o. option_and_then (λ more. options_after more (words_of_all options)) o) (flag_read g.slots (record g { slots = true }))
    ∙ same_then (with_one g slots) _ _ (λ more. words_read more options)
words_read g (stand ∷ options) =
    ap (λ o. option_and_then (λ more. options_after more (words_of_all options)) o) (flag_read g.stand (record g { stand = true }))
    ∙ same_then (with_one g stand) _ _ (λ more. words_read more options)

-- two steps that look at different values, and change different ones, may be exchanged
exchanged : {A B : Type 0} (a : Option A) (b : Option B) (f : A → Given) (h : B → Given) (both : A → B → Given) (after_f after_h : Given → Option Given) →
    ((x : A) → after_f (f x) ≡ option_map (λ y. both x y) b) → ((y : B) → after_h (h y) ≡ option_map (λ x. both x y) a) →
    option_and_then after_f (option_map f a) ≡ option_and_then after_h (option_map h b)
exchanged None None f h both after_f after_h one other = refl
exchanged None (Some y) f h both after_f after_h one other = sym (other y)
exchanged (Some x) None f h both after_f after_h one other = one x
exchanged (Some x) (Some y) f h both after_f after_h one other = one x ∙ sym (other y)

-- a step behind one of its own kind gives nothing
nothing_then : {A : Type 0} (a : Option A) (f : A → Given) (after : Given → Option Given) → ((x : A) → after (f x) ≡ None) → option_and_then after (option_map f a) ≡ None
nothing_then None f after none = refl
nothing_then (Some x) f after none = none x

-- what is given with two more options
abbrev pub with_two : Given → Written → Written → Option Given
with_two g one other = option_and_then (λ more. with_one more other) (with_one g one)

-- texts of which one is not the other are not equal
apart : (x y : List ℕ) → x ≡ y → bytes_eq x x ≡ true → bytes_eq x y ≡ false → ⊥
apart x y same equal differ = cc (ap (bytes_eq x) same)

-- an option twice gives nothing
pub twice : (g : Given) (one other : Written) → name_of one ≡ name_of other → with_two g one other ≡ None
twice g (workers v) (workers w) same = nothing_then (once g.workers (number_in 1 most_workers v)) _ _ (λ x. refl)
twice g (stop_after v) (stop_after w) same = nothing_then (once g.stop_after (number_in 0 most_firings v)) _ _ (λ x. refl)
twice g (save v) (save w) same = nothing_then (once g.save (checkpoint_in v)) _ _ (λ x. refl)
twice g (every v) (every w) same = nothing_then (once g.every (number_in 1 most_firings v)) _ _ (λ x. refl)
twice g (room v) (room w) same = nothing_then (once g.room (number_in 1 most_ring_room v)) _ _ (λ x. refl)
twice g slots slots same = nothing_then (left_of g.slots) _ _ (λ x. refl)
twice g stand stand same = nothing_then (left_of g.stand) _ _ (λ x. refl)
twice g one other same = absurd (apart _ _ same refl refl)

-- two options may be exchanged
pub any_two : (g : Given) (one other : Written) → with_two g one other ≡ with_two g other one
any_two g (workers v) (workers w) = twice g (workers v) (workers w) refl ∙ sym (twice g (workers w) (workers v) refl)
any_two g (workers v) (stop_after w) = exchanged (once g.workers (number_in 1 most_workers v)) (once g.stop_after (number_in 0 most_firings w)) _ _ (λ x y. record g { workers = Some x; stop_after = Some y }) _ _ (λ x. refl) (λ y. refl)
any_two g (workers v) (save w) = exchanged (once g.workers (number_in 1 most_workers v)) (once g.save (checkpoint_in w)) _ _ (λ x y. record g { workers = Some x; save = Some y }) _ _ (λ x. refl) (λ y. refl)
any_two g (workers v) (every w) = exchanged (once g.workers (number_in 1 most_workers v)) (once g.every (number_in 1 most_firings w)) _ _ (λ x y. record g { workers = Some x; every = Some y }) _ _ (λ x. refl) (λ y. refl)
any_two g (workers v) (room w) = exchanged (once g.workers (number_in 1 most_workers v)) (once g.room (number_in 1 most_ring_room w)) _ _ (λ x y. record g { workers = Some x; room = Some y }) _ _ (λ x. refl) (λ y. refl)
any_two g (workers v) slots = exchanged (once g.workers (number_in 1 most_workers v)) (left_of g.slots) _ _ (λ x y. record g { workers = Some x; slots = true }) _ _ (λ x. refl) (λ y. refl)
any_two g (workers v) stand = exchanged (once g.workers (number_in 1 most_workers v)) (left_of g.stand) _ _ (λ x y. record g { workers = Some x; stand = true }) _ _ (λ x. refl) (λ y. refl)
any_two g (stop_after v) (workers w) = exchanged (once g.stop_after (number_in 0 most_firings v)) (once g.workers (number_in 1 most_workers w)) _ _ (λ x y. record g { stop_after = Some x; workers = Some y }) _ _ (λ x. refl) (λ y. refl)
any_two g (stop_after v) (stop_after w) = twice g (stop_after v) (stop_after w) refl ∙ sym (twice g (stop_after w) (stop_after v) refl)
any_two g (stop_after v) (save w) = exchanged (once g.stop_after (number_in 0 most_firings v)) (once g.save (checkpoint_in w)) _ _ (λ x y. record g { stop_after = Some x; save = Some y }) _ _ (λ x. refl) (λ y. refl)
any_two g (stop_after v) (every w) = exchanged (once g.stop_after (number_in 0 most_firings v)) (once g.every (number_in 1 most_firings w)) _ _ (λ x y. record g { stop_after = Some x; every = Some y }) _ _ (λ x. refl) (λ y. refl)
any_two g (stop_after v) (room w) = exchanged (once g.stop_after (number_in 0 most_firings v)) (once g.room (number_in 1 most_ring_room w)) _ _ (λ x y. record g { stop_after = Some x; room = Some y }) _ _ (λ x. refl) (λ y. refl)
any_two g (stop_after v) slots = exchanged (once g.stop_after (number_in 0 most_firings v)) (left_of g.slots) _ _ (λ x y. record g { stop_after = Some x; slots = true }) _ _ (λ x. refl) (λ y. refl)
any_two g (stop_after v) stand = exchanged (once g.stop_after (number_in 0 most_firings v)) (left_of g.stand) _ _ (λ x y. record g { stop_after = Some x; stand = true }) _ _ (λ x. refl) (λ y. refl)
any_two g (save v) (workers w) = exchanged (once g.save (checkpoint_in v)) (once g.workers (number_in 1 most_workers w)) _ _ (λ x y. record g { save = Some x; workers = Some y }) _ _ (λ x. refl) (λ y. refl)
any_two g (save v) (stop_after w) = exchanged (once g.save (checkpoint_in v)) (once g.stop_after (number_in 0 most_firings w)) _ _ (λ x y. record g { save = Some x; stop_after = Some y }) _ _ (λ x. refl) (λ y. refl)
any_two g (save v) (save w) = twice g (save v) (save w) refl ∙ sym (twice g (save w) (save v) refl)
any_two g (save v) (every w) = exchanged (once g.save (checkpoint_in v)) (once g.every (number_in 1 most_firings w)) _ _ (λ x y. record g { save = Some x; every = Some y }) _ _ (λ x. refl) (λ y. refl)
any_two g (save v) (room w) = exchanged (once g.save (checkpoint_in v)) (once g.room (number_in 1 most_ring_room w)) _ _ (λ x y. record g { save = Some x; room = Some y }) _ _ (λ x. refl) (λ y. refl)
any_two g (save v) slots = exchanged (once g.save (checkpoint_in v)) (left_of g.slots) _ _ (λ x y. record g { save = Some x; slots = true }) _ _ (λ x. refl) (λ y. refl)
any_two g (save v) stand = exchanged (once g.save (checkpoint_in v)) (left_of g.stand) _ _ (λ x y. record g { save = Some x; stand = true }) _ _ (λ x. refl) (λ y. refl)
any_two g (every v) (workers w) = exchanged (once g.every (number_in 1 most_firings v)) (once g.workers (number_in 1 most_workers w)) _ _ (λ x y. record g { every = Some x; workers = Some y }) _ _ (λ x. refl) (λ y. refl)
any_two g (every v) (stop_after w) = exchanged (once g.every (number_in 1 most_firings v)) (once g.stop_after (number_in 0 most_firings w)) _ _ (λ x y. record g { every = Some x; stop_after = Some y }) _ _ (λ x. refl) (λ y. refl)
any_two g (every v) (save w) = exchanged (once g.every (number_in 1 most_firings v)) (once g.save (checkpoint_in w)) _ _ (λ x y. record g { every = Some x; save = Some y }) _ _ (λ x. refl) (λ y. refl)
any_two g (every v) (every w) = twice g (every v) (every w) refl ∙ sym (twice g (every w) (every v) refl)
any_two g (every v) (room w) = exchanged (once g.every (number_in 1 most_firings v)) (once g.room (number_in 1 most_ring_room w)) _ _ (λ x y. record g { every = Some x; room = Some y }) _ _ (λ x. refl) (λ y. refl)
any_two g (every v) slots = exchanged (once g.every (number_in 1 most_firings v)) (left_of g.slots) _ _ (λ x y. record g { every = Some x; slots = true }) _ _ (λ x. refl) (λ y. refl)
any_two g (every v) stand = exchanged (once g.every (number_in 1 most_firings v)) (left_of g.stand) _ _ (λ x y. record g { every = Some x; stand = true }) _ _ (λ x. refl) (λ y. refl)
any_two g (room v) (workers w) = exchanged (once g.room (number_in 1 most_ring_room v)) (once g.workers (number_in 1 most_workers w)) _ _ (λ x y. record g { room = Some x; workers = Some y }) _ _ (λ x. refl) (λ y. refl)
any_two g (room v) (stop_after w) = exchanged (once g.room (number_in 1 most_ring_room v)) (once g.stop_after (number_in 0 most_firings w)) _ _ (λ x y. record g { room = Some x; stop_after = Some y }) _ _ (λ x. refl) (λ y. refl)
any_two g (room v) (save w) = exchanged (once g.room (number_in 1 most_ring_room v)) (once g.save (checkpoint_in w)) _ _ (λ x y. record g { room = Some x; save = Some y }) _ _ (λ x. refl) (λ y. refl)
any_two g (room v) (every w) = exchanged (once g.room (number_in 1 most_ring_room v)) (once g.every (number_in 1 most_firings w)) _ _ (λ x y. record g { room = Some x; every = Some y }) _ _ (λ x. refl) (λ y. refl)
any_two g (room v) (room w) = twice g (room v) (room w) refl ∙ sym (twice g (room w) (room v) refl)
any_two g (room v) slots = exchanged (once g.room (number_in 1 most_ring_room v)) (left_of g.slots) _ _ (λ x y. record g { room = Some x; slots = true }) _ _ (λ x. refl) (λ y. refl)
any_two g (room v) stand = exchanged (once g.room (number_in 1 most_ring_room v)) (left_of g.stand) _ _ (λ x y. record g { room = Some x; stand = true }) _ _ (λ x. refl) (λ y. refl)
any_two g slots (workers w) = exchanged (left_of g.slots) (once g.workers (number_in 1 most_workers w)) _ _ (λ x y. record g { slots = true; workers = Some y }) _ _ (λ x. refl) (λ y. refl)
any_two g slots (stop_after w) = exchanged (left_of g.slots) (once g.stop_after (number_in 0 most_firings w)) _ _ (λ x y. record g { slots = true; stop_after = Some y }) _ _ (λ x. refl) (λ y. refl)
any_two g slots (save w) = exchanged (left_of g.slots) (once g.save (checkpoint_in w)) _ _ (λ x y. record g { slots = true; save = Some y }) _ _ (λ x. refl) (λ y. refl)
any_two g slots (every w) = exchanged (left_of g.slots) (once g.every (number_in 1 most_firings w)) _ _ (λ x y. record g { slots = true; every = Some y }) _ _ (λ x. refl) (λ y. refl)
any_two g slots (room w) = exchanged (left_of g.slots) (once g.room (number_in 1 most_ring_room w)) _ _ (λ x y. record g { slots = true; room = Some y }) _ _ (λ x. refl) (λ y. refl)
any_two g slots slots = twice g slots slots refl ∙ sym (twice g slots slots refl)
any_two g slots stand = exchanged (left_of g.slots) (left_of g.stand) _ _ (λ x y. record g { slots = true; stand = true }) _ _ (λ x. refl) (λ y. refl)
any_two g stand (workers w) = exchanged (left_of g.stand) (once g.workers (number_in 1 most_workers w)) _ _ (λ x y. record g { stand = true; workers = Some y }) _ _ (λ x. refl) (λ y. refl)
any_two g stand (stop_after w) = exchanged (left_of g.stand) (once g.stop_after (number_in 0 most_firings w)) _ _ (λ x y. record g { stand = true; stop_after = Some y }) _ _ (λ x. refl) (λ y. refl)
any_two g stand (save w) = exchanged (left_of g.stand) (once g.save (checkpoint_in w)) _ _ (λ x y. record g { stand = true; save = Some y }) _ _ (λ x. refl) (λ y. refl)
any_two g stand (every w) = exchanged (left_of g.stand) (once g.every (number_in 1 most_firings w)) _ _ (λ x y. record g { stand = true; every = Some y }) _ _ (λ x. refl) (λ y. refl)
any_two g stand (room w) = exchanged (left_of g.stand) (once g.room (number_in 1 most_ring_room w)) _ _ (λ x y. record g { stand = true; room = Some y }) _ _ (λ x. refl) (λ y. refl)
any_two g stand slots = exchanged (left_of g.stand) (left_of g.slots) _ _ (λ x y. record g { stand = true; slots = true }) _ _ (λ x. refl) (λ y. refl)
any_two g stand stand = twice g stand stand refl ∙ sym (twice g stand stand refl)
