-- A command with options in another order is the same command, and one with an option twice is none.
use Rattle.std.proofs.Common.{refl, sym, ◌∙◌, ap, ◌≡◌, ℕ, Bool, true, false, List, [], ◌∷◌, ◌++◌, Option, Some, None, option_and_then, option_map, if◌then◌else◌, arith, ◌^◌, ◌-◌}
use Rattle.std.proofs.lemmas.List.Sorted.{length_permutation}
use Rattle.line_base.specs.Limits.{most_cards}
use Rattle.line_base.specs.Text.{is_file_name, is_checkpoint_name}
use Rattle.command_line.specs.AnyOrder.{Written, workers, stop_after, save, every, room, slots, stand, name_of, words_of_all, Operands, run, resume, resume_slots, big, curve, NamesCheckpoint, command_with, StandInAnyOrder, StandAtMostOnce}
use Rattle.command_line.specs.Numbers.{number_in}
use Rattle.command_line.specs.Settings.{Asked, asked_run}
use Rattle.command_line.specs.Words.{workers_alone, run_command, resuming, resume_slots_command, running_big, asking, are_counts, after_big, after_resume, after_curve, after_plant_word, topic_of}
use Rattle.command_line.specs.declared.command.Command.{Command}
use Rattle.command_line.specs.declared.plant_question.PlantQuestion.TheVariants.{Curve}
use Rattle.command_line.proofs.OptionOrder.{asked_same, asked_twice}

-- the number of workers, where nothing else is asked for
abbrev workers_in : Option Asked → Option ℕ
workers_in asks = option_and_then (λ (a : Asked). workers_alone a.workers a.way) asks

-- the command of operands by what their options ask for
abbrev by_asked : Operands → Option Asked → Option Command
by_asked (run plant) asks =
    if is_file_name plant then option_and_then (λ (a : Asked). run_command plant a.workers a.way) asks else None
by_asked (resume plant saved) asks =
    if is_file_name plant then option_map (resuming plant saved) (workers_in asks) else None
by_asked (resume_slots plant) asks =
    if is_file_name plant then option_and_then (λ (a : Asked). resume_slots_command plant a.workers a.way) asks else None
by_asked (big seed) asks =
    option_and_then (λ n. option_map (running_big n) (workers_in asks)) (number_in 0 (2 ^ 64 - 1) seed)
by_asked (curve plant from to) asks =
    if is_file_name plant
    then option_map (asking plant) (option_and_then
    (λ low. option_and_then
    (λ high. if are_counts low high
    then option_map (Curve low high) (workers_in asks)
    else None)
    (number_in 0 most_cards to))
    (number_in 0 most_cards from))
    else None

-- no option's name is a checkpoint's
names_no_checkpoint : (option : Written) → is_checkpoint_name (name_of option) ≡ false
names_no_checkpoint (workers value) = refl
names_no_checkpoint (stop_after value) = refl
names_no_checkpoint (save value) = refl
names_no_checkpoint (every value) = refl
names_no_checkpoint (room value) = refl
names_no_checkpoint slots = refl
names_no_checkpoint stand = refl

-- with an option behind them, operands are the command by what the options ask for
asked_for : (operands : Operands) (option : Written) (options : List Written) → NamesCheckpoint operands → command_with operands (option ∷ options) ≡ by_asked operands (asked_run (words_of_all (option ∷ options)))
unfolding after_big after_resume after_curve topic_of after_plant_word
asked_for (run plant) option options named = refl
asked_for (resume plant saved) option options named = rw named refl
asked_for (resume_slots plant) option options named = rw (names_no_checkpoint option) refl
asked_for (big seed) option options named = refl
asked_for (curve plant from to) option options named = refl

-- what asks for nothing is no command
if_none : {A : Type 0} (is : Bool) (o : Option A) → o ≡ None → (if is then o else None) ≡ None
if_none true o none = none
if_none false o none = refl

then_none : {A B : Type 0} (o : Option A) (f : A → Option B) → ((x : A) → f x ≡ None) → option_and_then f o ≡ None
then_none None f none = refl
then_none (Some x) f none = none x

none_asked : (operands : Operands) → by_asked operands None ≡ None
none_asked (run plant) = if_none (is_file_name plant) None refl
none_asked (resume plant saved) = if_none (is_file_name plant) None refl
none_asked (resume_slots plant) = if_none (is_file_name plant) None refl
none_asked (big seed) = then_none (number_in 0 (2 ^ 64 - 1) seed) _ (λ n. refl)
none_asked (curve plant from to) =
    if_none (is_file_name plant) _
    (ap (option_map (asking plant)) (then_none (number_in 0 most_cards from) _
    (λ low. then_none (number_in 0 most_cards to) _ (λ high. if_none (are_counts low high) None refl))))

pub any_order : StandInAnyOrder
any_order operands [] [] named same = refl
any_order operands [] (option ∷ options) named same = absurd (omega (arith, length_permutation [] (option ∷ options) same))
any_order operands (option ∷ options) [] named same = absurd (omega (arith, length_permutation (option ∷ options) [] same))
any_order operands (option ∷ options) (other ∷ others) named same =
    asked_for operands option options named
    ∙ ap (by_asked operands) (asked_same (option ∷ options) (other ∷ others) same)
    ∙ sym (asked_for operands other others named)

pub at_most_once : StandAtMostOnce
at_most_once operands [] between after one other named same =
    asked_for operands one (between ++ other ∷ after) named
    ∙ ap (by_asked operands) (asked_twice [] between after one other same)
    ∙ none_asked operands
at_most_once operands (option ∷ before) between after one other named same =
    asked_for operands option (before ++ one ∷ (between ++ other ∷ after)) named
    ∙ ap (by_asked operands) (asked_twice (option ∷ before) between after one other same)
    ∙ none_asked operands
