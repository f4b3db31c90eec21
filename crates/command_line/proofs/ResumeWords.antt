-- The words of `resume PLANT FILE` name a plant file, and a checkpoint.
use Rattle.std.proofs.Common.{refl, ◌≡◌, ℕ, Bool, true, false, List, [], ◌∷◌, ◌^◌, ◌-◌, subst}
use Rattle.std.specs.Prelude.{codes, if◌then◌else◌, Option, Some, None, option_map, option_and_then, IfSome, ⊤}
use Rattle.std.specs.Str.{bytes_eq}
use Rattle.line_base.specs.Text.{is_file_name, is_checkpoint_name}
use Rattle.command_line.specs.Numbers.{number_in}
use Rattle.command_line.specs.Settings.{Way, Asked, whole, stopped, saving, from_slots, bounded, standing, asked_run}
use Rattle.command_line.specs.Words.{alone, run_command, resuming, resume_slots_command, running_big, workers_of, with_options, one_file, after_big, after_resume, asking, asking_of_file, question_of, plant_command, after_plant_word, after_topic, helping, help_of, after_help, is_help, after_word, command_of, topic_of}
use Rattle.command_line.specs.declared.alone_question.AloneQuestion.TheVariants.{Version}
use Rattle.command_line.specs.declared.command.Command.{Command}
use Rattle.command_line.specs.declared.command.Command.TheVariants.{Alone, Lint, OnFile}
use Rattle.command_line.specs.declared.file_question.FileQuestion.TheVariants.{Resume, Replay, WhatIf}
use Rattle.command_line.specs.declared.topic.Topic.{Topic}
use Rattle.command_line.specs.declared.topic.Topic.TheVariants as topic

-- a command that resumes from a file names a plant file, and a checkpoint
abbrev pub NamesFiles : Command → Type 0
NamesFiles (OnFile plant saved (Resume workers)) = (is_file_name plant.file ≡ true) × (is_checkpoint_name saved ≡ true)
NamesFiles other = ⊤

abbrev Named : Option Command → Type 0
Named command = IfSome command NamesFiles

-- a test, a step and then another, and a map
if_named : (test : Bool) (one other : Option Command) → (test ≡ true → Named one) → Named other → Named (if test then one else other)
if_named true one other h k = h refl
if_named false one other h k = k

then_named : {A : Type 0} (f : A → Option Command) (o : Option A) → ((x : A) → Named (f x)) → Named (option_and_then f o)
then_named f None h = tt
then_named f (Some x) h = h x

map_named : {A : Type 0} (f : A → Command) (o : Option A) → ((x : A) → NamesFiles (f x)) → Named (option_map f o)
map_named f None h = tt
map_named f (Some x) h = h x

alone_named : (command : Command) (words : List (List ℕ)) → NamesFiles command → Named (alone command words)
alone_named command [] h = h
alone_named command (word ∷ words) h = tt

options_named : (command : ℕ → Way → Option Command) (words : List (List ℕ)) → ((workers : ℕ) (way : Way) → Named (command workers way)) → Named (with_options command words)
options_named command words h = then_named (λ (a : Asked). command a.workers a.way) (asked_run words) (λ a. h a.workers a.way)

-- the commands that take a plant
run_named : (plant : List ℕ) (workers : ℕ) (way : Way) → Named (run_command plant workers way)
run_named plant workers whole = tt
run_named plant workers (stopped after save) = tt
run_named plant workers (saving every) = tt
run_named plant workers from_slots = tt
run_named plant workers (bounded room) = tt
run_named plant workers standing = tt

slots_named : (plant : List ℕ) (workers : ℕ) (way : Way) → Named (resume_slots_command plant workers way)
slots_named plant workers from_slots = tt
slots_named plant workers other = tt

after_resume_named : (plant : List ℕ) → is_file_name plant ≡ true → (words : List (List ℕ)) → Named (after_resume plant words)
unfolding after_resume
after_resume_named plant file [] = tt
after_resume_named plant file (word ∷ words) =
    if_named (is_checkpoint_name word) _ _
    (λ checkpoint. map_named (resuming plant word) (workers_of words) (λ workers. (file, checkpoint)))
    (options_named (resume_slots_command plant) (word ∷ words) (λ workers way. slots_named plant workers way))

-- whatever is asked of a live plant alone, it names no further file
plant_command_named : (topic : Topic) (plant : List ℕ) (words : List (List ℕ)) → is_file_name plant ≡ true → Named (plant_command topic plant words)
plant_command_named topic.Run plant words file = options_named (run_command plant) words (run_named plant)
plant_command_named topic.Lint plant words file = alone_named (Lint plant) words tt
plant_command_named topic.Replay plant words file = map_named (asking_of_file Replay plant) (one_file words) (λ schedule. tt)
plant_command_named topic.Resume plant words file = after_resume_named plant file words
plant_command_named topic.WhatIf plant words file = map_named (asking_of_file WhatIf plant) (one_file words) (λ edits. tt)
plant_command_named topic.Big plant words file = tt
plant_command_named topic plant words file = map_named (asking plant) (question_of topic words) (λ question. tt)

plant_word_named : (topic : Topic) (words : List (List ℕ)) → Named (after_plant_word topic words)
unfolding after_plant_word
plant_word_named topic [] = tt
plant_word_named topic (plant ∷ words) =
    if_named (is_file_name plant) (plant_command topic plant words) None (plant_command_named topic plant words) tt

after_big_named : (words : List (List ℕ)) → Named (after_big words)
unfolding after_big
after_big_named [] = tt
after_big_named (word ∷ words) =
    then_named (λ seed. option_map (running_big seed) (workers_of words)) (number_in 0 (2 ^ 64 - 1) word)
    (λ seed. map_named (running_big seed) (workers_of words) (λ workers. tt))

topic_named : (topic : Topic) (words : List (List ℕ)) → Named (after_topic topic words)
topic_named topic.Big words = after_big_named words
topic_named topic words = plant_word_named topic words

help_of_named : (word : List ℕ) → Named (help_of word)
help_of_named word = map_named (λ topic. helping (Some topic)) (topic_of word) (λ topic. tt)

after_help_named : (words : List (List ℕ)) → Named (after_help words)
unfolding after_help
after_help_named [] = tt
after_help_named (word ∷ []) = help_of_named word
after_help_named (word ∷ (other ∷ words)) = tt

word_named : (word : List ℕ) (words : List (List ℕ)) → Named (after_word word words)
word_named word words =
    then_named (λ topic. if is_help words then Some (helping (Some topic)) else after_topic topic words) (topic_of word)
    (λ topic. if_named (is_help words) (Some (helping (Some topic))) (after_topic topic words) (λ is. tt) (topic_named topic words))

command_named : (words : List (List ℕ)) → Named (command_of words)
command_named [] = tt
command_named (word ∷ words) =
    if_named (bytes_eq word (codes "--help")) _ _ (λ is. alone_named (helping None) words tt)
    (if_named (bytes_eq word (codes "--version")) _ _ (λ is. alone_named (Alone Version) words tt)
    (if_named (bytes_eq word (codes "help")) _ _ (λ is. after_help_named words) (word_named word words)))

-- so does the command that words are
pub names_files : (words : List (List ℕ)) (plant saved : List ℕ) (workers : ℕ) → command_of words ≡ Some (resuming plant saved workers) → NamesFiles (resuming plant saved workers)
names_files words plant saved workers is = subst Named is (command_named words)
