-- Which words after the program's name are a command, and which command each list of them is.
use Rattle.std.specs.Prelude.{ℕ, Bool, false, ◌+◌, ◌-◌, ◌^◌, ◌&&◌, nat_le, nat_lt, List, [], ◌∷◌, codes, if◌then◌else◌, Option, Some, None, option_map, option_and_then}
use Rattle.std.specs.Str.{bytes_eq}
use Rattle.line_base.specs.Text.{is_file_name, is_checkpoint_name}
use Rattle.line_base.specs.Limits.{most_demands, most_cards, last_observed}
use Rattle.command_line.specs.Labels.{is_label_word}
use Rattle.command_line.specs.Numbers.{number_in, longest_wait, most_counts}
use Rattle.command_line.specs.Settings.{Way, whole, stopped, saving, from_slots, bounded, standing, asked_run}
use Rattle.command_line.specs.Sources.{plant_at}
use Rattle.command_line.specs.declared.alone_question.AloneQuestion.TheVariants.{Help, Version, Big}
use Rattle.command_line.specs.declared.command.Command.{Command}
use Rattle.command_line.specs.declared.command.Command.TheVariants.{Alone, Lint, OnPlant, OnFile, Standing, Stopping, OnDisk}
use Rattle.command_line.specs.declared.disk_question.DiskQuestion.TheVariants.{RunSlots, ResumeSlots}
use Rattle.command_line.specs.declared.file_question.FileQuestion.{FileQuestion}
use Rattle.command_line.specs.declared.file_question.FileQuestion.TheVariants.{Resume, Replay, WhatIf}
use Rattle.command_line.specs.declared.plant_question.PlantQuestion.{PlantQuestion}
use Rattle.command_line.specs.declared.plant_question.PlantQuestion.TheVariants as question
use Rattle.command_line.specs.declared.topic.Topic.{Topic}
use Rattle.command_line.specs.declared.topic.Topic.TheVariants as topic

-- the command that a word names
unfoldable pub topic_of : List ℕ → Option Topic
topic_of word =
    if bytes_eq word (codes "lint") then Some topic.Lint
    else if bytes_eq word (codes "check") then Some topic.Check
    else if bytes_eq word (codes "summary") then Some topic.Summary
    else if bytes_eq word (codes "run") then Some topic.Run
    else if bytes_eq word (codes "table") then Some topic.Table
    else if bytes_eq word (codes "why") then Some topic.Why
    else if bytes_eq word (codes "chart") then Some topic.Chart
    else if bytes_eq word (codes "cards") then Some topic.Cards
    else if bytes_eq word (codes "curve") then Some topic.Curve
    else if bytes_eq word (codes "latest") then Some topic.Latest
    else if bytes_eq word (codes "cycle") then Some topic.Cycle
    else if bytes_eq word (codes "whatif") then Some topic.WhatIf
    else if bytes_eq word (codes "replay") then Some topic.Replay
    else if bytes_eq word (codes "resume") then Some topic.Resume
    else if bytes_eq word (codes "big") then Some topic.Big
    else None

-- ---- what stands behind a word

-- what is asked with no word behind it
abbrev pub alone : {A : Type 0} → A → List (List ℕ) → Option A
alone asked [] = Some asked
alone asked words = None

-- one word, which names a file
abbrev pub one_file : List (List ℕ) → Option (List ℕ)
one_file (file ∷ []) = if is_file_name file then Some file else None
one_file words = None

-- a longest wait, and what it asks for with the words behind it
unfoldable pub with_wait : (ℕ → List (List ℕ) → Option PlantQuestion) → List (List ℕ) → Option PlantQuestion
with_wait asks [] = None
with_wait asks (word ∷ words) = option_and_then (λ wait. asks wait words) (number_in 0 longest_wait word)

-- options, and what they ask for
abbrev pub with_options : {A : Type 0} → (ℕ → Way → Option A) → List (List ℕ) → Option A
with_options asks words = option_and_then (λ a. asks a.workers a.way) (asked_run words)

-- the number of workers that is asked for, where nothing else is
abbrev pub workers_alone : ℕ → Way → Option ℕ
workers_alone workers whole = Some workers
workers_alone workers way = None

-- options that say how many workers there are, and nothing else
abbrev pub workers_of : List (List ℕ) → Option ℕ
workers_of words = with_options workers_alone words

-- ---- the questions of a live plant

-- `cards PLANT WAIT` and `cards PLANT WAIT --each`
abbrev pub cards_question : ℕ → List (List ℕ) → Option PlantQuestion
cards_question wait [] = Some (question.Cards wait)
cards_question wait (word ∷ []) = if bytes_eq word (codes "--each") then Some (question.CardsEach wait) else None
cards_question wait words = None

-- `latest PLANT WAIT`
abbrev pub latest_question : ℕ → List (List ℕ) → Option PlantQuestion
latest_question wait words = alone (question.Latest wait) words

-- whether two numbers are the least and the greatest of the counts of a curve
abbrev pub are_counts : ℕ → ℕ → Bool
are_counts from to = nat_le from to && nat_lt to (from + most_counts)

-- the options behind `curve PLANT FROM TO`
abbrev pub after_counts : ℕ → ℕ → List (List ℕ) → Option PlantQuestion
after_counts from to words =
    if are_counts from to then option_map (question.Curve from to) (workers_of words) else None

-- the words behind `curve PLANT`
unfoldable pub after_curve : List (List ℕ) → Option PlantQuestion
after_curve (from ∷ (to ∷ words)) =
    option_and_then (λ a. option_and_then (λ b. after_counts a b words) (number_in 0 most_cards to))
    (number_in 0 most_cards from)
after_curve words = None

-- `why PLANT LABEL JOB`
abbrev pub why_question : List ℕ → List ℕ → Option PlantQuestion
why_question label job =
    if is_label_word label then option_map (λ n. question.Why label n) (number_in 1 most_demands job) else None

-- the words behind `why PLANT`
unfoldable pub after_why : List (List ℕ) → Option PlantQuestion
after_why (label ∷ (job ∷ [])) = why_question label job
after_why words = None

-- `chart PLANT FROM TO`
abbrev pub window_question : ℕ → ℕ → Option PlantQuestion
window_question from to = if nat_lt from to then Some (question.Chart (Some (from, to))) else None

-- the words behind `chart PLANT`
unfoldable pub after_chart : List (List ℕ) → Option PlantQuestion
after_chart [] = Some (question.Chart None)
after_chart (from ∷ (to ∷ [])) =
    option_and_then (λ a. option_and_then (λ b. window_question a b) (number_in 0 last_observed to))
    (number_in 0 last_observed from)
after_chart words = None

-- what a topic asks of a live plant with the words behind the plant; the others ask more than that
abbrev pub question_of : Topic → List (List ℕ) → Option PlantQuestion
question_of topic.Check words = alone question.Check words
question_of topic.Cycle words = alone question.Cycle words
question_of topic.Cards words = with_wait cards_question words
question_of topic.Curve words = after_curve words
question_of topic.Latest words = with_wait latest_question words
question_of topic.Why words = after_why words
question_of topic.Summary words = alone question.Summary words
question_of topic.Table words = alone question.Table words
question_of topic.Chart words = after_chart words
question_of topic words = None

-- ---- the commands that name a plant

-- a question of the plant of a file
abbrev pub asking : List ℕ → PlantQuestion → Command
asking plant asked = OnPlant (plant_at plant) asked

-- a question of the plant of a file, and of a further file
abbrev pub asking_of_file : FileQuestion → List ℕ → List ℕ → Command
asking_of_file asked plant file = OnFile (plant_at plant) file asked

-- `run PLANT [--workers W] [--stop-after N --save FILE]`, `run PLANT --every N --slots [--workers W]`,
-- `run PLANT --room B [--workers W]`, and `run PLANT --stand [--workers W]`
abbrev pub run_command : List ℕ → ℕ → Way → Option Command
run_command plant workers whole = Some (OnPlant (plant_at plant) (question.Run workers))
run_command plant workers (stopped after save) =
    Some (Stopping (plant_at plant) workers (record { after = after; save = save }))
run_command plant workers (saving every) = Some (OnDisk (plant_at plant) (RunSlots every workers))
run_command plant workers (bounded room) = Some (OnPlant (plant_at plant) (question.RunRoom room workers))
run_command plant workers standing = Some (Standing (plant_at plant) workers)
run_command plant workers from_slots = None

-- `resume PLANT FILE [--workers W]`
abbrev pub resuming : List ℕ → List ℕ → ℕ → Command
resuming plant saved workers = OnFile (plant_at plant) saved (Resume workers)

-- `resume PLANT --slots [--workers W]`
abbrev pub resume_slots_command : List ℕ → ℕ → Way → Option Command
resume_slots_command plant workers from_slots = Some (OnDisk (plant_at plant) (ResumeSlots workers))
resume_slots_command plant workers way = None

-- the words behind `resume PLANT`: a checkpoint stands first, if any does
unfoldable pub after_resume : List ℕ → List (List ℕ) → Option Command
after_resume plant [] = None
after_resume plant (word ∷ words) =
    if is_checkpoint_name word
    then option_map (resuming plant word) (workers_of words)
    else with_options (resume_slots_command plant) (word ∷ words)

-- the command of a topic, of the plant behind its word, and of the words behind that; `big` takes no plant
abbrev pub plant_command : Topic → List ℕ → List (List ℕ) → Option Command
plant_command topic.Run plant words = with_options (run_command plant) words
plant_command topic.Lint plant words = alone (Lint plant) words
plant_command topic.Replay plant words = option_map (asking_of_file Replay plant) (one_file words)
plant_command topic.Resume plant words = after_resume plant words
plant_command topic.WhatIf plant words = option_map (asking_of_file WhatIf plant) (one_file words)
plant_command topic.Big plant words = None
plant_command topic plant words = option_map (asking plant) (question_of topic words)

-- the words behind the first, where that names one of those commands
unfoldable pub after_plant_word : Topic → List (List ℕ) → Option Command
after_plant_word topic [] = None
after_plant_word topic (plant ∷ words) = if is_file_name plant then plant_command topic plant words else None

-- ---- the commands that name none

-- `big SEED [--workers W]`
abbrev pub running_big : ℕ → ℕ → Command
running_big seed workers = Alone (Big seed workers)

-- the words behind `big`
unfoldable pub after_big : List (List ℕ) → Option Command
after_big [] = None
after_big (word ∷ words) =
    option_and_then (λ seed. option_map (running_big seed) (workers_of words)) (number_in 0 (2 ^ 64 - 1) word)

-- how the program is used, or a command
abbrev pub helping : Option Topic → Command
helping topic = Alone (Help topic)

-- the screen of the command that a word names
abbrev pub help_of : List ℕ → Option Command
help_of word = option_map (λ topic. helping (Some topic)) (topic_of word)

-- the words behind `help`
unfoldable pub after_help : List (List ℕ) → Option Command
after_help [] = Some (helping None)
after_help (word ∷ []) = help_of word
after_help words = None

-- ---- all words

-- whether words are `--help` alone
abbrev pub is_help : List (List ℕ) → Bool
is_help (word ∷ []) = bytes_eq word (codes "--help")
is_help words = false

-- the words behind the first, where that names a command
abbrev pub after_topic : Topic → List (List ℕ) → Option Command
after_topic topic.Big words = after_big words
after_topic topic words = after_plant_word topic words

-- the words behind the first, where that is a command's
abbrev pub after_word : List ℕ → List (List ℕ) → Option Command
after_word word words =
    option_and_then (λ topic. if is_help words then Some (helping (Some topic)) else after_topic topic words)
    (topic_of word)

-- the command that the words are, if they are one
abbrev pub command_of : List (List ℕ) → Option Command
command_of [] = None
command_of (word ∷ words) =
    if bytes_eq word (codes "--help") then alone (helping None) words
    else if bytes_eq word (codes "--version") then alone (Alone Version) words
    else if bytes_eq word (codes "help") then after_help words
    else after_word word words
