-- What `cards` writes: `cards C`, and `below none`, `below dead LABEL ..` or `below job J waits W`.
use Rattle.std.specs.Prelude.{ℕ, List, ◌++◌, codes, decimal}
use Rattle.std.specs.List.{flat_map}
use Rattle.command_line.specs.Lines.{after_space}
use Rattle.card_sizing.specs.declared.sizing.Below.{Below}
use Rattle.card_sizing.specs.declared.sizing.Below.TheVariants.{Lowest, Job, Dead}
use Rattle.card_sizing.specs.declared.sizing.Sizing.{Sizing}

-- a job, and how long it waits
abbrev pub job_words : ℕ → ℕ → List ℕ
job_words job wait = codes "job " ++ (decimal job ++ (codes " waits " ++ decimal wait))

-- the stations of a circuit without a token
abbrev pub dead_words : List (List ℕ) → List ℕ
dead_words labels = codes "dead" ++ flat_map after_space labels

-- why a count can't be one less
abbrev pub below_words : Below → List ℕ
below_words Lowest = codes "none"
below_words (Job job wait) = job_words job wait
below_words (Dead labels) = dead_words labels

-- both lines
abbrev pub cards_text : Sizing → List ℕ
cards_text s = codes "cards " ++ (decimal s.cards ++ (codes "\nbelow " ++ (below_words s.below ++ codes "\n")))
