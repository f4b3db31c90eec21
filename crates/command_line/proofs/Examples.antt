-- Lists of words, each with the command that the definition makes of it, or none.
use Rattle.std.proofs.Common.{refl, ◌≡◌, ◌<◌, ◌^◌, ℕ, true, List, [], ◌∷◌, length, map, Some, None, decimal, sym, rules, lit<}
use Rattle.std.specs.Prelude.{codes}
use Rattle.std.specs.Char.{is_ascii_digit}
use Rattle.std.specs.List.{list_all}
use Rattle.std.specs.Str.Parse.{digits_value}
use Rattle.std.proofs.lemmas.Str.Parse.{IsNumeralModel, numerals_by_value}
use Rattle.line_base.specs.Text.{starts_plainly}
use Rattle.line_base.proofs.Numbers.{decimal-read}
use Rattle.command_line.specs.Numbers.{number_in}
use Rattle.command_line.specs.Options.{with_flag, with_value, options_after}
use Rattle.command_line.specs.Settings.{asked_run}
use Rattle.command_line.specs.Sources.{plant_at}
use Rattle.command_line.specs.Words.{after_help, after_big, after_resume, after_curve, after_plant_word, with_wait, command_of, topic_of}
use Rattle.command_line.specs.declared.command.Command.{Command}
use Rattle.command_line.specs.declared.alone_question.AloneQuestion.TheVariants.{Big, Help}
use Rattle.command_line.specs.declared.command.Command.TheVariants.{Alone, OnPlant, OnFile, Standing, Stopping, OnDisk}
use Rattle.command_line.specs.declared.disk_question.DiskQuestion.TheVariants.{RunSlots, ResumeSlots}
use Rattle.command_line.specs.declared.file_question.FileQuestion.TheVariants.{Resume, Replay, WhatIf}
use Rattle.command_line.specs.declared.plant_question.PlantQuestion.TheVariants.{Run, RunRoom, Cards, Curve, Latest}
use Rattle.command_line.specs.declared.topic.Topic.TheVariants as topic

own : IsNumeralModel (λ ds. list_all is_ascii_digit ds ≡ true) (digits_value 10)
own = numerals_by_value _ (search rules)

-- digits that begin plainly are what is written of their value
decimal-digits : (ds : List ℕ) → list_all is_ascii_digit ds ≡ true → starts_plainly ds ≡ true → 0 < length ds
    → digits_value 10 ds < 2 ^ 64 → decimal (digits_value 10 ds) ≡ ds
decimal-digits ds digits plain some small = sym (decimal-read ds plain (some, own.to ds digits) small)

-- what is written of the numbers in the words below
record Numerals : Type 0 where
  pub none : decimal 0 ≡ codes "0"
  pub two : decimal 2 ≡ codes "2"
  pub sixteen : decimal 16 ≡ codes "16"
  pub seventeen : decimal 17 ≡ codes "17"
  pub thousand : decimal 1_001 ≡ codes "1001"
  pub more : decimal 1_002 ≡ codes "1002"
  pub most_room : decimal 10_000 ≡ codes "10000"
  pub more_room : decimal 10_001 ≡ codes "10001"
  pub greatest : decimal 18_446_744_073_709_551_615 ≡ codes "18446744073709551615"

numerals : Numerals
numerals = record {
  none = decimal-digits (codes "0") refl refl (lit< tt) (lit< tt);
  two = decimal-digits (codes "2") refl refl (lit< tt) (lit< tt);
  sixteen = decimal-digits (codes "16") refl refl (lit< tt) (lit< tt);
  seventeen = decimal-digits (codes "17") refl refl (lit< tt) (lit< tt);
  thousand = decimal-digits (codes "1001") refl refl (lit< tt) (lit< tt);
  more = decimal-digits (codes "1002") refl refl (lit< tt) (lit< tt);
  most_room = decimal-digits (codes "10000") refl refl (lit< tt) (lit< tt);
  more_room = decimal-digits (codes "10001") refl refl (lit< tt) (lit< tt);
  greatest = decimal-digits (codes "18446744073709551615") refl refl (lit< tt) (lit< tt);
}

-- words, each with the command that they are
abbrev commands : List (List (List ℕ) × Command)
commands =
    (codes "run" ∷ codes "a.toml" ∷ [], OnPlant (plant_at (codes "a.toml")) (Run 1))
    ∷ (
      codes "run" ∷ codes "a.toml" ∷ codes "--stop-after" ∷ codes "0" ∷ codes "--save" ∷ codes "c.ckpt" ∷ [],
      Stopping (plant_at (codes "a.toml")) 1 (record { after = 0; save = codes "c.ckpt" }),
    )
    ∷ (
      codes "run" ∷ codes "a.toml" ∷ codes "--workers" ∷ codes "16" ∷ codes "--save" ∷ codes "c.ckpt" ∷ codes "--stop-after" ∷ codes "2" ∷ [],
      Stopping (plant_at (codes "a.toml")) 16 (record { after = 2; save = codes "c.ckpt" }),
    )
    ∷ (codes "run" ∷ codes "a.toml" ∷ codes "--slots" ∷ codes "--every" ∷ codes "2" ∷ [], OnDisk (plant_at (codes "a.toml")) (RunSlots 2 1))
    ∷ (codes "run" ∷ codes "a.toml" ∷ codes "--room" ∷ codes "10000" ∷ [], OnPlant (plant_at (codes "a.toml")) (RunRoom 10_000 1))
    ∷ (
      codes "run" ∷ codes "a.toml" ∷ codes "--workers" ∷ codes "2" ∷ codes "--room" ∷ codes "16" ∷ [],
      OnPlant (plant_at (codes "a.toml")) (RunRoom 16 2),
    )
    ∷ (codes "run" ∷ codes "a.toml" ∷ codes "--stand" ∷ [], Standing (plant_at (codes "a.toml")) 1)
    ∷ (codes "run" ∷ codes "a.toml" ∷ codes "--workers" ∷ codes "2" ∷ codes "--stand" ∷ [], Standing (plant_at (codes "a.toml")) 2)
    ∷ (
      codes "resume" ∷ codes "a.toml" ∷ codes "c.ckpt" ∷ codes "--workers" ∷ codes "2" ∷ [],
      OnFile (plant_at (codes "a.toml")) (codes "c.ckpt") (Resume 2),
    )
    ∷ (codes "resume" ∷ codes "a.toml" ∷ codes "--slots" ∷ [], OnDisk (plant_at (codes "a.toml")) (ResumeSlots 1))
    ∷ (codes "big" ∷ codes "18446744073709551615" ∷ [], Alone (Big 18_446_744_073_709_551_615 1))
    ∷ (codes "cards" ∷ codes "a.toml" ∷ codes "0" ∷ [], OnPlant (plant_at (codes "a.toml")) (Cards 0))
    ∷ (
      codes "curve" ∷ codes "a.toml" ∷ codes "2" ∷ codes "1001" ∷ codes "--workers" ∷ codes "16" ∷ [],
      OnPlant (plant_at (codes "a.toml")) (Curve 2 1_001 16),
    )
    ∷ (codes "curve" ∷ codes "a.toml" ∷ codes "10000" ∷ codes "10000" ∷ [], OnPlant (plant_at (codes "a.toml")) (Curve 10_000 10_000 1))
    ∷ (codes "latest" ∷ codes "a.toml" ∷ codes "16" ∷ [], OnPlant (plant_at (codes "a.toml")) (Latest 16))
    ∷ (codes "replay" ∷ codes "a.toml" ∷ codes "s.txt" ∷ [], OnFile (plant_at (codes "a.toml")) (codes "s.txt") Replay)
    ∷ (codes "whatif" ∷ codes "a.toml" ∷ codes "e.txt" ∷ [], OnFile (plant_at (codes "a.toml")) (codes "e.txt") WhatIf)
    ∷ (codes "--help" ∷ [], Alone (Help None))
    ∷ (codes "help" ∷ [], Alone (Help None))
    ∷ (codes "help" ∷ codes "whatif" ∷ [], Alone (Help (Some topic.WhatIf)))
    ∷ (codes "whatif" ∷ codes "--help" ∷ [], Alone (Help (Some topic.WhatIf)))
    ∷ (codes "big" ∷ codes "--help" ∷ [], Alone (Help (Some topic.Big)))
    ∷ []

commands_are : map (λ case. command_of case.0) commands ≡ map (λ case. Some case.1) commands
unfolding number_in with_flag with_value options_after asked_run topic_of after_help after_big after_resume after_curve after_plant_word with_wait
commands_are =
    rw (numerals.none, numerals.two, numerals.sixteen, numerals.thousand, numerals.most_room, numerals.greatest) refl

-- words that are none
abbrev others : List (List (List ℕ))
others =
    (codes "--help" ∷ codes "run" ∷ [])
    ∷ (codes "help" ∷ codes "paint" ∷ [])
    ∷ (codes "paint" ∷ codes "--help" ∷ [])
    ∷ (codes "help" ∷ codes "run" ∷ codes "cards" ∷ [])
    ∷ (codes "run" ∷ codes "--help" ∷ codes "a.toml" ∷ [])
    ∷ (codes "run" ∷ codes "a.toml" ∷ codes "--help" ∷ [])
    ∷ (codes "run" ∷ [])
    ∷ (codes "run" ∷ codes "a.toml" ∷ codes "--workers" ∷ codes "17" ∷ [])
    ∷ (codes "run" ∷ codes "a.toml" ∷ codes "--workers" ∷ codes "02" ∷ [])
    ∷ (codes "run" ∷ codes "a.toml" ∷ codes "--every" ∷ codes "0" ∷ codes "--slots" ∷ [])
    ∷ (codes "run" ∷ codes "a.toml" ∷ codes "--workers" ∷ codes "2" ∷ codes "--workers" ∷ codes "2" ∷ [])
    ∷ (codes "run" ∷ codes "a.toml" ∷ codes "--save" ∷ codes "c.ckpt" ∷ [])
    ∷ (codes "resume" ∷ codes "a.toml" ∷ codes "c.ckpt" ∷ codes "--slots" ∷ [])
    ∷ (codes "run" ∷ codes "a.toml" ∷ codes "--stand" ∷ codes "--stand" ∷ [])
    ∷ (codes "run" ∷ codes "a.toml" ∷ codes "--stand" ∷ codes "--save" ∷ codes "c.ckpt" ∷ codes "--stop-after" ∷ codes "2" ∷ [])
    ∷ (codes "run" ∷ codes "a.toml" ∷ codes "--stand" ∷ codes "--every" ∷ codes "2" ∷ codes "--slots" ∷ [])
    ∷ (codes "resume" ∷ codes "a.toml" ∷ codes "c.ckpt" ∷ codes "--stand" ∷ [])
    ∷ (codes "run" ∷ codes "a.toml" ∷ codes "--room" ∷ codes "0" ∷ [])
    ∷ (codes "run" ∷ codes "a.toml" ∷ codes "--room" ∷ codes "10001" ∷ [])
    ∷ (codes "run" ∷ codes "a.toml" ∷ codes "--room" ∷ [])
    ∷ (codes "run" ∷ codes "a.toml" ∷ codes "--room" ∷ codes "2" ∷ codes "--room" ∷ codes "2" ∷ [])
    ∷ (codes "run" ∷ codes "a.toml" ∷ codes "--room" ∷ codes "2" ∷ codes "--stand" ∷ [])
    ∷ (codes "run" ∷ codes "a.toml" ∷ codes "--room" ∷ codes "2" ∷ codes "--stop-after" ∷ codes "2" ∷ codes "--save" ∷ codes "c.ckpt" ∷ [])
    ∷ (codes "run" ∷ codes "a.toml" ∷ codes "--room" ∷ codes "2" ∷ codes "--every" ∷ codes "2" ∷ codes "--slots" ∷ [])
    ∷ (codes "resume" ∷ codes "a.toml" ∷ codes "c.ckpt" ∷ codes "--room" ∷ codes "2" ∷ [])
    ∷ (codes "check" ∷ codes "a.toml" ∷ codes "--workers" ∷ codes "2" ∷ [])
    ∷ (codes "curve" ∷ codes "a.toml" ∷ codes "16" ∷ codes "2" ∷ [])
    ∷ (codes "curve" ∷ codes "a.toml" ∷ codes "2" ∷ codes "1002" ∷ [])
    ∷ (codes "curve" ∷ codes "a.toml" ∷ codes "2" ∷ codes "10001" ∷ [])
    ∷ (codes "curve" ∷ codes "a.toml" ∷ codes "2" ∷ codes "16" ∷ codes "--stand" ∷ [])
    ∷ (codes "latest" ∷ codes "a.toml" ∷ [])
    ∷ (codes "latest" ∷ codes "a.toml" ∷ codes "2" ∷ codes "2" ∷ [])
    ∷ (codes "run" ∷ codes "--workers" ∷ codes "2" ∷ codes "a.toml" ∷ [])
    ∷ (codes "run" ∷ codes "c.ckpt" ∷ [])
    ∷ (codes "resume" ∷ codes "a.toml" ∷ codes "b.toml" ∷ [])
    ∷ []

others_are_none : map command_of others ≡ map (λ words. None) others
unfolding number_in with_flag with_value options_after asked_run topic_of after_help after_big after_resume after_curve after_plant_word with_wait
others_are_none =
    rw (numerals.none, numerals.two, numerals.sixteen, numerals.seventeen, numerals.more, numerals.more_room) refl
