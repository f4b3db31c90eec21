-- What the options of a command ask for: a number of workers, and one mode.
use Rattle.std.specs.Prelude.{ℕ, Bool, true, false, List, Option, Some, None, option_map, option_and_then, unwrap_or}
use Rattle.command_line.specs.declared.settings.Mode.{Mode}
use Rattle.command_line.specs.declared.settings.Mode.TheVariants.{Whole, Stopped, Saving, FromSlots, Bounded, Standing}
use Rattle.command_line.specs.declared.settings.Settings.{Settings}
use Rattle.command_line.specs.Options.{Given, none_given, options_after}

-- how a line runs
pub data Way : Type 0 where
  -- to the end
  whole : Way
  -- to the first burst's end at which this many firings are made, with the checkpoint that is written then
  stopped : ℕ → List ℕ → Way
  -- to the end, with a checkpoint into a slot each time that this many firings are made
  saving : ℕ → Way
  -- from the newest slot to the end
  from_slots : Way
  -- to the end, with this room in the rings between two workers
  bounded : ℕ → Way
  -- to the end, by workers that stand until all firings are made
  standing : Way

-- the number of workers, and how the line runs
pub record Asked : Type 0 where
  pub workers : ℕ
  pub way : Way

-- the way that options ask for beside the workers, in the order of `Given`
abbrev pub way_by : Option ℕ → Option (List ℕ) → Option ℕ → Option ℕ → Bool → Bool → Option Way
way_by None None None None false false = Some whole
way_by (Some after) (Some save) None None false false = Some (stopped after save)
way_by None None (Some every) None true false = Some (saving every)
way_by None None None None true false = Some from_slots
way_by None None None (Some room) false false = Some (bounded room)
way_by None None None None false true = Some standing
way_by stop_after save every room slots stand = None

abbrev pub way_of : Given → Option Way
way_of given = way_by given.stop_after given.save given.every given.room given.slots given.stand

-- what is asked for with these options; one worker where no number is given
abbrev pub asked_by : Given → Option Asked
asked_by given = option_map (λ way. record { workers = unwrap_or given.workers 1; way = way }) (way_of given)

-- what is asked for with the options that words are
unfoldable pub asked_run : List (List ℕ) → Option Asked
asked_run words = option_and_then asked_by (options_after none_given words)

-- a mode of the code as a way, and settings of the code as what they ask for
abbrev pub way_seen : Mode → Way
way_seen Whole = whole
way_seen (Stopped after save) = stopped after save.now
way_seen (Saving every) = saving every
way_seen FromSlots = from_slots
way_seen (Bounded room) = bounded room
way_seen Standing = standing

abbrev pub settings_seen : Settings → Asked
settings_seen settings = record { workers = settings.workers; way = way_seen settings.mode }
