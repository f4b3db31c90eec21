-- What the options of a command give, whatever their order.
use Rattle.std.specs.Prelude.{ℕ, Bool, true, false, not, ◌&&◌, ◌||◌, List, [], ◌∷◌, map, codes, if◌then◌else◌, Option, Some, None, option_map, option_and_then, String, string_bytes}
use Rattle.std.specs.Str.{bytes_eq}
use Rattle.std.specs.List.{list_any}
use Rattle.std.specs.declared.alloc.Global.{Global}
use Rattle.line_base.specs.Limits.{most_workers, most_ring_room}
use Rattle.line_base.specs.Text.{is_checkpoint_name}
use Rattle.command_line.specs.Numbers.{number_in, most_firings}
use Rattle.command_line.specs.declared.options.Options.{Options}

-- the bytes of each word
abbrev pub texts : List (String Global) → List (List ℕ)
texts words = map string_bytes words

-- whether a word is `--stand`
abbrev pub has_stand : List (List ℕ) → Bool
has_stand words = list_any (λ word. bytes_eq word (codes "--stand")) words

-- the value of each option that is given, and whether `--slots` and `--stand` are
pub record Given : Type 0 where
  pub workers : Option ℕ
  pub stop_after : Option ℕ
  pub save : Option (List ℕ)
  pub every : Option ℕ
  pub room : Option ℕ
  pub slots : Bool
  pub stand : Bool

-- what the options of the code give
abbrev pub seen_options : Options → Given
seen_options options = record {
  workers = options.workers;
  stop_after = options.stop_after;
  save = option_map (λ file. file.now) options.save;
  every = options.every;
  room = options.room;
  slots = options.slots;
  stand = options.stand;
}

-- no option
abbrev pub none_given : Given
none_given =
    record { workers = None; stop_after = None; save = None; every = None; room = None; slots = false; stand = false }

-- the checkpoint that a word names
abbrev pub checkpoint_in : List ℕ → Option (List ℕ)
checkpoint_in word = if is_checkpoint_name word then Some word else None

-- the value of an option that was not given before
abbrev pub once : {A : Type 0} → Option A → Option A → Option A
once None value = value
once (Some before) value = None

-- the options that take no value
abbrev pub takes_no_value : List ℕ → Bool
takes_no_value name = bytes_eq name (codes "--slots") || bytes_eq name (codes "--stand")

-- what is given with one more of the options that take no value
unfoldable pub with_flag : Given → List ℕ → Option Given
with_flag given name =
    if bytes_eq name (codes "--slots") && not given.slots then Some (record given { slots = true })
    else if bytes_eq name (codes "--stand") && not given.stand then Some (record given { stand = true })
    else None

-- what is given with one more of the options that take a value
unfoldable pub with_value : Given → List ℕ → List ℕ → Option Given
with_value given name word =
    if bytes_eq name (codes "--workers")
    then option_map (λ n. record given { workers = Some n }) (once given.workers (number_in 1 most_workers word))
    else if bytes_eq name (codes "--stop-after")
    then option_map (λ n. record given { stop_after = Some n }) (once given.stop_after (number_in 0 most_firings word))
    else if bytes_eq name (codes "--save")
    then option_map (λ file. record given { save = Some file }) (once given.save (checkpoint_in word))
    else if bytes_eq name (codes "--every")
    then option_map (λ n. record given { every = Some n }) (once given.every (number_in 1 most_firings word))
    else if bytes_eq name (codes "--room")
    then option_map (λ n. record given { room = Some n }) (once given.room (number_in 1 most_ring_room word))
    else None

unfoldable mutual
  -- what is given with the options that words are
  pub options_after : Given → List (List ℕ) → Option Given
  options_after given [] = Some given
  options_after given (name ∷ words) =
      if takes_no_value name
      then option_and_then (λ more. options_after more words) (with_flag given name)
      else value_after given name words

  -- what is given with an option and its value, and with the options behind them
  pub value_after : Given → List ℕ → List (List ℕ) → Option Given
  value_after given name [] = None
  value_after given name (word ∷ words) =
      option_and_then (λ more. options_after more words) (with_value given name word)
