-- Which words are numbers, and the limits of those that a command takes.
use Rattle.std.specs.Prelude.{ℕ, List, ◌&&◌, if◌then◌else◌, Option, Some, None, decimal}
use Rattle.std.specs.Str.{bytes_eq}
use Rattle.std.specs.Str.Parse.{digits_value}
use Rattle.line_base.specs.Text.{is_between}

-- of `--stop-after` and of `--every`
abbrev pub most_firings : ℕ
most_firings = 1_000_000

-- of `cards` and of `latest`
abbrev pub longest_wait : ℕ
longest_wait = 10_000_000_000_000_000

-- of `curve`: the counts of cards that it tries
abbrev pub most_counts : ℕ
most_counts = 1_000

-- the number that a word is, where it is one from `least` to `most`: the word is what is written of it in decimal
unfoldable pub number_in : ℕ → ℕ → List ℕ → Option ℕ
number_in least most word =
    let n = digits_value 10 word in
    if bytes_eq word (decimal n) && is_between least most n then Some n else None
