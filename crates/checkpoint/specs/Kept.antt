-- What contracts see of a `KeptText`: of each station the words of its first dates, and the text that was written last.
use Rattle.std.specs.Prelude.{◌≡◌, ℕ, ◌<◌, ◌≤◌, List, [], length, take, slice_index_or}
use Rattle.line_base.specs.declared.event.Parts.{Parts}
use Rattle.event_graph.specs.Network.{stations}
use Rattle.event_graph.specs.State.{State, log}
use Rattle.checkpoint.specs.declared.format.Format.TheVariants.{Differences}
use Rattle.checkpoint.specs.Text.{date_words}

-- how many dates of a log have their words here, and these words
pub record KeptWords : Type 0 where
  pub count : ℕ
  pub words : List ℕ

-- those of each station, and a text
pub record Kept : Type 0 where
  pub logs : List KeptWords
  pub text : List ℕ

-- no date has its words here
abbrev pub no_words : KeptWords
no_words = record { count = 0; words = [] }

abbrev pub words_at : List KeptWords → ℕ → KeptWords
words_at logs t = slice_index_or logs t no_words

-- they are the words of the first dates of a log
pub record AreFirstWords (dates : List ℕ) (kept : KeptWords) : Type 0 where
  pub few : kept.count ≤ length dates
  pub words : kept.words ≡ date_words Differences 0 (take kept.count dates)

-- the lists have words of the first dates of each log
pub record AreFirstWordsOfEach (g : Parts) (s : State) (logs : List KeptWords) : Type 0 where
  pub a_log_each : length logs ≡ stations g
  pub first_words : (t : ℕ) → t < stations g → AreFirstWords (log s t) (words_at logs t)

-- every date of the logs has its word here
abbrev pub HaveEachWord : Parts → State → List KeptWords → Type 0
HaveEachWord g s logs = (t : ℕ) → t < stations g → (words_at logs t).count ≡ length (log s t)

-- the state follows those whose words are here: each of its logs begins with the dates of these words
abbrev pub Follows : Parts → State → Kept → Type 0
Follows g s kept = AreFirstWordsOfEach g s kept.logs
