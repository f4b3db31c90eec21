-- The topic of a word, by the word that it is.
use Rattle.std.proofs.Common.{◌≡◌, ℕ, List, ◌∙◌, ap, sym}
use Rattle.std.specs.Prelude.{Option}
use Rattle.command_line.specs.Words.{topic_of}
use Rattle.command_line.specs.declared.topic.Topic.{Topic}

-- the same word names the same topic
pub topic_at : {word other : List ℕ} {topic : Option Topic} → word ≡ other → topic ≡ topic_of other → topic ≡ topic_of word
topic_at is named = named ∙ ap topic_of (sym is)
