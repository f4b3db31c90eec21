-- What contracts see of the end at which tokens are put.
use Rattle.std.specs.Prelude.{ℕ, List, ◌++◌}
use Rattle.card_queue.specs.Ring.{Ring}

-- the end of a queue at which tokens are put
pub record PutEnd : Type 0 where
  pub initial : List ℕ  -- the tokens that the queue began with
  pub added : List ℕ  -- the tokens that were put since, oldest first
  pub room : ℕ  -- how many may be put in all
  pub ring : Ring  -- the queue whose end this is

-- every token of the queue in order of putting, the initial ones first
abbrev pub put_tokens : PutEnd → List ℕ
put_tokens put = put.initial ++ put.added
