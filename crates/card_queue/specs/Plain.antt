-- What contracts see of a queue inside one worker.
use Rattle.std.specs.Prelude.{ℕ, List, ◌++◌, take, drop}

-- a queue that one worker both puts into and takes from
pub record PlainQueue : Type 0 where
  pub initial : List ℕ  -- the tokens that the queue began with
  pub added : List ℕ  -- the tokens that were put since, oldest first
  pub room : ℕ  -- how many may be put in all
  pub takes : ℕ  -- how many tokens were taken

-- every token of the queue in order of putting, the initial ones first
abbrev pub plain_tokens : PlainQueue → List ℕ
plain_tokens queue = queue.initial ++ queue.added

-- the tokens that were taken: the first of those that were put
abbrev pub plain_taken : PlainQueue → List ℕ
plain_taken queue = take queue.takes (plain_tokens queue)

-- the tokens that wait to be taken, oldest first: the rest of those that were put
abbrev pub plain_waiting : PlainQueue → List ℕ
plain_waiting queue = drop queue.takes (plain_tokens queue)
