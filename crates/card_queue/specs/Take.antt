-- What contracts see of the end at which tokens are taken.
use Rattle.std.specs.Prelude.{◌≡◌, ℕ, ◌+◌, List}
use mathlib.Core.List.{IsPrefix}
use Rattle.card_queue.specs.Ring.{Ring}

-- the end of a queue at which tokens are taken
pub record TakeEnd : Type 0 where
  pub taken : List ℕ  -- the tokens that were taken, oldest first
  pub known : List ℕ  -- the tokens that come next, as far as this end has seen them
  pub looks : ℕ  -- how often this end looked
  pub ring : Ring  -- the queue whose end this is

-- the end looked once, and knows of the tokens that it knew of, and maybe of more; nothing else of it changed
pub record TakeLooks (old new : TakeEnd) : Type 0 where
  pub same : new ≡ record old { known = new.known; looks = new.looks }
  pub more : IsPrefix old.known new.known
  pub counted : new.looks ≡ old.looks + 1
