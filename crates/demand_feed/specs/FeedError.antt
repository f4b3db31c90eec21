-- When each error of this crate comes.
use Rattle.std.specs.Prelude.{◌≡◌, ⊤, Err}
use Rattle.demand_feed.specs.Rows.{FeedResult}
use Rattle.demand_feed.specs.declared.error.FeedError.{FeedError}
use Rattle.demand_feed.specs.declared.error.FeedError.TheVariants.{BadRecord, NoMemory}

-- an error names the first bad record of what was read, unless memory ran out
abbrev pub TellsBadRecord : {A : Type 0} → FeedResult A → FeedError → Type 0
TellsBadRecord read (BadRecord number) = read ≡ Err number
TellsBadRecord read NoMemory = ⊤
