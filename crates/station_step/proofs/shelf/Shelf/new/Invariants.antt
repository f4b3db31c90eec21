use Rattle.std.proofs.Common.{◌≡◌, ℕ, map}
use Rattle.std.specs.Prelude.{Vec}
use Rattle.std.specs.declared.alloc.Global.{Global}
use Rattle.station_step.specs.Counts.{origins_of}
use Rattle.station_step.proofs.LaidTallies.{LaidUpTo}
use Rattle.station_step.proofs.shelf.Shelf.new.Given as goal

abbrev pub invariant-loop-first : goal.invariant-loop-first
invariant-loop-first l = record {
  laid : LaidUpTo l.first-index l.fn.logs.items (map (λ (v : Vec ℕ Global). v.items) l.fn.firsts.items) l.fn.sources.items l.tokens.items l.queues.items;
  origins_are : l.origins.items ≡ origins_of l.queues.items;
}
