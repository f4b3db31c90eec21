use Rattle.std.proofs.Common.{◌≡◌}
use Rattle.line_workers.specs.Link.{first_links}
use Rattle.line_workers.proofs.link.links_of.Given as goal

abbrev pub invariant-loop-a : goal.invariant-loop-a
invariant-loop-a l = l.links.items ≡ first_links l.live.graph l.worker_count l.a
