use Rattle.std.proofs.Common.{◌≡◌, ◌++◌}
use Rattle.std.specs.List.{flat_map}
use Rattle.checkpoint.specs.Text.{delay_words}
use Rattle.checkpoint.proofs.WrittenTexts.{delayed_below}
use Rattle.checkpoint.proofs.writer.put_delays.Given as goal

abbrev pub invariant-loop-a : goal.invariant-loop-a
invariant-loop-a l = l.text.items ≡ l.initial.text.items ++ flat_map (delay_words l.graph) (delayed_below l.graph l.a)
