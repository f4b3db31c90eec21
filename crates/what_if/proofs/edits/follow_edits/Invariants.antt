use Rattle.std.proofs.Common.{◌≡◌, ◌≤◌, ◌+◌, length}
use Rattle.std.specs.Prelude.{Result}
use Rattle.line_core.specs.Schedule.{lines_of}
use Rattle.what_if.specs.Edited.{Inputs}
use Rattle.what_if.specs.Page.{mark_count}
use Rattle.what_if.specs.Edits.{Stopped, EditsGive}
use Rattle.what_if.specs.Settled.{KeepsDates}
use Rattle.what_if.proofs.edits.follow_edits.Given as goal

abbrev pub invariant-loop-rest : goal.invariant-loop-rest
invariant-loop-rest l = record {
  made_for : l.live ≡ l.sheet.live;
  comes : (outcome : Result Inputs Stopped) → EditsGive l.live.graph (lines_of l.rest) l.line l.sheet.inputs outcome → EditsGive l.live.graph (lines_of l.edits) 1 l.initial.sheet.inputs outcome;
  dates : KeepsDates l.initial.sheet l.sheet;
  marks : mark_count l.sheet + length (lines_of l.rest) ≤ mark_count l.initial.sheet + length (lines_of l.edits);
  counted : l.line + length l.rest ≤ 1 + length l.edits;
}

abbrev pub decreases-loop-rest : goal.decreases-loop-rest
decreases-loop-rest l = length l.rest
