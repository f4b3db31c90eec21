-- Which states a run saves on its way, and what a crash may leave of them.
use Rattle.std.specs.Prelude.{◌≡◌, ℕ, ◌+◌, ◌*◌, ◌<◌, ◌≤◌, ◌⊎◌, Bool, IsTrue, List, Option, None, Some}
use Rattle.line_base.specs.declared.event.Parts.{Parts}
use Rattle.event_graph.specs.Network.{stations}
use Rattle.event_graph.specs.State.{State}
use Rattle.event_graph.specs.Reached.{Reached}
use Rattle.line_core.specs.Consistent.{firing_count}
use Rattle.line_core.specs.Run.{Dates}
use Rattle.line_worker.specs.Sweeps.{most_sweeps}
use Rattle.line_workers.specs.Line.{WorkLine}
use Rattle.checkpoint.specs.declared.format.Format.TheVariants.{Differences}
use Rattle.checkpoint.specs.Text.{text}
use Rattle.crash_disk.specs.DiskView.{Image, DiskView, Held, held_now}
use Rattle.crash_disk.specs.Layout.{content}
use Rattle.crash_disk.specs.Crash.{CouldLeave, IsSaved}
use Rattle.line_runs.specs.Bursts.{IsBurst, BurstsBelow, HasMade, IsDone}
use Rattle.line_runs.specs.AllFirings.{all_firings}
use Rattle.line_runs.specs.Headline.{MayBeResumed}
use Rattle.line_runs.specs.Store.{IsOver}

-- how many firings were made at the last save, or as the run began where there was none
abbrev pub counted_from : WorkLine → Option WorkLine → ℕ
counted_from first None = firing_count first.state
counted_from first (Some saved) = firing_count saved.state

-- n firings were made since the last save or the beginning, and not all
pub record IsDue (n from : ℕ) (l : WorkLine) : Type 0 where
  pub since : from + n ≤ firing_count l.state
  pub not_all : firing_count l.state < all_firings l.live.graph

-- the line was saved where that was due, and else the disk is untouched; this many firings had the
-- state that was saved last before, and this many has the one that was saved last now
pub record SavesIfDue (tells : Bool) (room n : ℕ) (l : WorkLine) (before last : ℕ)
    (old new : DiskView) : Type 0 where
  pub due_count : IsDue n before l → last ≡ firing_count l.state
  pub due_saved : IsDue n before l → IsTrue tells →
      IsSaved (held_now new) room (text Differences l.live.graph l.state)
  pub else_count : ¬ IsDue n before l → last ≡ before
  pub else_untouched : ¬ IsDue n before l → new ≡ old

-- bursts lead from the first line to the other, and each line at a burst's end was saved exactly
-- where that was due; this is the line that was saved last, if one was
pub data SavesWhenDue (n : ℕ) (first : WorkLine) : Option WorkLine → WorkLine → Type 0 where
  begins : SavesWhenDue n first None first
  passes : (saved : Option WorkLine) (l last : WorkLine) → SavesWhenDue n first saved l →
      IsBurst l last → ¬ IsDue n (counted_from first saved) last → SavesWhenDue n first saved last
  saves : (saved : Option WorkLine) (l last : WorkLine) → SavesWhenDue n first saved l →
      IsBurst l last → IsDue n (counted_from first saved) last →
      SavesWhenDue n first (Some last) last

-- a crash leaves the text of the state that was saved last, and the disk is untouched where none
-- was
abbrev pub HoldsLast : ℕ → DiskView → DiskView → Option WorkLine → Type 0
HoldsLast room old new None = new ≡ old
HoldsLast room old new (Some l) =
    IsSaved (held_now new) room (text Differences l.live.graph l.state)

-- bursts lead to a line that has made all firings, with saves on the way, and these are its dates
pub record FinishesSaving (n : ℕ) (first : WorkLine) (saved : Option WorkLine)
    (d : Dates) : Type 0 where
  pub last : WorkLine
  pub saves : SavesWhenDue n first saved last
  pub count : ℕ
  pub bursts : BurstsBelow (all_firings first.live.graph) first count last
  pub counts : HasMade first last count
  pub done : IsDone last
  pub dates : d.rows ≡ last.state.logs

-- the run saved when it was due, and the disk holds what was saved last
pub record HasSaved (tells : Bool) (room n : ℕ) (first : WorkLine) (old new : DiskView)
    (d : Dates) : Type 0 where
  pub saved : Option WorkLine
  pub finishes : FinishesSaving n first saved d
  pub holds : IsTrue tells → HoldsLast room old new saved

-- the content is the text of a state in which a run may stop
pub record IsSavedState (g : Parts) (saved : Option (List ℕ)) : Type 0 where
  pub state : State
  pub resumed : MayBeResumed g state
  pub content_is : saved ≡ Some (text Differences g state)

-- the content is one that a crash could have left before, or the text of a state in which a run may
-- stop
abbrev pub IsOldOrState : Held → ℕ → Parts → Image → Type 0
IsOldOrState before room g image =
    CouldLeave before room (content image room) ⊎ IsSavedState g (content image room)

-- this many bytes are those of the text of a state that firings reach, and they don't fit into the
-- room
pub record HasTooLongState (g : Parts) (room have : ℕ) : Type 0 where
  pub state : State
  pub reached : Reached g state
  pub over : IsOver room have (text Differences g state)

-- after the run a crash leaves the text of a state to which few firings were missing
pub record IsLateState (g : Parts) (n : ℕ) (room : ℕ) (held : Held) : Type 0 where
  pub state : State
  pub resumed : MayBeResumed g state
  pub saved : IsSaved held room (text Differences g state)
  pub late : all_firings g < firing_count state + n + most_sweeps * stations g
