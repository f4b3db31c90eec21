-- What a run saves on its way, and what a crash may leave of it.
use Rattle.std.proofs.Common.{Bool, IsTrue, ◌≡◌, ℕ, ◌+◌, ◌*◌, ◌<◌, ◌≤◌, List, Option, None, Some, sym, subst, ap, ◌∙◌, arith, refl, ◌⊎◌, inl, inr, ⊎_elim}
use Rattle.std.specs.Prelude.{⊤}
use Rattle.std.proofs.lemmas.Bool.{cases_lt}
use Rattle.line_base.specs.declared.event.Parts.{Parts}
use Rattle.event_graph.specs.Network.{stations}
use Rattle.live_check.specs.Order.{LiveGraph}
use Rattle.line_core.specs.Consistent.{firing_count}
use Rattle.line_core.specs.Run.{Dates}
use Rattle.line_worker.specs.Sweeps.{most_sweeps}
use Rattle.checkpoint.specs.declared.format.Format.TheVariants.{Differences}
use Rattle.checkpoint.specs.Text.{text}
use Rattle.checkpoint.specs.Kept.{Kept, Follows}
use Rattle.checkpoint.proofs.KeptWords.{Follows-grown}
use Rattle.crash_disk.specs.DiskView.{Image, DiskView, LeavesOnly, held_now}
use Rattle.crash_disk.proofs.Moments.{leaves_on, leaves_also, leaves_here, leaves_last}
use Rattle.crash_disk.specs.Layout.{content}
use Rattle.crash_disk.specs.Crash.{CouldLeave, IsOldOrNew}
use Rattle.line_workers.specs.Line.{WorkLine, IsLine, run_in}
use Rattle.line_runs.specs.Bursts.{IsBurst, IsDone, none}
use Rattle.line_runs.specs.AllFirings.{all_firings}
use Rattle.line_runs.specs.Headline.{MayBeResumed}
use Rattle.line_runs.specs.Store.{IsOver}
use Rattle.line_runs.specs.Saves.{counted_from, IsDue, SavesWhenDue, begins, passes, saves, HoldsLast, IsSavedState, IsOldOrState, IsLateState, HasTooLongState, SavesIfDue, FinishesSaving}
use Rattle.line_runs.proofs.Firings.{done_is_all, line_is_within}
use Rattle.line_runs.proofs.FirstBursts.{burst_live, HaveLed, led_more, bursts_made}
use Rattle.line_runs.proofs.Resumed.{may_be_resumed}

-- ---- the lines at the bursts' ends

pub saves_line : (n : ℕ) (first : WorkLine) (saved : Option WorkLine) (last : WorkLine) → IsLine first → SavesWhenDue n first saved last → IsLine last
saves_line n first saved last is begins = is
saves_line n first saved last is (passes old l new before burst not_due) = burst.line
saves_line n first saved last is (saves old l new before burst due) = burst.line

pub saves_live : (n : ℕ) (first : WorkLine) (saved : Option WorkLine) (last : WorkLine) → SavesWhenDue n first saved last → last.live ≡ first.live
saves_live n first saved last begins = refl
saves_live n first saved last (passes old l new before burst not_due) = burst_live l new burst ∙ saves_live n first old l before
saves_live n first saved last (saves old l new before burst due) = burst_live l new burst ∙ saves_live n first old l before

pub counted_before : (n : ℕ) (first : WorkLine) (saved : Option WorkLine) (last : WorkLine) → SavesWhenDue n first saved last → counted_from first saved ≤ firing_count last.state
counted_before n first saved last begins = omega arith
counted_before n first saved last (passes old l new before burst not_due) = omega (arith, counted_before n first old l before, burst.some)
counted_before n first saved last (saves old l new before burst due) = omega arith

-- a line is to be saved, or it isn't
pub due_or_not : (n from : ℕ) (l : WorkLine) → IsDue n from l ⊎ (¬ IsDue n from l)
due_or_not n from l =
    ⊎_elim
    (λ early. inr (λ due. absurd (omega (arith, early, due.since))))
    (λ since.
    ⊎_elim
    (λ left. inl (record { since = since; not_all = left }))
    (λ none. inr (λ due. absurd (omega (arith, none, due.not_all))))
    (cases_lt (firing_count l.state) (all_firings l.live.graph)))
    (cases_lt (firing_count l.state) (from + n))

-- where firings are left, fewer than n were made since the last save
not_late : (n : ℕ) (first : WorkLine) (saved : Option WorkLine) (last : WorkLine) → 1 ≤ n → SavesWhenDue n first saved last → firing_count last.state < all_firings last.live.graph → firing_count last.state < counted_from first saved + n
not_late n first saved last some begins left = omega arith
not_late n first saved last some (passes old l new before burst not_due) left =
    ⊎_elim
    (λ low. low)
    (λ high. absurd (not_due (record { since = high; not_all = left })))
    (cases_lt (firing_count new.state) (counted_from first old + n))
not_late n first saved last some (saves old l new before burst due) left = omega arith

-- before a burst firings are left
left_before : (old new : WorkLine) → IsBurst old new → firing_count old.state < all_firings old.live.graph
left_before old new burst =
    let same : all_firings new.live.graph ≡ all_firings old.live.graph = ap (λ (v : LiveGraph). all_firings v.graph) (burst_live old new burst) in
    omega (arith, line_is_within new burst.line, burst.some, same)

-- the bursts between, before each of which some firing was left
pub saves_led : (n : ℕ) (first : WorkLine) (saved : Option WorkLine) (last : WorkLine) → SavesWhenDue n first saved last → HaveLed (all_firings first.live.graph) first last
saves_led n first saved last begins = record { count = 0; bursts = none }
saves_led n first saved last (passes old l new before burst not_due) =
    led_more (all_firings first.live.graph) first l new (saves_led n first old l before)
    (subst (λ (v : LiveGraph). firing_count l.state < all_firings v.graph) (saves_live n first old l before) (left_before l new burst)) burst
saves_led n first saved last (saves old l new before burst due) =
    led_more (all_firings first.live.graph) first l new (saves_led n first old l before)
    (subst (λ (v : LiveGraph). firing_count l.state < all_firings v.graph) (saves_live n first old l before) (left_before l new burst)) burst

pub finishes_saving : (n : ℕ) (first : WorkLine) (saved : Option WorkLine) (last : WorkLine) → SavesWhenDue n first saved last → IsLine last → IsDone last → (d : Dates) → d.rows ≡ last.state.logs → FinishesSaving n first saved d
finishes_saving n first saved last before is done d dates =
    let led = saves_led n first saved last before in
    record {
      last = last;
      saves = before;
      count = led.count;
      bursts = led.bursts;
      counts = bursts_made (all_firings first.live.graph) first led.count last led.bursts is;
      done = done;
      dates = dates;
    }

-- ---- the line that was saved last

-- it has firings left, and is of the same graph
pub record IsStopped (first l : WorkLine) : Type 0 where
  pub line : IsLine l
  pub not_all : firing_count l.state < all_firings l.live.graph
  pub live : l.live ≡ first.live

abbrev pub SavedStopped : WorkLine → Option WorkLine → Type 0
SavedStopped first None = ⊤
SavedStopped first (Some l) = IsStopped first l

saved_stopped : (n : ℕ) (first : WorkLine) (saved : Option WorkLine) (last : WorkLine) → SavesWhenDue n first saved last → SavedStopped first saved
saved_stopped n first saved last begins = tt
saved_stopped n first saved last (passes old l new before burst not_due) = saved_stopped n first old l before
saved_stopped n first saved last (saves old l new before burst due) = record {
  line = burst.line;
  not_all = due.not_all;
  live = burst_live l new burst ∙ saves_live n first old l before;
}

-- of a line with firings left the state may be resumed
pub stopped_resumes : (l : WorkLine) → IsLine l → firing_count l.state < all_firings l.live.graph → MayBeResumed l.live.graph l.state
stopped_resumes l is left = may_be_resumed (run_in l) is.reached left

-- few firings were made after the last save
few_after : (n : ℕ) (first : WorkLine) (saved : Option WorkLine) (last : WorkLine) → IsLine first → 1 ≤ n → SavesWhenDue n first saved last → IsDone last → firing_count first.state < all_firings first.live.graph → all_firings first.live.graph < counted_from first saved + n + most_sweeps * stations first.live.graph
few_after n first saved last is some begins done left = absurd (omega (arith, left, done_is_all first is done))
few_after n first saved last is some (passes old l new before burst not_due) done left =
    let live_l = saves_live n first old l before in
    let same : stations l.live.graph ≡ stations first.live.graph = ap (λ (v : LiveGraph). stations v.graph) live_l in
    let all : firing_count new.state ≡ all_firings first.live.graph =
    done_is_all new burst.line done ∙ ap (λ (v : LiveGraph). all_firings v.graph) (burst_live l new burst ∙ live_l) in
    omega (arith, not_late n first old l some before (left_before l new burst), burst.few, same, all)
few_after n first saved last is some (saves old l new before burst due) done left =
    absurd (omega (arith, due.not_all, done_is_all new burst.line done))

late_of : (g : Parts) (n room : ℕ) (first : WorkLine) (saved : Option WorkLine) (old new : DiskView) → g ≡ first.live.graph → SavedStopped first saved → HoldsLast room old new saved → all_firings first.live.graph < counted_from first saved + n + most_sweeps * stations first.live.graph → firing_count first.state + n + most_sweeps * stations g ≤ all_firings g → IsLateState g n room (held_now new)
late_of g n room first None old new same stopped holds few many =
    absurd (omega (arith, few, subst (λ (v : Parts). firing_count first.state + n + most_sweeps * stations v ≤ all_firings v) same many))
late_of g n room first (Some l) old new same stopped holds few many =
    let of_l : l.live.graph ≡ g = ap (λ (v : LiveGraph). v.graph) stopped.live ∙ sym same in
    record {
      state = l.state;
      resumed = subst (λ (v : Parts). MayBeResumed v l.state) of_l (stopped_resumes l stopped.line stopped.not_all);
      saved = subst (λ (v : Parts). HoldsLast room old new (Some (record l { live = record l.live { graph = v } }))) of_l holds;
      late = subst (λ (v : Parts). all_firings v < firing_count l.state + n + most_sweeps * stations v) (sym same) few;
    }

pub late_state : (g : Parts) (n room : ℕ) (first : WorkLine) (saved : Option WorkLine) (last : WorkLine) (old new : DiskView) → g ≡ first.live.graph → IsLine first → 1 ≤ n → SavesWhenDue n first saved last → IsDone last → HoldsLast room old new saved → firing_count first.state + n + most_sweeps * stations g ≤ all_firings g → IsLateState g n room (held_now new)
late_state g n room first saved last old new same is some before done holds many =
    let left : firing_count first.state < all_firings first.live.graph =
    omega (arith, some, subst (λ (v : Parts). firing_count first.state + n + most_sweeps * stations v ≤ all_firings v) same many) in
    late_of g n room first saved old new same (saved_stopped n first saved last before) holds (few_after n first saved last is some before done left) many

-- ---- what a crash leaves

pub leaves_at_first : (a : DiskView) (room : ℕ) (g : Parts) → LeavesOnly a a (IsOldOrState (held_now a) room g)
leaves_at_first a room g = leaves_here a (IsOldOrState (held_now a) room g) (λ image may. inl (image, may, refl))

pub leaves_after : (a b c : DiskView) (room : ℕ) (g : Parts) → LeavesOnly a b (IsOldOrState (held_now a) room g) → LeavesOnly b c (IsOldOrState (held_now b) room g) → LeavesOnly a c (IsOldOrState (held_now a) room g)
leaves_after a b c room g first second =
    let P : Image → Type 0 = IsOldOrState (held_now a) room g in
    let carry : (image : Image) → IsOldOrState (held_now b) room g image → P image =
    λ image either. ⊎_elim
    (λ (could : CouldLeave (held_now b) room (content image room)).
    subst (λ (saved : Option (List ℕ)). CouldLeave (held_now a) room saved ⊎ IsSavedState g saved) could.2 (
    leaves_last a b P first could.0 could.1))
    (λ (state : IsSavedState g (content image room)). inr state)
    either in
    leaves_on a b c P first (leaves_also b c (IsOldOrState (held_now b) room g) P carry second)

-- a save of a state in which a run may stop
pub leaves_saved : (b c : DiskView) (room : ℕ) (l : WorkLine) → IsLine l → firing_count l.state < all_firings l.live.graph → LeavesOnly b c (IsOldOrNew (held_now b) room (text Differences l.live.graph l.state)) → LeavesOnly b c (IsOldOrState (held_now b) room l.live.graph)
leaves_saved b c room l is left only =
    leaves_also b c (IsOldOrNew (held_now b) room (text Differences l.live.graph l.state)) (IsOldOrState (held_now b) room l.live.graph)
    (λ image either. ⊎_elim
    (λ (could : CouldLeave (held_now b) room (content image room)). inl could)
    (λ new. inr (record { state = l.state; resumed = stopped_resumes l is left; content_is = new }))
    either)
    only

-- ---- a run on its way

-- bursts have led from the first line to this one, with saves on the way; this many firings had the line that was saved
-- last
pub record SavesOn (tells : Bool) (room n : ℕ) (first last : WorkLine) (count : ℕ) (old now : DiskView) : Type 0 where
  pub saved : Option WorkLine
  pub before : SavesWhenDue n first saved last
  pub counted : count ≡ counted_from first saved
  pub holds : IsTrue tells → HoldsLast room old now saved
  pub leaves : IsTrue tells → LeavesOnly old now (IsOldOrState (held_now old) room first.live.graph)
  pub faults : old.faults ≤ now.faults

pub saves_begin : (tells : Bool) (room n : ℕ) (first : WorkLine) (count : ℕ) (old : DiskView) → count ≡ firing_count first.state → SavesOn tells room n first first count old old
saves_begin tells room n first count old counted = record {
  saved = None;
  before = begins;
  counted = counted;
  holds = λ known. refl;
  leaves = λ known. leaves_at_first old room first.live.graph;
  faults = omega arith;
}

pub leaves_then : (tells : Bool) (room n : ℕ) (first l last : WorkLine) (count : ℕ) (old now new : DiskView) → SavesOn tells room n first l count old now → IsBurst l last → (IsTrue tells → LeavesOnly now new (IsOldOrState (held_now now) room last.live.graph)) → IsTrue tells → LeavesOnly old new (IsOldOrState (held_now old) room first.live.graph)
leaves_then tells room n first l last count old now new on burst step known =
    let same : last.live.graph ≡ first.live.graph =
    ap (λ (v : LiveGraph). v.graph) (burst_live l last burst ∙ saves_live n first on.saved l on.before) in
    leaves_after old now new room first.live.graph (on.leaves known) (
    subst (λ (g : Parts). LeavesOnly now new (IsOldOrState (held_now now) room g)) same (step known))

pub saves_go_on : (tells : Bool) (room n : ℕ) (first l last : WorkLine) (count next : ℕ) (old now new : DiskView) → SavesOn tells room n first l count old now → IsBurst l last → SavesIfDue tells room n last count next now new → (IsTrue tells → LeavesOnly now new (IsOldOrState (held_now now) room last.live.graph)) → now.faults ≤ new.faults → SavesOn tells room n first last next old new
saves_go_on tells room n first l last count next old now new on burst step moment faults =
    let leaves = leaves_then tells room n first l last count old now new on burst moment in
    let rise : old.faults ≤ new.faults = omega (arith, on.faults, faults) in
    ⊎_elim
    (λ (due : IsDue n count last). record {
      saved = Some last;
      before = saves on.saved l last on.before burst (subst (λ from. IsDue n from last) on.counted due);
      counted = step.due_count due;
      holds = step.due_saved due;
      leaves = leaves;
      faults = rise;
    })
    (λ (not_due : ¬ IsDue n count last). record {
      saved = on.saved;
      before = passes on.saved l last on.before burst (λ due. not_due (subst (λ from. IsDue n from last) (sym on.counted) due));
      counted = step.else_count not_due ∙ on.counted;
      holds = λ known. subst (λ (view : DiskView). HoldsLast room old view on.saved) (sym (step.else_untouched not_due)) (on.holds known);
      leaves = leaves;
      faults = rise;
    })
    (due_or_not n count last)

-- ---- the text of a line with firings left, and whether it is to be saved

-- the words that are kept for a line are those for the line after a burst, in which no date has changed
pub follows_burst : (old new : WorkLine) (kept : Kept) → IsBurst old new → Follows old.live.graph old.state kept → Follows new.live.graph new.state kept
follows_burst old new kept burst follows =
    subst (λ (v : LiveGraph). Follows v.graph new.state kept) (sym (burst_live old new burst)) (
    Follows-grown old.live.graph old.state new.state kept follows burst.logs)

-- the state of a line, where its text doesn't fit
pub too_long_state : (room have : ℕ) (l : WorkLine) → IsLine l → IsOver room have (text Differences l.live.graph l.state) → HasTooLongState l.live.graph room have
too_long_state room have l is over = record { state = l.state; reached = is.reached.reached; over = over }
