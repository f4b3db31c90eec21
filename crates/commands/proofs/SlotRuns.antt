-- A run of a plant with the slots of a disk.
use Rattle.std.proofs.Common.{◌≡◌, ◌⊎◌, ℕ, ◌+◌, ◌*◌, ◌≤◌, Bool, [], IsTrue, Option, None, refl, ap, sym, ◌∙◌, subst}
use Rattle.std.proofs.Common.{inl, inr, arith}
use Rattle.std.specs.Prelude.{Result, Err, IfErr}
use Rattle.event_graph.specs.Network.{stations}
use Rattle.event_graph.specs.State.{State, start}
use Rattle.line_base.specs.declared.event.Parts.{Parts}
use Rattle.line_base.specs.Limits.{most_checkpoint_bytes}
use Rattle.line_core.specs.Consistent.{firing_count}
use Rattle.crash_disk.specs.DiskView.{DiskView, LeavesOnly, held_now}
use Rattle.outside_io.specs.Faults.{Rose}
use Rattle.line_runs.proofs.RunSaves.{leaves_at_first, saves_live}
use Rattle.line_runs.proofs.FirstBursts.{burst_live}
use Rattle.line_runs.specs.Saves.{SavesWhenDue, begins, passes, saves, HoldsLast, IsOldOrState, IsLateState}
use Rattle.line_runs.specs.AllFirings.{all_firings}
use Rattle.line_workers.specs.Line.{WorkLine}
use Rattle.live_check.specs.Order.{LiveGraph}
use Rattle.plant_model.specs.declared.plant.Plant.{Plant}
use Rattle.plant_model.specs.Graph.{graph}
use Rattle.live_plant.specs.declared.refusals.refusal.Refusal.{Refusal}
use Rattle.live_plant.specs.declared.refusals.refusal.Refusal.TheVariants.{Disk, NoMemory}
use Rattle.live_plant.specs.Actions.{DiskOver, disk_over, HasCause, DoesOnDisk}
use Rattle.live_plant.specs.Outside.{StoreOver}
use Rattle.commands.proofs.Actions.{no_memory_caused, uses_disk}
use Rattle.commands.proofs.Stops.{fired_at_start, reported_caused}
use Rattle.commands.specs.Reports.{IsReport}
use Rattle.commands.specs.Saving.{SavesOnTheWay, Saves, RunsWithSlots, AnswersSave}
use Rattle.answers.specs.declared.answer.Answer.{Answer}
use Rattle.crash_disk.specs.declared.slots.error.SlotError.{SlotError}
use Rattle.crash_disk.specs.declared.slots.error.SlotError.TheVariants as slot_error
use Rattle.line_worker.specs.Sweeps.{most_sweeps}

-- what a run with slots leaves of the disk, whatever it answers
pub record Kept (tells : Bool) (old new : DiskView) (g : Parts) : Type 0 where
  pub any_moment : IsTrue tells → LeavesOnly old new (IsOldOrState (held_now old) most_checkpoint_bytes g)
  pub faults : old.faults ≤ new.faults

-- a disk that isn't used
pub kept_at_first : (tells : Bool) (view : DiskView) (g : Parts) → Kept tells view view g
kept_at_first tells view g = record {
  any_moment = λ known. leaves_at_first view most_checkpoint_bytes g;
  faults = omega arith;
}

-- of the plant's graph
pub kept_of : {tells : Bool} {old new : DiskView} (p : Plant) (g : Parts) → g ≡ graph p →
    (IsTrue tells → LeavesOnly old new (IsOldOrState (held_now old) most_checkpoint_bytes g)) →
    old.faults ≤ new.faults → Kept tells old new (graph p)
kept_of {tells} {old} {new} p g same any_moment faults =
    subst (Kept tells old new) same (record { any_moment = any_moment; faults = faults })

-- where n is at least all firings none is due
none_due : (n : ℕ) (first : WorkLine) (saved : Option WorkLine) (last : WorkLine) → all_firings first.live.graph ≤ n →
    SavesWhenDue n first saved last → saved ≡ None
none_due n first saved last many begins = refl
none_due n first saved last many (passes old l new before burst not_due) = none_due n first old l many before
none_due n first saved last many (saves old l new before burst due) =
    let same : all_firings new.live.graph ≡ all_firings first.live.graph =
    ap (λ (v : LiveGraph). all_firings v.graph) (burst_live l new burst ∙ saves_live n first old l before) in
    absurd (omega (arith, many, due.since, due.not_all, same))

-- and the disk is as before
untouched_of : (p : Plant) (n : ℕ) (disk : DiskOver) → SavesOnTheWay p n disk → IsTrue disk.tells →
    all_firings (graph p) ≤ n → disk.new ≡ disk.old
untouched_of p n disk on known many =
    let few : all_firings on.first.live.graph ≤ n = subst (λ (g : Parts). all_firings g ≤ n) (sym on.made_for) many in
    let finishes = on.saves.finishes in
    subst (HoldsLast most_checkpoint_bytes disk.old disk.new)
    (none_due n on.first on.saves.saved finishes.last few finishes.saves) (on.saves.holds known)

module _ (tells : Bool) (old new : DiskView) (p : Plant) (n : ℕ) (kept : Kept tells old new (graph p)) where
  run_does : (answer : Result Answer Refusal) →
      ((store : StoreOver) → IfErr answer (HasCause store (disk_over tells old new) [])) →
      Saves p n (disk_over tells old new) answer ⊎ ((answer ≡ Err Disk) ⊎ (answer ≡ Err NoMemory)) →
      DoesOnDisk (disk_over tells old new) (RunsWithSlots p n) answer
  run_does answer caused answers =
      uses_disk (disk_over tells old new) (RunsWithSlots p n) answer kept.faults caused
      (record { nothing = refl; any_moment = kept.any_moment; answers = answers })

  pub run_no_memory : (answer : Result Answer Refusal) → answer ≡ Err NoMemory →
      DoesOnDisk (disk_over tells old new) (RunsWithSlots p n) answer
  run_no_memory answer none =
      run_does answer (λ store. no_memory_caused store (disk_over tells old new) [] answer none) (inr (inr none))

  -- a save failed
  pub run_fails : (e : SlotError) (refusal : Refusal) → (e ≡ slot_error.DiskFault → Rose old.faults new.faults) →
      AnswersSave e refusal → DoesOnDisk (disk_over tells old new) (RunsWithSlots p n) (Err refusal)
  run_fails slot_error.DiskFault refusal rose answers =
      subst (λ (r : Refusal). DoesOnDisk (disk_over tells old new) (RunsWithSlots p n) (Err r)) (sym answers)
      (run_does (Err Disk) (λ store. rose refl) (inr (inl refl)))
  run_fails slot_error.NoMemory refusal rose answers = run_no_memory (Err refusal) (ap (λ (r : Refusal). Err r) answers)
  run_fails slot_error.NoneSaved refusal rose answers = absurd answers
  run_fails (slot_error.TooLong have) refusal rose answers = absurd answers

  run_answers : (answer : Result Answer Refusal) → SavesOnTheWay p n (disk_over tells old new) →
      (IsTrue tells → n + most_sweeps * stations (graph p) ≤ all_firings (graph p) →
      IsLateState (graph p) n most_checkpoint_bytes (held_now new)) → IsReport p answer ⊎ (answer ≡ Err NoMemory) →
      Saves p n (disk_over tells old new) answer ⊎ ((answer ≡ Err Disk) ⊎ (answer ≡ Err NoMemory))
  run_answers answer on late (inl report) =
      inl (record {
        report = report;
        saves = on;
        untouched = untouched_of p n (disk_over tells old new) on;
        late = late;
      })
  run_answers answer on late (inr none) = inr (inr none)

  -- the run answered its end
  pub run_saves : (answer : Result Answer Refusal) → SavesOnTheWay p n (disk_over tells old new) →
      (IsTrue tells → n + most_sweeps * stations (graph p) ≤ all_firings (graph p) →
      IsLateState (graph p) n most_checkpoint_bytes (held_now new)) → IsReport p answer ⊎ (answer ≡ Err NoMemory) →
      DoesOnDisk (disk_over tells old new) (RunsWithSlots p n) answer
  run_saves answer on late is =
      run_does answer (λ store. reported_caused store (disk_over tells old new) p answer is)
      (run_answers answer on late is)

-- the state that is saved last, of a run from the start
pub late_of : (tells : Bool) (new : DiskView) (p : Plant) (g : Parts) (n : ℕ) (begun : State) → g ≡ graph p →
    begun ≡ start g → (IsTrue tells → firing_count begun + n + most_sweeps * stations g ≤ all_firings g →
    IsLateState g n most_checkpoint_bytes (held_now new)) → IsTrue tells →
    n + most_sweeps * stations (graph p) ≤ all_firings (graph p) → IsLateState (graph p) n most_checkpoint_bytes (held_now new)
late_of tells new p g n begun same is late known many =
    let none : firing_count begun ≡ 0 = fired_at_start g begun is in
    let few : n + most_sweeps * stations g ≤ all_firings g =
    subst (λ (h : Parts). n + most_sweeps * stations h ≤ all_firings h) (sym same) many in
    subst (λ (h : Parts). IsLateState h n most_checkpoint_bytes (held_now new)) same
    (late known (omega (arith, few, none)))
