-- The calls of a save, put together of those of its parts.
use Rattle.std.proofs.Common.{◌≡◌, ◌≢◌, ℕ, List, [], ◌∷◌, ◌++◌, Bool, true, false, refl, ap, sym, ◌∙◌, subst, append_assoc, append-nil}
use Rattle.std.specs.Prelude.{Result, Ok, Err}
use Rattle.crash_disk.specs.DiskView.{DiskAsk, DiskView, Sync}
use Rattle.crash_disk.specs.declared.disk.DiskError.{DiskError}
use Rattle.crash_disk.specs.declared.slots.head.Head.{Head}
use Rattle.crash_disk.specs.declared.slots.target.Target.{Target}
use Rattle.crash_disk.specs.Layout.{newer_head, target_by}
use Rattle.crash_disk.specs.Loads.{ReadsHeads}
use Rattle.crash_disk.specs.SaveCalls.{Outcome, Kind, Asks, Then, WritesGate, ClosesWhere, ClosesGate, WritesContent, OpensGate, WritesTo, FindsTarget, not_synced, heads_unread, heads_found, AsksToSave, no_target, into_target}

not_err : (error : DiskError) → ¬ ((let done : Outcome = Ok tt in done) ≡ Err error)
not_err error is = cc

not_ok : (error : DiskError) → ¬ ((let failed : Outcome = Err error in failed) ≡ Ok tt)
not_ok error is = cc

same_error : (error other : DiskError) → (let failed : Outcome = Err error in failed) ≡ Err other → error ≡ other
same_error error other is = cc

-- calls behind calls
both : (old mid new : DiskView) (xs ys : List DiskAsk) → mid.asked ≡ old.asked ++ xs → new.asked ≡ mid.asked ++ ys → new.asked ≡ old.asked ++ (xs ++ ys)
both old mid new xs ys first second =
    second ∙ ap (λ (asked : List DiskAsk). asked ++ ys) first ∙ append_assoc old.asked xs ys

-- some calls that were done, and others behind them
pub then_on : (First Next : Kind) (old mid new : DiskView) (answer : Outcome) → Asks old mid (λ calls. First calls (Ok tt)) → Asks mid new (λ calls. Next calls answer) → Asks old new (λ calls. Then First Next calls answer)
then_on First Next old mid new answer first next = (
  first.0 ++ next.0,
  both old mid new first.0 next.0 first.1 next.1,
  record {
    first = first.0;
    next = next.0;
    between = Ok tt;
    split = refl;
    are = first.2;
    goes_on = λ done. next.2;
    ends = λ error is. absurd (not_err error is);
  },
)

-- some calls of which the last one failed
pub then_failed : (First Next : Kind) (old new : DiskView) (error : DiskError) (answer : Outcome) → answer ≡ Err error → Asks old new (λ calls. First calls (Err error)) → Asks old new (λ calls. Then First Next calls answer)
then_failed First Next old new error answer is first = (
  first.0,
  first.1,
  record {
    first = first.0;
    next = [];
    between = Err error;
    split = sym (append-nil first.0);
    are = first.2;
    goes_on = λ done. absurd (not_ok error done);
    ends = λ other same. (refl, is ∙ ap (λ (e : DiskError). Err e) (same_error error other same));
  },
)

-- one call
pub asks_once : (old new : DiskView) (call : DiskAsk) → new.asked ≡ old.asked ++ call ∷ [] → Asks old new (λ calls. calls ≡ call ∷ [])
asks_once old new call is = (call ∷ [], is, refl)

-- a gate that is closed needs no call, and one that is open is closed
pub closed_already : (at : ℕ) (gate_is_open : Bool) (view : DiskView) → gate_is_open ≡ false → Asks view view (λ calls. ClosesWhere gate_is_open at calls (Ok tt))
closed_already at gate_is_open view is = (
  [],
  sym (append-nil view.asked),
  subst (λ b. ClosesWhere b at [] (Ok tt)) (sym is) (refl, refl),
)

pub closes_open : (at : ℕ) (gate_is_open : Bool) (old new : DiskView) (answer : Outcome) → gate_is_open ≡ true → Asks old new (λ calls. WritesGate at 0 calls answer) → Asks old new (λ calls. ClosesWhere gate_is_open at calls answer)
closes_open at gate_is_open old new answer is asks =
    (asks.0, asks.1, subst (λ b. ClosesWhere b at asks.0 answer) (sym is) asks.2)

-- the target, where the sync failed, where a head wasn't read, and where both were
pub target_not_synced : (room : ℕ) (old new : DiskView) (error : DiskError) (answer : Result Target DiskError) → answer ≡ Err error → new.asked ≡ old.asked ++ Sync (Err error) ∷ [] → Asks old new (λ calls. FindsTarget room calls answer)
target_not_synced room old new error answer is asked = (Sync (Err error) ∷ [], asked, not_synced error refl is)

pub target_unread : (room : ℕ) (old mid new : DiskView) (error : DiskError) (answer : Result Target DiskError) → answer ≡ Err error → mid.asked ≡ old.asked ++ Sync (Ok tt) ∷ [] → ReadsHeads room mid new (Err error) → Asks old new (λ calls. FindsTarget room calls answer)
target_unread room old mid new error answer is synced read = (
  Sync (Ok tt) ∷ read.reads,
  both old mid new (Sync (Ok tt) ∷ []) read.reads synced read.read,
  heads_unread read.reads error read.heads refl is,
)

pub target_found : (room : ℕ) (old mid new : DiskView) (zero one : Head) (target : Target) → target ≡ target_by (newer_head room zero one) zero one → mid.asked ≡ old.asked ++ Sync (Ok tt) ∷ [] → ReadsHeads room mid new (Ok (zero, one)) → Asks old new (λ calls. FindsTarget room calls (Ok target))
target_found room old mid new zero one target is synced read = (
  Sync (Ok tt) ∷ read.reads,
  both old mid new (Sync (Ok tt) ∷ []) read.reads synced read.read,
  heads_found read.reads zero one read.heads refl (ap (λ (t : Target). Ok t) is),
)

-- a save without a target, and one into a target
pub saves_nowhere : (room : ℕ) (bytes : List ℕ) (old new : DiskView) (error : DiskError) (answer : Outcome) → answer ≡ Err error → Asks old new (λ calls. FindsTarget room calls (Err error)) → Asks old new (λ calls. AsksToSave room bytes calls answer)
saves_nowhere room bytes old new error answer is finds = (finds.0, finds.1, no_target error finds.2 is)

pub saves_into : (room : ℕ) (bytes : List ℕ) (target : Target) (old mid new : DiskView) (answer : Outcome) → Asks old mid (λ calls. FindsTarget room calls (Ok target)) → Asks mid new (λ calls. WritesTo room target bytes calls answer) → Asks old new (λ calls. AsksToSave room bytes calls answer)
saves_into room bytes target old mid new answer finds writes = (
  finds.0 ++ writes.0,
  both old mid new finds.0 writes.0 finds.1 writes.1,
  into_target target finds.0 writes.0 finds.2 refl writes.2,
)
