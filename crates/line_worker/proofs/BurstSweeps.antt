-- Sweep after sweep of a burst.
use Rattle.std.proofs.Common.{◌≡◌, ◌⊎◌, ℕ, suc, ◌+◌, ◌<◌, ◌≤◌, ◌^◌, min, length, add-zero, refl, ap, ◌∙◌, sym, subst, arith, ⊎_elim, inl, inr}
use Rattle.std.proofs.lemmas.Bool.{cases_eq}
use Rattle.event_graph.specs.Network.{jobs}
use Rattle.live_check.specs.Order.{LiveGraph}
use Rattle.station_step.specs.Step.{IsReady}
use Rattle.line_worker.specs.Team.{member}
use Rattle.line_worker.specs.Worker.{LineWorker, IsWorker, with_team}
use Rattle.line_worker.specs.Work.{dates_of, SteppedInOrder, HasSwept, AllDone, TurnsBelow, IsAlone, HasSweptOn, SweepsLead, none, more, AreOfBurst, HasBurst, HasBurstAlone, IsBursting}
use Rattle.line_worker.specs.Sweeps.{most_sweeps}
use Rattle.line_worker.specs.Workers.{HasDoneBurst, IsReadyFor, MayGoOn, IsAtWork, HasMadeSweep, HasMadeRound}
use Rattle.line_worker.proofs.Alone.{all-stations}
use Rattle.line_worker.proofs.WorkedTeams.{idle_team, then_team, dates-le}

pub bursting_begins : (c : LineWorker) → IsBursting c c 0
bursting_begins c = record {
  begins = λ zero. refl;
  worker = λ some. absurd (omega arith);
  frame = refl;
  worked = idle_team c.team;
  turned = λ i low. omega arith;
  fired = λ some i low ready. absurd (omega arith);
  undone = λ some done. absurd (omega arith);
  few = λ times alone le. omega arith;
  alone = λ times alone le. subst (IsAlone c) (sym (add-zero times)) alone;
  lead = none;
}

module _ (old now : LineWorker) (sweeps : ℕ) (inv : IsBursting old now sweeps) (is : IsWorker now) where
  target-same : now.target ≡ old.target
  target-same = ap (λ (c : LineWorker). c.target) inv.frame

  -- the worker that is alone has a station
  alone-done : (times : ℕ) → IsAlone now times → AllDone now.target now.team → times ≡ now.target
  alone-done times alone done =
      let some : 0 < length now.team.stations = omega (arith, all-stations now is alone.one, is.ranked.limits.some_station) in
      sym (alone.fired 0 some) ∙ done 0 some

  module _ (next : LineWorker) (undone : AllDone now.target now.team → ⊥) (is_next : IsWorker next) (frame : next ≡ with_team now next.team) (swept : HasSwept now.team next.team) (in_order : SteppedInOrder now.order now.team next.team) (rounds : (times : ℕ) → IsAlone now times → times < jobs now.live.graph → IsAlone next (times + 1)) where
    within : (i : ℕ) → i < length old.team.stations → i < length now.team.stations
    within i low = omega (arith, low, inv.worked.count)

    fired-more : (i : ℕ) → i < length old.team.stations → IsReady old.team.shelf (member old.team.stations i) → dates_of (member old.team.stations i) < dates_of (member next.team.stations i)
    fired-more i low ready =
        ⊎_elim
        (λ none.
        let same = inv.begins none in
        let Ready : LineWorker → Type 0 = λ c. IsReady c.team.shelf (member c.team.stations i) in
        omega (arith, swept.fired i (within i low) (subst Ready (sym same) ready), ap (λ (c : LineWorker). dates_of (member c.team.stations i)) same))
        (λ some.
        omega (arith, inv.fired (omega arith) i low ready, dates-le (member now.team.stations i) (member next.team.stations i) (swept.worked.each i (within i low))))
        (cases_eq sweeps 0)

    undone-then : AllDone old.target old.team → ⊥
    undone-then done =
        ⊎_elim
        (λ none. undone (subst (λ (c : LineWorker). AllDone c.target c.team) (sym (inv.begins none)) done))
        (λ some. inv.undone (omega arith) done)
        (cases_eq sweeps 0)

    few-more : (times : ℕ) → IsAlone old times → times ≤ old.target → times + sweeps < old.target
    few-more times alone le =
        let now_alone = inv.alone times alone le in
        ⊎_elim
        (λ same.
        let IsDone : ℕ → Type 0 = λ n. (i : ℕ) → i < length now.team.stations → dates_of (member now.team.stations i) ≡ n in
        absurd (undone (subst IsDone (same ∙ sym target-same) now_alone.fired)))
        (λ apart. omega (arith, inv.few times alone le))
        (cases_eq (times + sweeps) old.target)

    leads-on : SweepsLead old.order old.target old.team (sweeps + 1) next.team
    leads-on =
        let order-same = ap (λ (c : LineWorker). c.order) inv.frame in
        let swept_on : HasSweptOn old.order old.target now.team next.team =
        record {
          undone = λ done. undone (subst (λ n. AllDone n now.team) (sym target-same) done);
          in_order = subst (λ order. SteppedInOrder order now.team next.team) order-same in_order;
        } in
        let counted : suc sweeps ≡ sweeps + 1 = omega arith in
        subst (λ n. SweepsLead old.order old.target old.team n next.team) counted (more sweeps now.team next.team inv.lead swept_on)

    pub bursting_goes_on : IsBursting old next (sweeps + 1)
    bursting_goes_on = record {
      begins = λ none. absurd (omega arith);
      worker = λ some. is_next;
      frame = frame ∙ ap (λ (c : LineWorker). with_team c next.team) inv.frame;
      worked = then_team old.team now.team next.team inv.worked swept.worked;
      turned = λ i low. omega (arith, swept.turned i (within i low), inv.turned i low);
      fired = λ some i low ready. fired-more i low ready;
      undone = λ some done. undone-then done;
      few = λ times alone le. omega (arith, few-more times alone le);
      alone = λ times alone le.
          let less : times + sweeps < jobs now.live.graph = omega (arith, few-more times alone le, target-same, is.target) in
          let again : times + sweeps + 1 ≡ times + (sweeps + 1) = omega arith in
          subst (IsAlone next) again (rounds (times + sweeps) (inv.alone times alone le) less);
      lead = leads-on;
    }

  -- the end, where all are done
  pub alone_at_end : sweeps ≤ most_sweeps → AllDone now.target now.team → (times : ℕ) → IsAlone old times → times ≤ old.target → HasBurstAlone times old now
  alone_at_end few done times alone le =
      let now_alone = inv.alone times alone le in
      let all : times + sweeps ≡ old.target = alone-done (times + sweeps) now_alone done ∙ target-same in
      let most : times + sweeps ≡ min (times + most_sweeps) old.target = omega (arith, all, few) in
      record {
        alone = subst (IsAlone now) most now_alone;
        turns = λ i low. omega (arith, inv.turned i low, most);
      }

-- the end after all sweeps
module _ (old now : LineWorker) (sweeps : ℕ) (inv : IsBursting old now sweeps) (full : sweeps ≡ most_sweeps) where
  pub burst_in_full : HasBurst old.target old.team now.team
  burst_in_full = record {
    worked = inv.worked;
    few = λ i low. omega (arith, inv.turned i low, full);
    even = λ i j low_i low_j. omega (arith, inv.turned i low_i, inv.turned j low_j);
    ended = inr (λ i low. omega (arith, inv.turned i low, full));
    fired = λ i low ready. inv.fired (omega (arith, full)) i low ready;
    idle = λ done i low. absurd (inv.undone (omega (arith, full)) done);
  }

  pub alone_in_full : (times : ℕ) → IsAlone old times → times ≤ old.target → HasBurstAlone times old now
  alone_in_full times alone le =
      let most : times + sweeps ≡ min (times + most_sweeps) old.target = omega (arith, full, inv.few times alone le) in
      record {
        alone = subst (IsAlone now) most (inv.alone times alone le);
        turns = λ i low. omega (arith, inv.turned i low, most);
      }

-- the sweeps of a burst, where all are done or as many were made as a burst has
pub sweeps_at_end : (old now : LineWorker) (sweeps : ℕ) → IsBursting old now sweeps → sweeps ≤ most_sweeps → AllDone old.target now.team ⊎ (sweeps ≡ most_sweeps) → (count : ℕ) × AreOfBurst old.order old.target old.team now.team count
sweeps_at_end old now sweeps inv few ended = (sweeps, record { few = few; lead = inv.lead; ended = ended })

-- the end before the last sweep, where all are done
pub burst_when_done : (old now : LineWorker) (sweeps : ℕ) → IsBursting old now sweeps → IsWorker now → sweeps ≤ most_sweeps → AllDone now.target now.team → HasBurst old.target old.team now.team
burst_when_done old now sweeps inv is few done =
    let target = ap (λ (c : LineWorker). c.target) inv.frame in
    let none : AllDone old.target old.team → sweeps ≡ 0 =
    λ was.
    ⊎_elim (λ zero. zero) (λ some. absurd (inv.undone (omega arith) was)) (cases_eq sweeps 0) in
    -- a station that is done isn't ready
    let unready : (i : ℕ) → i < length now.team.stations → IsReady now.team.shelf (member now.team.stations i) → ⊥ =
    λ i low ready.
    omega (arith, ready.more, done i low, ap jobs (is.members.members i low).graph, is.target) in
    record {
      worked = inv.worked;
      few = λ i low. omega (arith, inv.turned i low, few);
      even = λ i j low_i low_j. omega (arith, inv.turned i low_i, inv.turned j low_j);
      ended = inl (λ i low. done i low ∙ target);
      fired = λ i low ready.
          ⊎_elim
          (λ zero.
          let Ready : LineWorker → Type 0 = λ c. IsReady c.team.shelf (member c.team.stations i) in
          absurd (unready i (omega (arith, low, inv.worked.count)) (subst Ready (sym (inv.begins zero)) ready)))
          (λ some. inv.fired (omega arith) i low ready)
          (cases_eq sweeps 0);
      idle = λ was i low. omega (arith, inv.turned i low, none was);
    }

-- ---- a worker at work, which makes a sweep in each round, or is done

pub at_work_begins : (c : LineWorker) → IsAtWork c c 0
at_work_begins c = inl (bursting_begins c)

module _ (old now : LineWorker) (sweeps : ℕ) (work : IsAtWork old now sweeps) where
  -- it is the same worker of the same line
  at-work-frame : now ≡ with_team old now.team
  at-work-frame = ⊎_elim (λ inv. inv.frame) (λ ended. ended.worked.same.frame) work

  -- and has made few turns more
  at-work-turns : sweeps ≤ most_sweeps → TurnsBelow (2 ^ 38) old.team → TurnsBelow (2 ^ 39) now.team
  at-work-turns few below i low =
      ⊎_elim
      (λ inv.
      let low' : i < length old.team.stations = omega (arith, low, inv.worked.count) in
      omega (arith, inv.turned i low', below i low', few))
      (λ ended.
      let low' : i < length old.team.stations = omega (arith, low, ended.worked.burst.worked.count) in
      omega (arith, ended.worked.burst.few i low', below i low'))
      work

  -- so it may make one more sweep
  at_work-may : (live : LiveGraph) → sweeps ≤ most_sweeps → IsReadyFor live old → MayGoOn live now
  at_work-may live few ready = record {
    made_for = ready.made_for ∙ sym (ap (λ (c : LineWorker). c.live) at-work-frame);
    turns = at-work-turns few ready.turns;
  }

  -- where all of its stations are done, the round leaves it as it is
  at_work-done : sweeps ≤ most_sweeps → IsWorker now → AllDone now.target now.team → IsAtWork old now (sweeps + 1)
  at_work-done few is done =
      ⊎_elim
      (λ inv.
      inr (record {
        worked = record {
          same = record { worker = is; frame = inv.frame };
          burst = burst_when_done old now sweeps inv is few done;
          alone = alone_at_end old now sweeps inv is few done;
          sweeps = sweeps_at_end old now sweeps inv few (inl (λ i low. done i low ∙ target-same old now sweeps inv is));
        };
        done = done;
      }))
      inr
      work

  -- and else it makes a sweep
  at_work-sweeps : IsWorker now → (next : LineWorker) → IsWorker next → HasMadeSweep now next → IsAtWork old next (sweeps + 1)
  at_work-sweeps is next is_next made =
      ⊎_elim
      (λ inv. inl (bursting_goes_on old now sweeps inv is next made.undone is_next made.frame made.swept made.in_order made.alone))
      (λ ended. absurd (made.undone ended.done))
      work

-- so a round more leaves it at work
pub at_work_more : (old now next : LineWorker) (sweeps : ℕ) → sweeps < most_sweeps → HasMadeRound now next → IsAtWork old now sweeps → IsAtWork old next (sweeps + 1)
at_work_more old now next sweeps few made work =
    ⊎_elim
    (λ swept. at_work-sweeps old now sweeps work made.worker_before next made.worker swept)
    (λ rested.
    subst (λ (c : LineWorker). IsAtWork old c (sweeps + 1)) (sym rested.stays)
    (at_work-done old now sweeps work (omega (arith, few)) made.worker_before rested.done))
    made.round

pub may_go_on : (live : LiveGraph) (old now : LineWorker) (sweeps : ℕ) → sweeps ≤ most_sweeps → IsReadyFor live old → IsAtWork old now sweeps → MayGoOn live now
may_go_on live old now sweeps few ready work = at_work-may old now sweeps work live few ready

-- after all rounds it has worked for the burst
pub at_work_in_full : (old now : LineWorker) → IsAtWork old now most_sweeps → HasDoneBurst old now
at_work_in_full old now work =
    ⊎_elim
    (λ inv.
    record {
      same = record { worker = inv.worker (omega arith); frame = inv.frame };
      burst = burst_in_full old now most_sweeps inv refl;
      alone = alone_in_full old now most_sweeps inv refl;
      sweeps = sweeps_at_end old now most_sweeps inv (omega arith) (inr refl);
    })
    (λ ended. ended.worked)
    work
