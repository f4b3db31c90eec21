use Rattle.std.proofs.Common.{◌≡◌, ◌≢◌, ◌<◌, ◌+◌, ℕ, subst, sym, ap, ◌∙◌, arith, List, length, set, get_or, refl}
use Rattle.std.specs.Prelude.{Option, None, Some, IsSome, IfSome, unwrap_or, slice_index}
use Rattle.std.specs.List.{range_with_len}
use Rattle.std.proofs.lemmas.List.{get_or_default}
use Rattle.event_graph.specs.GreatestValue.{greatest}
use Rattle.station_step.specs.declared.input.Input.{Input}
use Rattle.station_step.specs.declared.noted.NotedInput.{NotedInput}
use Rattle.station_step.specs.Shelf.{queue_at}
use Rattle.station_step.specs.Ends.{inlet_queue}
use Rattle.station_step.specs.Input.{input_at, IsRefilled}
use Rattle.station_step.specs.Kept.{saturating}
use Rattle.station_step.specs.Noted.{inputs_of, extras_of}
use Rattle.station_step.specs.Refilled.{hand_asks}
use Rattle.station_step.proofs.Dates.{latest-none, latest-more}
use Rattle.station_step.proofs.NotedExtras.{no_input, input-at, extra-at, inputs-count, inputs-set, extras-stay}
use Rattle.station_step.proofs.RefilledHands.{RefilledUpTo, IsFirstEmpty, IsLastEmpty, refilled_none, refilled_more, first-none, first-empty, first-full, last-none, last-empty, last-full, full-where_none, empty-where_some}
use Rattle.station_step.proofs.Turns.{walked, walked-is}
use Rattle.station_step.proofs.inputs.refill.Goals.{then-is_none, else-is_none, After-loop-k}
use Rattle.station_step.proofs.inputs.refill.Goals as goal

pub loop-k-init : goal.loop-k-init
loop-k-init c =
    let all = c.deref_mut-noted-items.ensures.value in
    let before = inputs_of c.args.inputs.now.items in
    let shelf = c.args.shelf.now.queues in
    let items = c.deref_mut-noted-items.result.now in
    record {
      extras = ap extras_of all;
      logs = refl;
      sources = refl;
      refilled = subst (λ (l : List NotedInput). RefilledUpTo 0 shelf shelf before (inputs_of l)) (sym all) (refilled_none shelf before);
      found = first-none (inputs_of items);
      last = last-none (inputs_of items);
      date = latest-none (hand_asks (extras_of items) (inputs_of items));
    }

pub refill-requires : goal.refill-requires
refill-requires c =
    let items = c.loop-k.noted-items in
    let before = inputs_of c.args.inputs.now.items in
    let k = c.loop-k.k in
    let was = c.loop-k.invariant.refilled in
    let low : k < length before = omega (arith, c.loop-k-test.true, ap length c.deref_mut-noted-items.ensures.value, inputs-count c.args.inputs.now.items) in
    let lent : NotedInput = get_or items k c.noted-item.result in
    let is_lent : lent ≡ get_or items k no_input = get_or_default items k _ _ (omega (arith, c.loop-k-test.true, c.loop-k.auto.noted-items)) in
    let at : lent.input ≡ input_at before k =
    ap (λ (n : NotedInput). n.input) is_lent
    ∙ sym (input-at items k)
    ∙ was.rest k (omega arith) in
    subst (λ (i : Input). IfSome (inlet_queue i.inlet) (λ q. q < length c.loop-k.shelf.queues)) (sym at)
    (subst (λ (n : ℕ). IfSome (inlet_queue (input_at before k).inlet) (λ q. q < n)) (sym was.only_takes.count) (c.requires.within k low))

pub loop-k-preserved : goal.loop-k-preserved
loop-k-preserved c =
    let before = inputs_of c.args.inputs.now.items in
    let items = c.loop-k.noted-items in
    let inputs = inputs_of items in
    let extras = extras_of items in
    let k = c.loop-k.k in
    let was = c.loop-k.invariant in
    let mid = c.loop-k.shelf.queues in
    let new = c.refill.new.shelf.queues in
    let input : Input = c.refill.new.self in
    let lent : NotedInput = get_or items k c.noted-item.result in
    let noted : NotedInput = record { input = input; extra = lent.extra } in
    let there : k < length items = omega (arith, c.loop-k-test.true, c.loop-k.auto.noted-items) in
    let low : k < length inputs = omega (arith, there, inputs-count items) in
    let is_lent : lent ≡ get_or items k no_input = get_or_default items k _ _ there in
    let at : lent.input ≡ input_at inputs k = ap (λ (n : NotedInput). n.input) is_lent ∙ sym (input-at items k) in
    let extra : lent.extra ≡ (get_or items k no_input).extra = ap (λ (n : NotedInput). n.extra) is_lent in
    let stay : extras_of (set items k noted) ≡ extras = extras-stay items k noted extra in
    let changed : set inputs k input ≡ inputs_of (set items k noted) = sym (inputs-set items k noted) in
    let asks : c.saturating_add.result ≡ saturating (unwrap_or input.hand 0) (slice_index extras k) =
    c.saturating_add.ensures
    ∙ ap (λ n. saturating n lent.extra) c.unwrap_or.ensures
    ∙ ap (saturating (unwrap_or input.hand 0)) (extra ∙ sym (extra-at items k)) in
    record {
      extras = stay ∙ was.extras;
      logs = c.refill.ensures.logs ∙ was.logs;
      sources = c.refill.ensures.sources ∙ was.sources;
      refilled =
          subst (RefilledUpTo (k + 1) c.args.shelf.now.queues new before) changed
          (refilled_more k c.args.shelf.now.queues mid new before inputs input c.requires.apart low was.refilled
          (subst (λ (i : Input). IsRefilled mid new i input) at c.refill.ensures.refilled)
          c.refill.ensures.only_takes
          (subst (λ (i : Input). (q : ℕ) → inlet_queue i.inlet ≢ Some q → queue_at new q ≡ queue_at mid q) at c.refill.ensures.others));
      found =
          subst (IsFirstEmpty (k + 1) c.if-is_none.first) changed
          (elim c.if-is_none.branch [
            | then-is_none w ↦
                subst (λ (found : Option ℕ). IsFirstEmpty (k + 1) found (set inputs k input)) (sym (w.first-is ∙ w.or-first.ensures))
                (first-empty k c.loop-k.first inputs input low w.if-is_none.ensures was.found)
            | else-is_none w ↦
                subst (λ (found : Option ℕ). IsFirstEmpty (k + 1) found (set inputs k input)) (sym w.first-is)
                (first-full k c.loop-k.first inputs input low w.if-is_none.ensures was.found)
          ]);
      last =
          subst (IsLastEmpty (k + 1) c.if-is_none.first c.if-is_none.last) changed
          (elim c.if-is_none.branch [
            | then-is_none w ↦
                subst (λ (last : ℕ). IsLastEmpty (k + 1) c.if-is_none.first last (set inputs k input)) (sym w.last-is)
                (last-empty k c.if-is_none.first inputs input low w.if-is_none.ensures)
            | else-is_none w ↦
                subst (λ (found : Option ℕ). IsLastEmpty (k + 1) found c.if-is_none.last (set inputs k input)) (sym w.first-is)
                (subst (λ (last : ℕ). IsLastEmpty (k + 1) c.loop-k.first last (set inputs k input)) (sym w.last-is)
                (last-full k c.loop-k.first c.loop-k.last inputs input low w.if-is_none.ensures was.last))
          ]);
      date =
          c.max-latest.ensures
          ∙ latest-more extras k inputs input c.loop-k.latest c.saturating_add.result low was.date asks
          ∙ ap (λ (l : List ℕ). greatest (hand_asks l (set inputs k input)) (range_with_len 0 (k + 1))) (sym stay)
          ∙ ap (λ (l : List Input). greatest (hand_asks (extras_of (set items k noted)) l) (range_with_len 0 (k + 1))) changed;
    }

-- ---- what is so when the loop has ended, of the inputs as it leaves them

abbrev left : After-loop-k → List NotedInput
left c = walked c.args.inputs.now c.loop-k.noted-items

left-is : (c : After-loop-k) → left c ≡ c.loop-k.noted-items
left-is c = walked-is c.args.inputs.now c.loop-k.noted-items (omega (arith, c.loop-k.invariant.refilled.count, inputs-count c.loop-k.noted-items, inputs-count c.args.inputs.now.items))

all : (c : After-loop-k) → c.loop-k.k ≡ length (inputs_of c.args.inputs.now.items)
all c =
    omega (arith, c.loop-k-test.false, c.loop-k.auto.k-end, ap length c.deref_mut-noted-items.ensures.value, inputs-count c.args.inputs.now.items)

refilled : (c : After-loop-k) → RefilledUpTo c.loop-k.k c.args.shelf.now.queues c.loop-k.shelf.queues (inputs_of c.args.inputs.now.items) (inputs_of (left c))
refilled c =
    subst (λ (l : List NotedInput). RefilledUpTo c.loop-k.k c.args.shelf.now.queues c.loop-k.shelf.queues (inputs_of c.args.inputs.now.items) (inputs_of l)) (sym (left-is c)) c.loop-k.invariant.refilled

found : (c : After-loop-k) (answer : Option ℕ) → c.loop-k.first ≡ answer → IsFirstEmpty c.loop-k.k answer (inputs_of (left c))
found c answer is =
    subst (λ (l : List NotedInput). IsFirstEmpty c.loop-k.k answer (inputs_of l)) (sym (left-is c))
    (subst (λ (first : Option ℕ). IsFirstEmpty c.loop-k.k first (inputs_of c.loop-k.noted-items)) is c.loop-k.invariant.found)

found_last : (c : After-loop-k) (answer : Option ℕ) → c.loop-k.first ≡ answer → IsLastEmpty c.loop-k.k answer c.loop-k.last (inputs_of (left c))
found_last c answer is =
    subst (λ (l : List NotedInput). IsLastEmpty c.loop-k.k answer c.loop-k.last (inputs_of l)) (sym (left-is c))
    (subst (λ (first : Option ℕ). IsLastEmpty c.loop-k.k first c.loop-k.last (inputs_of c.loop-k.noted-items)) is c.loop-k.invariant.last)

pub returns-clause-only_takes : goal.returns-clause-only_takes
returns-clause-only_takes c = c.loop-k.invariant.refilled.only_takes

pub returns-clause-others : goal.returns-clause-others
returns-clause-others c q none =
    c.loop-k.invariant.refilled.others q (λ j less. none j (omega (arith, less, all (goal.at.returns-clause-others c).After-loop-k)))

pub returns-clause-count : goal.returns-clause-count
returns-clause-count c = (refilled (goal.at.returns-clause-count c).After-loop-k).count

pub returns-clause-same : goal.returns-clause-same
returns-clause-same c = (refilled (goal.at.returns-clause-same c).After-loop-k).same

pub returns-clause-extras : goal.returns-clause-extras
returns-clause-extras c =
    ap extras_of (left-is (goal.at.returns-clause-extras c).After-loop-k) ∙ c.loop-k.invariant.extras

pub returns-clause-each : goal.returns-clause-each
returns-clause-each c k low =
    let from = (goal.at.returns-clause-each c).After-loop-k in
    (refilled from).done k (omega (arith, low, all from))

pub returns-clause-logs : goal.returns-clause-logs
returns-clause-logs c = c.loop-k.invariant.logs

pub returns-clause-sources : goal.returns-clause-sources
returns-clause-sources c = c.loop-k.invariant.sources

-- ---- all hands are full

pub returns-clause-full : goal.returns-clause-full
returns-clause-full c =
    let from = (goal.at.returns-clause-full c).After-loop-k in
    let inputs = inputs_of (left from) in
    full-where_none c.of.result c.loop-k.first c.loop-k.last c.loop-k.latest (λ _. (k : ℕ) → k < length inputs → IsSome (input_at inputs k).hand) c.of.ensures
    (λ none k low. (found from None none).none k (omega (arith, low, all from, (refilled from).count)))

pub returns-clause-date : goal.returns-clause-date
returns-clause-date c =
    let from = (goal.at.returns-clause-date c).After-loop-k in
    let latest : (n : ℕ) → c.loop-k.k ≡ n → c.loop-k.latest ≡ greatest (hand_asks (extras_of (left from)) (inputs_of (left from))) (range_with_len 0 n) =
    λ n is.
    c.loop-k.invariant.date
    ∙ ap (λ (l : List NotedInput). greatest (hand_asks (extras_of l) (inputs_of l)) (range_with_len 0 c.loop-k.k)) (sym (left-is from))
    ∙ ap (λ m. greatest (hand_asks (extras_of (left from)) (inputs_of (left from))) (range_with_len 0 m)) is in
    let many = length (inputs_of (left from)) in
    full-where_none c.of.result c.loop-k.first c.loop-k.last c.loop-k.latest (λ date. date ≡ greatest (hand_asks (extras_of (left from)) (inputs_of (left from))) (range_with_len 0 many)) c.of.ensures
    (λ _. latest many (all from ∙ sym (refilled from).count))

-- ---- a hand stays empty

pub returns-clause-there : goal.returns-clause-there
returns-clause-there c =
    let from = (goal.at.returns-clause-there c).After-loop-k in
    empty-where_some c.of.result c.loop-k.first c.loop-k.last c.loop-k.latest (λ k _. k < length (inputs_of (left from))) c.of.ensures
    (λ k some. omega (arith, (found from (Some k) some).there, all from, (refilled from).count))

pub returns-clause-empty : goal.returns-clause-empty
returns-clause-empty c =
    let from = (goal.at.returns-clause-empty c).After-loop-k in
    empty-where_some c.of.result c.loop-k.first c.loop-k.last c.loop-k.latest (λ k _. (input_at (inputs_of (left from)) k).hand ≡ None) c.of.ensures
    (λ k some. (found from (Some k) some).empty)

pub returns-clause-first : goal.returns-clause-first
returns-clause-first c =
    let from = (goal.at.returns-clause-first c).After-loop-k in
    empty-where_some c.of.result c.loop-k.first c.loop-k.last c.loop-k.latest (λ k _. (j : ℕ) → j < k → IsSome (input_at (inputs_of (left from)) j).hand) c.of.ensures
    (λ k some. (found from (Some k) some).first)

pub returns-clause-last_there : goal.returns-clause-last_there
returns-clause-last_there c =
    let from = (goal.at.returns-clause-last_there c).After-loop-k in
    empty-where_some c.of.result c.loop-k.first c.loop-k.last c.loop-k.latest (λ _ last. last < length (inputs_of (left from))) c.of.ensures
    (λ k some. omega (arith, (found_last from (Some k) some).there, all from, (refilled from).count))

pub returns-clause-last_empty : goal.returns-clause-last_empty
returns-clause-last_empty c =
    let from = (goal.at.returns-clause-last_empty c).After-loop-k in
    empty-where_some c.of.result c.loop-k.first c.loop-k.last c.loop-k.latest (λ _ last. (input_at (inputs_of (left from)) last).hand ≡ None) c.of.ensures
    (λ k some. (found_last from (Some k) some).empty)

pub returns-clause-last : goal.returns-clause-last
returns-clause-last c =
    let from = (goal.at.returns-clause-last c).After-loop-k in
    empty-where_some c.of.result c.loop-k.first c.loop-k.last c.loop-k.latest (λ _ last. (j : ℕ) → last < j → j < length (inputs_of (left from)) → IsSome (input_at (inputs_of (left from)) j).hand) c.of.ensures
    (λ k some j more low.
    (found_last from (Some k) some).behind j more (omega (arith, low, all from, (refilled from).count)))
