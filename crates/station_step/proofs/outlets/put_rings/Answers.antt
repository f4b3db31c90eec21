use Rattle.std.proofs.Common.{◌≡◌, ◌<◌, ◌+◌, ℕ, List, sym, subst, ap, ◌∙◌, arith, length, get_or, slice_index}
use Rattle.std.proofs.lemmas.List.{get_or_default}
use Rattle.station_step.specs.declared.ends.Outlet.{Outlet}
use Rattle.station_step.specs.declared.noted.NotedOutlet.{NotedOutlet}
use Rattle.station_step.specs.Ends.{bare_outlet, HasGot, HasRingRoom, HasSpace}
use Rattle.station_step.specs.Station.{outlet_at}
use Rattle.station_step.specs.Kept.{saturating}
use Rattle.station_step.specs.Noted.{outlets_of, delays_of}
use Rattle.station_step.proofs.FilledOutlets.{FilledUpTo, filled_none, filled_more, got-no_ring}
use Rattle.station_step.proofs.NotedExtras.{no_outlet, outlet-at, delay-at, outlets-count, outlets-set, delays-stay}
use Rattle.station_step.proofs.Turns.{walked, walked-is}
use Rattle.station_step.proofs.outlets.put_rings.Goals.{After-saturating_add-later, After-loop-noted}
use Rattle.station_step.proofs.outlets.put_rings.Goals as goal

-- where no outlet is over a ring, nothing is to be put
pub returns-then-not-rings-clause-each : goal.returns-then-not-rings-clause-each
returns-then-not-rings-clause-each c k low =
    got-no_ring (saturating c.args.date (slice_index (delays_of c.args.outlets.now.items) k)) (outlets_of c.args.outlets.now.items) k (sym c.requires.noted ∙ c.if-not-rings.true) low

pub loop-noted-init : goal.loop-noted-init
loop-noted-init c =
    let all = c.deref_mut-noted-items.ensures.value in
    let before = c.args.outlets.now.items in
    let tokens = λ (j : ℕ). saturating c.args.date (slice_index (delays_of before) j) in
    record {
      delays = ap delays_of all;
      filled = subst (λ (l : List NotedOutlet). FilledUpTo 0 tokens (outlets_of before) (outlets_of l)) (sym all) (filled_none tokens (outlets_of before));
    }

-- the outlet whose turn it is is there
there : (c : After-saturating_add-later) → c.loop-noted.noted-index < length c.loop-noted.noted-items
there c = omega (arith, c.loop-noted-test.true, c.loop-noted.auto.noted-items)

low : (c : After-saturating_add-later) → c.loop-noted.noted-index < length (outlets_of c.args.outlets.now.items)
low c =
    omega (arith, c.loop-noted-test.true, ap length c.deref_mut-noted-items.ensures.value, outlets-count c.args.outlets.now.items)

-- it is lent, with the delay that is noted beside it
lent-is : (c : After-saturating_add-later) → get_or c.loop-noted.noted-items c.loop-noted.noted-index c.noted-item.result ≡ get_or c.loop-noted.noted-items c.loop-noted.noted-index no_outlet
lent-is c = get_or_default c.loop-noted.noted-items c.loop-noted.noted-index _ _ (there c)

at : (c : After-saturating_add-later) → (get_or c.loop-noted.noted-items c.loop-noted.noted-index c.noted-item.result).outlet ≡ outlet_at (outlets_of c.loop-noted.noted-items) c.loop-noted.noted-index
at c = ap (λ (n : NotedOutlet). n.outlet) (lent-is c) ∙ sym (outlet-at c.loop-noted.noted-items c.loop-noted.noted-index)

pub put-requires-clause-ring_room : goal.put-requires-clause-ring_room
put-requires-clause-ring_room c =
    let from = (goal.at.put-requires-clause-ring_room c).After-saturating_add-later in
    let k = c.loop-noted.noted-index in
    subst (HasRingRoom 1) (sym (at from ∙ c.loop-noted.invariant.filled.rest k (omega arith))) (c.requires.ring_room k (low from))

pub put-requires-clause-space : goal.put-requires-clause-space
put-requires-clause-space c =
    let from = (goal.at.put-requires-clause-space c).After-saturating_add-later in
    let k = c.loop-noted.noted-index in
    subst HasSpace (sym (at from ∙ c.loop-noted.invariant.filled.rest k (omega arith))) (c.requires.space k (low from))

pub loop-noted-preserved : goal.loop-noted-preserved
loop-noted-preserved c =
    let from = (goal.at.loop-noted-preserved c).After-saturating_add-later in
    let before = c.args.outlets.now.items in
    let items = c.loop-noted.noted-items in
    let k = c.loop-noted.noted-index in
    let was = c.loop-noted.invariant in
    let lent : NotedOutlet = get_or items k c.noted-item.result in
    let delay : lent.delay ≡ (get_or items k no_outlet).delay = ap (λ (n : NotedOutlet). n.delay) (lent-is from) in
    let noted : NotedOutlet = record { outlet = c.put.new.self; delay = lent.delay } in
    let tokens = λ (j : ℕ). saturating c.args.date (slice_index (delays_of before) j) in
    let later : c.saturating_add-later.result ≡ tokens k =
    c.saturating_add-later.ensures
    ∙ ap (saturating c.args.date) (delay ∙ sym (delay-at items k) ∙ ap (λ (l : List ℕ). slice_index l k) was.delays) in
    record {
      delays = delays-stay items k noted delay ∙ was.delays;
      filled =
          subst (FilledUpTo (k + 1) tokens (outlets_of before)) (sym (outlets-set items k noted))
          (filled_more k tokens (outlets_of before) (outlets_of items) c.put.new.self (omega (arith, there from, outlets-count items)) was.filled
          (c.put.ensures.same ∙ ap bare_outlet (at from))
          (subst (λ (p : Outlet). HasGot (tokens k) p c.put.new.self) (at from) (subst (λ n. HasGot n lent.outlet c.put.new.self) later c.put.ensures.got)));
    }

-- ---- what is so when the loop has ended, of the outlets as it leaves them

abbrev left : After-loop-noted → List NotedOutlet
left c = walked c.args.outlets.now c.loop-noted.noted-items

left-is : (c : After-loop-noted) → left c ≡ c.loop-noted.noted-items
left-is c = walked-is c.args.outlets.now c.loop-noted.noted-items (omega (arith, c.loop-noted.invariant.filled.count, outlets-count c.loop-noted.noted-items, outlets-count c.args.outlets.now.items))

filled : (c : After-loop-noted) → FilledUpTo c.loop-noted.noted-index (λ k. saturating c.args.date (slice_index (delays_of c.args.outlets.now.items) k)) (outlets_of c.args.outlets.now.items) (outlets_of (left c))
filled c =
    let before = c.args.outlets.now.items in
    subst (λ (l : List NotedOutlet). FilledUpTo c.loop-noted.noted-index (λ k. saturating c.args.date (slice_index (delays_of before) k)) (outlets_of before) (outlets_of l)) (sym (left-is c)) c.loop-noted.invariant.filled

pub returns-clause-delays : goal.returns-clause-delays
returns-clause-delays c =
    ap delays_of (left-is (goal.at.returns-clause-delays c).After-loop-noted) ∙ c.loop-noted.invariant.delays

pub returns-clause-each : goal.returns-clause-each
returns-clause-each c k less =
    (filled (goal.at.returns-clause-each c).After-loop-noted).done k (omega (arith, less, c.loop-noted-test.false, ap length c.deref_mut-noted-items.ensures.value, outlets-count c.args.outlets.now.items))

pub returns-clause-count : goal.returns-clause-count
returns-clause-count c = (filled (goal.at.returns-clause-count c).After-loop-noted).count

pub returns-clause-same : goal.returns-clause-same
returns-clause-same c = (filled (goal.at.returns-clause-same c).After-loop-noted).same
