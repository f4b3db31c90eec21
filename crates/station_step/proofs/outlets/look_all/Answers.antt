use Rattle.std.proofs.Common.{◌≡◌, ◌<◌, ◌+◌, ℕ, subst, sym, ap, ◌∙◌, arith, List, length, set, get_or}
use Rattle.std.specs.Prelude.{Option, Bool, true, false}
use Rattle.std.proofs.lemmas.List.{get_or_default}
use Rattle.station_step.specs.declared.ends.Outlet.{Outlet}
use Rattle.station_step.specs.Ends.{HasLooked}
use Rattle.station_step.specs.declared.noted.NotedOutlet.{NotedOutlet}
use Rattle.station_step.specs.Station.{outlet_at}
use Rattle.station_step.specs.Noted.{outlets_of, delays_of}
use Rattle.station_step.proofs.NotedExtras.{no_outlet, outlet-at, outlets-count, outlets-set, delays-stay}
use Rattle.station_step.proofs.OutletLooks.{LookedUpTo, IsFirstFull, looked_none, looked_more, first-none, first-full, first-space, space-unbounded, looked-space}
use Rattle.station_step.proofs.Turns.{walked, walked-is}
use Rattle.station_step.proofs.outlets.look_all.Goals.{then-not-look, else-not-look, After-loop-k}
use Rattle.station_step.proofs.outlets.look_all.Goals as goal

both : (b : Bool) → b ≡ true → b ≡ false → ⊥
both b one other = cc

-- none has looked yet
pub loop-k-init : goal.loop-k-init
loop-k-init c =
    let all = c.deref_mut-noted-items.ensures.value in
    let before = outlets_of c.args.outlets.now.items in
    record {
      delays = ap delays_of all;
      looked = subst (λ (l : List NotedOutlet). LookedUpTo 0 before (outlets_of l)) (sym all) (looked_none before);
      found = first-none (outlets_of c.deref_mut-noted-items.result.now);
    }

pub loop-k-preserved : goal.loop-k-preserved
loop-k-preserved c =
    let before = outlets_of c.args.outlets.now.items in
    let items = c.loop-k.noted-items in
    let outlets = outlets_of items in
    let k = c.loop-k.k in
    let was = c.loop-k.invariant in
    let there : k < length items = omega (arith, c.loop-k-test.true, c.loop-k.auto.noted-items) in
    let low : k < length outlets = omega (arith, there, outlets-count items) in
    let lent : NotedOutlet = get_or items k c.noted-item.result in
    let is_lent : lent ≡ get_or items k no_outlet = get_or_default items k _ _ there in
    let o : Outlet = c.look.new.self in
    let noted : NotedOutlet = record { outlet = o; delay = lent.delay } in
    let at : lent.outlet ≡ outlet_at outlets k = ap (λ (n : NotedOutlet). n.outlet) is_lent ∙ sym (outlet-at items k) in
    let changed : set outlets k o ≡ outlets_of (set items k noted) = sym (outlets-set items k noted) in
    record {
      delays = delays-stay items k noted (ap (λ (n : NotedOutlet). n.delay) is_lent) ∙ was.delays;
      looked =
          subst (LookedUpTo (k + 1) before) changed
          (looked_more k before outlets o low was.looked
          (subst (λ (p : Outlet). HasLooked p o) at c.look.ensures.looked));
      found =
          subst (IsFirstFull (k + 1) c.if-not-look.first) changed
          (elim c.if-not-look.branch [
            | then-not-look w ↦
                subst (λ (found : Option ℕ). IsFirstFull (k + 1) found (set outlets k o)) (sym (w.first-is ∙ w.or-first.ensures))
                (first-full k c.loop-k.first outlets o low (λ has. both c.look.result (c.look.ensures.space.1 has) w.if-not-look.true) was.found)
            | else-not-look w ↦
                subst (λ (found : Option ℕ). IsFirstFull (k + 1) found (set outlets k o)) (sym w.first-is)
                (first-space k c.loop-k.first outlets o low (c.look.ensures.space.0 w.if-not-look.false) was.found)
          ]);
    }

-- where no outlet can lack space, each has it
pub returns-then-not-bounded-clause-none : goal.returns-then-not-bounded-clause-none
returns-then-not-bounded-clause-none c k low =
    space-unbounded (outlets_of c.args.outlets.now.items) k (sym c.requires.noted ∙ c.if-not-bounded.true) low

pub returns-then-not-bounded-clause-looked : goal.returns-then-not-bounded-clause-looked
returns-then-not-bounded-clause-looked c k low =
    looked-space (outlet_at (outlets_of c.args.outlets.now.items) k)
    (space-unbounded (outlets_of c.args.outlets.now.items) k (sym c.requires.noted ∙ c.if-not-bounded.true) low)

-- ---- what is so when the loop has ended, of the outlets as it leaves them

abbrev left : After-loop-k → List NotedOutlet
left c = walked c.args.outlets.now c.loop-k.noted-items

left-is : (c : After-loop-k) → left c ≡ c.loop-k.noted-items
left-is c = walked-is c.args.outlets.now c.loop-k.noted-items (omega (arith, c.loop-k.invariant.looked.count, outlets-count c.loop-k.noted-items, outlets-count c.args.outlets.now.items))

looked : (c : After-loop-k) → LookedUpTo c.loop-k.k (outlets_of c.args.outlets.now.items) (outlets_of (left c))
looked c =
    subst (λ (l : List NotedOutlet). LookedUpTo c.loop-k.k (outlets_of c.args.outlets.now.items) (outlets_of l)) (sym (left-is c)) c.loop-k.invariant.looked

-- all of them have looked
all : (c : After-loop-k) → c.loop-k.k ≡ length (outlets_of c.args.outlets.now.items)
all c =
    omega (arith, c.loop-k-test.false, c.loop-k.auto.k-end, ap length c.deref_mut-noted-items.ensures.value, outlets-count c.args.outlets.now.items)

found : (c : After-loop-k) → IsFirstFull (length (outlets_of (left c))) c.loop-k.first (outlets_of (left c))
found c =
    subst (λ (l : List NotedOutlet). IsFirstFull (length (outlets_of l)) c.loop-k.first (outlets_of l)) (sym (left-is c))
    (subst (λ (n : ℕ). IsFirstFull n c.loop-k.first (outlets_of c.loop-k.noted-items)) (all c ∙ sym c.loop-k.invariant.looked.count) c.loop-k.invariant.found)

pub returns-clause-delays : goal.returns-clause-delays
returns-clause-delays c =
    ap delays_of (left-is (goal.at.returns-clause-delays c).After-loop-k) ∙ c.loop-k.invariant.delays

pub returns-clause-none : goal.returns-clause-none
returns-clause-none c = (found (goal.at.returns-clause-none c).After-loop-k).none

pub returns-clause-there : goal.returns-clause-there
returns-clause-there c = (found (goal.at.returns-clause-there c).After-loop-k).there

pub returns-clause-looked : goal.returns-clause-looked
returns-clause-looked c k low =
    let from = (goal.at.returns-clause-looked c).After-loop-k in
    (looked from).done k (omega (arith, low, all from))

pub returns-clause-full : goal.returns-clause-full
returns-clause-full c = (found (goal.at.returns-clause-full c).After-loop-k).full

pub returns-clause-first : goal.returns-clause-first
returns-clause-first c = (found (goal.at.returns-clause-first c).After-loop-k).first

pub returns-clause-count : goal.returns-clause-count
returns-clause-count c = (looked (goal.at.returns-clause-count c).After-loop-k).count

pub returns-clause-same : goal.returns-clause-same
returns-clause-same c = (looked (goal.at.returns-clause-same c).After-loop-k).same
