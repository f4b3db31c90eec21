-- The ends of one more arc are laid down: those of the arcs before it stay where they are, and no queue is used twice.
use Rattle.std.proofs.Common.{◌≡◌, ◌≢◌, ℕ, ◌+◌, ◌^◌, ◌<◌, ◌≤◌, List, [], ◌∷◌, ◌++◌, ◌⊎◌, inl, inr, Option, Some, Result, Ok, Err, OnOk, length, get_or, replicate, refl, sym, ap, ◌∙◌, subst, arith, ⊎_elim}
use Rattle.line_base.specs.declared.event.Arc.{Arc}
use Rattle.std.proofs.lemmas.Bool.{cases_eq, cases_lt}
use Rattle.std.proofs.lemmas.List.{length-set, length-replicate, get_or-replicate, get_or_past}
use Rattle.line_base.specs.declared.event.Parts.{Parts}
use Rattle.event_graph.specs.Network.{stations, jobs, arc_count, arc, IsGraph}
use Rattle.event_graph.specs.State.{State, place}
use Rattle.station_step.specs.declared.ends.Inlet.{Inlet}
use Rattle.station_step.specs.declared.ends.Outlet.{Outlet}
use Rattle.station_step.specs.declared.ends.Inlet.TheVariants as inlet
use Rattle.station_step.specs.declared.ends.Outlet.TheVariants as outlet
use Rattle.station_step.specs.Ends.{outlet_queue}
use Rattle.line_setup.specs.declared.start.Start.{Start}
use Rattle.line_setup.specs.Start.{AreLaidFor, HasLaid}
use Rattle.line_setup.specs.Making.{AreNewEnds, HasRing, HasPlain, QueueEnds, outlets_at, inlets_at, firsts_at, arcs_at, arc_in, first_tokens, with_one, with_ends, first_ins, first_outs, outlet_of, inlet_of, putter, taker, HasEnds, IsListed, AreLaid}
use Rattle.line_setup.proofs.ArcOrder.{length-first_ins-here, length-first_ins-other, length-first_outs-here, length-first_outs-other, first_ins-below, first_outs-below, first_ins-none, first_outs-none}
use Rattle.line_setup.proofs.EndKinds.{of_ring, of_plain, of_ends}
use Rattle.line_setup.proofs.LaidLists.{get_or-with_one, last-with_one, length-with_one-here, length-with_one-other, length-with_one-le}

-- ---- the kinds of ends

-- an outlet on a ring has no queue of the shelf
pub ring-no_queue : (g : Parts) (begun : State) (a q : ℕ) (o : Outlet) (i : Inlet) → AreNewEnds g begun a o i → outlet_queue o ≡ Some q → ⊥
ring-no_queue g begun a q = of_ring g begun a (λ o i. outlet_queue o ≡ Some q → ⊥) (λ put take has same. cc) (λ put take has same. cc)

-- the first tokens of a shelf on which every queue of another stands at its place
pub record Extends (firsts longer : List (List ℕ)) : Type 0 where
  pub there : (q : ℕ) → q < length firsts → q < length longer
  pub queues : (q : ℕ) → q < length firsts → first_tokens longer q ≡ first_tokens firsts q

plain-extends : (g : Parts) (begun : State) (a : ℕ) (firsts longer : List (List ℕ)) (o : Outlet) (i : Inlet) → Extends firsts longer → HasPlain begun firsts a o i → HasPlain begun longer a o i
plain-extends g begun a firsts longer o i more =
    of_plain g begun a (λ o i. HasPlain begun longer a o i) firsts
    (λ q r has. record { same = has.same; there = more.there q has.there; tokens = more.queues q has.there ∙ has.tokens })
    o
    i

-- ---- one side of the arcs: for each station a list of ends, one for each of the first arcs that have it on this side

module _ {X : Type 0} (T n : ℕ) (side : ℕ → ℕ) (firsts : ℕ → ℕ → List ℕ) (lists : List (List X)) (end d : X) (there : side n < length lists) (low_n : side n < T) (counts : (t : ℕ) → t < T → length (get_or lists t []) ≡ length (firsts n t)) where
  -- with that of arc n the ends of the arcs before stay where they are
  side-before : (a : ℕ) → side a < T → length (firsts a (side a)) < length (firsts n (side a)) → get_or (get_or (with_one lists (side n) end) (side a) []) (length (firsts a (side a))) d ≡ get_or (get_or lists (side a) []) (length (firsts a (side a))) d
  side-before a low_a below =
      get_or-with_one lists (side n) end (side a) (length (firsts a (side a))) d there (omega (arith, below, counts (side a) low_a))

  -- and its own comes behind those of its station
  side-last : get_or (get_or (with_one lists (side n) end) (side n) []) (length (firsts n (side n))) d ≡ end
  side-last = last-with_one lists (side n) end (length (firsts n (side n))) d there (counts (side n) low_n)

  side-more : length (firsts (n + 1) (side n)) ≡ length (firsts n (side n)) + 1 → ((t : ℕ) → t ≢ side n → length (firsts (n + 1) t) ≡ length (firsts n t)) → (t : ℕ) → t < T → length (get_or (with_one lists (side n) end) t []) ≡ length (firsts (n + 1) t)
  side-more here other t low_t =
      ⊎_elim
      (λ same.
      ap (λ u. length (get_or (with_one lists (side n) end) u [])) same
      ∙ (let at : length (get_or (with_one lists (side n) end) (side n) []) ≡ length (firsts (n + 1) (side n)) =
      omega (arith, length-with_one-here lists (side n) end there, here, counts (side n) low_n) in
      at)
      ∙ ap (λ u. length (firsts (n + 1) u)) (sym same))
      (λ apart. omega (arith, length-with_one-other lists (side n) end t apart, other t apart, counts t low_t))
      (cases_eq t (side n))

-- ---- one arc more

-- an outlet that has a queue of the shelf has one that is there
pub queue-within : (g : Parts) (begun : State) (worker_count : ℕ) (ends : QueueEnds) (a q : ℕ) → HasEnds g begun worker_count ends a → outlet_queue (outlet_of g ends a) ≡ Some q → q < length (firsts_at ends (putter g worker_count a))
queue-within g begun worker_count ends a q has =
    of_ends g begun a (λ o i. outlet_queue o ≡ Some q → q < length (firsts_at ends (putter g worker_count a))) worker_count ends has
    (λ put take new same. absurd (let no : ⊥ = cc in no))
    (λ put take new same. absurd (let no : ⊥ = cc in no))
    (λ one p r new same. let at : p ≡ q = cc in omega (arith, new.there))

-- these ends may be laid for arc n, with these as the first tokens of the shelves and as the arcs of their queues
pub record AreNext (g : Parts) (begun : State) (worker_count : ℕ) (ends : QueueEnds) (n : ℕ) (shelves : List (List (List ℕ))) (arcs : List (List ℕ)) (out : Outlet) (into : Inlet)
    : Type 0 where
  pub count : length shelves ≡ worker_count
  pub few : (w : ℕ) → length (get_or shelves w []) ≤ n + 1
  pub small : (w q : ℕ) → q < length (get_or shelves w []) → length (first_tokens (get_or shelves w []) q) + jobs g < 2 ^ 32
  pub extends : (w : ℕ) → Extends (firsts_at ends w) (get_or shelves w [])
  pub ring : putter g worker_count n ≢ taker g worker_count n → HasRing ends.room g begun n out into
  pub plain : putter g worker_count n ≡ taker g worker_count n → HasPlain begun (get_or shelves (putter g worker_count n) []) n out into
  pub arc_lists : length arcs ≡ worker_count
  pub arcs_each : (w : ℕ) → length (get_or arcs w []) ≡ length (get_or shelves w [])
  pub listed : (w q : ℕ) → q < length (get_or shelves w []) →
      ((q < length (firsts_at ends w)) × (get_or (get_or arcs w []) q 0 ≡ arc_in ends w q))
      ⊎ ((get_or (get_or arcs w []) q 0 ≡ n) × (putter g worker_count n ≡ w) × (outlet_queue out ≡ Some q))
  pub fresh : (a q : ℕ) → a < n → putter g worker_count a ≡ putter g worker_count n → outlet_queue (outlet_of g ends a) ≡ Some q → outlet_queue out ≢ Some q

module _ (g : Parts) (begun : State) (worker_count : ℕ) (ends : QueueEnds) (n : ℕ) (graph : IsGraph g) (listed : n < arc_count g) (laid : AreLaid g begun worker_count ends n) (shelves : List (List (List ℕ))) (arcs : List (List ℕ)) (out : Outlet) (into : Inlet) where
  abbrev from : ℕ
  from = (arc g n).from

  abbrev to : ℕ
  to = (arc g n).to

  abbrev more : QueueEnds
  more = with_ends (record ends { shelves = shelves; arcs = arcs }) from to out into

  start-exists : from < stations g
  start-exists = graph.starts_exist n listed

  end-exists : to < stations g
  end-exists = graph.ends_exist n listed

  from-there : from < length ends.outlets
  from-there = omega (arith, start-exists, laid.outlet_lists)

  to-there : to < length ends.inlets
  to-there = omega (arith, end-exists, laid.inlet_lists)

  outlet_of-before : (a : ℕ) → a < n → outlet_of g more a ≡ outlet_of g ends a
  outlet_of-before a low =
      side-before (stations g) n (λ b. (arc g b).from) (first_outs g) ends.outlets out (outlet.Local 0) from-there start-exists laid.outlets a (graph.starts_exist a (omega arith)) (first_outs-below g a n low)

  inlet_of-before : (a : ℕ) → a < n → inlet_of g more a ≡ inlet_of g ends a
  inlet_of-before a low =
      side-before (stations g) n (λ b. (arc g b).to) (first_ins g) ends.inlets into (inlet.Local 0) to-there end-exists laid.inlets a (graph.ends_exist a (omega arith)) (first_ins-below g a n low)

  outlet_of-last : outlet_of g more n ≡ out
  outlet_of-last =
      side-last (stations g) n (λ b. (arc g b).from) (first_outs g) ends.outlets out (outlet.Local 0) from-there start-exists laid.outlets

  inlet_of-last : inlet_of g more n ≡ into
  inlet_of-last =
      side-last (stations g) n (λ b. (arc g b).to) (first_ins g) ends.inlets into (inlet.Local 0) to-there end-exists laid.inlets

  outlets-more : (t : ℕ) → t < stations g → length (outlets_at more t) ≡ length (first_outs g (n + 1) t)
  outlets-more =
      side-more (stations g) n (λ b. (arc g b).from) (first_outs g) ends.outlets out (outlet.Local 0) from-there start-exists laid.outlets (length-first_outs-here g n) (length-first_outs-other g n)

  inlets-more : (t : ℕ) → t < stations g → length (inlets_at more t) ≡ length (first_ins g (n + 1) t)
  inlets-more =
      side-more (stations g) n (λ b. (arc g b).to) (first_ins g) ends.inlets into (inlet.Local 0) to-there end-exists laid.inlets (length-first_ins-here g n) (length-first_ins-other g n)

  module _ (next : AreNext g begun worker_count ends n shelves arcs out into) where
    -- an arc whose ends are these
    has-ends : (a : ℕ) (o : Outlet) (i : Inlet) → outlet_of g more a ≡ o → inlet_of g more a ≡ i → (putter g worker_count a ≢ taker g worker_count a → HasRing ends.room g begun a o i) → (putter g worker_count a ≡ taker g worker_count a → HasPlain begun (get_or shelves (putter g worker_count a) []) a o i) → HasEnds g begun worker_count more a
    has-ends a o i out_is in_is on_ring on_shelf = record {
      ring = λ two.
          subst (λ (p : Outlet). HasRing ends.room g begun a p (inlet_of g more a)) (sym out_is) (
          subst (λ (k : Inlet). HasRing ends.room g begun a o k) (sym in_is) (on_ring two));
      shelf = λ one.
          let longer = get_or shelves (putter g worker_count a) [] in
          subst (λ (p : Outlet). HasPlain begun longer a p (inlet_of g more a)) (sym out_is) (
          subst (λ (k : Inlet). HasPlain begun longer a o k) (sym in_is) (on_shelf one));
    }

    before : (a : ℕ) → a < n → HasEnds g begun worker_count more a
    before a low =
        let has = laid.each a low in
        let w = putter g worker_count a in
        has-ends a (outlet_of g ends a) (inlet_of g ends a) (outlet_of-before a low) (inlet_of-before a low) has.ring (λ one.
        plain-extends g begun a (firsts_at ends w) (get_or shelves w []) (outlet_of g ends a) (inlet_of g ends a) (next.extends w) (has.shelf one))

    last : HasEnds g begun worker_count more n
    last = has-ends n out into outlet_of-last inlet_of-last next.ring next.plain

    apart-more : (a b q : ℕ) → a < n + 1 → b < n + 1 → putter g worker_count a ≡ putter g worker_count b → outlet_queue (outlet_of g more a) ≡ Some q → outlet_queue (outlet_of g more b) ≡ Some q → a ≡ b
    apart-more a b q a_low b_low one at_a at_b =
        ⊎_elim
        (λ a_last.
        ⊎_elim
        (λ b_last. omega arith)
        (λ b_other.
        let b_before : b < n = omega arith in
        let at_out : outlet_queue out ≡ Some q = ap outlet_queue (sym outlet_of-last) ∙ ap (λ k. outlet_queue (outlet_of g more k)) (sym a_last) ∙ at_a in
        absurd (next.fresh b q b_before (sym one ∙ ap (putter g worker_count) a_last) (ap outlet_queue (sym (outlet_of-before b b_before)) ∙ at_b) at_out))
        (cases_eq b n))
        (λ a_other.
        let a_before : a < n = omega arith in
        let a_had : outlet_queue (outlet_of g ends a) ≡ Some q = ap outlet_queue (sym (outlet_of-before a a_before)) ∙ at_a in
        ⊎_elim
        (λ b_last.
        let at_out : outlet_queue out ≡ Some q = ap outlet_queue (sym outlet_of-last) ∙ ap (λ k. outlet_queue (outlet_of g more k)) (sym b_last) ∙ at_b in
        absurd (next.fresh a q a_before (one ∙ ap (putter g worker_count) b_last) a_had at_out))
        (λ b_other.
        let b_before : b < n = omega arith in
        laid.apart a b q a_before b_before one a_had (ap outlet_queue (sym (outlet_of-before b b_before)) ∙ at_b))
        (cases_eq b n))
        (cases_eq a n)

    listed-more : (w q : ℕ) → q < length (firsts_at more w) → IsListed g worker_count more (n + 1) w q
    listed-more w q low =
        ⊎_elim
        (λ early.
        let was = laid.listed w q early.0 in
        record {
          before = omega (arith, was.before, early.1);
          own = ap (putter g worker_count) early.1 ∙ was.own;
          queue = ap (λ a. outlet_queue (outlet_of g more a)) early.1 ∙ ap outlet_queue (outlet_of-before (arc_in ends w q) was.before) ∙ was.queue;
        })
        (λ late. record {
          before = omega (arith, late.0);
          own = ap (putter g worker_count) late.0 ∙ late.1;
          queue = ap (λ a. outlet_queue (outlet_of g more a)) late.0 ∙ ap outlet_queue outlet_of-last ∙ late.2;
        })
        (next.listed w q low)

    pub laid_more : AreLaid g begun worker_count more (n + 1)
    laid_more = record {
      outlet_lists = length-set ends.outlets from (outlets_at ends from ++ out ∷ []) ∙ laid.outlet_lists;
      inlet_lists = length-set ends.inlets to (inlets_at ends to ++ into ∷ []) ∙ laid.inlet_lists;
      shelves = next.count;
      outlets = outlets-more;
      inlets = inlets-more;
      queues = next.few;
      small = next.small;
      arc_lists = next.arc_lists;
      arcs = next.arcs_each;
      listed = listed-more;
      each = λ a low.
          ⊎_elim
          (λ same. subst (λ (k : ℕ). HasEnds g begun worker_count more k) (sym same) last)
          (λ other. before a (omega arith))
          (cases_eq a n);
      apart = apart-more;
    }

-- ---- the two kinds of arcs, and none

pub laid_ring : (g : Parts) (begun : State) (worker_count : ℕ) (ends : QueueEnds) (n : ℕ) (out : Outlet) (into : Inlet) → IsGraph g → n < arc_count g → AreLaid g begun worker_count ends n → putter g worker_count n ≢ taker g worker_count n → HasRing ends.room g begun n out into → AreLaid g begun worker_count (with_ends ends (arc g n).from (arc g n).to out into) (n + 1)
laid_ring g begun worker_count ends n out into graph listed laid two has =
    laid_more g begun worker_count ends n graph listed laid ends.shelves ends.arcs out into
    (record {
      count = laid.shelves;
      few = λ w. omega (arith, laid.queues w);
      small = laid.small;
      extends = λ w. record { there = λ q low. low; queues = λ q low. refl };
      ring = λ _. has;
      plain = λ one. absurd (two one);
      arc_lists = laid.arc_lists;
      arcs_each = laid.arcs;
      listed = λ w q low. inl (low, refl);
      fresh = λ a q low one had at_out. ring-no_queue g begun n q out into has.ends at_out;
    })

pub laid_plain : (g : Parts) (begun : State) (worker_count : ℕ) (ends : QueueEnds) (n w number : ℕ) (tokens : List ℕ) → IsGraph g → n < arc_count g → AreLaid g begun worker_count ends n → w < worker_count → putter g worker_count n ≡ w → taker g worker_count n ≡ w → tokens ≡ place begun n → length tokens + jobs g < 2 ^ 32 → number ≡ length (firsts_at ends w) → AreLaid g begun worker_count (with_ends (record ends { shelves = with_one ends.shelves w tokens; arcs = with_one ends.arcs w n }) (arc g n).from (arc g n).to (outlet.Local number) (inlet.Local number)) (n + 1)
laid_plain g begun worker_count ends n w number tokens graph listed laid w_there puts takes are short numbered =
    let there : w < length ends.shelves = omega (arith, laid.shelves) in
    let shelves = with_one ends.shelves w tokens in
    let arcs = with_one ends.arcs w n in
    let there_arcs : w < length ends.arcs = omega (arith, laid.arc_lists) in
    let has : HasPlain begun (get_or shelves w []) n (outlet.Local number) (inlet.Local number) =
    record {
      same = refl;
      there = omega (arith, length-with_one-here ends.shelves w tokens there);
      tokens = last-with_one ends.shelves w tokens number [] there (sym numbered) ∙ are;
    } in
    laid_more g begun worker_count ends n graph listed laid shelves arcs (outlet.Local number) (inlet.Local number)
    (record {
      count = length-set ends.shelves w (firsts_at ends w ++ tokens ∷ []) ∙ laid.shelves;
      few = λ v.
          ⊎_elim
          (λ same. omega (arith, ap (λ u. length (get_or shelves u [])) same, length-with_one-here ends.shelves w tokens there, laid.queues w))
          (λ other. omega (arith, length-with_one-other ends.shelves w tokens v other, laid.queues v))
          (cases_eq v w);
      small = λ v q low.
          ⊎_elim
          (λ early.
          omega (arith, laid.small v q early, ap length (get_or-with_one ends.shelves w tokens v q [] there early)))
          (λ late.
          ⊎_elim
          (λ same.
          let last : length (firsts_at ends w) ≡ q =
          omega (arith, ap (λ u. length (get_or shelves u [])) same, ap (λ u. length (firsts_at ends u)) same, length-with_one-here ends.shelves w tokens there) in
          omega (arith, short, ap (λ u. length (first_tokens (get_or shelves u []) q)) same, ap length (last-with_one ends.shelves w tokens q [] there last)))
          (λ other. absurd (omega (arith, length-with_one-other ends.shelves w tokens v other)))
          (cases_eq v w))
          (cases_lt q (length (firsts_at ends v)));
      extends = λ v. record {
        there = λ q low. omega (arith, length-with_one-le ends.shelves w tokens v there);
        queues = λ q low. get_or-with_one ends.shelves w tokens v q [] there low;
      };
      ring = λ two. absurd (two (puts ∙ sym takes));
      plain = λ _.
          subst (λ (v : ℕ). HasPlain begun (get_or shelves v []) n (outlet.Local number) (inlet.Local number)) (sym puts) has;
      arc_lists = length-set ends.arcs w (arcs_at ends w ++ n ∷ []) ∙ laid.arc_lists;
      arcs_each = λ v.
          ⊎_elim
          (λ same. omega (arith, ap (λ u. length (get_or shelves u [])) same, ap (λ u. length (get_or arcs u [])) same, length-with_one-here ends.shelves w tokens there, length-with_one-here ends.arcs w n there_arcs, laid.arcs w))
          (λ other. omega (arith, length-with_one-other ends.shelves w tokens v other, length-with_one-other ends.arcs w n v other, laid.arcs v))
          (cases_eq v w);
      listed = λ v q low.
          ⊎_elim
          (λ early. inl (early, get_or-with_one ends.arcs w n v q 0 there_arcs (omega (arith, early, laid.arcs v))))
          (λ late.
          ⊎_elim
          (λ same.
          let last : length (firsts_at ends w) ≡ q =
          omega (arith, ap (λ u. length (get_or shelves u [])) same, ap (λ u. length (firsts_at ends u)) same, length-with_one-here ends.shelves w tokens there) in
          inr (
            ap (λ u. get_or (get_or arcs u []) q 0) same ∙ last-with_one ends.arcs w n q 0 there_arcs (laid.arcs w ∙ last),
            puts ∙ sym same,
            ap Some (numbered ∙ last),
          ))
          (λ other. absurd (omega (arith, length-with_one-other ends.shelves w tokens v other)))
          (cases_eq v w))
          (cases_lt q (length (firsts_at ends v)));
      fresh = λ a q low one had at_out.
          let within = queue-within g begun worker_count ends a q (laid.each a low) had in
          let at : number ≡ q = cc in
          omega (arith, within, ap (λ v. length (firsts_at ends v)) (one ∙ puts));
    })

module _ (g : Parts) (begun : State) (worker_count : ℕ) (ends : QueueEnds) (shelves : ends.shelves ≡ replicate worker_count []) (arcs : ends.arcs ≡ replicate worker_count []) where
  none-shelved : (w : ℕ) → length (firsts_at ends w) ≤ 0
  none-shelved w =
      ⊎_elim
      (λ there. omega (arith, ap (λ l. length (get_or l w [])) shelves, ap length (get_or-replicate {A = List (List ℕ)} worker_count w [] [] there)))
      (λ past. omega (arith, ap length (get_or_past ends.shelves w [] (omega (arith, ap length shelves, length-replicate {A = List (List ℕ)} worker_count [])))))
      (cases_lt w worker_count)

  none-listed : (w : ℕ) → length (arcs_at ends w) ≤ 0
  none-listed w =
      ⊎_elim
      (λ there. omega (arith, ap (λ l. length (get_or l w [])) arcs, ap length (get_or-replicate {A = List ℕ} worker_count w [] [] there)))
      (λ past. omega (arith, ap length (get_or_past ends.arcs w [] (omega (arith, ap length arcs, length-replicate {A = List ℕ} worker_count [])))))
      (cases_lt w worker_count)

  pub laid_none : ends.outlets ≡ replicate (stations g) [] → ends.inlets ≡ replicate (stations g) [] → AreLaid g begun worker_count ends 0
  laid_none outs ins = record {
    outlet_lists = ap length outs ∙ length-replicate (stations g) [];
    inlet_lists = ap length ins ∙ length-replicate (stations g) [];
    shelves = ap length shelves ∙ length-replicate worker_count [];
    outlets = λ t there.
        ap (λ l. length (get_or l t [])) outs
        ∙ ap length (get_or-replicate (stations g) t [] [] there)
        ∙ sym (first_outs-none g t);
    inlets = λ t there.
        ap (λ l. length (get_or l t [])) ins
        ∙ ap length (get_or-replicate (stations g) t [] [] there)
        ∙ sym (first_ins-none g t);
    queues = none-shelved;
    small = λ w q low. absurd (omega (arith, low, none-shelved w));
    arc_lists = ap length arcs ∙ length-replicate worker_count [];
    arcs = λ w. omega (arith, none-listed w, none-shelved w);
    listed = λ w q low. absurd (omega (arith, low, none-shelved w));
    each = λ a low. absurd (omega arith);
    apart = λ a b q low. absurd (omega arith);
  }

-- equal parts make equal ends
pub ends-same : (o o' : List (List Outlet)) (i i' : List (List Inlet)) (s s' : List (List (List ℕ))) (a a' : List (List ℕ)) (r r' : Option ℕ) → o ≡ o' → i ≡ i' → s ≡ s' → a ≡ a' → r ≡ r' → (let left : QueueEnds = record { outlets = o; inlets = i; shelves = s; arcs = a; room = r } in let right : QueueEnds = record { outlets = o'; inlets = i'; shelves = s'; arcs = a'; room = r' } in left ≡ right)
ends-same o o' i i' s s' a a' r r' outs ins shelves arcs room = cc

-- ---- as the code has it

-- what an Ok has is changed into what it gives
pub on_ok : {T E : Type 0} (r : Result T E) (P Q : Type 0) → (P → Q) → OnOk r P → OnOk r Q
on_ok (Ok x) P Q gives has = gives has
on_ok (Err e) P Q gives has = tt

module _ (start : Start) where
  abbrev runs : Parts
  runs = start.live.now.graph

  abbrev goes_on : State
  goes_on = start.state.now.state

  -- the ends as they were laid for an arc that was read, on shelves that got a queue or none
  has_laid : (ends between new : QueueEnds) (n : ℕ) (read : Arc) (out : Outlet) (into : Inlet) → read ≡ arc runs n → between.room ≡ ends.room → new ≡ with_ends between read.from read.to out into → AreLaidFor start (with_ends between (arc runs n).from (arc runs n).to out into) (n + 1) → HasLaid start n ends new
  has_laid ends between new n read out into same room new_is laid = record {
    laid =
        subst (λ (e : QueueEnds). AreLaidFor start e (n + 1)) (sym (new_is ∙ ap (λ (r : Arc). with_ends between r.from r.to out into) same)) laid;
    room = ap (λ (e : QueueEnds). e.room) new_is ∙ room;
  }

  pub laid_ring_read : (ends new : QueueEnds) (n : ℕ) (read : Arc) (out : Outlet) (into : Inlet) → IsGraph runs → n < arc_count runs → read ≡ arc runs n → AreLaidFor start ends n → putter runs start.worker_count n ≢ taker runs start.worker_count n → ends.room ≡ start.room → HasRing start.room runs goes_on n out into → new ≡ with_ends ends read.from read.to out into → HasLaid start n ends new
  laid_ring_read ends new n read out into graph listed same laid two room has new_is =
      has_laid ends ends new n read out into same refl new_is (
      laid_ring runs goes_on start.worker_count ends n out into graph listed laid two (
      subst (λ (r : Option ℕ). HasRing r runs goes_on n out into) (sym room) has))

  pub laid_plain_read : (ends between new : QueueEnds) (n w number : ℕ) (read : Arc) (tokens : List ℕ) → IsGraph runs → n < arc_count runs → read ≡ arc runs n → AreLaidFor start ends n → w < start.worker_count → putter runs start.worker_count n ≡ w → taker runs start.worker_count n ≡ w → tokens ≡ place goes_on n → length (place goes_on n) + jobs runs < 2 ^ 32 → number ≡ length (firsts_at ends w) → between ≡ record ends { shelves = with_one ends.shelves w tokens; arcs = with_one ends.arcs w n } → new ≡ with_ends between read.from read.to (outlet.Local number) (inlet.Local number) → HasLaid start n ends new
  laid_plain_read ends between new n w number read tokens graph listed same laid there puts takes are few numbered between_is new_is =
      let short : length tokens + jobs runs < 2 ^ 32 = omega (arith, few, ap length are) in
      let out : Outlet = outlet.Local number in
      let into : Inlet = inlet.Local number in
      has_laid ends between new n read out into same (ap (λ (e : QueueEnds). e.room) between_is) new_is (
      subst (λ (e : QueueEnds). AreLaidFor start (with_ends e (arc runs n).from (arc runs n).to out into) (n + 1)) (sym between_is) (
      laid_plain runs goes_on start.worker_count ends n w number tokens graph listed laid there puts takes are short numbered))
