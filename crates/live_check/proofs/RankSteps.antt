-- The steps of an order in the making keep what is known of it.
use Rattle.std.proofs.Common.{◌≡◌, ◌≢◌, ℕ, ◌+◌, ◌-◌, ◌<◌, ◌≤◌, ◌⊎◌, Bool, true, false, cond, ◌&&◌, leb, eqb, List, [], ◌∷◌, length, set, get_or, drop, count_by, replicate, refl, sym, ap, ◌∙◌, subst, inl, inr, add-zero, ◌*◌, mul-one, arith}
use Rattle.std.specs.List.{range_with_len}
use Rattle.std.proofs.lemmas.Bool.{cases_lt, cases_eq, false≢true, le-leb, lt-leb, leb-true, leb-false, eq-eqb, ne_eqb, eqb-true, and_parts, and_from, and_cases, false_from_ne_true, cond_both, eqb-false}
use Rattle.std.proofs.lemmas.List.Folds.{sum_by-replicate}
use Rattle.std.proofs.lemmas.List.{length-set, length-replicate, get_or-replicate, get_or-set_same, get_or-set_other, length_push, get_or_push, get_or_append_left, get_or_read, drop_more}
use Rattle.std.proofs.lemmas.List.Sums.{sum_by-cons, sum_by-set, get_or-le-sum_by, count_by-le-length}
use Rattle.std.proofs.lemmas.List.FromFn.{length-range_with_len}
use Rattle.line_base.specs.declared.event.Arc.{Arc}
use Rattle.line_base.specs.declared.event.Parts.{Parts}
use Rattle.event_graph.specs.Network.{IsGraph, arc, arc_count, stations, ins}
use Rattle.live_check.specs.Ranking.{Ranks, with_next, with_passed, with_release, is_free_from, is_open, open_count, IsFalling, IsPassing, IsPassed, NoneIsReady, CountsFree, IsComplete}
use Rattle.live_check.specs.DeadCircuit.{IsStuck}
use Rattle.live_check.proofs.Counts.{count_by-range-agree, count_by-filter, sum_by-range-add, none_passes, some_passes}
use Rattle.line_base.proofs.RangeLists.{count_by-range_more}

-- an unranked station leaves room for the next rank
pub has_room : (g : Parts) (r : Ranks) (s : ℕ) → IsFalling g r.ranks r.order → s < stations g → stations g ≤ get_or r.ranks s 0 → length r.order < stations g
has_room g r s h exists unranked =
    let term = get_or-le-sum_by (λ x. cond (leb (stations g) x) 1 0) r.ranks s 0 (omega (arith, h.rank_for_each)) in
    let one : cond (leb (stations g) (get_or r.ranks s 0)) 1 0 ≡ 1 = ap {B = ℕ} (λ b. cond b 1 0) (le-leb (stations g) (get_or r.ranks s 0) unranked) in
    omega (arith, h.unranked, term, one)

-- where a station waits for no arc, each arc out of it without a token ends at a passed station
ends_passed : (g : Parts) (r : Ranks) (p s a : ℕ) (arcs : List ℕ) → IsPassing g r p arcs → s < stations g → get_or r.waiting s 0 ≡ 0 → a < arc_count g → (arc g a).from ≡ s → (arc g a).tokens ≡ 0 → get_or r.ranks (arc g a).to 0 < p
unfolding open_count
ends_passed g r p s a arcs h exists idle there from free =
    let none : open_count g r.ranks p s ≡ 0 = omega (arith, h.waits s exists, idle) in
    let shut = none_passes (is_open g r.ranks p s) (arc_count g) a none there in
    elim (and_cases (is_free_from g s a) (leb p (get_or r.ranks (arc g a).to 0)) shut) [
      | inl taken ↦ absurd (false≢true (sym taken ∙ and_from (eqb (arc g a).from s) (eqb (arc g a).tokens 0) (eq-eqb (arc g a).from s from) (eq-eqb (arc g a).tokens 0 free)))
      | inr passed ↦ leb-false p (get_or r.ranks (arc g a).to 0) passed
    ]

-- a rank past the passed ones opens and closes no arc
open_count-next : (g : Parts) (ranks : List ℕ) (p s n t : ℕ) → s < length ranks → p ≤ n → p ≤ get_or ranks s 0 → open_count g (set ranks s n) p t ≡ open_count g ranks p t
unfolding open_count
open_count-next g ranks p s n t exists behind unpassed =
    count_by-range-agree (is_open g (set ranks s n) p t) (is_open g ranks p t) 0 (arc_count g)
    (λ a low high. ap (λ b. is_free_from g t a && b)
    (elim (cases_eq (arc g a).to s) [
      | inl here ↦ (rw here (rw get_or-set_same (le-leb p n behind ∙ sym (le-leb p (get_or ranks s 0) unpassed))))
      | inr elsewhere ↦ ap (leb p) (get_or-set_other ranks s (arc g a).to n 0 elsewhere)
    ]))

-- what a station that gets the next rank leaves as it was
rank_elsewhere : (g : Parts) (r : Ranks) (s t : ℕ) → t ≢ s → get_or (with_next r s).ranks t 0 ≡ get_or r.ranks t 0
rank_elsewhere g r s t apart = get_or-set_other r.ranks s t (length r.order) 0 apart

order_before : (r : Ranks) (s k : ℕ) → k < length r.order → get_or (with_next r s).order k 0 ≡ get_or r.order k 0
order_before r s k before = get_or_append_left r.order (s ∷ []) 0 k before

-- a station whose arcs out without a token end at ranked stations gets the next rank
pub next_falls : (g : Parts) (r : Ranks) (s : ℕ) → IsFalling g r.ranks r.order → s < stations g → stations g ≤ get_or r.ranks s 0 → ((a : ℕ) → a < arc_count g → (arc g a).from ≡ s → (arc g a).tokens ≡ 0 → get_or r.ranks (arc g a).to 0 < length r.order) → IsFalling g (with_next r s).ranks (with_next r s).order
next_falls g r s h exists unranked ranked_ends =
    let n = length r.order in
    let room = has_room g r s h exists unranked in
    let here : s < length r.ranks = omega (arith, h.rank_for_each) in
    let own : get_or (with_next r s).ranks s 0 ≡ n = get_or-set_same r.ranks s n 0 here in
    record {
      rank_for_each = length-set r.ranks s n ∙ h.rank_for_each;
      unranked =
          (let f = λ (x : ℕ). cond (leb (stations g) x) 1 0 in
          let moved = sum_by-set f r.ranks s n 0 here in
          let before : f (get_or r.ranks s 0) ≡ 1 = ap {B = ℕ} (λ b. cond b 1 0) (le-leb (stations g) (get_or r.ranks s 0) unranked) in
          let after : f n ≡ 0 = ap {B = ℕ} (λ b. cond b 1 0) (lt-leb (stations g) n room) in
          omega (arith, h.unranked, moved, before, after, length_push r.order s));
      has_rank = λ t there ranked.
          elim (cases_eq t s) [
            | inl same ↦ omega (arith, ap (λ u. get_or (with_next r s).ranks u 0) same, own, length_push r.order s)
            | inr apart ↦ omega (arith, rank_elsewhere g r s t apart, h.has_rank t there (rw (rank_elsewhere g r s t apart) at ranked), length_push r.order s)
          ];
      at_rank = λ t there ranked.
          elim (cases_eq t s) [
            | inl same ↦ ap (λ u. get_or (with_next r s).order (get_or (with_next r s).ranks u 0) 0) same ∙ (ap (λ k. get_or (with_next r s).order k 0) own ∙ (get_or_push r.order s 0 n refl ∙ sym same))
            | inr apart ↦
                (let ranked_before = rw (rank_elsewhere g r s t apart) at ranked in
                ap (λ k. get_or (with_next r s).order k 0) (rank_elsewhere g r s t apart) ∙ (order_before r s (get_or r.ranks t 0) (h.has_rank t there ranked_before) ∙ h.at_rank t there ranked_before))
          ];
      in_order = λ k within.
          elim (cases_lt k n) [
            | inl before ↦ omega (arith, order_before r s k before, h.in_order k before)
            | inr last ↦ (let e : n ≡ k = omega (arith, length_push r.order s) in omega (arith, get_or_push r.order s 0 k e))
          ];
      rank_at = λ k within.
          elim (cases_lt k n) [
            | inl before ↦
                (let u = get_or r.order k 0 in
                let apart : u ≢ s = λ same. omega (arith, h.rank_at k before, ap (λ v. get_or r.ranks v 0) same, room) in
                ap (λ v. get_or (with_next r s).ranks v 0) (order_before r s k before) ∙ (rank_elsewhere g r s u apart ∙ h.rank_at k before))
            | inr last ↦
                (let e : n ≡ k = omega (arith, length_push r.order s) in
                ap (λ v. get_or (with_next r s).ranks v 0) (get_or_push r.order s 0 k e) ∙ (own ∙ e))
          ];
      falls = λ a there free ranked.
          (let T = stations g in
          let from = (arc g a).from in
          let to = (arc g a).to in
          elim (cases_eq from s) [
            | inl same ↦
                (let low = ranked_ends a there same free in
                let apart : to ≢ s = λ e. omega (arith, ap (λ v. get_or r.ranks v 0) e, low, room) in
                omega (arith, rank_elsewhere g r s to apart, ap (λ v. get_or (with_next r s).ranks v 0) same, own, low))
            | inr apart_from ↦
                (let fall = h.falls a there free (rw (rank_elsewhere g r s from apart_from) at ranked) in
                let apart : to ≢ s = λ e. omega (arith, ap (λ v. get_or r.ranks v 0) e, fall, rank_elsewhere g r s from apart_from, ranked) in
                omega (arith, rank_elsewhere g r s to apart, rank_elsewhere g r s from apart_from, fall))
          ]);
    }

-- so does a station that waits for no arc
pub next_keeps : (g : Parts) (r : Ranks) (p s : ℕ) (arcs : List ℕ) → IsGraph g → IsPassing g r p arcs → s < stations g → get_or r.waiting s 0 ≡ 0 → stations g ≤ get_or r.ranks s 0 → IsPassing g (with_next r s) p arcs
next_keeps g r p s arcs graph h exists idle unranked =
    let n = length r.order in
    let here : s < length r.ranks = omega (arith, h.falling.rank_for_each) in
    record {
      falling = next_falls g r s h.falling exists unranked (λ a there from free. omega (arith, ends_passed g r p s a arcs h exists idle there from free, h.within));
      within = omega (arith, h.within, length_push r.order s);
      waiting_for_each = h.waiting_for_each;
      waits = λ t there. h.waits t there ∙ ap (λ c. c + count_by (is_free_from g t) arcs) (sym (open_count-next g r.ranks p s n t here h.within (omega (arith, h.within))));
      no_wait = λ t there ranked.
          elim (cases_eq t s) [
            | inl same ↦ ap (λ u. get_or r.waiting u 0) same ∙ idle
            | inr apart ↦ h.no_wait t there (rw (rank_elsewhere g r s t apart) at ranked)
          ];
    }

-- an arc that holds a token, or that leads out of another station, is not waited for
not_free : (g : Parts) (t a : ℕ) → ((arc g a).from ≡ t → (arc g a).tokens ≡ 0 → ⊥) → is_free_from g t a ≡ false
not_free g t a taken =
    false_from_ne_true (is_free_from g t a)
    (λ e. let parts = and_parts (eqb (arc g a).from t) (eqb (arc g a).tokens 0) e in taken (eqb-true (arc g a).from t parts.0) (eqb-true (arc g a).tokens 0 parts.1))

free : (g : Parts) (t a : ℕ) → (arc g a).from ≡ t → (arc g a).tokens ≡ 0 → is_free_from g t a ≡ true
free g t a from none = and_from (eqb (arc g a).from t) (eqb (arc g a).tokens 0) (eq-eqb (arc g a).from t from) (eq-eqb (arc g a).tokens 0 none)

-- what is waited for along the arcs that are left, without the first of them
count_rest_no : (g : Parts) (t a : ℕ) (arcs : List ℕ) → is_free_from g t a ≡ false → count_by (is_free_from g t) (a ∷ arcs) ≡ count_by (is_free_from g t) arcs
count_rest_no g t a arcs no_wait =
    let one : cond (is_free_from g t a) 1 0 ≡ 0 = ap {B = ℕ} (λ b. cond b 1 0) no_wait in
    omega (arith, one, sum_by-cons (λ x. cond (is_free_from g t x) 1 0) a arcs)

count_rest_yes : (g : Parts) (t a : ℕ) (arcs : List ℕ) → is_free_from g t a ≡ true → count_by (is_free_from g t) (a ∷ arcs) ≡ count_by (is_free_from g t) arcs + 1
count_rest_yes g t a arcs waits =
    let one : cond (is_free_from g t a) 1 0 ≡ 1 = ap {B = ℕ} (λ b. cond b 1 0) waits in
    omega (arith, one, sum_by-cons (λ x. cond (is_free_from g t x) 1 0) a arcs)

-- an arc that holds a token is passed
pub skip_keeps : (g : Parts) (r : Ranks) (p a : ℕ) (arcs : List ℕ) → IsPassing g r p (a ∷ arcs) → (arc g a).tokens ≢ 0 → IsPassing g r p arcs
skip_keeps g r p a arcs h taken = record {
  falling = h.falling;
  within = h.within;
  waiting_for_each = h.waiting_for_each;
  no_wait = h.no_wait;
  waits = λ t there. h.waits t there ∙ ap (λ c. open_count g r.ranks p t + c) (count_rest_no g t a arcs (not_free g t a (λ from none. taken none)));
}

-- the station at the start of a waiting arc waits, and so has no rank
pub waits_still : (g : Parts) (r : Ranks) (p a : ℕ) (arcs : List ℕ) → IsGraph g → IsPassing g r p (a ∷ arcs) → a < arc_count g → (arc g a).tokens ≡ 0 → (0 < get_or r.waiting (arc g a).from 0) × (stations g ≤ get_or r.ranks (arc g a).from 0)
waits_still g r p a arcs graph h there none =
    let s = (arc g a).from in
    let exists = graph.starts_exist a there in
    let waiting : 0 < get_or r.waiting s 0 = omega (arith, h.waits s exists, count_rest_yes g s a arcs (free g s a refl none)) in (
      waiting,
      elim (cases_lt (get_or r.ranks s 0) (stations g)) [
        | inl ranked ↦ absurd (omega (arith, h.no_wait s exists ranked, waiting))
        | inr unranked ↦ unranked
      ],
    )

-- an arc without a token is passed
pub passed_keeps : (g : Parts) (r : Ranks) (p a : ℕ) (arcs : List ℕ) → IsGraph g → IsPassing g r p (a ∷ arcs) → a < arc_count g → (arc g a).tokens ≡ 0 → IsPassing g (with_passed r (arc g a).from) p arcs
passed_keeps g r p a arcs graph h there none =
    let s = (arc g a).from in
    let exists = graph.starts_exist a there in
    let here : s < length r.waiting = omega (arith, h.waiting_for_each) in
    let w = get_or r.waiting s 0 in
    let still = waits_still g r p a arcs graph h there none in
    let elsewhere : (t : ℕ) → t ≢ s → get_or (set r.waiting s (w - 1)) t 0 ≡ get_or r.waiting t 0 = λ t apart. get_or-set_other r.waiting s t (w - 1) 0 apart in
    record {
      falling = h.falling;
      within = h.within;
      waiting_for_each = length-set r.waiting s (w - 1) ∙ h.waiting_for_each;
      waits = λ t known.
          elim (cases_eq t s) [
            | inl same ↦
                omega (arith, ap (λ u. get_or (set r.waiting s (w - 1)) u 0) same, get_or-set_same r.waiting s (w - 1) 0 here, h.waits s exists, count_rest_yes g s a arcs (free g s a refl none), ap (λ u. open_count g r.ranks p u + count_by (is_free_from g u) arcs) same)
            | inr apart ↦
                omega (arith, elsewhere t apart, h.waits t known, count_rest_no g t a arcs (not_free g t a (λ from _. apart (sym from))))
          ];
      no_wait = λ t known ranked.
          elim (cases_eq t s) [
            | inl same ↦ absurd (omega (arith, still.1, ranked, ap (λ u. get_or r.ranks u 0) same))
            | inr apart ↦ elsewhere t apart ∙ h.no_wait t known ranked
          ];
    }

-- ---- one arc, and the rank that may follow

pub released_keeps : (g : Parts) (r : Ranks) (p a : ℕ) (arcs : List ℕ) → IsGraph g → IsPassing g r p (a ∷ arcs) → a < arc_count g → (arc g a).tokens ≡ 0 → IsPassing g (with_release r (arc g a).from) p arcs
released_keeps g r p a arcs graph h there none =
    let s = (arc g a).from in
    let w = get_or r.waiting s 0 in
    let exists = graph.starts_exist a there in
    let passed = passed_keeps g r p a arcs graph h there none in
    cond_both (eqb (w - 1) 0) (with_next (with_passed r s) s) (with_passed r s) (λ v. IsPassing g v p arcs)
    (λ last. next_keeps g (with_passed r s) p s arcs graph passed exists (get_or-set_same r.waiting s (w - 1) 0 (omega (arith, h.waiting_for_each)) ∙ eqb-true (w - 1) 0 last) (waits_still g r p a arcs graph h there none).1)
    (λ more. passed)

pub next_ready : (g : Parts) (r : Ranks) (p s n : ℕ) (arcs : List ℕ) → IsPassing g r p arcs → s < stations g → stations g ≤ get_or r.ranks s 0 → ((t : ℕ) → t < n → t ≢ s → stations g ≤ get_or r.ranks t 0 → 0 < get_or r.waiting t 0) → NoneIsReady g (with_next r s) n
next_ready g r p s n arcs h exists unranked others = record {
  all_wait = λ t below no_rank.
      elim (cases_eq t s) [
        | inl same ↦
            absurd (omega (arith, no_rank, ap (λ u. get_or (with_next r s).ranks u 0) same, get_or-set_same r.ranks s (length r.order) 0 (omega (arith, h.falling.rank_for_each)), has_room g r s h.falling exists unranked))
        | inr apart ↦ others t below apart (rw (rank_elsewhere g r s t apart) at no_rank)
      ];
}

pub released_ready : (g : Parts) (r : Ranks) (p a : ℕ) (arcs : List ℕ) → IsGraph g → IsPassing g r p (a ∷ arcs) → a < arc_count g → (arc g a).tokens ≡ 0 → NoneIsReady g r (stations g) → NoneIsReady g (with_release r (arc g a).from) (stations g)
released_ready g r p a arcs graph h there none ready =
    let s = (arc g a).from in
    let w = get_or r.waiting s 0 in
    let exists = graph.starts_exist a there in
    let here : s < length r.waiting = omega (arith, h.waiting_for_each) in
    let passed = passed_keeps g r p a arcs graph h there none in
    let still = waits_still g r p a arcs graph h there none in
    let elsewhere : (t : ℕ) → t ≢ s → get_or (set r.waiting s (w - 1)) t 0 ≡ get_or r.waiting t 0 = λ t apart. get_or-set_other r.waiting s t (w - 1) 0 apart in
    let others : (t : ℕ) → t < stations g → t ≢ s → stations g ≤ get_or r.ranks t 0 → 0 < get_or (with_passed r s).waiting t 0 = λ t below apart no_rank. omega (arith, elsewhere t apart, ready.all_wait t below no_rank) in
    cond_both (eqb (w - 1) 0) (with_next (with_passed r s) s) (with_passed r s) (λ v. NoneIsReady g v (stations g))
    (λ last. next_ready g (with_passed r s) p s (stations g) arcs passed exists still.1 others)
    (λ more.
    record {
      all_wait = λ t below no_rank.
          elim (cases_eq t s) [
            | inl same ↦
                (let left : w - 1 ≢ 0 = eqb-false (w - 1) 0 more in
                omega (arith, left, ap (λ u. get_or (set r.waiting s (w - 1)) u 0) same, get_or-set_same r.waiting s (w - 1) 0 here))
            | inr apart ↦ others t below apart no_rank
          ];
    })

-- ---- the next station of the order

split_into : (waits : Bool) → cond (waits && true) 1 0 ≡ cond (waits && false) 1 0 + cond (true && waits) 1 0
split_into true = refl
split_into false = refl

split_test : (waits b c d : Bool) → ((d ≡ true) × (b ≡ true) × (c ≡ false)) ⊎ ((d ≡ false) × (b ≡ c)) → cond (waits && b) 1 0 ≡ cond (waits && c) 1 0 + cond (d && waits) 1 0
split_test waits b c d (inl (into, was, is)) = rw (into, was, is) (split_into waits)
split_test waits b c d (inr (past, same)) = rw (past, same) (sym (add-zero (cond (waits && c) 1 0)))

-- there are no more ranks than stations
has_place : (g : Parts) (r : Ranks) (p : ℕ) → IsPassing g r p [] → p < length r.order → p < stations g
has_place g r p h more = omega (arith, h.falling.unranked)

-- an arc that was open stays open, or leads into the station that is passed next
still_open : (g : Parts) (r : Ranks) (p a : ℕ) → IsGraph g → IsPassing g r p [] → p < length r.order → a < arc_count g → let to = (arc g a).to in let rank = get_or r.ranks to 0 in ((eqb to (get_or r.order p 0) ≡ true) × (leb p rank ≡ true) × (leb (p + 1) rank ≡ false)) ⊎ ((eqb to (get_or r.order p 0) ≡ false) × (leb p rank ≡ leb (p + 1) rank))
still_open g r p a graph h more there =
    let to = (arc g a).to in
    let t = get_or r.order p 0 in
    let rank = get_or r.ranks to 0 in
    elim (cases_eq to t) [
      | inl into ↦
          (let is : rank ≡ p = ap (λ u. get_or r.ranks u 0) into ∙ h.falling.rank_at p more in
          inl (eq-eqb to t into, le-leb p rank (omega arith), lt-leb (p + 1) rank (omega arith)))
      | inr past ↦
          (let apart : rank ≢ p = λ e. past (sym (h.falling.at_rank to (graph.ends_exist a there) (omega (arith, e, has_place g r p h more))) ∙ ap (λ k. get_or r.order k 0) e) in
          inr (
            ne_eqb to t past,
            elim (cases_lt rank p) [
              | inl below ↦ lt-leb p rank below ∙ sym (lt-leb (p + 1) rank (omega arith))
              | inr above ↦ le-leb p rank above ∙ sym (le-leb (p + 1) rank (omega arith))
            ],
          ))
    ]

-- before its arcs are passed, the next station waits to be passed along all arcs into it
pub turn : (g : Parts) (r : Ranks) (p : ℕ) → IsGraph g → IsPassing g r p [] → p < length r.order → IsPassing g r (p + 1) (ins g (get_or r.order p 0))
unfolding open_count ins
turn g r p graph h more = record {
  falling = h.falling;
  within = omega arith;
  waiting_for_each = h.waiting_for_each;
  no_wait = h.no_wait;
  waits = λ t exists.
      let u = get_or r.order p 0 in
      let n = arc_count g in
      let split = sum_by-range-add (λ a. cond (is_open g r.ranks p t a) 1 0) (λ a. cond (is_open g r.ranks (p + 1) t a) 1 0) (λ a. cond (eqb (arc g a).to u && is_free_from g t a) 1 0) 0 n (λ a low high. split_test (is_free_from g t a) (leb p (get_or r.ranks (arc g a).to 0)) (leb (p + 1) (get_or r.ranks (arc g a).to 0)) (eqb (arc g a).to u) (still_open g r p a graph h more (omega arith))) in
      let into = count_by-filter (is_free_from g t) (λ a. eqb (arc g a).to u) (range_with_len 0 n) in
      omega (arith, h.waits t exists, split, into);
}

-- ---- the start and the end

and_true : (b c : Bool) → c ≡ true → (b && c) ≡ b
and_true true c passes = passes
and_true false c passes = refl

-- no station has a rank at the start
no_rank : (T t : ℕ) → t < T → get_or (replicate T T) t 0 < T → ⊥
no_rank T t exists ranked = omega (arith, ranked, get_or-replicate T t T 0 exists)

pub start_falls : (g : Parts) → IsGraph g → IsFalling g (replicate (stations g) (stations g)) []
start_falls g graph =
    let T = stations g in
    record {
      rank_for_each = length-replicate T T;
      unranked =
          (let each : cond (leb T T) 1 0 ≡ 1 = ap {B = ℕ} (λ b. cond b 1 0) (le-leb T T (omega arith)) in
          add-zero (count_by (leb T) (replicate T T)) ∙ (sum_by-replicate (λ x. cond (leb T x) 1 0) T T ∙ (ap (λ c. T * c) each ∙ mul-one T)));
      has_rank = λ t exists ranked. absurd (no_rank T t exists ranked);
      at_rank = λ t exists ranked. absurd (no_rank T t exists ranked);
      in_order = λ k below. absurd (omega (arith, below));
      rank_at = λ k below. absurd (omega (arith, below));
      falls = λ a there none ranked. absurd (no_rank T (arc g a).from (graph.starts_exist a there) ranked);
    }

-- with no rank, each station waits for all arcs out of it without a token
pub start_keeps : (g : Parts) (waiting : List ℕ) → IsGraph g → length waiting ≡ stations g → ((t : ℕ) → t < stations g → get_or waiting t 0 ≡ count_by (is_free_from g t) (range_with_len 0 (arc_count g))) → IsPassing g (record { waiting = waiting; ranks = replicate (stations g) (stations g); order = [] }) 0 []
unfolding open_count
start_keeps g waiting graph long counts =
    let T = stations g in
    record {
      falling = start_falls g graph;
      within = omega arith;
      waiting_for_each = long;
      waits = λ t exists.
          counts t exists ∙ (count_by-range-agree (is_free_from g t) (is_open g (replicate T T) 0 t) 0 (arc_count g) (λ a low high. sym (and_true (is_free_from g t a) (leb 0 (get_or (replicate T T) (arc g a).to 0)) (le-leb 0 (get_or (replicate T T) (arc g a).to 0) (omega arith)))) ∙ sym (add-zero (open_count g (replicate T T) 0 t)));
      no_wait = λ t exists ranked. absurd (no_rank T t exists ranked);
    }

-- where all stations of the order were passed, each station without a rank is stuck
pub stuck : (g : Parts) (r : Ranks) (p : ℕ) → IsGraph g → IsPassing g r p [] → NoneIsReady g r (stations g) → length r.order ≤ p → IsStuck g r.ranks
unfolding open_count
stuck g r p graph h ready end = record {
  way = λ t exists no_rank.
      let found = some_passes (is_open g r.ranks p t) 0 (arc_count g) (omega (arith, h.waits t exists, ready.all_wait t exists no_rank)) in
      let a = found.0 in
      let there : a < arc_count g = omega (arith, found.1) in
      let to = (arc g a).to in
      let parts = and_parts (is_free_from g t a) (leb p (get_or r.ranks to 0)) found.2 in
      let waits = and_parts (eqb (arc g a).from t) (eqb (arc g a).tokens 0) parts.0 in (
        a,
        record {
          exists = there;
          from = eqb-true (arc g a).from t waits.0;
          free = eqb-true (arc g a).tokens 0 waits.1;
          unranked =
              elim (cases_lt (get_or r.ranks to 0) (stations g)) [
                | inl ranked ↦ absurd (omega (arith, leb-true p (get_or r.ranks to 0) parts.1, h.falling.has_rank to (graph.ends_exist a there) ranked))
                | inr unranked ↦ unranked
              ];
        },
      );
}

-- ---- the counts at the start

pub counts_none : (g : Parts) → CountsFree g (replicate (stations g) 0) 0
counts_none g = record {
  one_for_each = length-replicate (stations g) 0;
  counts = λ t exists. get_or-replicate (stations g) t 0 0 exists;
}

pub count_small : (g : Parts) (counts : List ℕ) (n t : ℕ) → CountsFree g counts n → t < stations g → get_or counts t 0 ≤ n
count_small g counts n t h exists =
    omega (arith, h.counts t exists, count_by-le-length (is_free_from g t) (range_with_len 0 n), length-range_with_len 0 n)

pub counts_more_yes : (g : Parts) (counts : List ℕ) (n : ℕ) → IsGraph g → CountsFree g counts n → n < arc_count g → (arc g n).tokens ≡ 0 → let s = (arc g n).from in CountsFree g (set counts s (get_or counts s 0 + 1)) (n + 1)
counts_more_yes g counts n graph h there none =
    let s = (arc g n).from in
    let c = get_or counts s 0 + 1 in
    let here : s < length counts = omega (arith, h.one_for_each, graph.starts_exist n there) in
    record {
      one_for_each = length-set counts s c ∙ h.one_for_each;
      counts = λ t exists.
          (let more = count_by-range_more (is_free_from g t) n in
          elim (cases_eq t s) [
            | inl same ↦
                (let one : cond (is_free_from g t n) 1 0 ≡ 1 = ap {B = ℕ} (λ b. cond b 1 0) (free g t n (sym same) none) in
                omega (arith, ap (λ u. get_or (set counts s c) u 0) same, get_or-set_same counts s c 0 here, ap (λ u. get_or counts u 0) same, h.counts t exists, more, one))
            | inr apart ↦
                (let zero_here : cond (is_free_from g t n) 1 0 ≡ 0 = ap {B = ℕ} (λ b. cond b 1 0) (not_free g t n (λ from _. apart (sym from))) in
                omega (arith, get_or-set_other counts s t c 0 apart, h.counts t exists, more, zero_here))
          ]);
    }

pub counts_more_no : (g : Parts) (counts : List ℕ) (n : ℕ) → CountsFree g counts n → (arc g n).tokens ≢ 0 → CountsFree g counts (n + 1)
counts_more_no g counts n h taken = record {
  one_for_each = h.one_for_each;
  counts = λ t exists.
      let zero_here : cond (is_free_from g t n) 1 0 ≡ 0 = ap {B = ℕ} (λ b. cond b 1 0) (not_free g t n (λ from none. taken none)) in
      omega (arith, h.counts t exists, count_by-range_more (is_free_from g t) n, zero_here);
}

-- where no station has a rank, none was passed
pub start_passed : (g : Parts) (r : Ranks) → IsGraph g → CountsFree g r.waiting (arc_count g) → r.ranks ≡ replicate (stations g) (stations g) → r.order ≡ [] → IsPassing g r 0 []
start_passed g r graph h no_ranks empty =
    let with_ranks : List ℕ → Type 0 = λ xs. IsPassing g (record { waiting = r.waiting; ranks = xs; order = [] }) 0 [] in
    let with_order : List ℕ → Type 0 = λ xs. IsPassing g (record { waiting = r.waiting; ranks = r.ranks; order = xs }) 0 [] in
    subst with_order (sym empty) (subst with_ranks (sym no_ranks) (start_keeps g r.waiting graph h.one_for_each h.counts))

-- the same, over the arcs as a loop reads them
abbrev pub arc_in : List Arc → ℕ → Arc
arc_in arcs n = get_or arcs n (record { from = 0; to = 0; tokens = 0; worked = false })

pub counts_read_yes : (g : Parts) (arcs : List Arc) (counts : List ℕ) (n c : ℕ) → arcs ≡ g.arcs → IsGraph g → CountsFree g counts n → n < length arcs → (arc_in arcs n).tokens ≡ 0 → c ≡ get_or counts (arc_in arcs n).from c → CountsFree g (set counts (arc_in arcs n).from (c + 1)) (n + 1)
counts_read_yes g arcs counts n c same graph h there none read =
    let exists : n < arc_count g = omega (arith, ap length same) in
    let is : arc_in arcs n ≡ arc g n = ap (λ xs. arc_in xs n) same in
    let here : (arc_in arcs n).from < length counts = omega (arith, h.one_for_each, graph.starts_exist n exists, ap (λ (a : Arc). a.from) is) in
    let value : c ≡ get_or counts (arc_in arcs n).from 0 = get_or_read counts (arc_in arcs n).from c here read 0 in
    rw (value, is) (counts_more_yes g counts n graph h exists (sym (ap (λ (a : Arc). a.tokens) is) ∙ none))

pub counts_read_no : (g : Parts) (arcs : List Arc) (counts : List ℕ) (n : ℕ) → arcs ≡ g.arcs → CountsFree g counts n → (arc_in arcs n).tokens ≢ 0 → CountsFree g counts (n + 1)
counts_read_no g arcs counts n same h taken =
    counts_more_no g counts n h (λ none. taken (ap (λ xs. (arc_in xs n).tokens) same ∙ none))

pub count_fits : (g : Parts) (arcs : List Arc) (counts : List ℕ) (n c : ℕ) → arcs ≡ g.arcs → IsGraph g → CountsFree g counts n → n < length arcs → c ≡ get_or counts (arc_in arcs n).from c → c ≤ n
count_fits g arcs counts n c same graph h there read =
    let exists : n < arc_count g = omega (arith, ap length same) in
    let is = ap (λ xs. (arc_in xs n).from) same in
    let start = graph.starts_exist n exists in
    let here : (arc_in arcs n).from < length counts = omega (arith, h.one_for_each, start, is) in
    omega (arith, get_or_read counts (arc_in arcs n).from c here read 0, count_small g counts n (arc_in arcs n).from h (omega (arith, start, is)))

-- ---- one arc into the station that is passed, as the loop reads it

pub record HasTurned (g : Parts) (r : Ranks) (p : ℕ) (arcs : List ℕ) : Type 0 where
  pub passing : IsPassing g r p arcs
  pub ready : NoneIsReady g r (stations g)

pub passes_yes : (g : Parts) (r : Ranks) (p i : ℕ) (into : List ℕ) → IsGraph g → HasTurned g r p (drop i into) → i < length into → let a = get_or into i 0 in a < arc_count g → (arc g a).tokens ≡ 0 → HasTurned g (with_release r (arc g a).from) p (drop (i + 1) into)
passes_yes g r p i into graph h below there none =
    let e = drop_more into i 0 below in
    let passing = rw e at h.passing in
    let a = get_or into i 0 in
    record {
      passing = released_keeps g r p a (drop (i + 1) into) graph passing there none;
      ready = released_ready g r p a (drop (i + 1) into) graph passing there none h.ready;
    }

pub passes_no : (g : Parts) (r : Ranks) (p i : ℕ) (into : List ℕ) → HasTurned g r p (drop i into) → i < length into → (arc g (get_or into i 0)).tokens ≢ 0 → HasTurned g r p (drop (i + 1) into)
passes_no g r p i into h below taken = record {
  passing = skip_keeps g r p (get_or into i 0) (drop (i + 1) into) (rw (drop_more into i 0 below) at h.passing) taken;
  ready = h.ready;
}

-- the station at the start of that arc waits, and there is room for its rank
pub may_release : (g : Parts) (r : Ranks) (p i : ℕ) (into : List ℕ) → IsGraph g → IsPassing g r p (drop i into) → i < length into → let a = get_or into i 0 in a < arc_count g → (arc g a).tokens ≡ 0 → (0 < get_or r.waiting (arc g a).from 0) × (length r.order < length r.ranks)
may_release g r p i into graph h below there none =
    let a = get_or into i 0 in
    let passing = rw (drop_more into i 0 below) at h in
    let still = waits_still g r p a (drop (i + 1) into) graph passing there none in
    (still.0, omega (arith, h.falling.rank_for_each, has_room g r (arc g a).from passing.falling (graph.starts_exist a there) still.1))

-- the station of the next rank, as it is read
pub turn_read : (g : Parts) (r : Ranks) (order into : List ℕ) (p t : ℕ) → IsGraph g → IsPassing g r p [] → NoneIsReady g r (stations g) → p < length r.order → order ≡ r.order → t ≡ get_or order p t → into ≡ ins g t → HasTurned g r (p + 1) into
turn_read g r order into p t graph h ready more same read is =
    let here : p < length order = omega (arith, ap length same) in
    let at : t ≡ get_or r.order p 0 = get_or_read order p t here read 0 ∙ ap (λ xs. get_or xs p 0) same in
    let P : List ℕ → Type 0 = λ xs. IsPassing g r (p + 1) xs in
    record { passing = subst P (sym (is ∙ ap (ins g) at)) (turn g r p graph h more); ready = ready }

-- ---- the stations that wait for no arc at the start

pub record HasRankedIdle (g : Parts) (r : Ranks) (n : ℕ) : Type 0 where
  pub passed : IsPassed g r 0
  pub ready : NoneIsReady g r n
  pub unranked : (u : ℕ) → n ≤ u → u < stations g → stations g ≤ get_or r.ranks u 0

pub idle_none : (g : Parts) (r : Ranks) → IsPassed g r 0 → r.order ≡ [] → HasRankedIdle g r 0
idle_none g r h empty = record {
  passed = h;
  ready = record { all_wait = λ t below. absurd (omega (arith, below)) };
  unranked = λ u low exists.
      elim (cases_lt (get_or r.ranks u 0) (stations g)) [
        | inl ranked ↦ absurd (omega (arith, h.falling.has_rank u exists ranked, ap length empty))
        | inr unranked ↦ unranked
      ];
}

pub idle_more_yes : (g : Parts) (r : Ranks) (t w : ℕ) (waiting : List ℕ) → IsGraph g → HasRankedIdle g r t → t < stations g → waiting ≡ r.waiting → w ≡ get_or waiting t w → w ≡ 0 → HasRankedIdle g (with_next r t) (t + 1)
idle_more_yes g r t w waiting graph h exists same read idle =
    let here : t < length waiting = omega (arith, h.passed.waiting_for_each, ap length same) in
    let zero_here : get_or r.waiting t 0 ≡ 0 = sym (ap (λ xs. get_or xs t 0) same) ∙ (sym (get_or_read waiting t w here read 0) ∙ idle) in
    let unranked = h.unranked t (omega arith) exists in
    record {
      passed = next_keeps g r 0 t [] graph h.passed exists zero_here unranked;
      ready = next_ready g r 0 t (t + 1) [] h.passed exists unranked (λ u below apart no_rank. h.ready.all_wait u (omega arith) no_rank);
      unranked = λ u low there. omega (arith, rank_elsewhere g r t u (omega arith), h.unranked u (omega arith) there);
    }

pub idle_more_no : (g : Parts) (r : Ranks) (t w : ℕ) (waiting : List ℕ) → HasRankedIdle g r t → t < stations g → waiting ≡ r.waiting → w ≡ get_or waiting t w → w ≢ 0 → HasRankedIdle g r (t + 1)
idle_more_no g r t w waiting h exists same read waits =
    let here : t < length waiting = omega (arith, h.passed.waiting_for_each, ap length same) in
    let is : w ≡ get_or r.waiting t 0 = get_or_read waiting t w here read 0 ∙ ap (λ xs. get_or xs t 0) same in
    record {
      passed = h.passed;
      ready = record {
        all_wait = λ u below no_rank.
            elim (cases_eq u t) [
              | inl same_one ↦ omega (arith, ap (λ v. get_or r.waiting v 0) same_one, is, waits)
              | inr apart ↦ h.ready.all_wait u (omega arith) no_rank
            ];
      };
      unranked = λ u low there. h.unranked u (omega arith) there;
    }

-- there are no more ranks than stations
pub order_short : (g : Parts) (r : Ranks) (p : ℕ) → IsPassed g r p → length r.order ≤ stations g
order_short g r p h = omega (arith, h.falling.unranked)

-- a complete ranking leaves no station without a rank that has no way on
pub complete_stuck : (g : Parts) (r : Ranks) → IsComplete g r → IsStuck g r.ranks
complete_stuck g r h = stuck g r (length r.order) h.sound h.passed h.ready (omega arith)
