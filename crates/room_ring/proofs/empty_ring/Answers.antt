use Rattle.std.proofs.Common.{length, ap, sym, ◌∙◌, arith}
use Rattle.room_ring.specs.View.{first_taker, split_view}
use Rattle.room_ring.proofs.Moves.{may_open}
use Rattle.room_ring.proofs.empty_ring.Goals as goal

pub split_seat-taker-requires : goal.split_seat-taker-requires
split_seat-taker-requires c =
    let made = c.in_ok-words.ensures in
    let same = c.deref-2.ensures ∙ c.in_ok-words-2.ensures.ok in (
      made.2 ∙ sym (ap (λ w. w.shared.table_id) same),
      omega (arith, ap (λ w. w.shared.table_id.words) same ∙ made.0 ∙ c.deref.ensures.len, c.in_ok-cells.ensures.len),
      may_open _ _ _ (ap (λ m. m.0.role) made.4) (ap (λ m. m.0.is_split) made.4),
    )

pub invariant_of-result : goal.invariant_of-result
invariant_of-result c =
    let made = c.in_ok-words.ensures in
    let same = c.in_ok-words-2.ensures.ok in
    let view = ap (λ m. m.0) c.split_seat-taker.ensures.2 ∙ ap (λ m. split_view m.0) made.4 in
    let list = ap (λ v. length v.list) view in
    let seen = ap (λ v. v.seen) view in
    record {
      seated = record {
        table = c.split_seat-taker.ensures.0 ∙ made.2 ∙ sym (ap (λ w. w.shared.table_id) same);
        key = ap (λ w. w.shared.key) same ∙ made.5 ∙ c.from.ensures;
        words = ap (λ w. w.shared.table_id.words) same ∙ made.0 ∙ c.deref.ensures.len ∙ c.in_ok-cells.ensures.len;
        some_room = c.requires.some_room;
        most_room = c.requires.most_room;
        no_slot = ap (λ m. m.1) c.split_seat-taker.ensures.2 ∙ ap (λ m. m.1) made.4;
        count = sym list;
        seen = sym seen;
      };
      putter = record {
        role = ap (λ v. v.role) view;
        stored = ap (λ v. v.stored) view;
        split = ap (λ v. v.is_split) view;
      };
      within = omega (arith, list);
      taken = omega (arith, seen);
      began = omega arith;
    }

pub invariant_of-result-2 : goal.invariant_of-result-2
invariant_of-result-2 c =
    let made = c.in_ok-words.ensures in
    let same = c.in_ok-others.ensures ∙ c.in_ok-words-2.ensures.ok in
    let view = ap (λ m. m.0) c.split_seat-taker.ensures.4 ∙ ap (λ m. first_taker m.0.room) made.4 in
    let list = ap (λ v. length v.list) view in
    let seen = ap (λ v. v.seen) view in
    record {
      seated = record {
        table = c.split_seat-taker.ensures.3 ∙ made.2 ∙ sym (ap (λ w. w.shared.table_id) same);
        key = ap (λ w. w.shared.key) same ∙ made.5 ∙ c.from.ensures;
        words = ap (λ w. w.shared.table_id.words) same ∙ made.0 ∙ c.deref.ensures.len ∙ c.in_ok-cells.ensures.len;
        some_room = c.requires.some_room;
        most_room = c.requires.most_room;
        no_slot = ap (λ m. m.1) c.split_seat-taker.ensures.4;
        count = sym list;
        seen = sym seen;
      };
      taker = record {
        role = ap (λ v. v.role) view;
        free = ap (λ v. v.is_loaded) view;
        room_is = ap (λ v. v.room) view ∙ c.from.ensures;
      };
      known = omega (arith, list);
      within = omega (arith, seen);
    }

pub returns-clause-ring : goal.returns-clause-ring
returns-clause-ring c =
    let table = c.split_seat-taker.ensures.3 ∙ sym c.split_seat-taker.ensures.0 in
    λ i. record { table = table i; room = c.args.room }
