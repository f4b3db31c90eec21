use Rattle.std.proofs.Common.{◌≡◌, ◌∙◌, ℕ, List, refl, sym, ap, rules}
use Rattle.std.specs.Prelude.{Some, codes}
use Rattle.line_base.specs.Limits.{most_workers, most_ring_room}
use Rattle.command_line.specs.Numbers.{number_in, most_firings}
use Rattle.command_line.specs.Options.{Given, once, seen_options, with_value}
use Rattle.command_line.proofs.options.with_value.Goals.{in-text+in_ok-once-in-text, in-text-2+in_ok-once-in-text-2, in-text-3+in_ok-once-in-text-3, in-text-4+in_ok-once-in-text-4, in-text-5}
use Rattle.command_line.proofs.options.with_value.Goals as goal

-- what is given with one more option, where that was not given before
module _ (g : Given) (name word : List ℕ) (n : ℕ) where
  workers_given : name ≡ codes "--workers" → Some n ≡ once g.workers (number_in 1 most_workers word) → Some (record g { workers = Some n }) ≡ with_value g name word
  unfolding with_value
  workers_given is taken = rw (is, ← taken) refl

  stop_after_given : name ≡ codes "--stop-after" → Some n ≡ once g.stop_after (number_in 0 most_firings word) → Some (record g { stop_after = Some n }) ≡ with_value g name word
  unfolding with_value
  stop_after_given is taken = rw (is, ← taken) refl

  every_given : name ≡ codes "--every" → Some n ≡ once g.every (number_in 1 most_firings word) → Some (record g { every = Some n }) ≡ with_value g name word
  unfolding with_value
  every_given is taken = rw (is, ← taken) refl

  room_given : name ≡ codes "--room" → Some n ≡ once g.room (number_in 1 most_ring_room word) → Some (record g { room = Some n }) ≡ with_value g name word
  unfolding with_value
  room_given is taken = rw (is, ← taken) refl

pub returns-clause-given : goal.returns-clause-given
unfolding with_value
returns-clause-given c =
    let given = c.args.given in
    let before = seen_options given in
    let name = c.args.name.now in
    let word = c.args.word.now in
    elim c.match-name.branch [
      | in-text+in_ok-once-in-text w ↦
          let taken =
          sym w.in_ok-once-in-text.was ∙ w.once.ensures.once
          ∙ ap (once given.workers) w.workers_in.ensures.read
          in
          rw w.given-is (workers_given before name word _ w.in-text.is taken)
      | in-text-2+in_ok-once-in-text-2 w ↦
          let taken =
          sym w.in_ok-once-in-text-2.was ∙ w.once-in-text-2.ensures.once
          ∙ ap (once given.stop_after) w.number_in-after.ensures.read
          in
          rw w.given-is (stop_after_given before name word _ w.in-text-2.is taken)
      | in-text-3+in_ok-once-in-text-3 w ↦
          let taken =
          sym w.in_ok-once-in-text-3.was ∙ w.once-in-text-3.ensures.once
          ∙ ap (once given.every) w.number_in.ensures.read
          in
          rw w.given-is (every_given before name word _ w.in-text-3.is taken)
      | in-text-4+in_ok-once-in-text-4 w ↦
          let taken =
          sym w.in_ok-once-in-text-4.was ∙ w.once-in-text-4.ensures.once
          ∙ ap (once given.room) w.room_in.ensures.read
          in
          rw w.given-is (room_given before name word _ w.in-text-4.is taken)
      | in-text-5 w ↦ search rules
    ]

pub returns-clause-range : goal.returns-clause-range
returns-clause-range c =
    let known = c.requires.range in
    elim c.match-name.branch [
      | in-text+in_ok-once-in-text w ↦
          let workers = rw w.in_ok-once-in-text.ensures.same at w.workers_in.ensures.range in
          rw w.given-is (record {
            workers = workers;
            stop_after = known.stop_after;
            every = known.every;
            room = known.room;
          })
      | in-text-2+in_ok-once-in-text-2 w ↦
          let after = rw w.in_ok-once-in-text-2.ensures.same at w.number_in-after.ensures.small in
          rw w.given-is (record {
            workers = known.workers;
            stop_after = after;
            every = known.every;
            room = known.room;
          })
      | in-text-3+in_ok-once-in-text-3 w ↦
          let least = rw w.in_ok-once-in-text-3.ensures.same at w.number_in.ensures.large in
          let most = rw w.in_ok-once-in-text-3.ensures.same at w.number_in.ensures.small in
          rw w.given-is (record {
            workers = known.workers;
            stop_after = known.stop_after;
            every = (least, most);
            room = known.room;
          })
      | in-text-4+in_ok-once-in-text-4 w ↦
          let room = rw w.in_ok-once-in-text-4.ensures.same at w.room_in.ensures.range in
          rw w.given-is (record {
            workers = known.workers;
            stop_after = known.stop_after;
            every = known.every;
            room = room;
          })
      | in-text-5 w ↦
          rw w.given-is (record {
            workers = known.workers;
            stop_after = known.stop_after;
            every = known.every;
            room = known.room;
          })
    ]
