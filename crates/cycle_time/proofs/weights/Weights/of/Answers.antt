use Rattle.std.proofs.Common.{◌≡◌, ◌<◌, ◌+◌, ◌∙◌, ◌++◌, ◌∷◌, [], ℕ, List, arith, ap, sym, subst, length, get_or, below_more}
use Rattle.std.proofs.lemmas.List.{length_push, get_or_push, get_or_append_left}
use Rattle.cycle_time.specs.Search.{gain, loss}
use Rattle.cycle_time.proofs.Weighed.{gain-small, loss-small}
use Rattle.cycle_time.proofs.weights.Weights.of.Goals as goal

-- one weight more
length_more : (all more : List ℕ) (y n : ℕ) → more ≡ all ++ y ∷ [] → length all ≡ n → length more ≡ n + 1
length_more all more y n is long = ap (λ xs. length xs) is ∙ length_push all y ∙ ap (λ k. k + 1) long

weighs_more : (f : ℕ → ℕ) (all more : List ℕ) (y n : ℕ) → more ≡ all ++ y ∷ [] → y ≡ f n → length all ≡ n
    → ((k : ℕ) → k < n → get_or all k 0 ≡ f k) → (k : ℕ) → k < n + 1 → get_or more k 0 ≡ f k
weighs_more f all more y n is value long before =
    subst (λ xs. (k : ℕ) → k < n + 1 → get_or xs k 0 ≡ f k) (sym is)
    (below_more (λ k. get_or (all ++ y ∷ []) k 0 ≡ f k) n
    (λ k low. get_or_append_left all (y ∷ []) 0 k (omega (arith, long, low)) ∙ before k low)
    (get_or_push all y 0 n long ∙ value))

pub loop-a-preserved : goal.loop-a-preserved
loop-a-preserved c =
    let g = c.args.graph.now in
    let h = c.loop-a.invariant in
    let weights = c.weights_of-gain in
    let gains = c.push_reserved.ensures in
    let losses = c.push_reserved-in-loop-a.ensures in
    record {
      gain_for_each = length_more c.loop-a.gains.items _ weights.result.0 c.loop-a.a gains.items h.gain_for_each;
      loss_for_each = length_more c.loop-a.losses.items _ weights.result.1 c.loop-a.a losses.items h.loss_for_each;
      gains = weighs_more (gain g c.args.weighing) c.loop-a.gains.items _ weights.result.0 c.loop-a.a gains.items weights.ensures.gain h.gain_for_each h.gains;
      losses = weighs_more (loss g c.args.weighing) c.loop-a.losses.items _ weights.result.1 c.loop-a.a losses.items weights.ensures.loss h.loss_for_each h.losses;
      gains_room = omega (arith, h.gains_room, gains.capacity);
      losses_room = omega (arith, h.losses_room, losses.capacity);
    }

pub returns-clause-weights : goal.returns-clause-weights
returns-clause-weights c =
    let g = c.args.graph.now in
    let arcs = ap (λ xs. length xs) c.arcs-arcs.ensures.arcs in
    let limits = c.arcs-arcs.ensures.limits in
    let h = c.loop-a.invariant in
    record {
      gain_for_each = omega (arith, arcs, h.gain_for_each);
      loss_for_each = omega (arith, arcs, h.loss_for_each);
      gains = λ a exists. h.gains a (omega (arith, arcs));
      losses = λ a exists. h.losses a (omega (arith, arcs));
      gains_small = gain-small g c.args.weighing c.requires limits;
      losses_small = loss-small g c.args.weighing c.requires limits;
    }
