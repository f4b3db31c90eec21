-- What arcs add and take away.
use Rattle.std.proofs.Common.{◌≡◌, ℕ, ◌+◌, ◌*◌, ◌≤◌, List, [], ◌∷◌, length, refl, arith}
use Rattle.std.proofs.lemmas.Nat.{mul-le}
use Rattle.std.proofs.lemmas.List.Sums.{sum_by-cons}
use Rattle.line_base.specs.declared.event.Parts.{Parts}
use Rattle.event_graph.specs.Network.{arc, delay}
use Rattle.event_graph.specs.Limits.{IsWithinLimits}
use Rattle.event_graph.specs.Term.{work}
use Rattle.event_graph.specs.Circuit.{time_along, tokens_on}
use Rattle.event_graph.proofs.Sizes.{work-small, delay-small, tokens-small}
use Rattle.cycle_time.specs.declared.weights.Weighing.{Weighing}
use Rattle.cycle_time.specs.declared.weights.Weighing.TheVariants.{PerArc, AtRatio}
use Rattle.cycle_time.specs.Search.{gain, loss, gains, losses, most_gain, IsModest}
use Rattle.cycle_time.proofs.WalkWeights.{time_along-cons, tokens_on-cons}

pub gain-small : (g : Parts) (w : Weighing) → IsModest w → IsWithinLimits g → (a : ℕ) → gain g w a ≤ most_gain
unfolding gain
gain-small g PerArc modest limits a = omega arith
gain-small g (AtRatio time cards) modest limits a =
    let most = mul-le cards (work g a 1 + delay g a) 5_120_000 2_000_000_000 modest.1 (omega (arith, work-small g a 1 limits, delay-small g a limits)) in
    omega (arith, most)

pub loss-small : (g : Parts) (w : Weighing) → IsModest w → IsWithinLimits g → (a : ℕ) → loss g w a ≤ most_gain
unfolding loss
loss-small g PerArc modest limits a = omega arith
loss-small g (AtRatio time cards) modest limits a =
    let most = mul-le time (arc g a).tokens 1_024_000_000_000 10_000 modest.0 (omega (arith, tokens-small g a limits)) in
    omega (arith, most)

-- each arc counts one
pub gain-arc : (g : Parts) (a : ℕ) → gain g PerArc a ≡ 1
unfolding gain
gain-arc g a = refl

pub loss-arc : (g : Parts) (a : ℕ) → loss g PerArc a ≡ 0
unfolding loss
loss-arc g a = refl

pub gain-ratio : (g : Parts) (time cards a : ℕ) → gain g (AtRatio time cards) a ≡ cards * (work g a 1 + delay g a)
unfolding gain
gain-ratio g time cards a = refl

pub loss-ratio : (g : Parts) (time cards a : ℕ) → loss g (AtRatio time cards) a ≡ time * (arc g a).tokens
unfolding loss
loss-ratio g time cards a = refl

pub gains-cons : (g : Parts) (w : Weighing) (a : ℕ) (arcs : List ℕ) → gains g w (a ∷ arcs) ≡ gain g w a + gains g w arcs
gains-cons g w a arcs = sum_by-cons (gain g w) a arcs

pub losses-cons : (g : Parts) (w : Weighing) (a : ℕ) (arcs : List ℕ) → losses g w (a ∷ arcs) ≡ loss g w a + losses g w arcs
losses-cons g w a arcs = sum_by-cons (loss g w) a arcs

-- at a ratio a walk gains the cards times its time, and loses the time times its tokens
pub gains-ratio : (g : Parts) (time cards : ℕ) (arcs : List ℕ) → gains g (AtRatio time cards) arcs ≡ cards * time_along g arcs
gains-ratio g time cards [] = omega arith
gains-ratio g time cards (a ∷ arcs) =
    let rest = gains-ratio g time cards arcs in
    rw (gains-cons g (AtRatio time cards) a arcs, gain-ratio g time cards a, rest, time_along-cons g a arcs) (omega arith)

pub losses-ratio : (g : Parts) (time cards : ℕ) (arcs : List ℕ) → losses g (AtRatio time cards) arcs ≡ time * tokens_on g arcs
losses-ratio g time cards [] = omega arith
losses-ratio g time cards (a ∷ arcs) =
    let rest = losses-ratio g time cards arcs in
    rw (losses-cons g (AtRatio time cards) a arcs, loss-ratio g time cards a, rest, tokens_on-cons g a arcs) (omega arith)

-- arc by arc the walk gains its length, and loses nothing
pub gains-arcs : (g : Parts) (arcs : List ℕ) → gains g PerArc arcs ≡ length arcs
gains-arcs g [] = refl
gains-arcs g (a ∷ arcs) = omega (arith, gains-cons g PerArc a arcs, gain-arc g a, gains-arcs g arcs)

pub losses-arcs : (g : Parts) (arcs : List ℕ) → losses g PerArc arcs ≡ 0
losses-arcs g [] = refl
losses-arcs g (a ∷ arcs) = omega (arith, losses-cons g PerArc a arcs, loss-arc g a, losses-arcs g arcs)
