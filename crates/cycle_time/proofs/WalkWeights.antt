-- Along a walk the potentials grow by its weight at least, so no circuit weighs more than 0.
use Rattle.std.proofs.Common.{◌≡◌, ℕ, ◌+◌, ◌*◌, ◌≤◌, List, [], ◌∷◌, ap, arith}
use Rattle.std.specs.Prelude.{ℤ, pos, ◌+ℤ◌, ◌-ℤ◌, ◌≤ℤ◌}
use Rattle.std.proofs.lemmas.Int.{ints}
use Rattle.std.proofs.lemmas.List.Sums.{sum_by-cons}
use Rattle.line_base.specs.declared.event.Parts.{Parts}
use Rattle.event_graph.specs.Network.{arc, delay}
use Rattle.event_graph.specs.Term.{work}
use Rattle.event_graph.specs.Circuit.{IsWalk, time_along, tokens_on}
use Rattle.cycle_time.specs.declared.certificate.Certificate.{Certificate}
use Rattle.cycle_time.specs.Weight.{weight_along, potential, ArePotentials}
use Rattle.cycle_time.specs.Certificate.{IsCertificate, HasNoGreaterRatio}

pub time_along-cons : (g : Parts) (a : ℕ) (arcs : List ℕ) → time_along g (a ∷ arcs) ≡ work g a 1 + delay g a + time_along g arcs
time_along-cons g a arcs = sum_by-cons (λ b. work g b 1 + delay g b) a arcs

pub tokens_on-cons : (g : Parts) (a : ℕ) (arcs : List ℕ) → tokens_on g (a ∷ arcs) ≡ (arc g a).tokens + tokens_on g arcs
tokens_on-cons g a arcs = sum_by-cons (λ b. (arc g b).tokens) a arcs

-- one arc before a walk: the arc's potentials by h, the walk's by rest
more : (c k w d m W M : ℕ) (p q r : ℤ) → (p +ℤ (pos (c * (w + d)) -ℤ pos (k * m))) ≤ℤ q → (q +ℤ (pos (c * W) -ℤ pos (k * M))) ≤ℤ r → (p +ℤ (pos (c * (w + d + W)) -ℤ pos (k * (m + M)))) ≤ℤ r
more c k w d m W M p q r h rest = omega (arith, ints)

none : (c k : ℕ) (p q : ℤ) → p ≡ q → (p +ℤ (pos (c * 0) -ℤ pos (k * 0))) ≤ℤ q
none c k p q e = omega (arith, ints)

pub telescopes : (g : Parts) (time cards : ℕ) (ps : List ℤ) → ArePotentials g time cards ps → (t u : ℕ) (arcs : List ℕ) → IsWalk g t arcs u → (potential ps t +ℤ weight_along g time cards arcs) ≤ℤ potential ps u
telescopes g time cards ps h t u [] walk = none cards time (potential ps t) (potential ps u) (ap (potential ps) walk)
telescopes g time cards ps h t u (a ∷ arcs) walk =
    let from = ap (potential ps) walk.1 in
    let rest = telescopes g time cards ps h (arc g a).to u arcs walk.2 in
    rw (← from) (rw (time_along-cons g a arcs, tokens_on-cons g a arcs) (more cards time (work g a 1) (delay g a) (arc g a).tokens (time_along g arcs) (tokens_on g arcs) _ _ _ (h a walk.0) rest))

closed : (c k W M : ℕ) (p : ℤ) → (p +ℤ (pos (c * W) -ℤ pos (k * M))) ≤ℤ p → W * c ≤ M * k
closed c k W M p h = omega (arith, ints)

pub no_greater : (g : Parts) (time cards : ℕ) (ps : List ℤ) → ArePotentials g time cards ps → HasNoGreaterRatio g time cards
no_greater g time cards ps h arcs circuit =
    closed cards time (time_along g arcs) (tokens_on g arcs) (potential ps circuit.base)
    (telescopes g time cards ps h circuit.base circuit.base arcs circuit.closed)

pub certificate_bounds : (g : Parts) (c : Certificate) → IsCertificate g c → HasNoGreaterRatio g c.time c.cards
certificate_bounds g c h = no_greater g c.time c.cards c.potentials h.potentials
