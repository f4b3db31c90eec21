use Rattle.std.proofs.Common.{IsTrue, inl, inr, sym, ◌∙◌, arith}
use Rattle.std.proofs.lemmas.Bool.{false≢true, leb-true}
use Rattle.cycle_time.specs.Certificate.{IsCertificate}
use Rattle.cycle_time.proofs.WalkWeights.{no_greater}
use Rattle.cycle_time.proofs.acceptance.accept.Goals as goal
use Rattle.cycle_time.proofs.acceptance.accept.Goals.{then-given-ge1+then-has_ratio, then-given-ge1+else-has_ratio, else-given-ge1}

pub returns-then-is_idle-clause-greatest : goal.returns-then-is_idle-clause-greatest
returns-then-is_idle-clause-greatest c =
    λ yes. no_greater c.args.live.now.graph c.args.given.now.time c.args.given.now.cards c.args.given.now.potentials (rw c.graph-graph.ensures.graph at (c.are_potentials.ensures.0 yes))

pub returns-then-is_idle-clause-exact : goal.returns-then-is_idle-clause-exact
returns-then-is_idle-clause-exact c =
    let same = c.graph-graph.ensures.graph in
    let back = λ (is : IsCertificate c.args.live.now.graph c.args.given.now). c.are_potentials.ensures.1 (rw same is.potentials) in
    elim c.if-given-ge1.branch [
      | then-given-ge1+then-has_ratio w ↦ (
        λ yes. record {
          some = w.if-given-ge1.true;
          circuit = inl (rw same at (w.has_ratio.ensures.0 w.if-has_ratio.true));
          potentials = rw same at (c.are_potentials.ensures.0 yes);
        },
        back,
      )
      | then-given-ge1+else-has_ratio w ↦ (
        λ yes. record {
          some = w.if-given-ge1.true;
          circuit = inr (w.is_idle.ensures.0 (sym w.value-is ∙ c.if-is_idle.true));
          potentials = rw same at (c.are_potentials.ensures.0 yes);
        },
        back,
      )
      | else-given-ge1 w ↦ absurd (omega (arith, leb-true 1 c.args.given.now.cards (sym w.value-is ∙ c.if-is_idle.true), w.if-given-ge1.false))
    ]

pub returns-else-is_idle-clause-exact : goal.returns-else-is_idle-clause-exact
returns-else-is_idle-clause-exact c =
    let same = c.graph-graph.ensures.graph in
    let Is = IsCertificate c.args.live.now.graph c.args.given.now in
    let no : IsTrue c.if-given-ge1.value → ⊥ = λ yes. false≢true (sym c.if-is_idle.false ∙ yes) in
    elim c.if-given-ge1.branch [
      | then-given-ge1+then-has_ratio w ↦ (λ yes. absurd (no yes), λ (is : Is). w.value-is ∙ w.if-has_ratio.true)
      | then-given-ge1+else-has_ratio w ↦ (
        λ yes. absurd (no yes),
        λ (is : Is).
            elim is.circuit [
              | inl ratio ↦ absurd (false≢true (sym w.if-has_ratio.false ∙ w.has_ratio.ensures.1 (rw same ratio)))
              | inr idle ↦ w.value-is ∙ w.is_idle.ensures.1 idle
            ],
      )
      | else-given-ge1 w ↦ (λ yes. absurd (no yes), λ (is : Is). absurd (omega (arith, is.some, w.if-given-ge1.false)))
    ]

pub returns-else-is_idle-clause-greatest : goal.returns-else-is_idle-clause-greatest
returns-else-is_idle-clause-greatest c = λ yes. absurd (false≢true (sym c.if-is_idle.false ∙ yes))
