use Rattle.std.proofs.Common.{◌≡◌, length, arith}
use Rattle.std.proofs.lemmas.List.{get_or_default}
use Rattle.line_graph.proofs.circuit.index_of_least.Goals as goal

pub loop-index-init : goal.loop-index-init
loop-index-init c = record {
  within = omega arith;
  inside = λ some. some;
  least = λ k low. absurd (omega (arith, low));
}

pub returns : goal.returns
returns c =
    let at = c.loop-index in
    let numbers = c.args.numbers.now in
    let all : at.index ≡ length numbers = omega (arith, at.auto.index-end, c.loop-index-test.false) in
    record {
      within = omega (arith, at.invariant.within, all);
      inside = λ some. omega (arith, at.invariant.inside (omega (arith, some, all)), all);
      least = λ k d low. omega (arith, at.invariant.least k (omega (arith, low, all)), get_or_default numbers k d 0 low);
    }
