use Rattle.std.proofs.Common.{◌≡◌, true, false, eqb, ◌∙◌, refl, sym, arith, rules, tests}
use Rattle.std.proofs.lemmas.Iterator.{YieldsList-from_slice, IsFirst-from_position, index_from_first}
use Rattle.line_worker.specs.Teams.{index_in}
use Rattle.line_workers.proofs.link.index_in.Goals as goal

pub returns : goal.returns
returns c =
    let number = c.args.number in
    let first = IsFirst-from_position _ _ c.position.result (λ x. eqb x number ≡ true) (λ x. eqb x number ≡ false) c.position.ensures.ran (YieldsList-from_slice _ c.iter.ensures.rest) (λ x q k. search (rules, tests)) (λ x q k. search (rules, tests)) in
    c.unwrap_or.ensures
    ∙ sym (index_from_first (λ xs. index_in xs number) (λ x. eqb x number ≡ true) (λ x. eqb x number ≡ false) refl
    (λ x xs is. grind (arith, is)) (λ x xs isnt. grind (arith, isnt)) c.args.list.now c.position.result first)
