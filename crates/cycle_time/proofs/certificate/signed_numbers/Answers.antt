use Rattle.std.proofs.Common.{◌∙◌, ◌++◌, ◌∷◌, [], sym, ap, map, take, get_or, arith}
use Rattle.std.specs.Prelude.{pos}
use Rattle.std.proofs.lemmas.Int.{ints, to_z_pos}
use mir.Syntax.{w128}
use Rattle.std.proofs.lemmas.List.{take_more, take_all, map_push}
use Rattle.cycle_time.proofs.certificate.signed_numbers.Goals as goal

pub overflow_cast-n : goal.overflow_cast-n
overflow_cast-n c = omega (arith, ints, c.requires c.loop-n.n-index 0 c.loop-n-test.true)

pub loop-n-preserved : goal.loop-n-preserved
loop-n-preserved c =
    let numbers = c.args.numbers.now in
    let i = c.loop-n.n-index in
    let n = get_or numbers i 0 in
    c.in_ok-push.ensures.items
    ∙ ap (λ last. c.loop-n.all.items ++ last ∷ []) (to_z_pos w128 n (omega (arith, c.requires i 0 c.loop-n-test.true)))
    ∙ ap (λ all. all ++ pos n ∷ []) c.loop-n.invariant
    ∙ sym (map_push pos (take i numbers) n)
    ∙ ap (map pos) (sym (take_more numbers i 0 c.loop-n-test.true))

pub returns : goal.returns
returns c = c.loop-n.invariant ∙ ap (map pos) (take_all c.loop-n.n-index c.args.numbers.now c.loop-n-test.false)
