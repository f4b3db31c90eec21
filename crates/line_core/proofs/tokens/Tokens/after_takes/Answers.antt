use Rattle.line_core.proofs.Runs.{tokens-put}
use Rattle.std.proofs.Common.{arith, ℕ, ◌+◌, ◌-◌, ◌<◌, ◌^◌, length, drop}
use Rattle.std.proofs.lemmas.List.Elements.{All-take, All-drop}
use Rattle.line_core.proofs.tokens.Tokens.after_takes.Goals as goal

pub returns : goal.returns
returns c = tokens-put c.args.initial c.args.delay c.args.taken c.args.dates.now (omega arith)

pub invariant_of-result : goal.invariant_of-result
invariant_of-result c = c.requires.within

pub invariant_of-result-2 : goal.invariant_of-result-2
invariant_of-result-2 c =
    let Fits_ : ℕ → Type 0 = λ date. date + c.args.delay < 2 ^ 64 in
    let taken = c.args.taken - c.args.initial in
    let dates = c.args.dates.now in
    All-take Fits_ (length dates - taken) (drop taken dates) (All-drop Fits_ taken dates c.requires.within)
