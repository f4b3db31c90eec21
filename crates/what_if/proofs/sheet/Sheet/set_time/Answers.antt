use Rattle.std.proofs.Common.{sym, subst, arith}
use Rattle.std.proofs.lemmas.Grind.{common_steps}
use Rattle.what_if.specs.Sheet.{IsSheet}
use Rattle.what_if.proofs.KeptSheets.{retimed-is_sheet}
use Rattle.what_if.proofs.sheet.Sheet.set_time.Goals as goal

pub returns-clause-retimed : goal.returns-clause-retimed
returns-clause-retimed c = grind (arith, common_steps)

pub returns-clause-kept : goal.returns-clause-kept
returns-clause-kept c =
    let sheet = subst IsSheet c.self.view_is c.self.invariant.sheet in
    subst IsSheet (sym (returns-clause-retimed c)) (retimed-is_sheet c.args.self.now sheet c.args.t c.args.n c.requires.date c.args.time c.requires.short)

pub invariant_of-self : goal.invariant_of-self
invariant_of-self c = record { sheet = returns-clause-kept c; same_ranks = c.self.invariant.same_ranks }
