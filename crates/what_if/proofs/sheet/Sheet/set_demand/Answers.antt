use Rattle.std.proofs.Common.{sym, subst, arith}
use Rattle.std.proofs.lemmas.Grind.{common_steps}
use Rattle.what_if.specs.Sheet.{IsSheet}
use Rattle.what_if.proofs.KeptSheets.{redemanded-is_sheet}
use Rattle.what_if.proofs.sheet.Sheet.set_demand.Goals as goal

pub returns-clause-redemanded : goal.returns-clause-redemanded
returns-clause-redemanded c = grind (arith, common_steps)

pub returns-clause-kept : goal.returns-clause-kept
returns-clause-kept c =
    let sheet = subst IsSheet c.self.view_is c.self.invariant.sheet in
    subst IsSheet (sym (returns-clause-redemanded c)) (redemanded-is_sheet c.args.self.now sheet c.args.n c.args.date c.requires.in_order c.requires.early)

pub invariant_of-self : goal.invariant_of-self
invariant_of-self c = record { sheet = returns-clause-kept c; same_ranks = c.self.invariant.same_ranks }
