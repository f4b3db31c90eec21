use Rattle.std.proofs.Common.{◌+◌, get_or, refl, subst, arith}
use Rattle.std.specs.Fork.{ChangesAt}
use Rattle.line_base.proofs.sharing.for_each_mut.Goals as goal

pub returns : goal.returns
returns g c i d low = (refl, subst (λ n. ChangesAt g.F.Fn c.args.f.now n (get_or c.args.s.now i d) (get_or c.call_by_parts.new.s i d)) {x = 0 + i} (omega arith) (c.call_by_parts.ensures.each i d low))
