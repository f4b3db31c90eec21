use Rattle.std.proofs.Common.{refl, sym, arith}
use Rattle.toml.specs.View.{view}
use Rattle.plant_keys.proofs.FaultLists.{all_of_views}
use Rattle.plant_keys.proofs.FoundFaults.{finds_same}
use Rattle.plant_keys.proofs.GatheredFaults.{gathered_none, gathers, gathered_all, gathered_done}
use Rattle.plant_keys.proofs.rows.find_in_rows.Goals as goal

pub loop-n-init : goal.loop-n-init
loop-n-init g c = gathered_none _ _ _

pub returns-then-is_done : goal.returns-then-is_done
returns-then-is_done g c =
    let found = g.R.Rows.found c.args.search.now in
    finds_same _ _ _ _
    (gathered_done (λ n v. found n (view v)) c.args.rows.now c.loop-n.n _ _ c.loop-n.invariant (c.if-is_done.ensures refl))
    (sym (all_of_views found c.args.rows.now))

pub loop-n-preserved : goal.loop-n-preserved
loop-n-preserved g c =
    gathers (λ n v. g.R.Rows.found c.args.search.now n (view v)) c.args.rows.now c.loop-n.n c.index-rows-n.result _ _ _ c.loop-n.invariant (omega arith) c.index-rows-n.is c.find_in_row.ensures

pub returns : goal.returns
returns g c =
    let found = g.R.Rows.found c.args.search.now in
    finds_same _ _ _ _
    (gathered_all (λ n v. found n (view v)) c.args.rows.now c.loop-n.n _ _ c.loop-n.invariant (omega arith))
    (sym (all_of_views found c.args.rows.now))
