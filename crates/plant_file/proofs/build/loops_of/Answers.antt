use Rattle.std.proofs.Common.{◌∙◌}
use Rattle.toml.specs.View.{view}
use Rattle.plant_keys.proofs.ValueLists.{map_views}
use Rattle.plant_file.specs.Reading.{loop_of}
use Rattle.plant_file.proofs.Built.{built_more, built_all}
use Rattle.plant_file.proofs.build.loops_of.Goals as goal

pub loop-card_loop-init : goal.loop-card_loop-init
loop-card_loop-init c = c.in_ok-drafts.ensures.items

pub loop-card_loop-preserved : goal.loop-card_loop-preserved
loop-card_loop-preserved c =
    c.in_ok-push.ensures
    ∙ built_more (λ l. loop_of c.args.names.now (view l)) c.tables_at-loops.result.now c.loop-card_loop.card_loop-index c.card_loop-item.result _ _
    c.loop-card_loop.invariant c.loop-card_loop-test.true c.card_loop-item.is c.in_ok-loop_of.ensures

pub returns : goal.returns
returns c =
    let loops = c.tables_at-loops.result.now in
    rw (← c.tables_at-loops.ensures, map_views (loop_of c.args.names.now) loops)
    (c.from_vec.ensures ∙ built_all (λ l. loop_of c.args.names.now (view l)) loops c.loop-card_loop.card_loop-index _ c.loop-card_loop.invariant c.loop-card_loop-test.false)
