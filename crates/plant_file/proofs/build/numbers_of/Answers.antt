use Rattle.std.proofs.Common.{◌∙◌}
use Rattle.toml.specs.View.{view}
use Rattle.plant_keys.specs.Readers.{number_of}
use Rattle.plant_file.proofs.Built.{built_more, built_all}
use Rattle.plant_file.proofs.build.numbers_of.Goals as goal

pub loop-value-init : goal.loop-value-init
loop-value-init c = c.in_ok-numbers.ensures.items

pub loop-value-preserved : goal.loop-value-preserved
loop-value-preserved c =
    c.in_ok-push.ensures ∙ built_more
    (λ v. number_of 0 c.args.most 0 (view v))
    c.args.values.now c.loop-value.value-index c.value-item.result _ _ c.loop-value.invariant c.loop-value-test.true c.value-item.is c.number_of.ensures.read

pub returns : goal.returns
returns c =
    c.from_vec.ensures ∙ built_all (λ v. number_of 0 c.args.most 0 (view v)) c.args.values.now c.loop-value.value-index _ c.loop-value.invariant c.loop-value-test.false
