use Rattle.std.proofs.lemmas.List.{take_all}
use Rattle.outside_io.proofs.OutgoingLemmas.{pushed_none, pushed_element}
use Rattle.date_causes.specs.declared.link.Cause.TheVariants.{DemandDate}
use Rattle.date_causes.specs.WhyText.{link_line}
use Rattle.date_causes.proofs.writing.write_links.Goals as goal

pub loop-link-init : goal.loop-link-init
loop-link-init g c = pushed_none _

pub loop-link-preserved : goal.loop-link-preserved
unfolding link_line
loop-link-preserved g c =
    let written = rw (c.label.ensures.text, c.cause_word-word.ensures, c.requires.of_plant.graph_is) at c.write_words.ensures in
    pushed_element (link_line c.args.plant.now) c.args.links.now c.loop-link.link-index (record { station = 0; job = 0; date = 0; cause = DemandDate; added = 0 }) c.loop-link-test.true c.loop-link.invariant written

pub returns : goal.returns
returns g c =
    let all = take_all c.loop-link.link-index c.args.links.now c.loop-link-test.false in
    rw all at c.loop-link.invariant
