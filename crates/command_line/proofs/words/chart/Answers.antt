use Rattle.command_line.specs.Words.{after_chart}
use Rattle.command_line.proofs.ReadCommands.{reads}
use Rattle.command_line.proofs.Texts.{no_text, two_texts}
use Rattle.command_line.proofs.words.chart.Goals as goal

pub returns-in-empty : goal.returns-in-empty
unfolding after_chart
returns-in-empty c = let none = no_text c.args.words.now c.in-empty.len_below in reads _ _ (rw none) tt

pub returns-in-len2 : goal.returns-in-len2
unfolding after_chart
returns-in-len2 c =
    rw (
      two_texts c.args.words.now c.from-item.result c.to-item.result c.in-len2.len_at_least c.in-len2.len_below c.from-item.is c.to-item.is,
      ← c.as_str.ensures.value,
      ← c.as_str-in-len2.ensures.value,
    ) c.chart_window.ensures
