use Rattle.command_line.specs.Words.{after_why}
use Rattle.command_line.proofs.Texts.{two_texts}
use Rattle.command_line.proofs.words.why.Goals as goal

pub returns-in-len2 : goal.returns-in-len2
unfolding after_why
returns-in-len2 c =
    rw (
      two_texts c.args.words.now c.label-item.result c.job-item.result c.in-len2.len_at_least c.in-len2.len_below c.label-item.is c.job-item.is,
      ← c.as_str.ensures.value,
      ← c.as_str-in-len2.ensures.value,
    ) c.why_date.ensures
