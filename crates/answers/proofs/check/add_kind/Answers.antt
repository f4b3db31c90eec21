use Rattle.answers.proofs.check.add_kind.Goals as goal

pub returns-in-Stage : goal.returns-in-Stage
returns-in-Stage c = rw (c.in-Stage.is, ← c.name_of.ensures) c.add_words.ensures

pub returns-in-Conwip : goal.returns-in-Conwip
returns-in-Conwip c = rw (c.in-Conwip.is, ← c.name_of-in-Conwip.ensures) c.add_words-in-Conwip.ensures
