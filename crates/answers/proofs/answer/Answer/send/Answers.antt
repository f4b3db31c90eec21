use Rattle.answers.proofs.Sent.{bytes_put}
use Rattle.answers.proofs.answer.Answer.send.Goals as goal

pub returns-in-Help : goal.returns-in-Help
returns-in-Help g c =
    rw (c.in-Help.is, c.whole.ensures)
    (bytes_put _ _ (rw (c.as_bytes.ensures.value, c.help_text.ensures) at c.put_text.ensures))

pub returns-in-Text : goal.returns-in-Text
returns-in-Text g c =
    rw (c.in-Text.is, c.whole-in-Text.ensures)
    (bytes_put _ _ (rw c.as_slice.ensures at c.put_text-in-Text.ensures))

pub returns-in-Stopped : goal.returns-in-Stopped
returns-in-Stopped g c =
    rw (c.in-Stopped.is, c.whole-in-Stopped.ensures) (bytes_put _ _ c.put_stopped.ensures)

pub returns-in-Reported : goal.returns-in-Reported
returns-in-Reported g c =
    rw (c.in-Reported.is, c.whole-in-Reported.ensures) (bytes_put _ _ c.write.ensures.puts)

pub returns-in-Summarized : goal.returns-in-Summarized
returns-in-Summarized g c =
    rw (c.in-Summarized.is, c.whole-in-Summarized.ensures) (bytes_put _ _ c.write_summary.ensures.puts)

pub returns-in-Caused : goal.returns-in-Caused
returns-in-Caused g c =
    rw (c.in-Caused.is, c.whole-in-Caused.ensures) (bytes_put _ _ c.write-in-Caused.ensures.puts)

pub returns-in-Summary : goal.returns-in-Summary
returns-in-Summary g c =
    rw (c.in-Summary.is, c.whole-in-Summary.ensures) (bytes_put _ _ c.write-in-Summary.ensures.puts)

pub returns-in-Drawn : goal.returns-in-Drawn
returns-in-Drawn g c =
    rw (c.in-Drawn.is, c.whole-in-Drawn.ensures) (bytes_put _ _ c.write-in-Drawn.ensures.puts)

pub returns-in-Dates : goal.returns-in-Dates
returns-in-Dates g c =
    rw (c.in-Dates.is, c.whole-in-Dates.ensures) (bytes_put _ _ c.write-in-Dates.ensures.puts)

pub returns-in-Latest : goal.returns-in-Latest
returns-in-Latest g c =
    rw (c.in-Latest.is, c.whole-in-Latest.ensures) (bytes_put _ _ c.write-in-Latest.ensures.puts)

pub returns-in-Changed : goal.returns-in-Changed
returns-in-Changed g c =
    rw (c.in-Changed.is, c.whole-in-Changed.ensures) (bytes_put _ _ c.write-in-Changed.ensures.puts)

pub returns-in-Curved : goal.returns-in-Curved
returns-in-Curved g c = rw c.in-Curved.is c.write-in-Curved.ensures
