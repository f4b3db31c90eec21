-- Which bytes a command writes when it is done.
use Rattle.std.specs.Prelude.{ℕ, List, [], ◌++◌, codes, decimal}
use Rattle.command_line.specs.Screens.{help_text}
use Rattle.command_line.specs.Lines.{as_line}
use Rattle.line_report.specs.Reported.{report_of, summary_of}
use Rattle.date_causes.specs.Caused as caused
use Rattle.latest_dates.specs.Found as found
use Rattle.line_chart.specs.Picture as pictures
use Rattle.line_summary.specs.Summarized as summarized
use Rattle.line_chart.specs.DateTable as date_table
use Rattle.answers.specs.ChangesText.{changes_text}
use Rattle.answers.specs.declared.answer.Answer.{Answer}
use Rattle.answers.specs.declared.answer.Answer.TheVariants.{Help, Version, Text, Stopped, Reported, Summarized, Caused, Summary, Drawn, Dates, Latest, Curved, Changed}

-- the name and version of the program
abbrev pub version : List ℕ
version = as_line (codes "pull 1.0.0")

-- the bytes of an answer, which are known before any is written; of a curve none are
abbrev pub answer_bytes : Answer → List ℕ
answer_bytes (Help topic) = help_text topic
answer_bytes Version = version
answer_bytes (Text text) = text
answer_bytes (Stopped fired) = as_line (codes "stopped " ++ decimal fired)
answer_bytes (Reported report) = report_of report
answer_bytes (Summarized report) = summary_of report
answer_bytes (Caused causes) = caused.text_of causes
answer_bytes (Summary summary) = summarized.text_of summary
answer_bytes (Drawn chart) = pictures.text_of chart
answer_bytes (Dates dates) = date_table.text_of dates
answer_bytes (Latest latest) = found.text_of latest
answer_bytes (Curved counts) = []
answer_bytes (Changed changes) = changes_text changes
