use Rattle.std.proofs.Common.{◌∙◌, refl}
use Rattle.checkpoint.proofs.ReadDates.{count_missing, dates_missing, end_missing, line_kept}
use Rattle.checkpoint.proofs.log.read_log.Goals as goal

pub returns-in_default-clause-tells : goal.returns-in_default-clause-tells
returns-in_default-clause-tells c dates after given is =
    absurd (count_missing c.args.format c.args.reader.now.rest c.read_count.new.reader.rest dates after given is c.in_default.ensures.tells)

pub returns-then-not-read_dates-clause-tells : goal.returns-then-not-read_dates-clause-tells
returns-then-not-read_dates-clause-tells c dates after given is =
    absurd (dates_missing c.args.format c.args.reader.now.rest c.read_count.new.reader.rest dates after given is c.in-Some.count c.in-Some.ensures.tells c.read_dates.new.reader.rest c.if-not-read_dates.ensures.tells)

pub returns-then-not-pass-clause-tells : goal.returns-then-not-pass-clause-tells
returns-then-not-pass-clause-tells c dates after given is =
    absurd (end_missing c.args.format c.args.reader.now.rest c.read_count.new.reader.rest dates after given is c.in-Some.count c.in-Some.ensures.tells c.read_dates.result c.read_dates.new.reader.rest c.pass.new.self.rest c.read_dates.ensures.tells c.if-not-pass.ensures.tells)

pub returns-clause-read : goal.returns-clause-read
returns-clause-read c =
    line_kept c.args.format c.args.reader.now.rest c.read_count.new.reader.rest c.read_dates.new.reader.rest c.pass.new.self.rest c.read_dates.new.log.dates c.in-Some.count c.args.room c.in-Some.ensures.read (c.if-not-read_dates.ensures.read refl) (c.if-not-pass.ensures.passed refl)

pub returns-then-not-read_dates-clause-text : goal.returns-then-not-read_dates-clause-text
returns-then-not-read_dates-clause-text c = c.if-not-read_dates.ensures.text ∙ c.in-Some.ensures.text

pub returns-then-not-pass-clause-text : goal.returns-then-not-pass-clause-text
returns-then-not-pass-clause-text c =
    c.if-not-pass.ensures.text ∙ c.if-not-read_dates.ensures.text ∙ c.in-Some.ensures.text

pub returns-clause-text : goal.returns-clause-text
returns-clause-text c = c.if-not-pass.ensures.text ∙ c.if-not-read_dates.ensures.text ∙ c.in-Some.ensures.text
