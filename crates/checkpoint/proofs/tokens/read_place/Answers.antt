use Rattle.std.proofs.Common.{◌++◌, List, ℕ, ap, ◌∙◌, refl}
use Rattle.checkpoint.specs.Text.{place_words, dates_text}
use Rattle.checkpoint.specs.Reading.{or_first, unlike_tokens}
use Rattle.checkpoint.proofs.ReadDates.{count_missing, dates_missing, end_missing, dates_read}
use Rattle.checkpoint.proofs.tokens.read_place.Goals as goal

pub returns-then-not-pass_place-clause-tells : goal.returns-then-not-pass_place-clause-tells
returns-then-not-pass_place-clause-tells c dates after given is =
    let passed = c.if-not-pass_place.ensures.tells (dates_text c.args.format dates ++ after) is in
    let none : ⊥ = cc passed.0 in
    absurd none

pub returns-in_default-clause-tells : goal.returns-in_default-clause-tells
returns-in_default-clause-tells c dates after given is =
    let passed = c.if-not-pass_place.ensures.tells (dates_text c.args.format dates ++ after) is in
    absurd (count_missing c.args.format c.pass_place.new.reader.rest c.read_count.new.reader.rest dates after given passed.1 c.in_default.ensures.tells)

pub returns-then-not-compare_dates-clause-tells : goal.returns-then-not-compare_dates-clause-tells
returns-then-not-compare_dates-clause-tells c dates after given is =
    let passed = c.if-not-pass_place.ensures.tells (dates_text c.args.format dates ++ after) is in
    absurd (dates_missing c.args.format c.pass_place.new.reader.rest c.read_count.new.reader.rest dates after given passed.1 c.in-Some.count c.in-Some.ensures.tells c.compare_dates.new.reader.rest c.if-not-compare_dates.ensures.tells)

pub returns-then-not-pass-clause-tells : goal.returns-then-not-pass-clause-tells
returns-then-not-pass-clause-tells c dates after given is =
    let passed = c.if-not-pass_place.ensures.tells (dates_text c.args.format dates ++ after) is in
    absurd (end_missing c.args.format c.pass_place.new.reader.rest c.read_count.new.reader.rest dates after given passed.1 c.in-Some.count c.in-Some.ensures.tells c.compare_dates.result c.compare_dates.new.reader.rest c.pass.new.self.rest c.compare_dates.ensures.tells c.if-not-pass.ensures.tells)

pub returns-clause-read : goal.returns-clause-read
returns-clause-read c =
    let k = c.if-not-compare_dates.ensures.read refl in
    record {
      dates = k.dates;
      given = k.given;
      counted = k.counted;
      is =
          c.if-not-pass_place.ensures.passed refl
          ∙ ap (λ (l : List ℕ). place_words c.args.a ++ l)
          (dates_read c.args.format c.pass_place.new.reader.rest c.read_count.new.reader.rest c.compare_dates.new.reader.rest c.pass.new.self.rest k.dates c.in-Some.count c.in-Some.ensures.read k.is k.counted (c.if-not-pass.ensures.passed refl));
      noted_is = k.noted_is ∙ ap (λ (l : List ℕ). or_first c.args.noted.now (unlike_tokens c.args.a k.dates l)) c.tokens_left.ensures;
    }

pub returns-in_default-clause-text : goal.returns-in_default-clause-text
returns-in_default-clause-text c = c.in_default.ensures.text ∙ c.if-not-pass_place.ensures.text

pub returns-then-not-compare_dates-clause-text : goal.returns-then-not-compare_dates-clause-text
returns-then-not-compare_dates-clause-text c =
    c.if-not-compare_dates.ensures.text ∙ c.in-Some.ensures.text ∙ c.if-not-pass_place.ensures.text

pub returns-then-not-pass-clause-text : goal.returns-then-not-pass-clause-text
returns-then-not-pass-clause-text c =
    c.if-not-pass.ensures.text
    ∙ c.if-not-compare_dates.ensures.text ∙ c.in-Some.ensures.text ∙ c.if-not-pass_place.ensures.text

pub returns-clause-text : goal.returns-clause-text
returns-clause-text c =
    c.if-not-pass.ensures.text
    ∙ c.if-not-compare_dates.ensures.text ∙ c.in-Some.ensures.text ∙ c.if-not-pass_place.ensures.text
