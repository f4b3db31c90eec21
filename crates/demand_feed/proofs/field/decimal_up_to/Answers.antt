use Rattle.std.proofs.Common.{◌≡◌, ◌∙◌, true, sym, ap, arith}
use Rattle.std.specs.Str.Parse.{digits_value}
use Rattle.demand_feed.specs.Field.{is_decimal}
use Rattle.demand_feed.proofs.Decimals.{above-limit, IsUtf8-digits, decimal_up_to-large, decimal_up_to-other, decimal_up_to-small, has_one, parse-digits}
use Rattle.demand_feed.proofs.field.decimal_up_to.Goals as goal

pub returns-then-not-is_decimal : goal.returns-then-not-is_decimal
returns-then-not-is_decimal c = decimal_up_to-other c.args.most c.args.text.now (sym c.if-not-is_decimal.ensures)

pub returns-in_default : goal.returns-in_default
returns-in_default c = absurd (c.in_default.ensures.cases.0 (IsUtf8-digits c.args.text.now (sym c.if-not-is_decimal.ensures)))

pub returns-in-Ok-parse : goal.returns-in-Ok-parse
returns-in-Ok-parse c =
    let same = c.in-Ok.ensures.cases.0 in
    let digits : is_decimal c.in-Ok.text.now ≡ true = rw same (sym c.if-not-is_decimal.ensures) in
    let read = rw c.in-Ok-parse.is at (parse-digits c.in-Ok.text.now c.parse.result digits c.parse.ensures.value.0) in
    decimal_up_to-small c.args.most c.args.text.now c.in-Ok-parse.number (sym c.if-not-is_decimal.ensures) (read.1 ∙ ap (digits_value 10) same) c.if-number-most.true

pub returns-in_default-parse : goal.returns-in_default-parse
returns-in_default-parse c =
    let same = c.in-Ok.ensures.cases.0 in
    let digits : is_decimal c.in-Ok.text.now ≡ true = rw same (sym c.if-not-is_decimal.ensures) in
    let read = rw c.in-Ok-parse.is at (parse-digits c.in-Ok.text.now c.parse.result digits c.parse.ensures.value.0) in
    let value = read.1 ∙ ap (digits_value 10) same in
    decimal_up_to-large c.args.most c.args.text.now (omega arith)

pub returns-in_default-parse-2 : goal.returns-in_default-parse-2
returns-in_default-parse-2 c =
    let same = c.in-Ok.ensures.cases.0 in
    let digits : is_decimal c.in-Ok.text.now ≡ true = rw same (sym c.if-not-is_decimal.ensures) in
    let refused = rw c.in_default-parse.is at (parse-digits c.in-Ok.text.now c.parse.result digits c.parse.ensures.value.0) in
    let large = above-limit _ c.args.most _ c.ranges.most.fits (has_one c.in-Ok.text.now digits) refused in
    decimal_up_to-large c.args.most c.args.text.now (rw same at large)
