use Rattle.std.proofs.Common.{[], ◌∷◌, ◌++◌, ◌∙◌, refl, arith}
use Rattle.checkpoint.proofs.ReadDates.{read_next, next_missing, read_all, left_after_all, kept_none, kept_few, date_kept}
use Rattle.checkpoint.proofs.log.read_dates.Goals as goal

pub loop-number-init : goal.loop-number-init
loop-number-init c = record {
  kept = kept_none c.args.format c.args.reader.now.rest c.args.count c.args.room c.args.log.now.dates c.requires.empty;
  room = refl;
  text = refl;
}

pub returns-in_default-clause-tells : goal.returns-in_default-clause-tells
returns-in_default-clause-tells c dates after given counted ends is =
    absurd (next_missing _ _ _ _ _ _ _ c.loop-number.invariant.kept.partly c.read_date.new.reader.rest c.loop-number-test.true c.in_default.ensures.tells dates after given counted ends is)

pub keep_date-requires-clause-so_far : goal.keep_date-requires-clause-so_far
keep_date-requires-clause-so_far c = kept_few _ _ _ _ _ _ _ _ c.loop-number.invariant.kept

pub loop-number-preserved : goal.loop-number-preserved
loop-number-preserved c =
    let k = c.loop-number.invariant.kept in
    let date = c.in-Some.date in
    let next = read_next _ _ _ _ _ _ _ k.partly date c.read_date.new.reader.rest c.loop-number-test.true c.in-Some.ensures.given c.in-Some.ensures.read c.in-Some.ensures.tells in
    let kept = date_kept c.loop-number.log c.keep_date.new.log c.loop-number.number c.args.room date k.dates k.partly.counted k.kept_is c.keep_date.ensures in
    record {
      kept = record { dates = k.dates ++ date ∷ []; partly = next; kept_is = kept.0 };
      room = kept.1 ∙ c.loop-number.invariant.room;
      text = c.in-Some.ensures.text ∙ c.loop-number.invariant.text;
    }

pub returns-clause-read : goal.returns-clause-read
returns-clause-read c _ =
    let k = c.loop-number.invariant.kept in
    record {
      dates = k.dates;
      given = k.partly.given;
      counted = omega (arith, k.partly.counted);
      is = read_all _ _ _ _ _ _ _ k.partly;
      kept_is = k.kept_is;
    }

pub returns-clause-tells : goal.returns-clause-tells
returns-clause-tells c dates after given counted ends is =
    (refl, left_after_all _ _ _ _ _ _ _ c.loop-number.invariant.kept.partly (omega arith) dates after given counted ends is)
