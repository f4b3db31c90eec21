use Rattle.std.proofs.Common.{◌≡◌, ℕ, ◌+◌, ◌<◌, length, refl, subst, arith}
use Rattle.std.proofs.lemmas.Result.{err_from_is_err_and}
use Rattle.line_summary.specs.Curve.{PutsRows}
use Rattle.line_summary.specs.declared.curve.CurveError.TheVariants.{Failed}
use Rattle.line_summary.proofs.PutRows.{no_rows, none_put, one_row, one_cut, rows_after, early_after, point_read}
use Rattle.line_summary.proofs.curve.write_block.Goals as goal

pub returns-in_err-room : goal.returns-in_err-room
returns-in_err-room g c =
    let p = err_from_is_err_and c.from_residual.result c.from_residual.ensures.1 in
    rw (p.1, p.2)
    (record { as_new = tt; rows = tt; early = none_put c.args.plant.now c.args.first c.args.size (g.K.Sink.shown c.args.sink.now) c.requires.some })

pub find_points-requires-clause-within : goal.find_points-requires-clause-within
find_points-requires-clause-within g c =
    omega (arith, c.requires.within, c.as_mut_slice-points.ensures.len, c.in_ok-room.ensures.len)

pub loop-i-init : goal.loop-i-init
loop-i-init g c = record {
  rows = no_rows c.args.plant.now c.args.first 0 (g.K.Sink.shown c.args.sink.now) refl;
  as_new = c.requires.empty;
}

pub write_row-requires : goal.write_row-requires
write_row-requires g c = c.loop-i.invariant.as_new

pub returns-in_err-write_row-in-Some : goal.returns-in_err-write_row-in-Some
returns-in_err-write_row-in-Some g c =
    let p = err_from_is_err_and c.from_residual-in_err-write_row-in-Some.result c.from_residual-in_err-write_row-in-Some.ensures.1 in
    let plant = c.args.plant.now in
    let first = c.args.first in
    let i = c.loop-i.i in
    let found = c.find_points.new.points in
    let low : i < length found = c.loop-i-test.true in
    let is = point_read plant first i found c.in-Some.point c.find_points.ensures.points low c.in-Some.is in
    let number : length found ≡ c.args.size = omega (arith, c.find_points.ensures.number, c.as_mut_slice-points.ensures.len, c.in_ok-room.ensures.len) in
    let puts = c.in_err-write_row-in-Some.ensures.puts in
    rw (p.1, p.2)
    (record {
      as_new = tt;
      rows = tt;
      early =
          early_after plant first (first + i) i 1 c.args.size _ _ _ Failed refl (omega (arith, low, number)) c.loop-i.invariant.rows
          (one_cut plant (first + i) c.in-Some.point _ _ is puts.prefix puts.cause);
    })

pub returns-in-None : goal.returns-in-None
returns-in-None g c =
    let found = c.find_points.new.points in
    let low : c.loop-i.i < length found = c.loop-i-test.true in
    let number : length found ≡ c.args.size = omega (arith, c.find_points.ensures.number, c.as_mut_slice-points.ensures.len, c.in_ok-room.ensures.len) in
    record {
      as_new = tt;
      rows = tt;
      early = record { done = c.loop-i.i; fewer = omega (arith, low, number); rows = c.loop-i.invariant.rows };
    }

pub loop-i-preserved : goal.loop-i-preserved
loop-i-preserved g c =
    let plant = c.args.plant.now in
    let first = c.args.first in
    let i = c.loop-i.i in
    let found = c.find_points.new.points in
    let is = point_read plant first i found c.in-Some.point c.find_points.ensures.points c.loop-i-test.true c.in-Some.is in
    let puts = c.in_ok-write_row-in-Some.ensures.puts in
    record {
      rows =
          rows_after plant first (first + i) i 1 (i + 1) _ _ _ refl refl c.loop-i.invariant.rows
          (one_row plant (first + i) c.in-Some.point _ _ is puts.written puts.faults_stay_or_rise);
      as_new = c.write_row.ensures.as_new;
    }

pub returns : goal.returns
returns g c =
    let all : c.loop-i.i ≡ c.args.size = omega (arith, c.loop-i-test.false, c.loop-i.auto.i-end, c.find_points.ensures.number, c.as_mut_slice-points.ensures.len, c.in_ok-room.ensures.len) in
    record {
      as_new = c.loop-i.invariant.as_new;
      rows = subst (λ (n : ℕ). PutsRows c.args.plant.now c.args.first n (g.K.Sink.shown c.args.sink.now) (g.K.Sink.shown c.loop-i.sink)) all c.loop-i.invariant.rows;
      early = tt;
    }
