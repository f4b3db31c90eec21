use Rattle.std.proofs.Common.{◌≡◌, ℕ, ◌+◌, ◌-◌, subst, arith}
use Rattle.std.proofs.lemmas.Result.{err_from_is_err_and}
use Rattle.line_summary.specs.Curve.{PutsRows}
use Rattle.line_summary.specs.declared.curve.CurveError.TheVariants.{NoMemory}
use Rattle.line_summary.proofs.PutRows.{no_rows, none_put, rows_after, early_after}
use Rattle.line_summary.proofs.PrefixRows.{ends_early}
use Rattle.line_summary.proofs.curve.write_curve.Goals as goal

pub returns-in_err-least : goal.returns-in_err-least
returns-in_err-least g c =
    let p = err_from_is_err_and c.from_residual.result c.from_residual.ensures.1 in
    let none = none_put c.args.plant.now c.args.from (c.args.to + 1 - c.args.from) (g.K.Sink.shown c.args.sink.now) (omega (arith, c.requires.ordered)) in
    let ends = ends_early c.args.plant.now c.requires.sound c.requires.single c.args.from (c.args.to + 1 - c.args.from) (g.K.Sink.shown c.args.sink.now) (g.K.Sink.shown c.args.sink.now) NoMemory (omega (arith, c.requires.ordered, c.requires.within)) none in
    rw (p.1, p.2) (record { rows = tt; early = ends.0; prefix = ends.1 })

pub returns-in_err-out : goal.returns-in_err-out
returns-in_err-out g c =
    let p = err_from_is_err_and c.from_residual-in_err-out.result c.from_residual-in_err-out.ensures.1 in
    let none = none_put c.args.plant.now c.args.from (c.args.to + 1 - c.args.from) (g.K.Sink.shown c.args.sink.now) (omega (arith, c.requires.ordered)) in
    let ends = ends_early c.args.plant.now c.requires.sound c.requires.single c.args.from (c.args.to + 1 - c.args.from) (g.K.Sink.shown c.args.sink.now) (g.K.Sink.shown c.args.sink.now) NoMemory (omega (arith, c.requires.ordered, c.requires.within)) none in
    rw (p.1, p.2) (record { rows = tt; early = ends.0; prefix = ends.1 })

pub loop-next-init : goal.loop-next-init
loop-next-init g c = record {
  rows = no_rows c.args.plant.now c.args.from (c.args.from - c.args.from) (g.K.Sink.shown c.args.sink.now) (omega arith);
  as_new = c.in_ok-out.ensures;
  begun = omega arith;
  within = omega (arith, c.requires.ordered);
}

pub loop-next-smaller : goal.loop-next-smaller
loop-next-smaller g c = omega (arith, c.min-size.ensures, c.block_size-most.ensures, c.loop-next-test.true)

pub write_block-requires-clause-within : goal.write_block-requires-clause-within
write_block-requires-clause-within g c = omega (arith, c.min-size.ensures, c.loop-next-test.true, c.requires.within)

pub write_block-requires-clause-some : goal.write_block-requires-clause-some
write_block-requires-clause-some g c = omega (arith, c.min-size.ensures, c.block_size-most.ensures, c.loop-next-test.true)

pub write_block-requires-clause-empty : goal.write_block-requires-clause-empty
write_block-requires-clause-empty g c κs lives = c.loop-next.invariant.as_new

pub returns-in_err-write_block : goal.returns-in_err-write_block
returns-in_err-write_block g c =
    let p = err_from_is_err_and c.from_residual-in_err-write_block.result c.from_residual-in_err-write_block.ensures.1 in
    let before = c.loop-next.invariant in
    let early =
    early_after c.args.plant.now c.args.from c.loop-next.next (c.loop-next.next - c.args.from) c.min-size.result (c.args.to + 1 - c.args.from) _ _ _ _
    (omega (arith, before.begun)) (omega (arith, before.begun, c.min-size.ensures)) before.rows c.in_err-write_block.ensures.early
    in
    let ends = ends_early c.args.plant.now c.requires.sound c.requires.single c.args.from (c.args.to + 1 - c.args.from) _ _ _ (omega (arith, c.requires.ordered, c.requires.within)) early in
    rw (p.1, p.2) (record { rows = tt; early = ends.0; prefix = ends.1 })

pub loop-next-preserved : goal.loop-next-preserved
loop-next-preserved g c =
    let before = c.loop-next.invariant in
    record {
      rows =
          rows_after c.args.plant.now c.args.from c.loop-next.next (c.loop-next.next - c.args.from) c.min-size.result _ _ _ _
          (omega (arith, before.begun)) (omega (arith, before.begun)) before.rows c.in_ok-write_block.ensures.rows;
      as_new = c.in_ok-write_block.ensures.as_new;
      begun = omega (arith, before.begun);
      within = omega (arith, before.begun, c.min-size.ensures);
    }

pub returns : goal.returns
returns g c =
    let all : c.loop-next.next - c.args.from ≡ c.args.to + 1 - c.args.from = omega (arith, c.loop-next-test.false, c.loop-next.invariant.within) in
    record {
      rows = subst (λ (n : ℕ). PutsRows c.args.plant.now c.args.from n (g.K.Sink.shown c.args.sink.now) (g.K.Sink.shown c.loop-next.sink)) all c.loop-next.invariant.rows;
      early = tt;
      prefix = tt;
    }
