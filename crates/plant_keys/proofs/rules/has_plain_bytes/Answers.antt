use Rattle.std.proofs.Common.{sym, refl, arith}
use Rattle.std.proofs.lemmas.List.{take_all}
use Rattle.std.proofs.lemmas.List.Folds.{list_all_at, list_all_more}
use Rattle.plant_keys.specs.Rules.{is_plain}
use Rattle.plant_keys.proofs.rules.has_plain_bytes.Goals as goal

pub loop-byte-init : goal.loop-byte-init
loop-byte-init c = refl

pub returns-then-not-is_plain : goal.returns-then-not-is_plain
returns-then-not-is_plain c =
    sym (list_all_at is_plain c.args.key.now c.loop-byte.byte-index 0 (omega arith) (sym c.if-not-is_plain.ensures))

pub loop-byte-preserved : goal.loop-byte-preserved
loop-byte-preserved c =
    rw (list_all_more is_plain c.args.key.now c.loop-byte.byte-index 0 (omega arith), c.loop-byte.invariant)
    (sym c.if-not-is_plain.ensures)

pub returns : goal.returns
returns c = sym (rw (take_all c.loop-byte.byte-index c.args.key.now (omega arith)) at c.loop-byte.invariant)
