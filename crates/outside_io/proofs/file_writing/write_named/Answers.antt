use Rattle.std.proofs.Common.{◌∷◌, [], Bool, refl, ap, ◌∙◌, true, false}
use Rattle.std.specs.Prelude.{Ok, Err}
use Rattle.outside_io.specs.RawFiles.{Looks, WritesInPlace, Replaces, WritesNamed, by_kind}
use Rattle.outside_io.proofs.WritesFileLemmas.{looks_behind, writes_none, writes_in_place, after_answer, after_look, kind_is}
use Rattle.outside_io.proofs.file_writing.write_named.Goals as goal

pub returns-in-Ok-true : goal.returns-in-Ok-true
returns-in-Ok-true g c =
    looks_behind g.F.RawFiles.tells (g.F.RawFiles.shown c.args.files.now) (g.F.RawFiles.shown c.is_file.new.self) (g.F.RawFiles.shown c.replace.new.files) c.args.spare.now c.args.name.now c.args.bytes.now (by_kind c.is_file.result) (Replaces c.args.spare.now c.args.name.now c.args.bytes.now) c.replace.result c.is_file.ensures.recorded c.is_file.ensures.stays
    (after_answer c.args.spare.now c.args.name.now c.args.bytes.now _ (Ok true) (ap (λ r. by_kind r) c.in-Ok-true.is ∙ ap (λ (b : Bool). Ok b) c.in-Ok-true.field-0-test))
    c.replace.ensures

pub returns-in-Ok-false : goal.returns-in-Ok-false
returns-in-Ok-false g c =
    let in_place = c.write_in_place.ensures in
    looks_behind g.F.RawFiles.tells (g.F.RawFiles.shown c.args.files.now) (g.F.RawFiles.shown c.is_file.new.self) (g.F.RawFiles.shown c.write_in_place.new.files) c.args.spare.now c.args.name.now c.args.bytes.now (by_kind c.is_file.result) (WritesInPlace c.args.name.now c.args.bytes.now) c.write_in_place.result c.is_file.ensures.recorded c.is_file.ensures.stays
    (after_answer c.args.spare.now c.args.name.now c.args.bytes.now _ (Ok false) (ap (λ r. by_kind r) c.in-Ok-false.is ∙ ap (λ (b : Bool). Ok b) c.in-Ok-false.field-0-test))
    (writes_in_place _ _ _ c.args.spare.now c.args.name.now c.args.bytes.now c.write_in_place.result in_place.asks in_place.written in_place.torn in_place.others_stay)

pub returns-in-Err : goal.returns-in-Err
returns-in-Err g c =
    looks_behind g.F.RawFiles.tells (g.F.RawFiles.shown c.args.files.now) (g.F.RawFiles.shown c.is_file.new.self) (g.F.RawFiles.shown c.replace-in-Err.new.files) c.args.spare.now c.args.name.now c.args.bytes.now (by_kind c.is_file.result) (Replaces c.args.spare.now c.args.name.now c.args.bytes.now) c.replace-in-Err.result c.is_file.ensures.recorded c.is_file.ensures.stays
    (λ calls whole is. after_answer c.args.spare.now c.args.name.now c.args.bytes.now (by_kind c.is_file.result) (Err c.kind.result) (kind_is _ _ c.kind.result c.in-Err.is c.kind.ensures) calls whole (after_look c.args.spare.now c.args.name.now c.args.bytes.now c.kind.result true c.if-is_absent.ensures calls whole is))
    c.replace-in-Err.ensures

pub returns-in-Err-2 : goal.returns-in-Err-2
returns-in-Err-2 g c =
    let spare = c.args.spare.now in
    let bytes = c.args.bytes.now in
    let answer = by_kind c.is_file.result in
    writes_none g.F.RawFiles.tells (g.F.RawFiles.shown c.args.files.now) (g.F.RawFiles.shown c.is_file.new.self) spare c.args.name.now bytes (Looks c.args.name.now answer ∷ []) (WritesNamed spare c.args.name.now bytes) _ c.is_file.ensures.recorded (refl, after_answer spare c.args.name.now bytes answer (Err c.kind.result) (kind_is _ _ c.kind.result c.in-Err.is c.kind.ensures) [] false (after_look spare c.args.name.now bytes c.kind.result false c.if-is_absent.ensures [] false (refl, refl))) (λ known q other. c.is_file.ensures.stays known q)
