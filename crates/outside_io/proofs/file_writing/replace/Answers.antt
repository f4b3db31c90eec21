use Rattle.std.proofs.Common.{◌∷◌, [], refl, true, false}
use Rattle.std.specs.Prelude.{Ok, Err}
use Rattle.outside_io.specs.RawFiles.{Removes, CreatesSpare, WritesBeside, WritesInPlace, Replaces, by_kind}
use Rattle.outside_io.proofs.WritesFileLemmas.{writes_behind, writes_none, writes_in_place, replaces_behind, after_making, kind_is}
use Rattle.outside_io.proofs.file_writing.replace.Goals as goal

pub returns-in-Ok : goal.returns-in-Ok
returns-in-Ok g c =
    let spare = c.args.spare.now in
    let name = c.args.name.now in
    let bytes = c.args.bytes.now in
    let mid = g.F.RawFiles.shown c.make_spare.new.files in
    let made = c.in-Ok.ensures in
    writes_behind g.F.RawFiles.tells (g.F.RawFiles.shown c.args.files.now) mid (g.F.RawFiles.shown c.write_beside.new.files) spare name bytes (Removes spare made.recorded.0 ∷ (CreatesSpare spare (Ok tt) ∷ [])) (WritesBeside spare name bytes) (Replaces spare name bytes) c.write_beside.result made.recorded.1 (λ calls. refl) (λ calls whole is. (refl, refl, is)) made.others_stay c.write_beside.ensures

pub returns-in-Err : goal.returns-in-Err
returns-in-Err g c =
    let spare = c.args.spare.now in
    let name = c.args.name.now in
    let bytes = c.args.bytes.now in
    let made = c.make_spare.ensures in
    let answer = by_kind c.make_spare.result in
    let in_place = c.write_in_place.ensures in
    writes_behind g.F.RawFiles.tells (g.F.RawFiles.shown c.args.files.now) (g.F.RawFiles.shown c.make_spare.new.files) (g.F.RawFiles.shown c.write_in_place.new.files) spare name bytes (Removes spare made.recorded.0 ∷ (CreatesSpare spare answer ∷ [])) (WritesInPlace name bytes) (Replaces spare name bytes) c.write_in_place.result made.recorded.1 (λ calls. refl) (λ calls whole is. replaces_behind spare name bytes made.recorded.0 answer (Err c.kind.result) (kind_is _ _ c.kind.result c.in-Err.is c.kind.ensures) calls whole (after_making spare name bytes c.kind.result true c.if-bars_new_files.ensures calls whole is)) made.others_stay
    (writes_in_place _ _ _ spare name bytes c.write_in_place.result in_place.asks in_place.written in_place.torn in_place.others_stay)

pub returns-in-Err-2 : goal.returns-in-Err-2
returns-in-Err-2 g c =
    let spare = c.args.spare.now in
    let name = c.args.name.now in
    let bytes = c.args.bytes.now in
    let made = c.make_spare.ensures in
    let answer = by_kind c.make_spare.result in
    writes_none g.F.RawFiles.tells (g.F.RawFiles.shown c.args.files.now) (g.F.RawFiles.shown c.make_spare.new.files) spare name bytes (Removes spare made.recorded.0 ∷ (CreatesSpare spare answer ∷ [])) (Replaces spare name bytes) _ made.recorded.1 (replaces_behind spare name bytes made.recorded.0 answer (Err c.kind.result) (kind_is _ _ c.kind.result c.in-Err.is c.kind.ensures) [] false (after_making spare name bytes c.kind.result false c.if-bars_new_files.ensures [] false (refl, refl))) made.others_stay
