use Rattle.std.proofs.Common.{◌++◌, ◌∷◌, [], true, false, inl, refl, ap, ◌∙◌, append_assoc}
use Rattle.outside_io.specs.RawFiles.{Named, Creates}
use Rattle.outside_io.proofs.RawFilesModel.{torn_in_place, others_grown, held_on_ok}
use Rattle.outside_io.proofs.file_writing.write_in_place.Goals as goal

pub returns-in-Ok-clause-asks : goal.returns-in-Ok-clause-asks
returns-in-Ok-clause-asks g c =
    let made = Creates c.args.name.now true in
    let rest = c.fill.ensures.asks in
    (made ∷ rest.0, rest.1 ∙ ap (λ xs. xs ++ rest.0) c.in-Ok.ensures.recorded ∙ append_assoc _ (made ∷ []) rest.0, (refl, rest.2))

pub returns-in-Ok-clause-written : goal.returns-in-Ok-clause-written
returns-in-Ok-clause-written g c =
    held_on_ok _ (g.F.RawFiles.shown c.args.files.now) (g.F.RawFiles.shown c.create.new.self) (g.F.RawFiles.shown c.fill.new.files) (Named c.args.name.now) c.args.bytes.now c.fill.result c.in-Ok.ensures.empty c.fill.ensures.written

pub returns-in-Ok-clause-torn : goal.returns-in-Ok-clause-torn
returns-in-Ok-clause-torn g c = λ known.
    torn_in_place (g.F.RawFiles.shown c.args.files.now) (g.F.RawFiles.shown c.create.new.self) (g.F.RawFiles.shown c.fill.new.files) (Named c.args.name.now) c.args.bytes.now (c.in-Ok.ensures.empty known) (c.fill.ensures.torn known)

pub returns-in-Ok-clause-others_stay : goal.returns-in-Ok-clause-others_stay
returns-in-Ok-clause-others_stay g c = λ known q other.
    let starts = c.in-Ok.ensures.empty known in
    let grows = c.fill.ensures.torn known in
    others_grown (g.F.RawFiles.shown c.create.new.self) (g.F.RawFiles.shown c.fill.new.files) (Named c.args.name.now) q _ starts.writes_to grows.1 other ∙ starts.others q other

pub returns-in-Err-clause-asks : goal.returns-in-Err-clause-asks
returns-in-Err-clause-asks g c = (Creates c.args.name.now false ∷ [], c.in-Err.ensures.recorded, (refl, refl, refl))

pub returns-in-Err-clause-torn : goal.returns-in-Err-clause-torn
returns-in-Err-clause-torn g c = λ known. inl (c.in-Err.ensures.stays known (Named c.args.name.now))

pub returns-in-Err-clause-others_stay : goal.returns-in-Err-clause-others_stay
returns-in-Err-clause-others_stay g c = λ known q other. c.in-Err.ensures.stays known q
