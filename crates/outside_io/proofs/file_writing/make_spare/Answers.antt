use Rattle.std.proofs.Common.{◌≡◌, ◌≢◌, ◌++◌, ◌∷◌, [], ap, ◌∙◌, append_assoc}
use Rattle.std.specs.Prelude.{Result, Ok, Err, OnOk, OnErr, is_ok}
use Rattle.outside_io.specs.RawFiles.{FilesView, RawName, Spare, Removes, CreatesSpare, IsEmptyOpen, StartsEmpty, by_kind}
use Rattle.outside_io.proofs.file_writing.make_spare.Goals as goal

-- a file that starts empty is empty and open
opens_empty : (Known : Type 0) {T E : Type 0} (old new : FilesView) (file : RawName) (result : Result T E) → OnOk result (Known → StartsEmpty old new file) → OnOk result (Known → IsEmptyOpen new file)
opens_empty Known old new file (Ok made) starts = λ known. record {
  writes_to = (starts known).writes_to;
  empty = (starts known).empty;
}
opens_empty Known old new file (Err error) starts = tt

-- and each other is as it was, whether it was made or not
others_as_before : (Known : Type 0) {T E : Type 0} (old new : FilesView) (file : RawName) (result : Result T E) → OnOk result (Known → StartsEmpty old new file) → OnErr result (Known → (q : RawName) → new.held q ≡ old.held q) → Known → (q : RawName) → q ≢ file → new.held q ≡ old.held q
others_as_before Known old new file (Ok made) starts stays = λ known. (starts known).others
others_as_before Known old new file (Err error) starts stays = λ known q apart. stays known q

pub returns-clause-recorded : goal.returns-clause-recorded
returns-clause-recorded g c =
    let gone = Removes c.args.spare.now (is_ok c.remove.result) ∷ [] in
    let made = CreatesSpare c.args.spare.now (by_kind c.create_spare.result) ∷ [] in
    (is_ok c.remove.result, c.create_spare.ensures.recorded ∙ ap (λ xs. xs ++ made) c.remove.ensures.recorded ∙ append_assoc _ gone made)

pub returns-clause-empty : goal.returns-clause-empty
returns-clause-empty g c =
    opens_empty _ (g.F.RawFiles.shown c.remove.new.self) (g.F.RawFiles.shown c.create_spare.new.self) (Spare c.args.spare.now) c.create_spare.result c.create_spare.ensures.empty

pub returns-clause-others_stay : goal.returns-clause-others_stay
returns-clause-others_stay g c = λ known q apart.
    others_as_before _ (g.F.RawFiles.shown c.remove.new.self) (g.F.RawFiles.shown c.create_spare.new.self) (Spare c.args.spare.now) c.create_spare.result c.create_spare.ensures.empty c.create_spare.ensures.stays known q apart
    ∙ c.remove.ensures.others_stay known q apart
