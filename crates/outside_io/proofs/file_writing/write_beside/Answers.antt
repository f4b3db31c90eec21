use Rattle.std.proofs.Common.{◌++◌, ◌∷◌, [], refl, sym, ap, ◌∙◌, append_assoc, append-nil}
use Rattle.std.specs.Prelude.{is_ok}
use Rattle.std.proofs.lemmas.Bool.{false≢true, true≢false}
use Rattle.outside_io.specs.RawFiles.{Named, Removes}
use Rattle.outside_io.proofs.RawFilesModel.{named_not_spare}
use Rattle.outside_io.proofs.WritesFileLemmas.{writes_beside}
use Rattle.outside_io.proofs.file_writing.write_beside.Goals as goal

pub returns-in-Ok : goal.returns-in-Ok
returns-in-Ok g c =
    let filled = c.in-Ok.ensures in
    writes_beside g.F.RawFiles.tells (g.F.RawFiles.shown c.args.files.now) (g.F.RawFiles.shown c.fill_and_rename.new.files) c.args.spare.now c.args.name.now c.args.bytes.now _ (
      filled.asks.0,
      filled.asks.1,
      record {
        first = filled.asks.0;
        last = [];
        split = sym (append-nil filled.asks.0);
        are = filled.asks.2;
        keeps = λ well. refl;
        removes = λ is. absurd (true≢false is);
      },
    ) filled.written tt c.fill_and_rename.ensures.others_stay

pub returns-in-Err : goal.returns-in-Err
returns-in-Err g c =
    let filled = c.in-Err.ensures.asks in
    let spare = c.args.spare.now in
    let last = Removes spare (is_ok c.remove.result) ∷ [] in
    writes_beside g.F.RawFiles.tells (g.F.RawFiles.shown c.args.files.now) (g.F.RawFiles.shown c.remove.new.self) spare c.args.name.now c.args.bytes.now _ (
      filled.0 ++ last,
      c.remove.ensures.recorded ∙ ap (λ xs. xs ++ last) filled.1 ∙ append_assoc _ filled.0 last,
      record {
        first = filled.0;
        last = last;
        split = refl;
        are = filled.2;
        keeps = λ is. absurd (false≢true is);
        removes = λ wrong. (is_ok c.remove.result, refl);
      },
    ) tt (λ known q. c.remove.ensures.others_stay known (Named q) (named_not_spare q spare) ∙ c.in-Err.ensures.unharmed known (Named q) (named_not_spare q spare)) (λ known q other apart. c.remove.ensures.others_stay known q apart ∙ c.fill_and_rename.ensures.others_stay known q other apart)
