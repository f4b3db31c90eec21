use Rattle.std.proofs.Common.{refl, sym, ap, ◌∙◌, subst}
use Rattle.outside_io.specs.Contents.{IsTorn}
use Rattle.outside_io.specs.RawFiles.{FilesView, Named, named_files}
use Rattle.outside_io.specs.Writing.{WritesCounted}
use Rattle.outside_io.proofs.CountedLemmas.{written_closed, same_closed}
use Rattle.outside_io.proofs.file_store.FileStoreStore.write.Goals as goal

pub returns : goal.returns
returns g c =
    let name = c.args.name.now in
    let bytes = c.args.bytes.now in
    let tells = g.F.RawFiles.tells in
    let old = g.F.RawFiles.shown c.args.self.now.files in
    let mid = g.F.RawFiles.shown c.write_counted-answer.new.files in
    let new = g.F.RawFiles.shown c.close.new.self in
    let close = c.close.ensures in
    let wrote = subst (λ r. WritesCounted tells old mid name bytes c.args.self.now.faults c.write_counted-answer.new.faults r) (sym c.note_write.ensures.same) c.write_counted-answer.ensures in
    record {
      asks = λ found. let asks = wrote.asks found in (
        asks.0,
        close.asks_nothing ∙ asks.1,
        (asks.2.0, λ empty. same_closed tells old mid new c.note_write.result close.stays (asks.2.1 empty)),
      );
      asks_nothing = λ memory. close.asks_nothing ∙ ap (λ (v : FilesView). v.asked) (wrote.untouched memory);
      closed = close.closed;
      recorded = c.note_write.ensures.noted;
      written = written_closed tells mid new name bytes c.note_write.result close.stays wrote.written;
      others_stay = λ known q apart. close.stays known (Named q) ∙ wrote.others_stay known q apart;
      torn = λ failed known. subst (λ held. IsTorn (named_files old name) held bytes) (sym (close.stays known (Named name))) (wrote.torn known);
      no_memory = λ memory known q. close.stays known (Named q) ∙ ap (λ (v : FilesView). named_files v q) (wrote.untouched memory);
      never_too_long = wrote.never_too_long;
      cause = wrote.cause;
      taken_stays = refl;
      faults_stay = wrote.faults_stay;
      faults_stay_or_rise = wrote.stays_or_rises;
      faults_rise_by_one = wrote.once;
      memory_is_no_fault = wrote.memory_is_no_fault;
    }
