use Rattle.std.proofs.Common.{◌≡◌, sym, ◌∙◌, subst}
use Rattle.std.specs.Prelude.{Some, IfOk, IsErrOf, IsTrue}
use Rattle.outside_io.specs.Calls.{bytes_of}
use Rattle.outside_io.specs.Contents.{IsLongerThan}
use Rattle.outside_io.specs.RawFiles.{AsksToRead, named_files}
use Rattle.outside_io.specs.Reading.{TakesToLimit}
use Rattle.outside_io.specs.declared.store.StoreError.TheVariants as store_error
use Rattle.outside_io.proofs.file_store.FileStoreStore.read.Goals as goal

pub returns : goal.returns
returns g c =
    let name = c.args.name.now in
    let limit = c.args.limit in
    let old = g.F.RawFiles.shown c.args.self.now.files in
    let read = c.read_file-answer.ensures in
    let same = sym c.note_read.ensures.same in
    let takes = subst (λ r. TakesToLimit limit c.read_file-answer.new.taken c.args.self.now.faults c.read_file-answer.new.faults r) same read.takes in
    record {
      asks = (
        read.asks.0,
        c.close.ensures.asks_nothing ∙ read.asks.1,
        (subst (λ r. AsksToRead name limit read.asks.0 (bytes_of r)) same read.asks.2.0, read.asks.2.1),
      );
      closed = c.close.ensures.closed;
      recorded = c.note_read.ensures.noted;
      bytes = subst (λ r. IfOk r (λ v. IsTrue g.F.RawFiles.tells → named_files old name ≡ Some v.items)) same read.bytes;
      within_limit = takes.within_limit;
      took_them = takes.took_them;
      too_long = takes.too_long;
      one_more_at_most = takes.one_more_at_most;
      longer = subst (λ r. IsErrOf r store_error.TooLong → IsTrue g.F.RawFiles.tells → IsLongerThan limit (named_files old name)) same read.longer;
      cause = takes.cause;
      files_stay = λ known q. c.close.ensures.stays known q ∙ read.stays known q;
      faults_stay = takes.faults_stay;
      faults_stay_or_rise = takes.faults_stay_or_rise;
      faults_rise_by_one = takes.once;
      memory_is_no_fault = takes.memory_is_no_fault;
    }
