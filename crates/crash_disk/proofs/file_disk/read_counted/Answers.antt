use Rattle.std.proofs.Common.{◌≡◌, ℕ, List, Bool, true, length, refl, sym, ap, ◌∙◌, subst, arith}
use Rattle.std.specs.Prelude.{Result, Ok, Err, is_ok, OnOk}
use Rattle.std.proofs.lemmas.Bool.{true≢false}
use Rattle.std.proofs.lemmas.List.{with_items_is}
use Rattle.crash_disk.specs.DiskView.{Image, bytes_at}
use Rattle.crash_disk.specs.RawFile.{RawCall, AsksToRead, zeros_behind, given_by, disk_of, raw_now}
use Rattle.crash_disk.specs.declared.disk.DiskError.{DiskError}
use Rattle.crash_disk.specs.declared.disk.DiskError.TheVariants as disk_error
use Rattle.crash_disk.proofs.RawModel.{passes_here}
use Rattle.crash_disk.proofs.Push.{error_is, counts_none, error_alone, no_error, failed_found_memory}
use Rattle.crash_disk.proofs.file_disk.read_counted.Goals as goal

-- what is asked of a file, for as many bytes as there is room for, and as it answered
asked : (broken is_open : Bool) (at n len : ℕ) (calls : List RawCall) (well known : Bool) → AsksToRead broken is_open at n calls well → n ≡ len → well ≡ known → AsksToRead broken is_open at len calls known
asked broken is_open at n len calls well known asks is same =
    subst (λ m. AsksToRead broken is_open at m calls known) is (subst (λ w. AsksToRead broken is_open at n calls w) same asks)

-- what holds of an answer, where there was one
holds : {T E P : Type 0} (r : Result T E) → true ≡ is_ok r → OnOk r P → P
holds (Ok x) is p = p
holds (Err e) is p = absurd (true≢false is)

-- the bytes of as many addresses as there is room for, and those that were given with zeros behind them
read_whole : (image : Image) (at n len : ℕ) (bytes : List ℕ) → bytes ≡ bytes_at image at n → n ≡ len → bytes ≡ bytes_at image at len
read_whole image at n len bytes read is = read ∙ ap (λ m. bytes_at image at m) is

given_whole : (n len : ℕ) (bytes given : List ℕ) → bytes ≡ zeros_behind n given → n ≡ len → bytes ≡ zeros_behind len given
given_whole n len bytes given read is = read ∙ ap (λ m. zeros_behind m given) is

pub returns-in_err-bytes : goal.returns-in_err-bytes
returns-in_err-bytes g c =
    let result = c.from_residual.result in
    let is = error_is result disk_error.NoMemory c.from_residual.ensures.1 in
    record {
      asks = λ found. absurd (found is);
      asks_nothing = λ memory. refl;
      count = error_alone result _ is;
      bytes = error_alone result _ is;
      stays = λ known. refl;
      time = λ known. passes_here (disk_of (g.F.RawFile.shown c.args.file.now));
      faults = counts_none _ result is;
    }

pub returns-in_err-count_fault : goal.returns-in_err-count_fault
returns-in_err-count_fault g c =
    let result = c.from_residual-in_err-count_fault.result in
    let error = c.in_err-count_fault.field-0.0 in
    let counted = c.in_err-count_fault.ensures in
    let given = error_is result error c.from_residual-in_err-count_fault.ensures.1 in
    let is = given ∙ ap (λ (e : DiskError). Err e) counted.failed in
    let read = c.read_file.ensures in
    record {
      asks = λ found. (
        read.asks.0,
        read.asks.1,
        (asked _ _ _ _ c.args.len read.asks.0 _ _ read.asks.2.0 (omega (arith, c.in_ok-bytes.ensures.len, c.deref_mut.ensures.len)) (sym counted.same ∙ sym (ap is_ok given)), error_alone result _ given),
      );
      asks_nothing = λ memory. absurd (failed_found_memory (sym is ∙ memory));
      count = error_alone result _ is;
      bytes = error_alone result _ is;
      stays = read.stays;
      time = read.time;
      faults = record {
        cause = λ failed. counted.cause;
        once = λ failed. counted.once;
        memory_is_no_fault = λ memory. absurd (failed_found_memory (sym is ∙ memory));
        faults_stay = error_alone result _ is;
        stays_or_rises = counted.stays_or_rises;
      };
    }

pub returns : goal.returns
returns g c =
    let bytes = c.read_file.new.bytes in
    let counted = c.in_ok-count_fault.ensures in
    let read = c.read_file.ensures in
    let items = with_items_is c.in_ok-bytes.bytes bytes (omega (arith, read.size, c.deref_mut.ensures.len)) in
    record {
      asks = λ found. (
        read.asks.0,
        read.asks.1,
        (
          asked _ _ _ _ c.args.len read.asks.0 _ _ read.asks.2.0 (omega (arith, c.in_ok-bytes.ensures.len, c.deref_mut.ensures.len)) (sym counted.same),
          items ∙ given_whole _ c.args.len bytes (given_by read.asks.0) (holds c.read_file.result counted.same read.asks.2.1) (omega (arith, c.in_ok-bytes.ensures.len, c.deref_mut.ensures.len)),
        ),
      );
      asks_nothing = λ memory. absurd (no_error _ _ memory);
      count = (let size = ap (λ (xs : List ℕ). length xs) items in omega (arith, size, read.size, c.in_ok-bytes.ensures.len, c.deref_mut.ensures.len));
      bytes = λ known.
          items ∙ read_whole (raw_now (g.F.RawFile.shown c.args.file.now)).bytes c.args.at _ c.args.len bytes (holds c.read_file.result counted.same read.bytes known) (omega (arith, c.in_ok-bytes.ensures.len, c.deref_mut.ensures.len));
      stays = read.stays;
      time = read.time;
      faults = record {
        cause = λ failed. absurd (no_error _ _ failed);
        once = λ failed. absurd (no_error _ _ failed);
        memory_is_no_fault = λ memory. absurd (no_error _ _ memory);
        faults_stay = counted.stays;
        stays_or_rises = counted.stays_or_rises;
      };
    }
