use Rattle.std.proofs.Common.{◌≡◌, ◌≢◌, ℕ, List, ◌+◌, ◌-◌, ◌^◌, ◌<◌, ◌≤◌, min, ◌++◌, ◌∷◌, [], length, take, refl, sym, ap, ◌∙◌, subst, append-nil, arith}
use Rattle.std.specs.Prelude.{Some, None, Err}
use Rattle.std.proofs.lemmas.List.{length-take}
use Rattle.std.proofs.lemmas.Result.{err_from_is_err_and}
use Rattle.outside_io.specs.Calls.{bytes_of}
use Rattle.outside_io.specs.RawFiles.{Reads, ReadsOn}
use Rattle.outside_io.proofs.RawFilesRuns.{reads_more, reads_no_memory, reads_end, reads_too_long, reads_refused, given_by-more, one_more, reads_with, taken_more, taken_same, left_more, longer_left, longer_by}
use Rattle.outside_io.proofs.ReadingLemmas.{takes_all, takes_too_long, takes_until_refused, takes_no_memory}
use Rattle.outside_io.specs.declared.store.StoreError.{StoreError}
use Rattle.outside_io.proofs.file_reading.read_to_limit.Goals as goal

-- one turn: how much was asked for behind the bytes so far, and how much was given
record Turn (limit most count : ℕ) (bytes got : List ℕ) : Type 0 where
  some : 0 < most
  room : length bytes + most ≤ limit + 1
  size : length got ≡ count

turn_of : (limit most taken count : ℕ) (bytes old new : List ℕ) → taken ≡ length bytes → length old ≡ 16384 → length new ≡ length old → count ≤ most → 0 < most → taken + most ≤ limit + 1 → most ≤ 16384 → Turn limit most count bytes (take count new)
turn_of limit most taken count bytes old new same full kept bound some room fits = record {
  some = some;
  room = omega (arith, same, room);
  size = omega (arith, length-take count new, fits, full, kept, bound);
}

-- some were given, within the limit
fits_within : {limit most count : ℕ} {bytes got : List ℕ} (turn : Turn limit most count bytes got) (taken : ℕ) → taken ≡ length bytes → count ≢ 0 → taken + count ≤ limit → (0 < length got) × (length bytes + length got ≤ limit)
fits_within turn taken same some few =
    let size = turn.size in
    (omega (arith, some, size), omega (arith, same, few, size))

-- or more than it
goes_over : {limit most count : ℕ} {bytes got : List ℕ} (turn : Turn limit most count bytes got) (taken : ℕ) → taken ≡ length bytes → count ≢ 0 → limit < taken + count → (0 < length got) × (limit < length bytes + length got)
goes_over turn taken same some many =
    let size = turn.size in
    (omega (arith, some, size), omega (arith, same, many, size))

pub loop-bytes-preserved : goal.loop-bytes-preserved
loop-bytes-preserved g c =
    let before = c.loop-bytes.invariant in
    let once = c.in_ok-count.ensures in
    let asks = c.turn_size-most.ensures in
    let turn = turn_of c.args.limit c.turn_size-most.result c.loop-bytes.taken c.in_ok-count.count c.loop-bytes.bytes.items c.loop-bytes.buffer c.read_once.new.buffer before.taken before.size once.size once.bound asks.some asks.within asks.fits in
    let fits = fits_within turn c.loop-bytes.taken before.taken c.if-count-eq0.false c.if-taken-limit.false in
    let got = take c.in_ok-count.count c.read_once.new.buffer in
    let items = c.in_ok-extend_from_slice.ensures.items in
    let long = longer_by c.loop-bytes.bytes.items c.extend_from_slice.new.self.items got items in
    record {
      is_open = once.open_stays;
      calls = (
        before.calls.0 ++ Reads c.turn_size-most.result (Some got) ∷ [],
        one_more _ _ _ before.calls.0 _ before.calls.1 once.recorded,
        reads_more c.args.limit c.loop-bytes.bytes.items c.extend_from_slice.new.self.items before.calls.0 c.turn_size-most.result got before.calls.2 items turn.some turn.room fits.0 fits.1,
        given_by-more before.calls.0 c.turn_size-most.result c.loop-bytes.bytes.items c.extend_from_slice.new.self.items got items before.calls.3,
      );
      left = λ known. left_more _ _ _ c.loop-bytes.bytes.items _ got (before.left known) (once.bytes known) items;
      stays = λ known q. once.stays known q ∙ before.stays known q;
      size = once.size ∙ before.size;
      taken = ap (λ n. n + c.in_ok-count.count) before.taken ∙ ap (λ n. length c.loop-bytes.bytes.items + n) (sym turn.size) ∙ sym long;
      within_limit = omega (arith, long, fits.1);
      no_fault = once.faults_stay ∙ before.no_fault;
    }

pub returns-in_err-count-clause-asks : goal.returns-in_err-count-clause-asks
returns-in_err-count-clause-asks g c =
    let before = c.loop-bytes.invariant in
    let most = c.turn_size-most.result in
    let room = subst (λ n. n + most ≤ c.args.limit + 1) before.taken c.turn_size-most.ensures.within in
    let p = err_from_is_err_and c.from_residual.result c.from_residual.ensures.1 in
    let failed = ap (λ r. bytes_of r) p.1 ∙ ap (λ (e : StoreError). Err e) (p.2 ∙ c.in_err-count.ensures.failed) in
    reads_with c.args.limit _ _ _ before.calls.0 (Reads most None) _ _ _ before.calls.1 c.in_err-count.ensures.recorded failed
    (reads_refused c.args.limit c.loop-bytes.bytes.items before.calls.0 most before.calls.2 c.turn_size-most.ensures.some room)
    (taken_same before.calls.0 most c.loop-bytes.bytes.items c.loop-bytes.taken before.calls.3 before.taken)

pub returns-then-count-eq0-clause-asks : goal.returns-then-count-eq0-clause-asks
returns-then-count-eq0-clause-asks g c =
    let before = c.loop-bytes.invariant in
    let once = c.in_ok-count.ensures in
    let most = c.turn_size-most.result in
    let got = take c.in_ok-count.count c.read_once.new.buffer in
    let asks = c.turn_size-most.ensures in
    let turn = turn_of c.args.limit most c.loop-bytes.taken c.in_ok-count.count c.loop-bytes.bytes.items c.loop-bytes.buffer c.read_once.new.buffer before.taken before.size once.size once.bound asks.some asks.within asks.fits in
    let none = turn.size ∙ c.if-count-eq0.true in
    let bytes = taken_more before.calls.0 most c.loop-bytes.bytes.items got c.loop-bytes.taken 0 before.calls.3 before.taken none in
    reads_with c.args.limit _ _ _ before.calls.0 (Reads most (Some got)) _ _ _ before.calls.1 once.recorded refl
    (reads_end c.args.limit c.loop-bytes.bytes.items before.calls.0 most got before.calls.2 turn.some turn.room before.within_limit none)
    (omega (arith, bytes))

pub returns-then-taken-limit-clause-asks : goal.returns-then-taken-limit-clause-asks
returns-then-taken-limit-clause-asks g c =
    let before = c.loop-bytes.invariant in
    let once = c.in_ok-count.ensures in
    let got = take c.in_ok-count.count c.read_once.new.buffer in
    let most = c.turn_size-most.result in
    let turn = turn_of c.args.limit most c.loop-bytes.taken c.in_ok-count.count c.loop-bytes.bytes.items c.loop-bytes.buffer c.read_once.new.buffer before.taken before.size once.size once.bound c.turn_size-most.ensures.some c.turn_size-most.ensures.within c.turn_size-most.ensures.fits in
    let over = goes_over turn c.loop-bytes.taken before.taken c.if-count-eq0.false c.if-taken-limit.true in
    reads_with c.args.limit _ _ _ before.calls.0 (Reads most (Some got)) _ _ _ before.calls.1 once.recorded refl
    (reads_too_long c.args.limit c.loop-bytes.bytes.items before.calls.0 most got before.calls.2 turn.some turn.room over.0 over.1)
    (taken_more before.calls.0 most c.loop-bytes.bytes.items got c.loop-bytes.taken c.in_ok-count.count before.calls.3 before.taken turn.size)

pub returns-in_err-extend_from_slice-clause-asks :
    goal.returns-in_err-extend_from_slice-clause-asks
returns-in_err-extend_from_slice-clause-asks g c =
    let before = c.loop-bytes.invariant in
    let once = c.in_ok-count.ensures in
    let most = c.turn_size-most.result in
    let got = take c.in_ok-count.count c.read_once.new.buffer in
    let turn = turn_of c.args.limit most c.loop-bytes.taken c.in_ok-count.count c.loop-bytes.bytes.items c.loop-bytes.buffer c.read_once.new.buffer before.taken before.size once.size once.bound c.turn_size-most.ensures.some c.turn_size-most.ensures.within c.turn_size-most.ensures.fits in
    let fits = fits_within turn c.loop-bytes.taken before.taken c.if-count-eq0.false c.if-taken-limit.false in
    let p = err_from_is_err_and c.from_residual-in_err-extend_from_slice.result c.from_residual-in_err-extend_from_slice.ensures.1 in
    let no_memory = ap (λ r. bytes_of r) p.1 ∙ ap (λ (e : StoreError). Err e) p.2 in
    reads_with c.args.limit _ _ _ before.calls.0 (Reads most (Some got)) _ _ _ before.calls.1 once.recorded no_memory
    (reads_no_memory c.args.limit c.loop-bytes.bytes.items before.calls.0 most got before.calls.2 turn.some turn.room fits.0 fits.1)
    (taken_more before.calls.0 most c.loop-bytes.bytes.items got c.loop-bytes.taken c.in_ok-count.count before.calls.3 before.taken turn.size)

pub returns-in_err-count-clause-takes : goal.returns-in_err-count-clause-takes
returns-in_err-count-clause-takes g c =
    let once = c.in_err-count.ensures in
    let p = err_from_is_err_and c.from_residual.result c.from_residual.ensures.1 in
    takes_until_refused _ _ _ _ _ (p.1 ∙ ap (λ (e : StoreError). Err e) (p.2 ∙ once.failed)) (omega arith) (once.once ∙ ap (λ n. min (n + 1) (2 ^ 64 - 1)) c.loop-bytes.invariant.no_fault) (omega (arith, once.faults_stay_or_rise, c.loop-bytes.invariant.no_fault))

pub returns-then-count-eq0-clause-takes : goal.returns-then-count-eq0-clause-takes
returns-then-count-eq0-clause-takes g c =
    let before = c.loop-bytes.invariant in
    takes_all _ _ _ _ c.loop-bytes.bytes before.taken before.within_limit (c.in_ok-count.ensures.faults_stay ∙ before.no_fault)

pub returns-then-taken-limit-clause-takes : goal.returns-then-taken-limit-clause-takes
returns-then-taken-limit-clause-takes g c =
    let before = c.loop-bytes.invariant in
    let once = c.in_ok-count.ensures in
    takes_too_long _ _ _ _ (omega (arith, before.taken)) (omega (arith, before.taken, once.bound)) (once.faults_stay ∙ before.no_fault)

pub returns-in_err-extend_from_slice-clause-takes :
    goal.returns-in_err-extend_from_slice-clause-takes
returns-in_err-extend_from_slice-clause-takes g c =
    let before = c.loop-bytes.invariant in
    let p = err_from_is_err_and c.from_residual-in_err-extend_from_slice.result c.from_residual-in_err-extend_from_slice.ensures.1 in
    takes_no_memory _ _ _ _ _ (p.1 ∙ ap (λ (e : StoreError). Err e) p.2) (omega (arith, before.taken)) (c.in_ok-count.ensures.faults_stay ∙ before.no_fault)

pub loop-bytes-init : goal.loop-bytes-init
loop-bytes-init g c =
    let none = c.new-bytes.ensures.items in
    let files = g.F.RawFiles.shown c.args.files.now in
    let empty = ap (λ (xs : List ℕ). length xs) none in
    record {
      is_open = c.requires.open;
      calls = ([], sym (append-nil files.asked), (λ rest answer reads. subst (λ before. ReadsOn c.args.limit before rest answer) none reads), none);
      left = λ known. sym (ap (λ xs. xs ++ files.left) none);
      stays = λ known q. refl;
      size = refl;
      taken = c.requires.none_taken ∙ sym empty;
      within_limit = omega (arith, empty);
      no_fault = refl;
    }

pub returns-then-count-eq0-clause-bytes : goal.returns-then-count-eq0-clause-bytes
returns-then-count-eq0-clause-bytes g c = λ known.
    let bytes = c.loop-bytes.bytes.items in
    let before = c.loop-bytes.invariant in
    let ends = c.in_ok-count.ensures.end c.if-count-eq0.true c.turn_size-most.ensures.some known in
    sym (before.left known ∙ ap (λ l. bytes ++ l) ends ∙ append-nil bytes)

pub returns-then-taken-limit-clause-longer : goal.returns-then-taken-limit-clause-longer
returns-then-taken-limit-clause-longer g c = λ long known.
    let before = c.loop-bytes.invariant in
    let once = c.in_ok-count.ensures in
    let got = take c.in_ok-count.count c.read_once.new.buffer in
    let asks = c.turn_size-most.ensures in
    let turn = turn_of c.args.limit c.turn_size-most.result c.loop-bytes.taken c.in_ok-count.count c.loop-bytes.bytes.items c.loop-bytes.buffer c.read_once.new.buffer before.taken before.size once.size once.bound asks.some asks.within asks.fits in
    let over = goes_over turn c.loop-bytes.taken before.taken c.if-count-eq0.false c.if-taken-limit.true in
    longer_left c.args.limit _ _ _ c.loop-bytes.bytes.items got (before.left known) (once.bytes known) over.1

pub returns-in_err-count-clause-stays : goal.returns-in_err-count-clause-stays
returns-in_err-count-clause-stays g c = λ known q. c.in_err-count.ensures.stays known q ∙ c.loop-bytes.invariant.stays known q

pub returns-then-count-eq0-clause-stays : goal.returns-then-count-eq0-clause-stays
returns-then-count-eq0-clause-stays g c = λ known q. c.in_ok-count.ensures.stays known q ∙ c.loop-bytes.invariant.stays known q

pub returns-then-taken-limit-clause-stays : goal.returns-then-taken-limit-clause-stays
returns-then-taken-limit-clause-stays g c = λ known q. c.in_ok-count.ensures.stays known q ∙ c.loop-bytes.invariant.stays known q

pub returns-in_err-extend_from_slice-clause-stays :
    goal.returns-in_err-extend_from_slice-clause-stays
returns-in_err-extend_from_slice-clause-stays g c = λ known q. c.in_ok-count.ensures.stays known q ∙ c.loop-bytes.invariant.stays known q
