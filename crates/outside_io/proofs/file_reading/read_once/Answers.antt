use Rattle.std.proofs.Common.{◌≡◌, ◌≤◌, ◌<◌, ℕ, List, ◌++◌, ◌∷◌, [], length, take, drop, refl, sym, ap, ◌∙◌, subst, arith, length-drop, length-append}
use Rattle.std.specs.Prelude.{Result, Ok, Err, Some, IfOk, IsTrue, is_ok}
use Rattle.std.proofs.lemmas.Bool.{false≢true, true≢false}
use Rattle.std.proofs.lemmas.List.{take-append-le, length-take-le}
use Rattle.outside_io.specs.RawFiles.{Reads, read_bytes}
use Rattle.outside_io.proofs.file_reading.read_once.Goals as goal

-- what holds of an answer holds of it once it is counted
if_counted : {E F : Type 0} (P : ℕ → Type 0) (answer : Result ℕ E) (counted : Result ℕ F) → IfOk counted (λ n. answer ≡ Ok n) → IfOk answer P → IfOk counted P
if_counted P answer (Ok n) value holds = subst (λ r. IfOk r P) value holds
if_counted P answer (Err error) value holds = tt

-- the bytes that were read, whatever stands behind them
bytes_counted : {E F : Type 0} (answer : Result ℕ E) (counted : Result ℕ F) (got rest : List ℕ) → is_ok counted ≡ is_ok answer → IfOk counted (λ n. answer ≡ Ok n) → IfOk answer (λ n. n ≤ length got) → read_bytes answer got ≡ read_bytes counted (got ++ rest)
bytes_counted (Ok m) (Ok n) got rest same value bound =
    let is : m ≡ n = cc in
    let within : n ≤ length got = omega (arith, is, bound) in
    ap (λ (xs : List ℕ). Some xs) (ap (λ k. take k got) is ∙ sym (take-append-le n got rest within))
bytes_counted (Ok m) (Err error) got rest same value bound = absurd (false≢true same)
bytes_counted (Err refused) (Ok n) got rest same value bound = absurd (true≢false same)
bytes_counted (Err refused) (Err error) got rest same value bound = refl

left_behind : {E : Type 0} (Known : Type 0) (answer : Result ℕ E) (left got rest later : List ℕ) → IfOk answer (λ n. n ≤ length got) → IfOk answer (λ n. Known → left ≡ take n got ++ later) → IfOk answer (λ n. Known → left ≡ take n (got ++ rest) ++ later)
left_behind Known (Ok n) left got rest later bound gave = λ known.
    gave known ∙ ap (λ xs. xs ++ later) (sym (take-append-le n got rest bound))
left_behind Known (Err error) left got rest later bound gave = tt

pub slice_bounds-read-end : goal.slice_bounds-read-end
slice_bounds-read-end g c = c.requires.within

pub read-requires : goal.read-requires
read-requires g c = record { «open» = c.requires.open }

pub returns : goal.returns
returns g c =
    let most = c.args.most in
    let old = g.F.RawFiles.shown c.args.files.now in
    let new = g.F.RawFiles.shown c.read.new.self in
    let read = c.read.ensures in
    let counted = c.count_fault.ensures in
    let got = c.read.new.bytes in
    let rest = drop most c.args.buffer.now in
    let full : length got ≡ most = c.read.auto.bytes ∙ length-take-le most c.args.buffer.now c.requires.within in
    let answer = bytes_counted c.read.result c.count_fault.result got rest counted.same counted.value read.bound in
    record {
      recorded =
          read.recorded
          ∙ ap (λ n. old.asked ++ Reads n (read_bytes c.read.result got) ∷ []) full
          ∙ ap (λ given. old.asked ++ Reads most given ∷ []) answer;
      open_stays = read.open_stays;
      size = omega (arith, length-append got rest, length-drop most c.args.buffer.now, full, c.requires.within);
      bound = if_counted (λ n. n ≤ most) c.read.result c.count_fault.result counted.value (rw full at read.bound);
      bytes = if_counted (λ n. IsTrue g.F.RawFiles.tells → old.left ≡ take n (got ++ rest) ++ new.left) c.read.result c.count_fault.result counted.value (left_behind _ c.read.result old.left got rest new.left read.bound read.bytes);
      end = if_counted (λ n. n ≡ 0 → 0 < most → IsTrue g.F.RawFiles.tells → old.left ≡ []) c.read.result c.count_fault.result counted.value (rw full at read.end);
      stays = read.stays;
      failed = counted.failed;
      faults_stay = counted.stays;
      once = counted.rises;
      faults_stay_or_rise = counted.stays_or_rises;
    }
