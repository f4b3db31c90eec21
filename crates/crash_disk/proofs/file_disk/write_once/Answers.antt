use Rattle.std.proofs.Common.{◌≡◌, ℕ, ◌-◌, ◌<◌, List, [], ◌∷◌, ◌++◌, length, take, drop, sym, ap, ◌∙◌, subst, length-drop, arith}
use Rattle.std.specs.Prelude.{Option, Some, None, Result, Ok, Err, IfOk, OnErr, IsTrue, ◌+◌}
use Rattle.std.specs.Result.{result_unwrap_or}
use Rattle.std.proofs.lemmas.List.{take_all}
use Rattle.outside_io.specs.RawOut.{count_of}
use Rattle.crash_disk.specs.DiskView.{Held, Torn, after_write}
use Rattle.crash_disk.specs.RawFile.{RawCall, Writes, raw_now, write_call}
use Rattle.crash_disk.proofs.RawModel.{torn_none, written-none}
use Rattle.crash_disk.proofs.file_disk.write_once.Goals as goal

-- what was asked, and how many bytes were taken
asked_once : {E : Type 0} (old new : List RawCall) (at : ℕ) (bytes : List ℕ) (count : ℕ) (answer : Result ℕ E) → count ≡ result_unwrap_or answer 0 → new ≡ old ++ write_call at bytes answer ∷ [] → (taken : Option ℕ) × (new ≡ old ++ Writes at bytes taken ∷ []) × (count_of taken ≡ count)
asked_once old new at bytes count (Ok n) is asked = (Some n, asked, sym is)
asked_once old new at bytes count (Err error) is asked = (None, asked, sym is)

-- where some were taken they are written
written_once : (Known : Type 0) {E : Type 0} (old new : Held) (at : ℕ) (bytes : List ℕ) (count : ℕ) (answer : Result ℕ E) → count ≡ result_unwrap_or answer 0 → IfOk answer (λ n. Known → new ≡ after_write old at (take n bytes)) → 0 < count → Known → new ≡ after_write old at (take count bytes)
written_once Known old new at bytes count (Ok n) is done some = λ known. done known ∙ ap (λ k. after_write old at (take k bytes)) (sym is)
written_once Known old new at bytes count (Err error) is done some = absurd (omega (arith, is))

-- where none were, a write is pending at most
torn_once : (Known : Type 0) {E : Type 0} (old new : Held) (at : ℕ) (bytes : List ℕ) (count : ℕ) (answer : Result ℕ E) → count ≡ result_unwrap_or answer 0 → IfOk answer (λ n. Known → new ≡ after_write old at (take n bytes)) → OnErr answer (Known → Torn old new at (length bytes)) → count ≡ 0 → Known → Torn old new at (length bytes)
torn_once Known old new at bytes count (Ok n) is done torn none = λ known.
    torn_none old new at (length bytes) (done known ∙ ap (λ k. after_write old at (take k bytes)) (sym is ∙ none) ∙ written-none old at)
torn_once Known old new at bytes count (Err error) is done torn none = torn

-- the bytes behind the first ones
rest_is : (from : ℕ) (bytes : List ℕ) → take (length bytes - from) (drop from bytes) ≡ drop from bytes
rest_is from bytes = take_all (length bytes - from) (drop from bytes) (omega (arith, length-drop from bytes))

pub returns-clause-recorded : goal.returns-clause-recorded
returns-clause-recorded g c =
    let at = c.args.at + c.args.from in
    let old = (g.F.RawFile.shown c.args.file.now).asked in
    let new = (g.F.RawFile.shown c.write_at.new.self).asked in
    let asked = subst (λ rest. new ≡ old ++ write_call at rest c.write_at.result ∷ []) (rest_is c.args.from c.args.bytes.now) c.write_at.ensures.recorded in
    asked_once old new at (drop c.args.from c.args.bytes.now) c.unwrap_or.result c.write_at.result c.unwrap_or.ensures asked

pub returns-clause-written : goal.returns-clause-written
returns-clause-written g c =
    let at = c.args.at + c.args.from in
    let old = raw_now (g.F.RawFile.shown c.args.file.now) in
    let new = raw_now (g.F.RawFile.shown c.write_at.new.self) in
    let done = subst (λ rest. IfOk c.write_at.result (λ n. IsTrue g.F.RawFile.tells → new ≡ after_write old at (take n rest))) (rest_is c.args.from c.args.bytes.now) c.write_at.ensures.written in
    written_once (IsTrue g.F.RawFile.tells) old new at (drop c.args.from c.args.bytes.now) c.unwrap_or.result c.write_at.result c.unwrap_or.ensures done

pub returns-clause-torn : goal.returns-clause-torn
returns-clause-torn g c = λ none known.
    let at = c.args.at + c.args.from in
    let rest = take (length c.args.bytes.now - c.args.from) (drop c.args.from c.args.bytes.now) in
    let old = raw_now (g.F.RawFile.shown c.args.file.now) in
    let new = raw_now (g.F.RawFile.shown c.write_at.new.self) in
    let size = ap (λ (xs : List ℕ). length xs) (rest_is c.args.from c.args.bytes.now) ∙ length-drop c.args.from c.args.bytes.now in
    subst (λ n. Torn old new at n) size (torn_once (IsTrue g.F.RawFile.tells) old new at rest c.unwrap_or.result c.write_at.result c.unwrap_or.ensures c.write_at.ensures.written c.write_at.ensures.torn none known)
