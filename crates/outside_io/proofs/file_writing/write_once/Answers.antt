use Rattle.std.proofs.Common.{◌≡◌, ℕ, ◌-◌, ◌<◌, List, [], ◌∷◌, ◌++◌, length, take, drop, refl, sym, ◌∙◌, subst, length-drop, arith}
use Rattle.std.specs.Prelude.{Result, Ok, Err, IfOk, OnErr, IsTrue}
use Rattle.std.specs.Result.{result_unwrap_or}
use Rattle.std.proofs.lemmas.List.{take_all}
use Rattle.outside_io.specs.RawFiles.{FilesView, Grows, GrowsByPrefix, write_call}
use Rattle.outside_io.specs.RawOut.{count_of, taken_by_answer}
use Rattle.outside_io.proofs.file_writing.write_once.Goals as goal

-- how many bytes an answer says were taken
count_taken : {E : Type 0} (answer : Result ℕ E) → count_of (taken_by_answer answer) ≡ result_unwrap_or answer 0
count_taken (Ok n) = refl
count_taken (Err error) = refl

-- where some were taken the file grew by them
grows_taken : {Known E : Type 0} (old new : FilesView) (bytes : List ℕ) (count : ℕ) (answer : Result ℕ E) → count ≡ result_unwrap_or answer 0 → IfOk answer (λ n. Known → Grows old new (take n bytes)) → 0 < count → Known → Grows old new (take count bytes)
grows_taken old new bytes count (Ok n) is grows some = λ known. subst (λ m. Grows old new (take m bytes)) (sym is) (grows known)
grows_taken old new bytes count (Err error) is grows some = absurd (omega (arith, is))

-- and in each case by a prefix
grows_by_prefix : {Known E : Type 0} (old new : FilesView) (bytes : List ℕ) (answer : Result ℕ E) → IfOk answer (λ n. Known → Grows old new (take n bytes)) → OnErr answer (Known → GrowsByPrefix old new bytes) → Known → GrowsByPrefix old new bytes
grows_by_prefix old new bytes (Ok n) grows torn = λ known. (n, grows known)
grows_by_prefix old new bytes (Err error) grows torn = torn

-- the bytes behind the first ones
rest_is : (from : ℕ) (bytes : List ℕ) → take (length bytes - from) (drop from bytes) ≡ drop from bytes
rest_is from bytes = take_all (length bytes - from) (drop from bytes) (omega (arith, length-drop from bytes))

pub returns-clause-recorded : goal.returns-clause-recorded
returns-clause-recorded g c =
    let old = (g.F.RawFiles.shown c.args.files.now).asked in
    let new = (g.F.RawFiles.shown c.write.new.self).asked in
    let asked = subst (λ rest. new ≡ old ++ write_call rest c.write.result ∷ []) (rest_is c.args.from c.args.bytes.now) c.write.ensures.recorded in
    (taken_by_answer c.write.result, asked, count_taken c.write.result ∙ sym c.unwrap_or.ensures)

pub returns-clause-written : goal.returns-clause-written
returns-clause-written g c =
    let old = g.F.RawFiles.shown c.args.files.now in
    let new = g.F.RawFiles.shown c.write.new.self in
    let grows = subst (λ rest. IfOk c.write.result (λ n. IsTrue g.F.RawFiles.tells → Grows old new (take n rest))) (rest_is c.args.from c.args.bytes.now) c.write.ensures.written in
    grows_taken old new (drop c.args.from c.args.bytes.now) c.unwrap_or.result c.write.result c.unwrap_or.ensures grows

pub returns-clause-torn : goal.returns-clause-torn
returns-clause-torn g c =
    let old = g.F.RawFiles.shown c.args.files.now in
    let new = g.F.RawFiles.shown c.write.new.self in
    subst (λ rest. IsTrue g.F.RawFiles.tells → GrowsByPrefix old new rest) (rest_is c.args.from c.args.bytes.now)
    (grows_by_prefix old new _ c.write.result c.write.ensures.written c.write.ensures.torn)
