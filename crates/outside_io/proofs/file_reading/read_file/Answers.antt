use Rattle.std.proofs.Common.{◌≡◌, ℕ, List, ◌++◌, ◌∷◌, [], Vec, true, false, refl, sym, ap, ◌∙◌, subst, append_assoc, arith}
use Rattle.std.specs.Prelude.{Option, Some, Result, Ok, Err, OnOk, IfOk, IsTrue}
use Rattle.std.specs.declared.alloc.Global.{Global}
use Rattle.std.proofs.lemmas.Result.{err_from_is_err_and}
use Rattle.outside_io.specs.Calls.{bytes_of}
use Rattle.outside_io.specs.Contents.{IsLongerThan}
use Rattle.outside_io.specs.RawFiles.{Named, Opens}
use Rattle.outside_io.specs.Reading.{TakesToLimit}
use Rattle.outside_io.specs.declared.store.StoreError.{StoreError}
use Rattle.outside_io.proofs.ReadingLemmas.{takes_until_refused}
use Rattle.outside_io.proofs.file_reading.read_file.Goals as goal

-- what was left of a file that was opened is what it holds
bytes_found : {Known : Type 0} (held : Option (List ℕ)) (left : List ℕ) (result : Result (Vec ℕ Global) StoreError) → (Known → held ≡ Some left) → IfOk result (λ v. Known → v.items ≡ left) → IfOk result (λ v. Known → held ≡ Some v.items)
bytes_found held left (Ok v) found gave = λ known. found known ∙ ap (λ (xs : List ℕ). Some xs) (sym (gave known))
bytes_found held left (Err error) found gave = tt

pub returns-in_err-count_fault-clause-asks : goal.returns-in_err-count_fault-clause-asks
returns-in_err-count_fault-clause-asks g c =
    let name = c.args.name.now in
    let old = (g.F.RawFiles.shown c.args.files.now).asked in
    let counted = c.in_err-count_fault.ensures in
    let p = err_from_is_err_and c.from_residual.result c.from_residual.ensures.1 in (
      Opens name false ∷ [],
      c.open.ensures.recorded ∙ ap (λ well. old ++ Opens name well ∷ []) (sym counted.same),
      ((refl, refl, ap (λ r. bytes_of r) p.1 ∙ ap (λ (e : StoreError). Err e) (p.2 ∙ counted.failed)), c.requires),
    )

pub returns-in_err-count_fault-clause-stays : goal.returns-in_err-count_fault-clause-stays
returns-in_err-count_fault-clause-stays g c = c.open.ensures.stays

pub returns-in_err-count_fault-clause-takes : goal.returns-in_err-count_fault-clause-takes
returns-in_err-count_fault-clause-takes g c =
    let counted = c.in_err-count_fault.ensures in
    let p = err_from_is_err_and c.from_residual.result c.from_residual.ensures.1 in
    takes_until_refused _ _ _ _ _ (p.1 ∙ ap (λ (e : StoreError). Err e) (p.2 ∙ counted.failed)) (omega arith) counted.rises counted.stays_or_rises

pub returns-clause-takes : goal.returns-clause-takes
returns-clause-takes g c =
    subst (λ n. TakesToLimit c.args.limit c.read_to_limit.new.taken n c.read_to_limit.new.faults c.read_to_limit.result) c.in_ok-count_fault.ensures.stays c.read_to_limit.ensures.takes

pub returns-clause-asks : goal.returns-clause-asks
returns-clause-asks g c =
    let name = c.args.name.now in
    let old = (g.F.RawFiles.shown c.args.files.now).asked in
    let rest = c.read_to_limit.ensures.asks in (
      Opens name true ∷ rest.0,
      rest.1
          ∙ ap (λ xs. xs ++ rest.0) (c.open.ensures.recorded ∙ ap (λ well. old ++ Opens name well ∷ []) (sym c.in_ok-count_fault.ensures.same))
          ∙ append_assoc old (Opens name true ∷ []) rest.0,
      ((refl, rest.2.0), rest.2.1),
    )

pub returns-clause-bytes : goal.returns-clause-bytes
returns-clause-bytes g c =
    let old = g.F.RawFiles.shown c.args.files.now in
    let left = (g.F.RawFiles.shown c.open.new.self).left in
    let held = old.held (Named c.args.name.now) in
    bytes_found held left c.read_to_limit.result (subst (λ r. OnOk r (IsTrue g.F.RawFiles.tells → held ≡ Some left)) c.in_ok-count_fault.ensures.value c.open.ensures.found) c.read_to_limit.ensures.bytes

pub returns-clause-longer : goal.returns-clause-longer
returns-clause-longer g c = λ long known.
    let left = (g.F.RawFiles.shown c.open.new.self).left in
    let held = (g.F.RawFiles.shown c.args.files.now).held (Named c.args.name.now) in
    let found = subst (λ r. OnOk r (IsTrue g.F.RawFiles.tells → held ≡ Some left)) c.in_ok-count_fault.ensures.value c.open.ensures.found in
    subst (λ known. IsLongerThan c.args.limit known) (sym (found known)) (c.read_to_limit.ensures.longer long known)

pub returns-clause-stays : goal.returns-clause-stays
returns-clause-stays g c = λ known q. c.read_to_limit.ensures.stays known q ∙ c.open.ensures.stays known q
