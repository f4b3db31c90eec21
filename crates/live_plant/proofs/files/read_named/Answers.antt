use Rattle.std.proofs.Common.{◌≡◌, ℕ, List, refl, inl}
use Rattle.std.specs.Prelude.{Some, None, Ok}
use Rattle.live_plant.specs.Steps.{Gives, LooksAt}
use Rattle.live_plant.proofs.StepLemmas.{settles, then_settles, then_hands_on}
use Rattle.live_plant.proofs.files.read_named.Goals as goal

pub returns-in-None-clause-makes : goal.returns-in-None-clause-makes
returns-in-None-clause-makes g c =
    rw c.in-None.is (settles g.S.Store.tells (g.S.Store.shown c.args.store.now) (λ answer. answer ≡ Ok None) (Ok None) (inl refl) tt)

pub returns-in_err-read_file-in-Some-clause-makes : goal.returns-in_err-read_file-in-Some-clause-makes
returns-in_err-read_file-in-Some-clause-makes g c =
    rw c.in-Some.is (then_hands_on g.S.Store.tells (g.S.Store.shown c.args.store.now) (g.S.Store.shown c.read_file.new.store) (LooksAt c.in-Some.name.now) (λ (bytes : List ℕ). Gives (Ok (Some bytes))) c.in_err-read_file-in-Some.field-0.0 c.from_residual.result c.from_residual.ensures.1 c.in_err-read_file-in-Some.ensures.makes)

pub returns-in_ok-read_file-in-Some-clause-makes : goal.returns-in_ok-read_file-in-Some-clause-makes
returns-in_ok-read_file-in-Some-clause-makes g c =
    let bytes = c.in_ok-read_file-in-Some.field-0 in
    rw c.in-Some.is (then_settles g.S.Store.tells (g.S.Store.shown c.args.store.now) (g.S.Store.shown c.read_file.new.store) (LooksAt c.in-Some.name.now) (λ (bytes : List ℕ) answer. answer ≡ Ok (Some bytes)) bytes (Ok (Some bytes)) c.in_ok-read_file-in-Some.ensures.makes (inl refl) tt)
