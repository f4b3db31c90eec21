use Rattle.std.proofs.Common.{◌≡◌, ℕ, List, Some, OnOk, IsTrue, inl, subst, ◌∙◌}
use Rattle.outside_io.specs.Calls.{after_write}
use Rattle.outside_io.specs.Contents.{IsTorn}
use Rattle.line_runs.specs.Store.{text_of}
use Rattle.line_runs.proofs.store.save_state.Goals as goal

pub returns-clause-tells : goal.returns-clause-tells
returns-clause-tells g c =
    let given : c.as_slice.result.now ≡ text_of c.args.state.now = c.as_slice.ensures.value ∙ c.in_ok-text.ensures.text in
    let old = g.S.Store.shown c.args.store.now in
    let new = g.S.Store.shown c.write.new.self in
    inl (subst (λ (text : List ℕ). new.asked ≡ after_write old.asked c.args.file.now text c.write.result) given c.write.ensures.recorded)

pub returns-clause-written : goal.returns-clause-written
returns-clause-written g c =
    let given : c.as_slice.result.now ≡ text_of c.args.state.now = c.as_slice.ensures.value ∙ c.in_ok-text.ensures.text in
    let new = g.S.Store.shown c.write.new.self in
    subst (λ (text : List ℕ). OnOk c.write.result (IsTrue g.S.Store.tells → new.files c.args.file.now ≡ Some text)) given c.write.ensures.written

pub returns-clause-torn : goal.returns-clause-torn
returns-clause-torn g c =
    let given : c.as_slice.result.now ≡ text_of c.args.state.now = c.as_slice.ensures.value ∙ c.in_ok-text.ensures.text in
    let old = g.S.Store.shown c.args.store.now in
    let new = g.S.Store.shown c.write.new.self in
    λ failed known. subst (IsTorn (old.files c.args.file.now) (new.files c.args.file.now)) given (c.write.ensures.torn failed known)
