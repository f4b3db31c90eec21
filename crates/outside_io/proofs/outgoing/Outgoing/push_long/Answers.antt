use Rattle.std.proofs.Common.{◌≡◌, ℕ, ◌<◌, List, [], ◌++◌, length, take, drop, refl, sym, ap, ◌∙◌, subst, append_assoc, append-nil, eqb-true, length-drop, arith}
use Rattle.std.proofs.lemmas.List.{take-append-drop, nil_from_length}
use Rattle.outside_io.specs.Outgoing.{Pushed, stream}
use Rattle.outside_io.proofs.OutgoingLemmas.{pushed_none, pushed_after}
use Rattle.outside_io.proofs.outgoing.Outgoing.push_long.Goals as goal

pub loop-rest-init : goal.loop-rest-init
loop-rest-init g c = ([], refl, pushed_none _)

-- a prefix of the rest goes to what is done
front_moves : (bytes done rest later : List ℕ) (n : ℕ) → bytes ≡ done ++ rest → later ≡ drop n rest → bytes ≡ (done ++ take n rest) ++ later
front_moves bytes done rest later n split back =
    split ∙ ap (λ l. done ++ l) (sym (take-append-drop n rest)) ∙ sym (append_assoc done (take n rest) (drop n rest)) ∙ ap (λ l. (done ++ take n rest) ++ l) (sym back)

pub loop-rest-preserved : goal.loop-rest-preserved
loop-rest-preserved g c =
    let old = c.loop-rest.invariant in
    let n = c.push_prefix-count.result in
    (old.0 ++ take n c.loop-rest.rest.now, front_moves c.args.bytes.now old.0 c.loop-rest.rest.now _ n old.1 c.split_at.ensures.back, pushed_after old.2 c.push_prefix-count.ensures.pushed)

pub loop-rest-smaller : goal.loop-rest-smaller
loop-rest-smaller g c =
    let n = c.push_prefix-count.result in
    let rest = c.loop-rest.rest.now in
    let pushed = c.push_prefix-count.ensures in
    let later : length c.split_at.result.1.now ≡ length (drop n rest) = ap (λ (xs : List ℕ). length xs) c.split_at.ensures.back in
    let less : length c.split_at.result.1.now < length rest = omega (arith, later, length-drop n rest, pushed.some, pushed.few) in
    less

pub returns : goal.returns
returns g c =
    let old = c.loop-rest.invariant in
    let none : c.loop-rest.rest.now ≡ [] = nil_from_length _ (eqb-true _ _ (sym c.is_empty.ensures ∙ c.loop-rest-test.false)) in
    let all : old.0 ≡ c.args.bytes.now = sym (old.1 ∙ ap (λ l. old.0 ++ l) none ∙ append-nil old.0) in
    let before = stream (g.K.Sink.shown c.args.sink.now) c.args.self.now in
    let now = stream (g.K.Sink.shown c.loop-rest.sink) c.loop-rest.self in
    subst (λ text. Pushed before now text) all old.2
