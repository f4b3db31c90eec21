use Rattle.std.proofs.Common.{ℕ, List, [], ◌∷◌, ◌++◌, map, take, sym, ap, ◌∙◌}
use Rattle.std.proofs.lemmas.List.{map_more, take_all}
use Rattle.event_graph.specs.Network.{label}
use Rattle.line_graph.proofs.dead.labels_of.Goals as goal

pub label-requires : goal.label-requires
label-requires c = c.requires c.loop-t.t-index 0 c.loop-t-test.true

pub loop-t-preserved : goal.loop-t-preserved
loop-t-preserved c =
    let text = label c.args.graph.now in
    let list = c.args.list.now in
    let i = c.loop-t.t-index in
    let made = c.in_ok-of.field-0 in
    c.in_ok-push.ensures.items
    ∙ ap (λ (l : List (List ℕ)). l ++ made ∷ []) c.loop-t.invariant
    ∙ ap (λ (l : List ℕ). map text (take i list) ++ l ∷ []) (c.in_ok-of.ensures ∙ c.label.ensures.text)
    ∙ sym (map_more text list i 0 c.loop-t-test.true)

pub returns : goal.returns
returns c =
    c.from_vec.ensures
    ∙ c.loop-t.invariant
    ∙ ap (λ (l : List ℕ). map (label c.args.graph.now) l) (take_all c.loop-t.t-index c.args.list.now c.loop-t-test.false)
