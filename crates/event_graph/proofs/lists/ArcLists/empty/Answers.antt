use Rattle.std.proofs.Common.{◌≡◌, ◌∙◌, ℕ, ◌++◌, List, [], ◌∷◌, map, replicate, ap, Vec, Global, arith}
use Rattle.std.proofs.lemmas.List.{map_push, replicate_more}
use Rattle.event_graph.proofs.lists.ArcLists.empty.Goals as goal

pub loop-init : goal.loop-init
loop-init c = ap (map (λ (v : Vec ℕ Global). v.items)) c.in_ok-lists.ensures.items

pub loop-preserved : goal.loop-preserved
loop-preserved c =
    let items = λ (v : Vec ℕ Global). v.items in
    let n = c.loop.counter in
    let so_far : map items c.loop.lists.items ≡ replicate n [] = c.loop.invariant in
    ap (map items) c.in_ok-push.ensures.items
    ∙ (map_push items c.loop.lists.items c.new.result
    ∙ (ap (λ (lists : List (List ℕ)). lists ++ c.new.result.items ∷ []) so_far
    ∙ (ap (λ (list : List ℕ). replicate n [] ++ list ∷ []) c.new.ensures.items ∙ replicate_more n [])))

pub returns : goal.returns
returns c =
    let all : c.loop.counter ≡ c.args.stations = omega (arith, c.loop-test.false, c.loop.auto.counter-end) in
    let so_far : map (λ (v : Vec ℕ Global). v.items) c.loop.lists.items ≡ replicate c.loop.counter [] = c.loop.invariant in
    so_far ∙ ap (λ n. replicate n []) all
