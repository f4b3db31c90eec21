use Rattle.std.proofs.Common.{◌≡◌, ℕ, ap, ◌∙◌, sym, length, replicate, subst, List}
use Rattle.event_graph.specs.Network.{stations, arc_count}
use Rattle.cycle_time.specs.Search.{IsGrown}
use Rattle.cycle_time.proofs.GreaterPotentials.{grown_none}
use Rattle.cycle_time.proofs.tree.Tree.new.Goals as goal

pub returns-clause-grown : goal.returns-clause-grown
returns-clause-grown c = λ w.
    (let g = c.args.graph.now in
    let T = stations g in
    let count = c.stations-stations.ensures.count in
    let arcs = ap (λ xs. length xs) c.arcs.ensures.arcs in
    let potentials : c.in_ok-potentials.potentials.items ≡ replicate T 0 = c.in_ok-potentials.ensures.items_if_clones_equal (λ y same. same) ∙ ap (λ n. replicate n 0) count in
    let entries : c.in_ok-entries.entries.items ≡ replicate T (arc_count g) = c.in_ok-entries.ensures.items_if_clones_equal (λ y same. same) ∙ (ap (λ n. replicate n (length c.arcs.result.now)) count ∙ ap (λ n. replicate T n) arcs) in
    subst (λ (e : List ℕ). IsGrown g w (record { potentials = c.in_ok-potentials.potentials.items; entries = e })) (sym entries)
    (subst (λ (p : List ℕ). IsGrown g w (record { potentials = p; entries = replicate T (arc_count g) })) (sym potentials) (grown_none g w c.arcs.ensures.graph)))
