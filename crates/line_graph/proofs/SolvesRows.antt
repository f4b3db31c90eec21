-- A table solves a plant's graph exactly where it has the demand dates and meets each row.
use Rattle.std.proofs.Common.{◌≡◌, ℕ, ◌+◌, ◌-◌, ◌<◌, ◌≤◌, nat_lt, List, length, get_or, refl, sym, ap, ◌∙◌, subst}
use Rattle.std.specs.Prelude.{if◌then◌else◌, slice_index_or}
use Rattle.std.specs.List.{All}
use Rattle.std.proofs.lemmas.List.Elements.{All-from_get_or, All-get_or}
use Rattle.line_base.specs.declared.event.Arc.{Arc}
use Rattle.line_base.specs.declared.event.Parts.{Parts}
use Rattle.line_base.specs.declared.times.Times.{Times}
use Rattle.line_base.specs.declared.times.Times.TheVariants.{Fixed}
use Rattle.line_base.specs.Times.{time_at}
use Rattle.plant_model.specs.declared.plant.Plant.{Plant}
use Rattle.plant_model.specs.Graph.{Row, feed_row, rows, times, graph}
use Rattle.event_graph.specs.Network.{jobs, arc, time, demand, delay}
use Rattle.event_graph.specs.Table.{Table}
use Rattle.event_graph.specs.Term.{work, term}
use Rattle.event_graph.specs.Solves.{Solves}
use Rattle.line_graph.proofs.Sizes.{arc_count-graph, delay-graph, times-graph}
use Rattle.line_graph.proofs.Inputs.{arc-graph}

-- what an arc with its delay asks of the date of job n
unfoldable pub asked : List Times → Table → Arc → ℕ → ℕ → ℕ
asked ts x a late n =
    (if a.worked then time_at (slice_index_or ts a.to (Fixed 0)) n else 0) + (if nat_lt a.tokens n then x a.from (n - a.tokens) + late else 0)

-- the table meets a row, for each job
pub record Meets (ts : List Times) (count : ℕ) (x : Table) (r : Row) : Type 0 where
  pub each : (n : ℕ) → 1 ≤ n → n ≤ count → asked ts x r.arc r.delay n ≤ x r.arc.to n

term-asked : (g : Parts) (x : Table) (a n : ℕ) → term g x a n ≡ asked g.times x (arc g a) (delay g a) n
unfolding asked work time
term-asked g x a n = refl

-- what arc a of the graph asks is what row a asks
term-graph : (p : Plant) (x : Table) (a n : ℕ) (d : Row) → a < length (rows p) → term (graph p) x a n ≡ asked (times p) x (get_or (rows p) a d).arc (get_or (rows p) a d).delay n
term-graph p x a n d below =
    let g = graph p in
    let r = get_or (rows p) a d in
    term-asked g x a n ∙ ap (λ ts. asked ts x (arc g a) (delay g a) n) (times-graph p) ∙ ap (λ b. asked (times p) x b (delay g a) n) (arc-graph p a d below) ∙ ap (λ late. asked (times p) x r.arc late n) (delay-graph p a d below)

pub Meets-solves : (p : Plant) (x : Table) → Solves (graph p) x → All (Meets (times p) (jobs (graph p)) x) (rows p)
Meets-solves p x solves =
    All-from_get_or (Meets (times p) (jobs (graph p)) x) (rows p) (feed_row p) (λ a below. record {
      each = λ n some few.
          let h = solves.others a n (rw arc_count-graph below) some few in
          let h_2 = rw (term-graph p x a n (feed_row p) below) at h in
          subst (λ (b : Arc). asked (times p) x (get_or (rows p) a (feed_row p)).arc (get_or (rows p) a (feed_row p)).delay n ≤ x b.to n) (arc-graph p a (feed_row p) below) h_2;
    })

pub Solves-meets : (p : Plant) (x : Table) → ((n : ℕ) → 1 ≤ n → n ≤ jobs (graph p) → demand (graph p) n ≤ x 0 n) → All (Meets (times p) (jobs (graph p)) x) (rows p) → Solves (graph p) x
Solves-meets p x feed all =
    record {
      feed = feed;
      others = λ a n inside some few.
          let below = rw arc_count-graph at inside in
          let h = (All-get_or (Meets (times p) (jobs (graph p)) x) (rows p) a (feed_row p) below all).each n some few in
          let h_2 = subst (λ (b : Arc). asked (times p) x (get_or (rows p) a (feed_row p)).arc (get_or (rows p) a (feed_row p)).delay n ≤ x b.to n) (sym (arc-graph p a (feed_row p) below)) h in
          rw (term-graph p x a n (feed_row p) below) h_2;
    }
