-- The laws of starts: start and time are at most the date, and with one server they are it; a start waits for a server.
use Rattle.std.proofs.Common.{◌≡◌, ℕ, ◌+◌, ◌-◌, ◌<◌, ◌≤◌, true, length, ap, ◌∙◌, inl, inr, arith}
use Rattle.std.proofs.lemmas.Bool.{cases_lt}
use Rattle.line_base.specs.declared.event.Arc.{Arc}
use Rattle.plant_model.specs.declared.plant.Plant.{Plant}
use Rattle.plant_model.specs.Line.{stage_at, machine_at, machine_station}
use Rattle.plant_model.specs.Graph.{graph}
use Rattle.plant_model.specs.Sound.{IsSound}
use Rattle.event_graph.specs.Network.{arc, jobs, time, stations, delay, EndsAt}
use Rattle.event_graph.specs.Table.{Table}
use Rattle.event_graph.specs.Term.{token_date, work}
use Rattle.event_graph.specs.Solves.{Solves}
use Rattle.event_graph.proofs.GreatestTerms.{greatest_of_terms}
use Rattle.line_graph.proofs.Sizes.{stations-graph}
use Rattle.line_graph.proofs.Inputs.{IsGraph-graph}
use Rattle.plant_model.proofs.LayoutStations.{last_machine-below}
use Rattle.line_chart.specs.Laws.{end, NoneLeavesEarlier, OneServerLeavesThen, ServersAreFreeAtStarts}
use Rattle.line_chart.proofs.StartFacts.{token-le-start, start-le, token-sent, token-initial, work-worked, work-plain}
use Rattle.line_chart.proofs.MachineArcs.{Orders, works-or-orders, servers_row}

-- the arc of the servers, by its fields
record IsServersArc (p : Plant) (t servers a : ℕ) : Type 0 where
  ends : EndsAt (graph p) t a
  works : (arc (graph p) a).worked ≡ true
  from : (arc (graph p) a).from ≡ t
  tokens : (arc (graph p) a).tokens ≡ servers
  no_delay : delay (graph p) a ≡ 0

servers_arc : (p : Plant) (i j : ℕ) → i < length p.stages → j < length (stage_at p i).machines → (a : ℕ) × IsServersArc p (machine_station p i j) (machine_at p i j).servers a
servers_arc p i j below inside =
    let row = servers_row p i j below inside in
    let is = row.arc_is in (
      row.number,
      record {
        ends = (row.exists, ap (λ (b : Arc). b.to) is);
        works = ap (λ (b : Arc). b.worked) is;
        from = ap (λ (b : Arc). b.from) is;
        tokens = ap (λ (b : Arc). b.tokens) is;
        no_delay = row.delay_is;
      },
    )

-- on a worked arc, the token and the time are at most the date
token-and-time : (p : Plant) (x : Table) (t a n : ℕ) → Solves (graph p) x → EndsAt (graph p) t a → (arc (graph p) a).worked ≡ true → 1 ≤ n → n ≤ jobs (graph p) → token_date (graph p) x a n + time (graph p) t n ≤ x t n
token-and-time p x t a n solves ends works some few =
    let g = graph p in
    let h = solves.others a n ends.0 some few in
    let time_is : work g a n ≡ time g t n = work-worked g a n works ∙ ap (λ s. time g s n) ends.1 in
    let date_is : x (arc g a).to n ≡ x t n = ap (λ s. x s n) ends.1 in
    omega (arith, h, time_is, date_is)

pub none_leaves_earlier : (p : Plant) → IsSound p → NoneLeavesEarlier p
none_leaves_earlier p sound x solves i j n at =
    let g = graph p in
    let t = machine_station p i j in
    let own = servers_arc p i j at.stage at.machine in
    let whole = token-and-time p x t own.0 n solves own.1.ends own.1.works at.from_one at.job in
    let most = start-le g x t n (x t n - time g t n) (λ a ends works. omega (arith, token-and-time p x t a n solves ends works at.from_one at.job)) in
    omega (arith, whole, most)

pub servers_are_free : (p : Plant) → ServersAreFreeAtStarts p
servers_are_free p x i j n at later =
    let g = graph p in
    let t = machine_station p i j in
    let servers = (machine_at p i j).servers in
    let own = servers_arc p i j at.stage at.machine in
    let a = own.0 in
    let some = at.from_one in
    let sent = token-sent g x a (n + servers) (omega (arith, own.1.tokens, some)) in
    let job : n + servers - (arc g a).tokens ≡ n = omega (arith, own.1.tokens) in
    let date : x (arc g a).from (n + servers - (arc g a).tokens) ≡ x t n = ap (λ s. x s (n + servers - (arc g a).tokens)) own.1.from ∙ ap (x t) job in
    omega (arith, token-le-start g x t a (n + servers) own.1.ends own.1.works, sent, date)

-- the token that keeps the jobs in order is no later than that of the one server
order-le-server : (p : Plant) (x : Table) (t a b n : ℕ) → Orders p t a → IsServersArc p t 1 b → token_date (graph p) x a n ≤ token_date (graph p) x b n
order-le-server p x t a b n orders own =
    let g = graph p in
    let from : (arc g a).from ≡ t = ap (λ (c : Arc). c.from) orders.arc_is in
    let tokens : (arc g a).tokens ≡ 1 = ap (λ (c : Arc). c.tokens) orders.arc_is in
    elim (cases_lt 1 n) [
      | inl later ↦
          let here = token-sent g x a n (omega (arith, tokens)) in
          let there = token-sent g x b n (omega (arith, own.tokens)) in
          let date : x (arc g a).from (n - (arc g a).tokens) ≡ x t (n - 1) = ap (λ s. x s (n - (arc g a).tokens)) from ∙ ap (λ k. x t (n - k)) tokens in
          let date_2 : x (arc g b).from (n - (arc g b).tokens) ≡ x t (n - 1) = ap (λ s. x s (n - (arc g b).tokens)) own.from ∙ ap (λ k. x t (n - k)) own.tokens in
          omega (arith, here, there, date, date_2, orders.no_delay)
      | inr first ↦ omega (arith, token-initial g x a n (omega (arith, tokens)))
    ]

pub one_server_leaves : (p : Plant) → IsSound p → OneServerLeavesThen p
one_server_leaves p sound x least i j n at one =
    let g = graph p in
    let t = machine_station p i j in
    let own = servers_arc p i j at.stage at.machine in
    let inside = at.machine in
    let exists : t < stations g = omega (arith, stations-graph p, last_machine-below p i at.stage) in
    let last = (greatest_of_terms g x (IsGraph-graph p sound) least).others t n (omega arith) exists at.from_one at.job in
    let a = last.last in
    let most : x t n ≤ end p x i j n =
    elim (works-or-orders p i j a sound at.stage at.machine last.enters) [
      | inl works ↦
          let time_is : work g a n ≡ time g t n = work-worked g a n works ∙ ap (λ s. time g s n) last.enters.1 in
          omega (arith, last.equal, time_is, token-le-start g x t a n last.enters works)
      | inr orders ↦
          let none = work-plain g a n (ap (λ (c : Arc). c.worked) orders.arc_is) in
          let server : IsServersArc p t 1 own.0 = record { ends = own.1.ends; works = own.1.works; from = own.1.from; tokens = own.1.tokens ∙ one; no_delay = own.1.no_delay } in
          omega (arith, last.equal, none, order-le-server p x t a own.0 n orders server, token-le-start g x t own.0 n own.1.ends own.1.works)
    ] in
    omega (arith, most, none_leaves_earlier p sound x least.solves i j n at)
