use Rattle.std.proofs.Common.{sym, ap, ◌∙◌, subst, arith, length, ◌≡◌, ◌≤◌, ◌-◌, ℕ, zero, suc, List, [], get_or}
use Rattle.line_base.specs.Roomy.{RoomyLog, dates_of}
use Rattle.event_graph.specs.Network.{stations, jobs}
use Rattle.line_core.specs.Run.{Dates, IsLeastTable}
use Rattle.line_core.proofs.Runs.{get_or-dates_of}
use Rattle.std.proofs.lemmas.List.{length-map}
use Rattle.event_graph.specs.Table.{date_in}
use Rattle.line_core.proofs.table.Table.date.Goals as goal

pub bounds-dates-n : goal.bounds-dates-n
bounds-dates-n c =
    let read = c.dates.ensures ∙ ap (λ (l : RoomyLog). l.dates) c.get.ensures ∙ sym (get_or-dates_of c.self.inside.rows c.args.t) in
    omega (arith, ap length read, c.self.invariant.a_date_each c.args.t (omega (arith, ap (λ (d : Dates). stations d.graph) c.self.view_is, c.requires.station)), ap (λ (d : Dates). jobs d.graph) c.self.view_is, c.requires.job, c.requires.from_one)

pub returns-clause-least : goal.returns-clause-least
returns-clause-least c = subst IsLeastTable c.self.view_is c.self.invariant

pub get-requires : goal.get-requires
get-requires c =
    let many = length-map c.self.inside.rows.logs (λ (l : RoomyLog). l.dates) in
    let same = ap (λ (d : Dates). stations d.graph) c.self.view_is in
    omega (arith, many, c.self.invariant.a_row_each, same, c.requires.station)

pub offset_bounds-dates-n : goal.offset_bounds-dates-n
offset_bounds-dates-n c = omega (arith, c.ranges.n)

-- jobs are counted from 1
date_at : (rows : List (List ℕ)) (t n : ℕ) → 1 ≤ n → get_or (get_or rows t []) (n - 1) 0 ≡ date_in rows t n
date_at rows t zero early = absurd (omega arith)
date_at rows t (suc n) early = let same : suc n - 1 ≡ n = omega arith in ap (λ k. get_or (get_or rows t []) k 0) same

pub returns-clause-date : goal.returns-clause-date
returns-clause-date c =
    let rows = c.self.inside.rows in
    let log = ap (λ (l : RoomyLog). l.dates) c.get.ensures ∙ sym (get_or-dates_of rows c.args.t) in
    ap (λ l. get_or l (c.args.n - 1) 0) (c.dates.ensures ∙ log)
    ∙ date_at (dates_of rows) c.args.t c.args.n c.requires.from_one
    ∙ ap (λ (d : Dates). date_in d.rows c.args.t c.args.n) c.self.view_is
