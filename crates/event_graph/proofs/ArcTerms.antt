-- What an arc's term is, with a token of the start and with one that a job before has left.
use Rattle.std.proofs.Common.{◌≡◌, ℕ, ◌+◌, ◌-◌, ◌<◌, ◌≤◌, ltb, ap, arith}
use Rattle.std.proofs.lemmas.Bool.{cond-true, cond-false, lt-ltb, le-ltb}
use Rattle.line_base.specs.declared.event.Parts.{Parts}
use Rattle.event_graph.specs.Network.{arc, delay}
use Rattle.event_graph.specs.Table.{Table}
use Rattle.event_graph.specs.Term.{term, work}

-- with a token that a job before has left it is the job's time, and the date of that job with the delay
pub term-later : (g : Parts) (x : Table) (a n : ℕ) → (arc g a).tokens < n → term g x a n ≡ work g a n + (x (arc g a).from (n - (arc g a).tokens) + delay g a)
term-later g x a n later =
    ap (λ d. work g a n + d) (cond-true (ltb (arc g a).tokens n) (x (arc g a).from (n - (arc g a).tokens) + delay g a) 0 (lt-ltb (arc g a).tokens n later))

-- with a token of the start it is the job's time alone
pub term-initial : (g : Parts) (x : Table) (a n : ℕ) → n ≤ (arc g a).tokens → term g x a n ≡ work g a n
term-initial g x a n initial =
    omega (arith, cond-false (ltb (arc g a).tokens n) (x (arc g a).from (n - (arc g a).tokens) + delay g a) 0 (le-ltb (arc g a).tokens n initial))
