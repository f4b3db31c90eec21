-- The chain of causes of a date, from its beginning on. Stations and arcs count from 0, jobs from 1. Source: Baccelli,
-- Cohen, Olsder, Quadrat, Synchronization and Linearity: each date of the least solution is the greatest of its terms,
-- and so the end of a critical path.
use Rattle.std.specs.Prelude.{◌≡◌, ◌≢◌, ℕ, ◌+◌, ◌-◌, ◌<◌, ◌≤◌, List, [], ◌∷◌, ◌++◌, Option, None, Some, ⊤}
use Rattle.line_base.specs.declared.event.Parts.{Parts}
use Rattle.event_graph.specs.Network.{stations, jobs, arc_count, arc, demand, delay, EndsAt}
use Rattle.event_graph.specs.Table.{Table}
use Rattle.event_graph.specs.Term.{work, term}
use Rattle.date_causes.specs.declared.link.Cause.{Cause}
use Rattle.date_causes.specs.declared.link.Cause.TheVariants.{DemandDate, Start, Along}
use Rattle.date_causes.specs.declared.link.Link.{Link}

-- arc a is the first into station t, in the order of arcs, whose term for job n is the date of n
pub record IsFirstTight (g : Parts) (x : Table) (t n a : ℕ) : Type 0 where
  pub enters : EndsAt g t a
  pub tight : term g x a n ≡ x t n
  pub first : (b : ℕ) → b < a → EndsAt g t b → term g x b n ≢ x t n

-- the station is the feed, and the date is the demand date
pub record IsDemanded (g : Parts) (x : Table) (t n added : ℕ) : Type 0 where
  pub feed : t ≡ 0
  pub demanded : x t n ≡ demand g n
  pub added_is : added ≡ demand g n

-- job n takes a token of the start from the first arc whose term is the date, which adds the job's time alone
pub record IsStarted (g : Parts) (x : Table) (t n added : ℕ) : Type 0 where
  pub last : ℕ
  pub cause : IsFirstTight g x t n last
  pub initial : n ≤ (arc g last).tokens
  pub added_is : added ≡ work g last n

-- arc a is the first whose term is the date, and job n takes a token from it that a job before has left there
pub record IsLed (g : Parts) (x : Table) (t n a added : ℕ) : Type 0 where
  pub cause : IsFirstTight g x t n a
  pub later : (arc g a).tokens < n
  pub added_is : added ≡ work g a n + delay g a

-- the cause of the date of job n at station t, and what it adds
abbrev pub IsCaused : Parts → Table → ℕ → ℕ → Cause → ℕ → Type 0
IsCaused g x t n DemandDate added = IsDemanded g x t n added
IsCaused g x t n Start added = IsStarted g x t n added
IsCaused g x t n (Along a) added = IsLed g x t n a added

-- a date of the table, with its cause
pub record IsLink (g : Parts) (x : Table) (l : Link) : Type 0 where
  pub station : l.station < stations g
  pub from_one : 1 ≤ l.job
  pub job : l.job ≤ jobs g
  pub date : l.date ≡ x l.station l.job
  pub caused : IsCaused g x l.station l.job l.cause l.added

-- the links lead from a demand or a token of the start to the date of job n at station t, each the cause of the next
pub data IsChain (g : Parts) (x : Table) : ℕ → ℕ → List Link → Type 0 where
  demanded : (l : Link) → IsLink g x l → l.cause ≡ DemandDate → IsChain g x l.station l.job (l ∷ [])
  started : (l : Link) → IsLink g x l → l.cause ≡ Start → IsChain g x l.station l.job (l ∷ [])
  led : (links : List Link) (l : Link) (a : ℕ) → IsLink g x l → l.cause ≡ Along a
      → IsChain g x (arc g a).from (l.job - (arc g a).tokens) links → IsChain g x l.station l.job (links ++ l ∷ [])

-- the arc of a link, if it has one, is there, and the job is above its tokens
abbrev pub NamesArc : Parts → ℕ → Cause → Type 0
NamesArc g n DemandDate = ⊤
NamesArc g n Start = ⊤
NamesArc g n (Along a) = (a < arc_count g) × ((arc g a).tokens < n)

abbrev pub HasArc : Parts → Link → Type 0
HasArc g l = NamesArc g l.job l.cause

-- the station and the job of the date before a job with this cause; none where the chain begins
abbrev pub before_of : Parts → ℕ → Cause → Option (ℕ × ℕ)
before_of g n DemandDate = None
before_of g n Start = None
before_of g n (Along a) = Some ((arc g a).from, n - (arc g a).tokens)

abbrev pub IsBefore : Parts → Link → Option (ℕ × ℕ) → Type 0
IsBefore g l found = found ≡ before_of g l.job l.cause
