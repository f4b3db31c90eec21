-- What a chain of causes sums to, that it is a walk, and that no walk sums to more.
use Rattle.std.proofs.Common.{◌≡◌, ℕ, ◌+◌, ◌-◌, ◌≤◌, List, [], ◌∷◌, ◌++◌, sym, ◌∙◌, subst, arith}
use Rattle.std.specs.List.{All, sum}
use Rattle.std.proofs.lemmas.List.{map-append}
use Rattle.std.proofs.lemmas.List.Elements.{All-push, All-nil}
use Rattle.std.proofs.lemmas.List.Sums.{sum_by_push}
use Rattle.line_base.specs.declared.event.Parts.{Parts}
use Rattle.event_graph.specs.Network.{arc, delay}
use Rattle.event_graph.specs.Table.{Table}
use Rattle.event_graph.specs.Term.{work}
use Rattle.event_graph.specs.Solves.{Solves}
use Rattle.date_causes.specs.declared.link.Cause.{Cause}
use Rattle.date_causes.specs.declared.link.Cause.TheVariants.{DemandDate, Start, Along}
use Rattle.date_causes.specs.declared.link.Link.{Link}
use Rattle.date_causes.specs.Chain.{IsCaused, IsDemanded, IsStarted, IsLed, IsLink, IsChain, demanded, started, led}
use Rattle.date_causes.specs.Walk.{IsWalkTo, from_demand, from_start, along}
use Rattle.date_causes.specs.Shares.{amounts, total}
use Rattle.event_graph.proofs.ArcTerms.{term-later, term-initial}

module _ (g : Parts) (x : Table) where
  -- the cause of a link, by its kind
  pub caused_by : (l : Link) (c : Cause) → IsLink g x l → l.cause ≡ c → IsCaused g x l.station l.job c l.added
  caused_by l c link is = subst (λ k. IsCaused g x l.station l.job k l.added) is link.caused

  -- what a demand adds, and a token of the start, is the date
  demand-adds : (l : Link) → IsLink g x l → l.cause ≡ DemandDate → l.added ≡ x l.station l.job
  demand-adds l link is =
      let by : IsDemanded g x l.station l.job l.added = caused_by l DemandDate link is in
      by.added_is ∙ sym by.demanded

  start-adds : (l : Link) → IsLink g x l → l.cause ≡ Start → l.added ≡ x l.station l.job
  start-adds l link is =
      let by : IsStarted g x l.station l.job l.added = caused_by l Start link is in
      by.added_is ∙ sym (term-initial g x by.last l.job by.initial) ∙ by.cause.tight

  -- what an arc adds is added to the date at its start
  arc-adds : (l : Link) (a : ℕ) → IsLink g x l → l.cause ≡ Along a → x (arc g a).from (l.job - (arc g a).tokens) + l.added ≡ x l.station l.job
  arc-adds l a link is =
      let by : IsLed g x l.station l.job a l.added = caused_by l (Along a) link is in
      omega (arith, by.added_is, term-later g x a l.job by.later, by.cause.tight)

  pub chain_sums : (t n : ℕ) (links : List Link) → IsChain g x t n links → total links ≡ x t n
  chain_sums t n links (demanded l link is) = omega (arith, demand-adds l link is)
  chain_sums t n links (started l link is) = omega (arith, start-adds l link is)
  chain_sums t n links (led before l a link is chain) =
      let rest = chain_sums (arc g a).from (l.job - (arc g a).tokens) before chain in
      sum_by_push (λ k. k.added) before l ∙ omega (arith, rest, arc-adds l a link is)

  pub chain_links : (t n : ℕ) (links : List Link) → IsChain g x t n links → All (IsLink g x) links
  chain_links t n links (demanded l link is) = All-push (IsLink g x) [] l (All-nil (IsLink g x)) link
  chain_links t n links (started l link is) = All-push (IsLink g x) [] l (All-nil (IsLink g x)) link
  chain_links t n links (led before l a link is chain) =
      All-push (IsLink g x) before l (chain_links (arc g a).from (l.job - (arc g a).tokens) before chain) link

  pub chain_walks : (t n : ℕ) (links : List Link) → IsChain g x t n links → IsWalkTo g t n (amounts links)
  chain_walks t n links (demanded l link is) =
      let by : IsDemanded g x l.station l.job l.added = caused_by l DemandDate link is in
      subst (λ u. IsWalkTo g u l.job (l.added ∷ [])) (sym by.feed) (
      subst (λ m. IsWalkTo g 0 l.job (m ∷ [])) (sym by.added_is) (from_demand l.job link.from_one link.job))
  chain_walks t n links (started l link is) =
      let by : IsStarted g x l.station l.job l.added = caused_by l Start link is in
      subst (λ u. IsWalkTo g u l.job (l.added ∷ [])) by.cause.enters.1 (
      subst (λ m. IsWalkTo g (arc g by.last).to l.job (m ∷ [])) (sym by.added_is) (
      from_start by.last l.job by.cause.enters.0 link.from_one link.job by.initial))
  chain_walks t n links (led before l a link is chain) =
      let by : IsLed g x l.station l.job a l.added = caused_by l (Along a) link is in
      let rest = chain_walks (arc g a).from (l.job - (arc g a).tokens) before chain in
      subst (λ w. IsWalkTo g l.station l.job w) (sym (map-append (λ k. k.added) before (l ∷ []))) (
      subst (λ u. IsWalkTo g u l.job (amounts before ++ l.added ∷ [])) by.cause.enters.1 (
      subst (λ m. IsWalkTo g (arc g a).to l.job (amounts before ++ m ∷ [])) (sym by.added_is) (
      along a l.job (amounts before) by.cause.enters.0 link.job by.later rest)))

  pub walk-le : Solves g x → (t n : ℕ) (walk : List ℕ) → IsWalkTo g t n walk → sum walk ≤ x t n
  walk-le solves t n walk (from_demand n' one within) = omega (arith, solves.feed n' one within)
  walk-le solves t n walk (from_start a n' there one within initial) =
      omega (arith, solves.others a n' there one within, term-initial g x a n' initial)
  walk-le solves t n walk (along a n' before there within later rest) =
      let most = walk-le solves (arc g a).from (n' - (arc g a).tokens) before rest in
      omega (arith, sum_by_push (λ m. m) before (work g a n' + delay g a), most, solves.others a n' there (omega arith) within, term-later g x a n' later)
