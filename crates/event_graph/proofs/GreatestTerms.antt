-- Each date of a least solution is the greatest of its terms: with the lesser of itself and of that it solves the graph
-- too.
use Rattle.std.proofs.Common.{◌≡◌, ◌≢◌, ℕ, ◌+◌, ◌-◌, ◌<◌, ◌≤◌, Bool, true, false, cond, eqb, ltb, get_or, min, refl, ap, arith}
use Rattle.std.proofs.lemmas.Bool.{cond-false, ne_eqb}
use Rattle.line_base.specs.declared.event.Parts.{Parts}
use Rattle.event_graph.specs.Network.{stations, jobs, arc, arc_count, demand, delay, ins, IsGraph}
use Rattle.event_graph.specs.Table.{Table}
use Rattle.event_graph.specs.Term.{token_date, term}
use Rattle.event_graph.specs.Solves.{Solves}
use Rattle.event_graph.specs.Least.{IsLeast}
use Rattle.event_graph.specs.Greatest.{IsGreatestOfTerms}
use Rattle.event_graph.specs.GreatestValue.{greatest}
use Rattle.event_graph.proofs.ArcNumbers.{Contains-ins, All-ins, each_input}
use Rattle.event_graph.proofs.Greatest.{le-greatest, greatest-one}

cond-le : (b : Bool) (u v : ℕ) → u ≤ v → cond b u 0 ≤ cond b v 0
cond-le true u v le = le
cond-le false u v le = omega arith

-- where the dates at its start are no later, neither is an arc's term
pub term-le : (g : Parts) (x y : Table) (a n : ℕ) → ((k : ℕ) → y (arc g a).from k ≤ x (arc g a).from k) → term g y a n ≤ term g x a n
term-le g x y a n le =
    let tokens = (arc g a).tokens in
    let dates : token_date g y a n ≤ token_date g x a n =
    cond-le (ltb tokens n) (y (arc g a).from (n - tokens) + delay g a) (x (arc g a).from (n - tokens) + delay g a) (omega (arith, le (n - tokens))) in
    omega (arith, dates)

-- the date that the equations ask of job n at station t
unfoldable asked : Parts → Table → ℕ → ℕ → ℕ
asked g x t n = cond (eqb t 0) (demand g n) (greatest (λ a. term g x a n) (ins g t))

asked-feed : (g : Parts) (x : Table) (n : ℕ) → asked g x 0 n ≡ demand g n
unfolding asked
asked-feed g x n = refl

asked-other : (g : Parts) (x : Table) (t n : ℕ) → t ≢ 0 → asked g x t n ≡ greatest (λ a. term g x a n) (ins g t)
unfolding asked
asked-other g x t n other = cond-false (eqb t 0) _ _ (ne_eqb t 0 other)

-- the lesser of each date and of what is asked of it
lesser : Parts → Table → Table
lesser g x t n = min (x t n) (asked g x t n)

module _ (g : Parts) (x : Table) (graph : IsGraph g) (solves : Solves g x) where
  lesser-date : (t n : ℕ) → lesser g x t n ≤ x t n
  unfolding lesser
  lesser-date t n = omega arith

  lesser-asked : (t n : ℕ) → lesser g x t n ≤ asked g x t n
  unfolding lesser
  lesser-asked t n = omega arith

  le-lesser : (t n z : ℕ) → z ≤ x t n → z ≤ asked g x t n → z ≤ lesser g x t n
  unfolding lesser
  le-lesser t n z here there = omega arith

  term-asked : (a n : ℕ) → a < arc_count g → term g x a n ≤ asked g x (arc g a).to n
  term-asked a n known =
      let t = (arc g a).to in
      let asks = λ (b : ℕ). term g x b n in
      let below = each_input g t (λ b. asks b ≤ greatest asks (ins g t)) (le-greatest asks (ins g t)) a known refl in
      omega (arith, below, asked-other g x t n (graph.feed_has_no_input a known))

  lesser-solves : Solves g (lesser g x)
  lesser-solves = record {
    feed = λ n one within. le-lesser 0 n (demand g n) (solves.feed n one within) (omega (arith, asked-feed g x n));
    others = λ a n known one within.
        let less = term-le g x (lesser g x) a n (λ k. lesser-date (arc g a).from k) in
        le-lesser (arc g a).to n (term g (lesser g x) a n) (omega (arith, less, solves.others a n known one within)) (omega (arith, less, term-asked a n known));
  }

-- the date of a least solution is what the equations ask
least-asked : (g : Parts) (x : Table) → IsGraph g → IsLeast g x → (t n : ℕ) → t < stations g → 1 ≤ n → n ≤ jobs g → x t n ≤ asked g x t n
least-asked g x graph least t n there one within =
    omega (arith, least.least (lesser g x) (lesser-solves g x graph least.solves) t n there one within, lesser-asked g x graph least.solves t n)

pub greatest_of_terms : (g : Parts) (x : Table) → IsGraph g → IsLeast g x → IsGreatestOfTerms g x
greatest_of_terms g x graph least = record {
  feed = λ some n one within.
      omega (arith, least-asked g x graph least 0 n (omega arith) one within, asked-feed g x n, least.solves.feed n one within);
  others = λ t n other there one within.
      let asks = λ (a : ℕ). term g x a n in
      let input = graph.others_have_input t other there in
      let listed = Contains-ins g t input.0 input.1 input.2 in
      let found = greatest-one asks (ins g t) (omega (arith, listed.1)) in
      let last = get_or (ins g t) found.0 0 in
      let ends = All-ins g t found.0 0 found.1 in
      let isnt_feed : t ≢ 0 = λ feed. omega (arith, feed) in
      let below = least.solves.others last n ends.0 one within in
      let date = ap (λ u. x u n) ends.1 in
      record {
        at_least = λ a enters. omega (arith, least.solves.others a n enters.0 one within, ap (λ u. x u n) enters.1);
        last = last;
        enters = ends;
        equal = omega (arith, least-asked g x graph least t n there one within, asked-other g x t n isnt_feed, found.2, below, date);
      };
}
