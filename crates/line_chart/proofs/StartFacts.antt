-- What the start of a job at a station is at least, and at most.
use Rattle.std.proofs.Common.{◌≡◌, ℕ, ◌+◌, ◌-◌, ◌<◌, ◌≤◌, Bool, true, false, cond, ltb, List, [], ◌∷◌, ◌++◌, length, get_or, take, max, sym, ap, ◌∙◌, append-nil}
use Rattle.std.specs.List.{filter, Contains}
use Rattle.std.proofs.lemmas.Bool.{cond-false, cond-true, lt-ltb, le-ltb}
use Rattle.std.proofs.lemmas.List.{take_more}
use Rattle.std.proofs.lemmas.List.Elements.{filter-append, All-filter, filter_passes, All-contains}
use Rattle.line_base.specs.declared.event.Parts.{Parts}
use Rattle.event_graph.specs.Network.{arc, ins, delay, time, EndsAt}
use Rattle.event_graph.specs.Table.{Table}
use Rattle.event_graph.specs.Term.{token_date, work}
use Rattle.event_graph.specs.GreatestValue.{greatest}
use Rattle.event_graph.proofs.ArcNumbers.{All-ins, Contains-ins}
use Rattle.event_graph.proofs.Greatest.{le-greatest, greatest-le, greatest-push}
use Rattle.event_graph.proofs.Ranges.{Contains-filter}
use Rattle.line_chart.specs.Starts.{worked_ins, start}

-- among the elements that pass a test, one more, and one that doesn't pass
filter-more : (t : ℕ → Bool) (xs : List ℕ) (i d : ℕ) → i < length xs → filter t (take (i + 1) xs) ≡ filter t (take i xs) ++ cond (t (get_or xs i d)) (get_or xs i d ∷ []) []
filter-more t xs i d below = ap (filter t) (take_more xs i d below) ∙ filter-append t (take i xs) (get_or xs i d ∷ [])

pub passing-more : (f : ℕ → ℕ) (t : ℕ → Bool) (xs : List ℕ) (i d m : ℕ) → i < length xs → t (get_or xs i d) ≡ true → m ≡ greatest f (filter t (take i xs)) → max m (f (get_or xs i d)) ≡ greatest f (filter t (take (i + 1) xs))
passing-more f t xs i d m below passes is =
    let x = get_or xs i d in
    let more = filter-more t xs i d below ∙ ap (λ b. filter t (take i xs) ++ cond b (x ∷ []) []) passes in
    ap (λ n. max n (f x)) is ∙ sym (greatest-push f (filter t (take i xs)) x) ∙ ap (greatest f) (sym more)

pub failing-more : (f : ℕ → ℕ) (t : ℕ → Bool) (xs : List ℕ) (i d m : ℕ) → i < length xs → t (get_or xs i d) ≡ false → m ≡ greatest f (filter t (take i xs)) → m ≡ greatest f (filter t (take (i + 1) xs))
failing-more f t xs i d m below fails is =
    let x = get_or xs i d in
    let more = filter-more t xs i d below ∙ ap (λ b. filter t (take i xs) ++ cond b (x ∷ []) []) fails ∙ append-nil (filter t (take i xs)) in
    is ∙ ap (greatest f) (sym more)

-- the token of a worked arc is no later than the start
worked-among : (g : Parts) (t a : ℕ) → EndsAt g t a → (arc g a).worked ≡ true → Contains (worked_ins g t) a
unfolding worked_ins
worked-among g t a ends worked =
    let at = Contains-ins g t a ends.0 ends.1 in
    Contains-filter (λ b. (arc g b).worked) (ins g t) at.0 a at.1 at.2 worked

pub token-le-start : (g : Parts) (x : Table) (t a n : ℕ) → EndsAt g t a → (arc g a).worked ≡ true → token_date g x a n ≤ start g x t n
unfolding start
token-le-start g x t a n ends worked =
    let dates = λ (b : ℕ). token_date g x b n in
    All-contains (λ b. dates b ≤ greatest dates (worked_ins g t)) (worked_ins g t) a (le-greatest dates (worked_ins g t)) (worked-among g t a ends worked)

-- the start is at most what each of these tokens is at most
pub start-le : (g : Parts) (x : Table) (t n most : ℕ) → ((a : ℕ) → EndsAt g t a → (arc g a).worked ≡ true → token_date g x a n ≤ most) → start g x t n ≤ most
unfolding start worked_ins
start-le g x t n most each =
    let test = λ (b : ℕ). (arc g b).worked in
    greatest-le (λ b. token_date g x b n) (filter test (ins g t)) most (λ k d low.
    let a = get_or (filter test (ins g t)) k d in
    each a (All-filter test (EndsAt g t) (ins g t) (All-ins g t) k d low) (filter_passes test (ins g t) k d low))

-- a token that a job before has sent on, and one of the start
pub token-sent : (g : Parts) (x : Table) (a n : ℕ) → (arc g a).tokens < n → token_date g x a n ≡ x (arc g a).from (n - (arc g a).tokens) + delay g a
token-sent g x a n later =
    cond-true (ltb (arc g a).tokens n) (x (arc g a).from (n - (arc g a).tokens) + delay g a) 0 (lt-ltb (arc g a).tokens n later)

pub token-initial : (g : Parts) (x : Table) (a n : ℕ) → n ≤ (arc g a).tokens → token_date g x a n ≡ 0
token-initial g x a n first =
    cond-false (ltb (arc g a).tokens n) (x (arc g a).from (n - (arc g a).tokens) + delay g a) 0 (le-ltb (arc g a).tokens n first)

-- the work on an arc
pub work-worked : (g : Parts) (a n : ℕ) → (arc g a).worked ≡ true → work g a n ≡ time g (arc g a).to n
unfolding work
work-worked g a n worked = cond-true (arc g a).worked (time g (arc g a).to n) 0 worked

pub work-plain : (g : Parts) (a n : ℕ) → (arc g a).worked ≡ false → work g a n ≡ 0
unfolding work
work-plain g a n plain = cond-false (arc g a).worked (time g (arc g a).to n) 0 plain
