-- What bounds a date, and what its earliest bound is by that.
use Rattle.std.proofs.Common.{◌≡◌, ℕ, ◌+◌, ◌-◌, ◌<◌, ◌≤◌, leb, ltb, eqb, get_or, sym, ap, ◌∙◌, arith, inl, inr}
use Rattle.std.specs.Prelude.{Option, None, Some}
use Rattle.std.proofs.lemmas.Bool.{cases_lt, cond-true, cond-false, le-leb, lt-leb, lt-ltb, le-ltb, eq-eqb, ne_eqb}
use Rattle.line_base.specs.declared.event.Parts.{Parts}
use Rattle.event_graph.specs.Network.{stations, jobs, arc, demand, delay, outs, StartsAt}
use Rattle.event_graph.specs.Table.{Table}
use Rattle.event_graph.specs.Term.{work, term}
use Rattle.event_graph.proofs.ArcNumbers.{All-outs, each_output}
use Rattle.latest_dates.specs.Latest.{LatestTable, earlier, earliest, promised_date, put_by, bound, earliest_bound, IsNoLater}
use Rattle.latest_dates.proofs.Earliest.{IsWithin, no_later-first, no_later-second, no_later-both, no_later-each, no_later-all, within-both, within-all, earliest-same}

pub bound-read : (g : Parts) (y : LatestTable) (n a : ℕ) → n + (arc g a).tokens ≤ jobs g → bound g y n a ≡ put_by g a (n + (arc g a).tokens) (y (arc g a).to (n + (arc g a).tokens))
unfolding bound
bound-read g y n a inside =
    let job = n + (arc g a).tokens in
    cond-true (leb job (jobs g)) (put_by g a job (y (arc g a).to job)) None (le-leb job (jobs g) inside)

pub bound-past : (g : Parts) (y : LatestTable) (n a : ℕ) → jobs g < n + (arc g a).tokens → bound g y n a ≡ None
unfolding bound
bound-past g y n a past =
    let job = n + (arc g a).tokens in
    cond-false (leb job (jobs g)) (put_by g a job (y (arc g a).to job)) None (lt-leb job (jobs g) past)

pub promised-last : (g : Parts) (may t n : ℕ) → t ≡ stations g - 1 → promised_date g may t n ≡ Some (demand g n + may)
unfolding promised_date
promised-last g may t n last =
    cond-true (eqb t (stations g - 1)) (Some (demand g n + may)) None (eq-eqb t (stations g - 1) last)

pub promised-other : (g : Parts) (may t n : ℕ) → (t ≡ stations g - 1 → ⊥) → promised_date g may t n ≡ None
unfolding promised_date
promised-other g may t n other =
    cond-false (eqb t (stations g - 1)) (Some (demand g n + may)) None (ne_eqb t (stations g - 1) other)

-- what is no later than the earliest bound is no later than each
pub no_later-promised : (o : Option ℕ) (g : Parts) (may : ℕ) (y : LatestTable) (t n : ℕ) → IsNoLater o (earliest_bound g may y t n) → IsNoLater o (promised_date g may t n)
unfolding earliest_bound
no_later-promised o g may y t n h = no_later-first o (promised_date g may t n) (earliest (bound g y n) (outs g t)) h

pub no_later-bound : (o : Option ℕ) (g : Parts) (may : ℕ) (y : LatestTable) (t n : ℕ) → IsNoLater o (earliest_bound g may y t n) → (a : ℕ) → StartsAt g t a → IsNoLater o (bound g y n a)
unfolding earliest_bound
no_later-bound o g may y t n h a starts =
    each_output g t
    (λ b. IsNoLater o (bound g y n b))
    (no_later-each o (bound g y n) (outs g t) (no_later-second o (promised_date g may t n) (earliest (bound g y n) (outs g t)) h))
    a
    starts.0
    starts.1

-- and what is no later than each is no later than it
pub no_later-bounds : (o : Option ℕ) (g : Parts) (may : ℕ) (y : LatestTable) (t n : ℕ) → IsNoLater o (promised_date g may t n) → ((a : ℕ) → StartsAt g t a → IsNoLater o (bound g y n a)) → IsNoLater o (earliest_bound g may y t n)
unfolding earliest_bound
no_later-bounds o g may y t n first each =
    no_later-both o (promised_date g may t n) (earliest (bound g y n) (outs g t))
    first
    (no_later-all o (bound g y n) (outs g t) (λ k d low. each (get_or (outs g t) k d) (All-outs g t k d low)))

pub within-bounds : (most : ℕ) (g : Parts) (may : ℕ) (y : LatestTable) (t n : ℕ) → IsWithin most (promised_date g may t n) → ((a : ℕ) → StartsAt g t a → IsWithin most (bound g y n a)) → IsWithin most (earliest_bound g may y t n)
unfolding earliest_bound
within-bounds most g may y t n first each =
    within-both most (promised_date g may t n) (earliest (bound g y n) (outs g t))
    first
    (within-all most (bound g y n) (outs g t) (λ k d low. each (get_or (outs g t) k d) (All-outs g t k d low)))

-- tables that agree where the date is read have the same
abbrev pub AgreesAfter : Parts → LatestTable → LatestTable → ℕ → ℕ → Type 0
AgreesAfter g y z t n =
    (a : ℕ) → StartsAt g t a → n + (arc g a).tokens ≤ jobs g
    → y (arc g a).to (n + (arc g a).tokens) ≡ z (arc g a).to (n + (arc g a).tokens)

bound-same : (g : Parts) (y z : LatestTable) (t n a : ℕ) → AgreesAfter g y z t n → StartsAt g t a → bound g y n a ≡ bound g z n a
bound-same g y z t n a agree starts =
    elim (cases_lt (jobs g) (n + (arc g a).tokens)) [
      | inl past ↦ bound-past g y n a past ∙ sym (bound-past g z n a past)
      | inr inside ↦
          bound-read g y n a inside ∙ ap (put_by g a (n + (arc g a).tokens)) (agree a starts inside) ∙ sym (bound-read g z n a inside)
    ]

pub earliest_bound-same : (g : Parts) (may : ℕ) (y z : LatestTable) (t n : ℕ) → AgreesAfter g y z t n → earliest_bound g may y t n ≡ earliest_bound g may z t n
unfolding earliest_bound
earliest_bound-same g may y z t n agree =
    ap (earlier (promised_date g may t n))
    (earliest-same (bound g y n) (bound g z n) (outs g t) (λ k d low. bound-same g y z t n (get_or (outs g t) k d) agree (All-outs g t k d low)))

-- what an arc asks of the job that takes job n's token, and of one that takes a token of the start
pub term-sent : (g : Parts) (z : Table) (a n : ℕ) → 1 ≤ n → term g z a (n + (arc g a).tokens) ≡ work g a (n + (arc g a).tokens) + (z (arc g a).from n + delay g a)
term-sent g z a n one =
    let k = (arc g a).tokens in
    let job : n + k - k ≡ n = omega arith in
    ap (λ d. work g a (n + k) + d) (cond-true (ltb k (n + k)) (z (arc g a).from (n + k - k) + delay g a) 0 (lt-ltb k (n + k) (omega arith)))
    ∙ ap (λ m. work g a (n + k) + (z (arc g a).from m + delay g a)) job

pub term-initial : (g : Parts) (z : Table) (a n : ℕ) → n ≤ (arc g a).tokens → term g z a n ≡ work g a n
term-initial g z a n initial =
    omega (arith, cond-false (ltb (arc g a).tokens n) (z (arc g a).from (n - (arc g a).tokens) + delay g a) 0 (le-ltb (arc g a).tokens n initial))
