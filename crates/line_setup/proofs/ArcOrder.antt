-- Where an arc stands among the arcs of its station: behind as many as come before it.
use Rattle.std.proofs.Common.{◌≡◌, ◌≢◌, ℕ, zero, suc, ◌+◌, ◌<◌, ◌≤◌, Bool, true, false, cond, eqb, List, [], ◌∷◌, ◌++◌, length, get_or, refl, sym, ap, ◌∙◌, zero-add, add-one, arith, ⊎_elim, length-append}
use Rattle.std.specs.List.{filter, range_with_len}
use Rattle.std.proofs.lemmas.Bool.{eq-eqb, ne_eqb, cases_eq, cases_lt}
use Rattle.std.proofs.lemmas.List.{map-id, append-nil, get_or_append_left, get_or_push}
use Rattle.std.proofs.lemmas.List.FromFn.{filter_of_map_range_with_len_more}
use Rattle.line_base.specs.declared.event.Parts.{Parts}
use Rattle.event_graph.specs.Network.{arc_count, arc, ins, outs}
use Rattle.line_worker.specs.Teams.{index_in}
use Rattle.line_setup.specs.Making.{first_ins, first_outs}
use Rattle.line_worker.proofs.Places.{in-stands, out-stands}

-- ---- the numbers below n that pass a test

abbrev firsts : (ℕ → Bool) → ℕ → List ℕ
firsts p n = filter p (range_with_len 0 n)

firsts-more : (p : ℕ → Bool) (n : ℕ) → firsts p (n + 1) ≡ firsts p n ++ cond (p n) (n ∷ []) []
firsts-more p n =
    rw (map-id (range_with_len 0 (n + 1)), map-id (range_with_len 0 n)) at (filter_of_map_range_with_len_more p (λ (k : ℕ). k) 0 n n (zero-add n))

firsts-suc : (p : ℕ → Bool) (n : ℕ) → firsts p (suc n) ≡ firsts p n ++ cond (p n) (n ∷ []) []
firsts-suc p n = ap (firsts p) (sym (add-one n)) ∙ firsts-more p n

length-passes : (p : ℕ → Bool) (n : ℕ) → p n ≡ true → length (firsts p (n + 1)) ≡ length (firsts p n) + 1
length-passes p n passes =
    ap length (firsts-more p n)
    ∙ ap (λ b. length (firsts p n ++ cond b (n ∷ []) [])) passes
    ∙ length-append (firsts p n) (n ∷ [])

length-fails : (p : ℕ → Bool) (n : ℕ) → p n ≡ false → length (firsts p (n + 1)) ≡ length (firsts p n)
length-fails p n fails =
    ap length (firsts-more p n)
    ∙ ap (λ b. length (firsts p n ++ cond b (n ∷ []) [])) fails
    ∙ ap length (append-nil (firsts p n))

length-rises : (p : ℕ → Bool) (m n : ℕ) → m ≤ n → length (firsts p m) ≤ length (firsts p n)
length-rises p m zero low = omega (arith, ap (λ k. length (firsts p k)) (let none : m ≡ 0 = omega arith in none))
length-rises p m (suc n) low =
    ⊎_elim
    (λ same. omega (arith, ap (λ k. length (firsts p k)) same))
    (λ less.
    let before = length-rises p m n (omega arith) in
    omega (arith, ap length (firsts-suc p n), length-append (firsts p n) (cond (p n) (n ∷ []) [])))
    (cases_eq m (suc n))

length-below : (p : ℕ → Bool) (a n : ℕ) → a < n → p a ≡ true → length (firsts p a) < length (firsts p n)
length-below p a n low passes = omega (arith, length-passes p a passes, length-rises p (a + 1) n (omega arith))

-- the number at a place has as many before it that pass
rank-more : (b : Bool) (xs : List ℕ) (n k : ℕ) (before : ℕ → ℕ) → k < length (xs ++ cond b (n ∷ []) []) → (k < length xs → before (get_or xs k 0) ≡ k) → before n ≡ length xs → before (get_or (xs ++ cond b (n ∷ []) []) k 0) ≡ k
rank-more false xs n k before low early here =
    ap (λ l. before (get_or l k 0)) (append-nil xs) ∙ early (omega (arith, low, ap length (append-nil xs)))
rank-more true xs n k before low early here =
    ⊎_elim
    (λ less. ap before (get_or_append_left xs (n ∷ []) 0 k less) ∙ early less)
    (λ past.
    let last : length xs ≡ k = omega (arith, low, length-append xs (n ∷ [])) in
    ap before (get_or_push xs n 0 k last) ∙ here ∙ last)
    (cases_lt k (length xs))

rank : (p : ℕ → Bool) (n k : ℕ) → k < length (firsts p n) → length (firsts p (get_or (firsts p n) k 0)) ≡ k
rank p zero k low = absurd (omega arith)
rank p (suc n) k low =
    let more = firsts-suc p n in
    ap (λ xs. length (firsts p (get_or xs k 0))) more
    ∙ rank-more (p n) (firsts p n) n k (λ a. length (firsts p a)) (omega (arith, ap length more)) (rank p n k) refl

-- ---- the arcs into a station, and those out of it

pub length-first_ins-here : (g : Parts) (n : ℕ) → length (first_ins g (n + 1) (arc g n).to) ≡ length (first_ins g n (arc g n).to) + 1
unfolding first_ins
length-first_ins-here g n = length-passes (λ a. eqb (arc g a).to (arc g n).to) n (eq-eqb _ _ refl)

pub length-first_outs-here : (g : Parts) (n : ℕ) → length (first_outs g (n + 1) (arc g n).from) ≡ length (first_outs g n (arc g n).from) + 1
unfolding first_outs
length-first_outs-here g n = length-passes (λ a. eqb (arc g a).from (arc g n).from) n (eq-eqb _ _ refl)

pub length-first_ins-other : (g : Parts) (n t : ℕ) → t ≢ (arc g n).to → length (first_ins g (n + 1) t) ≡ length (first_ins g n t)
unfolding first_ins
length-first_ins-other g n t other = length-fails (λ a. eqb (arc g a).to t) n (ne_eqb _ _ (λ same. other (sym same)))

pub length-first_outs-other : (g : Parts) (n t : ℕ) → t ≢ (arc g n).from → length (first_outs g (n + 1) t) ≡ length (first_outs g n t)
unfolding first_outs
length-first_outs-other g n t other = length-fails (λ a. eqb (arc g a).from t) n (ne_eqb _ _ (λ same. other (sym same)))

pub first_ins-below : (g : Parts) (a n : ℕ) → a < n → length (first_ins g a (arc g a).to) < length (first_ins g n (arc g a).to)
unfolding first_ins
first_ins-below g a n low = length-below (λ b. eqb (arc g b).to (arc g a).to) a n low (eq-eqb _ _ refl)

pub first_outs-below : (g : Parts) (a n : ℕ) → a < n → length (first_outs g a (arc g a).from) < length (first_outs g n (arc g a).from)
unfolding first_outs
first_outs-below g a n low = length-below (λ b. eqb (arc g b).from (arc g a).from) a n low (eq-eqb _ _ refl)

pub first_ins-none : (g : Parts) (t : ℕ) → length (first_ins g 0 t) ≡ 0
unfolding first_ins
first_ins-none g t = refl

pub first_outs-none : (g : Parts) (t : ℕ) → length (first_outs g 0 t) ≡ 0
unfolding first_outs
first_outs-none g t = refl

pub first_ins-all : (g : Parts) (t : ℕ) → first_ins g (arc_count g) t ≡ ins g t
unfolding first_ins ins
first_ins-all g t = refl

pub first_outs-all : (g : Parts) (t : ℕ) → first_outs g (arc_count g) t ≡ outs g t
unfolding first_outs outs
first_outs-all g t = refl

pub rank-ins : (g : Parts) (t k : ℕ) → k < length (ins g t) → length (first_ins g (get_or (ins g t) k 0) t) ≡ k
unfolding first_ins ins
rank-ins g t k low = rank (λ a. eqb (arc g a).to t) (arc_count g) k low

pub rank-outs : (g : Parts) (t k : ℕ) → k < length (outs g t) → length (first_outs g (get_or (outs g t) k 0) t) ≡ k
unfolding first_outs outs
rank-outs g t k low = rank (λ a. eqb (arc g a).from t) (arc_count g) k low

pub index_in-ins : (g : Parts) (a : ℕ) → a < arc_count g → index_in (ins g (arc g a).to) a ≡ length (first_ins g a (arc g a).to)
index_in-ins g a there =
    let t = (arc g a).to in
    let stands = in-stands g a there in
    sym (rank-ins g t (index_in (ins g t) a) stands.low) ∙ ap (λ b. length (first_ins g b t)) stands.at

pub index_in-outs : (g : Parts) (a : ℕ) → a < arc_count g → index_in (outs g (arc g a).from) a ≡ length (first_outs g a (arc g a).from)
index_in-outs g a there =
    let t = (arc g a).from in
    let stands = out-stands g a there in
    sym (rank-outs g t (index_in (outs g t) a) stands.low) ∙ ap (λ b. length (first_outs g b t)) stands.at
