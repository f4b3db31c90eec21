-- The date of a job over the tokens of its inputs.
use Rattle.std.proofs.Common.{◌≡◌, ◌≢◌, ℕ, zero, suc, ◌+◌, ◌<◌, ◌≤◌, max, List, length, set, refl, sym, ap, ◌∙◌, arith, ⊎_elim, get_or-set_same, get_or-set_other}
use Rattle.std.specs.Prelude.{Bool, false, None, slice_index, slice_index_or, if◌then◌else◌, nat_eq, ◌==◌, unwrap_or}
use Rattle.std.specs.List.{range_with_len}
use Rattle.std.specs.Ordering.{ord_max, nat_cmp}
use Rattle.std.proofs.lemmas.List.{get_or-map}
use Rattle.std.proofs.lemmas.Bool.{cases_lt}
use Rattle.std.proofs.lemmas.Bool.Decides.{nat_tests, eqb_tells}
use Rattle.line_base.specs.declared.times.Times.{Times}
use Rattle.line_base.specs.declared.times.Times.TheVariants.{Fixed, Each}
use Rattle.line_base.specs.Times.{time_at}
use Rattle.line_base.specs.declared.event.Parts.{Parts}
use Rattle.event_graph.specs.Network.{ins, outs, demand, delay, time}
use Rattle.event_graph.specs.Varying.{IsList, Varies}
use Rattle.event_graph.specs.Term.{work}
use Rattle.event_graph.specs.GreatestValue.{greatest}
use Rattle.station_step.specs.declared.ends.Inlet.TheVariants.{Local}
use Rattle.station_step.specs.declared.input.Input.{Input}
use Rattle.station_step.specs.Input.{input_at}
use Rattle.station_step.specs.Kept.{saturating, date_asked, date_for}
use Rattle.station_step.specs.Noted.{extras_into, delays_from}
use Rattle.station_step.specs.Refilled.{hand_asks}

-- the feed's date, and the latest that the tokens of every other station ask for
pub date_for-is : (g : Parts) (t job latest : ℕ) (token : ℕ → ℕ) → latest ≡ greatest (date_asked g t job token) (range_with_len 0 (length (ins g t))) → (if t == 0 then demand g job else latest) ≡ date_for g t job token
unfolding date_for
date_for-is g t job latest token is = ap (λ m. if nat_eq t 0 then demand g job else m) is

not-feed : (t : ℕ) → t ≢ 0 → nat_eq t 0 ≡ false
not-feed t inside = ⊎_elim (λ h. absurd (inside h.1)) (λ h. h.0) (eqb_tells t 0)

-- the latest alone, at any other station
pub date_for-inside : (g : Parts) (t job latest : ℕ) (token : ℕ → ℕ) → t ≢ 0 → latest ≡ greatest (date_asked g t job token) (range_with_len 0 (length (ins g t))) → latest ≡ date_for g t job token
date_for-inside g t job latest token inside is =
    sym (ap (λ (b : Bool). if b then demand g job else latest) (not-feed t inside)) ∙ date_for-is g t job latest token is

one_time : (times : Times) → (IsList times → ⊥) → (n m : ℕ) → time_at times n ≡ time_at times m
one_time (Fixed takes) no_list n m = refl
one_time (Each list) no_list n m = absurd (no_list tt)

-- a station without a list of times takes as long for each job
pub time-fixed : (g : Parts) (t n m : ℕ) → (Varies g t → ⊥) → time g t n ≡ time g t m
unfolding time
time-fixed g t n m no_list = one_time (slice_index_or g.times t (Fixed 0)) no_list n m

-- the delay of the arc of output k, as it is noted
pub delay-noted : (g : Parts) (t k : ℕ) (delays : List ℕ) → k < length (outs g t) → delays ≡ delays_from g t → slice_index delays k ≡ delay g (slice_index (outs g t) k)
delay-noted g t k delays low is =
    ap (λ (l : List ℕ). slice_index l k) is ∙ get_or-map (delay g) (outs g t) k 0 0 low

-- what a job adds to the token on input k, as it is noted
pub extra-noted : (g : Parts) (t job k : ℕ) (extras : List ℕ) → k < length (ins g t) → extras ≡ extras_into g t job → slice_index extras k ≡ work g (slice_index (ins g t) k) job
extra-noted g t job k extras low is =
    ap (λ (l : List ℕ). slice_index l k) is ∙ get_or-map (λ a. work g a job) (ins g t) k 0 0 low

-- the latest where no input asks yet
pub latest-none : (f : ℕ → ℕ) → 0 ≡ greatest f (range_with_len 0 0)
unfolding greatest
latest-none f = refl

-- the greatest over one input more
pub greatest-more : (f : ℕ → ℕ) (k n : ℕ) → greatest f (range_with_len k (suc n)) ≡ max (greatest f (range_with_len k n)) (f (k + n))
unfolding greatest
greatest-more f k zero = let at : k + zero ≡ k = omega arith in omega (arith, ap f at)
greatest-more f k (suc n) =
    let at : k + 1 + n ≡ k + suc n = omega arith in omega (arith, greatest-more f (k + 1) n, ap f at)

-- functions that agree below n have the same greatest value there
pub greatest-agree : (f h : ℕ → ℕ) (k n : ℕ) → ((j : ℕ) → k ≤ j → j < k + n → f j ≡ h j) → greatest f (range_with_len k n) ≡ greatest h (range_with_len k n)
unfolding greatest
greatest-agree f h k zero agree = refl
greatest-agree f h k (suc n) agree =
    ap (λ m. max m (greatest f (range_with_len (k + 1) n))) (agree k (omega arith) (omega arith))
    ∙ ap (max (h k)) (greatest-agree f h (k + 1) n (λ j from to. agree j (omega arith) (omega arith)))

-- no value below n is above the greatest there
pub greatest-above : (f : ℕ → ℕ) (n k : ℕ) → k < n → f k ≤ greatest f (range_with_len 0 n)
greatest-above f zero k low = absurd (omega (arith, low))
greatest-above f (suc n) k low =
    let last : 0 + n ≡ n = omega arith in
    ⊎_elim
    (λ (before : k < n). omega (arith, greatest-above f n k before, greatest-more f 0 n))
    (λ (past : n ≤ k).
    let e : k ≡ n = omega (arith, low, past) in
    omega (arith, greatest-more f 0 n, ap f e, ap f last))
    (cases_lt k n)

-- and the greatest is at most what each of them is at most
pub greatest-below : (f : ℕ → ℕ) (n most : ℕ) → ((k : ℕ) → k < n → f k ≤ most) → greatest f (range_with_len 0 n) ≤ most
greatest-below f zero most each = omega (arith, latest-none f)
greatest-below f (suc n) most each =
    let last : 0 + n ≡ n = omega arith in
    let here = each n (omega arith) in
    omega (arith, greatest-more f 0 n, ap f last, here, greatest-below f n most (λ k low. each k (omega (arith, low))))

-- the date follows from the tokens of the inputs alone
pub date_for-agree : (g : Parts) (t job : ℕ) (one other : ℕ → ℕ) → ((k : ℕ) → k < length (ins g t) → one k ≡ other k) → date_for g t job one ≡ date_for g t job other
unfolding date_for
date_for-agree g t job one other agree =
    ap (λ m. if nat_eq t 0 then demand g job else m)
    (greatest-agree (date_asked g t job one) (date_asked g t job other) 0 (length (ins g t))
    (λ j from to. ap (λ token. saturating token (work g (slice_index (ins g t) j) job)) (agree j (omega arith))))

-- the greater of two numbers, as `Ord::max` has it
pub ord_max-nat : (a b : ℕ) → ord_max nat_cmp a b ≡ max a b
ord_max-nat a b = grind (arith, nat_tests)

-- ---- what the tokens in the hands ask for

-- the latest that they ask for, where one input more is refilled
pub latest-more : (extras : List ℕ) (k : ℕ) (inputs : List Input) (input : Input) (latest asks : ℕ) → k < length inputs → latest ≡ greatest (hand_asks extras inputs) (range_with_len 0 k) → asks ≡ saturating (unwrap_or input.hand 0) (slice_index extras k) → ord_max nat_cmp latest asks ≡ greatest (hand_asks extras (set inputs k input)) (range_with_len 0 (k + 1))
latest-more extras k inputs input latest asks low is asks_is =
    let d : Input = record { inlet = Local 0; hand = None } in
    let new = hand_asks extras (set inputs k input) in
    let before : greatest (hand_asks extras inputs) (range_with_len 0 k) ≡ greatest new (range_with_len 0 k) =
    greatest-agree (hand_asks extras inputs) new 0 k
    (λ j from to.
    ap (λ (i : Input). saturating (unwrap_or i.hand 0) (slice_index extras j))
    (sym (get_or-set_other inputs k j input d (λ e. absurd (omega (arith, e, to)))))) in
    let at : k ≡ 0 + k = omega arith in
    let here : asks ≡ new (0 + k) =
    asks_is
    ∙ ap (λ (i : Input). saturating (unwrap_or i.hand 0) (slice_index extras k)) (sym (get_or-set_same inputs k input d low))
    ∙ ap new at in
    let next : suc k ≡ k + 1 = omega arith in
    ord_max-nat latest asks
    ∙ ap (λ m. max m asks) (is ∙ before)
    ∙ ap (max (greatest new (range_with_len 0 k))) here
    ∙ sym (greatest-more new 0 k)
    ∙ ap (λ m. greatest new (range_with_len 0 m)) next

-- it is what the arcs of the graph ask for
pub latest-is : (g : Parts) (t job : ℕ) (extras : List ℕ) (inputs : List Input) (count : ℕ) → count ≡ length (ins g t) → extras ≡ extras_into g t job → greatest (hand_asks extras inputs) (range_with_len 0 count) ≡ greatest (date_asked g t job (λ k. unwrap_or (input_at inputs k).hand 0)) (range_with_len 0 (length (ins g t)))
latest-is g t job extras inputs count each noted =
    let token : ℕ → ℕ = λ k. unwrap_or (input_at inputs k).hand 0 in
    ap (λ n. greatest (hand_asks extras inputs) (range_with_len 0 n)) each
    ∙ greatest-agree (hand_asks extras inputs) (date_asked g t job token) 0 (length (ins g t))
    (λ k from to. ap (saturating (token k)) (extra-noted g t job k extras (omega (arith, to)) noted))
