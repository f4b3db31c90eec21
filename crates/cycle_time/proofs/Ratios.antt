-- Ratios of circuits: in lowest terms, a heavier circuit has a greater one, and with few tokens ratios can't grow
-- without end.
use Rattle.std.proofs.Common.{◌≡◌, ℕ, zero, suc, ◌+◌, ◌-◌, ◌*◌, ◌/◌, ◌<◌, ◌≤◌, List, length, ap, subst, inl, inr, arith}
use Rattle.std.specs.List.{All}
use Rattle.std.specs.Int.{◌∣◌, IsGcd}
use Rattle.std.proofs.Math.Nat.{le_trans, one-dvd, mul-le-mul_left, div-mul-le_self, div-le_self, div-mul_cancel, mul-dvd-mul_right, dvd_of_mul-dvd-mul_right, lt_of_mul-lt-mul_right, le_of_mul-le-mul_right}
use Rattle.std.proofs.lemmas.Nat.{le-div, mul-le}
use Rattle.line_base.specs.declared.event.Parts.{Parts}
use Rattle.event_graph.specs.Network.{arc_count}
use Rattle.event_graph.specs.Circuit.{IsCircuit, tokens_on, time_along}
use Rattle.event_graph.specs.Live.{IsLive}
use Rattle.cycle_time.specs.declared.weights.Weighing.TheVariants.{AtRatio}
use Rattle.cycle_time.specs.Certificate.{HasRatio, IsLowest}
use Rattle.cycle_time.specs.declared.ratio.Ratio.{Ratio}
use Rattle.cycle_time.specs.Ratio.{IsRatio}
use Rattle.cycle_time.specs.Search.{IsHeavy}
use Rattle.cycle_time.proofs.Weighed.{gains-ratio, losses-ratio}

-- ---- lowest terms

-- the parts of two numbers by their greatest common divisor have none but 1
lowest : (W M d : ℕ) → IsGcd W M d → 0 < d → IsLowest (W / d) (M / d)
lowest W M d gcd some =
    let whole_W : W / d * d ≡ W = div-mul_cancel d gcd.0 in
    let whole_M : M / d * d ≡ M = div-mul_cancel d gcd.1 in (
      one-dvd (W / d),
      one-dvd (M / d),
      λ e in_W in_M.
          (let wide_W : e * d ∣ W = subst (λ x. e * d ∣ x) whole_W (mul-dvd-mul_right e in_W d) in
          let wide_M : e * d ∣ M = subst (λ x. e * d ∣ x) whole_M (mul-dvd-mul_right e in_M d) in
          let divides : e * d ∣ d = gcd.2 (e * d) wide_W wide_M in
          let one_d : d ≡ 1 * d = omega arith in
          let as_one : e * d ∣ 1 * d = subst (λ x. e * d ∣ x) one_d divides in
          dvd_of_mul-dvd-mul_right e some as_one),
    )

-- of a number that isn't 0 each part is not 0
part_some : (q d M : ℕ) → q * d ≡ M → 1 ≤ M → (1 ≤ q) × (1 ≤ d)
part_some zero d M is some = absurd (omega (arith, is))
part_some (suc q) zero M is some = absurd (omega (arith, is))
part_some (suc q) (suc d) M is some = (omega arith, omega arith)

pub divisor_some : (W M d : ℕ) → IsGcd W M d → 1 ≤ M → 1 ≤ d
divisor_some W M d gcd some = (part_some (M / d) d M (div-mul_cancel d gcd.1) some).1

cross : (a b d W M : ℕ) → a * d ≡ W → b * d ≡ M → W * b ≡ M * a
cross a b d W M is_W is_M = omega (arith, ap (λ x. x * b) is_W, ap (λ x. x * a) is_M)

-- the ratio of a circuit
pub ratio_of : (g : Parts) (arcs : List ℕ) (W M d : ℕ) (r : Ratio) → IsCircuit g arcs → IsLive g → length arcs ≤ 512 → All (λ a. a < arc_count g) arcs → W ≡ time_along g arcs → W ≤ length arcs * 2_000_000_000 → M ≡ tokens_on g arcs → M ≤ length arcs * 10_000 → IsGcd W M d → r.time ≡ W / d → r.cards ≡ M / d → r.circuit.items ≡ arcs → IsRatio g r
ratio_of g arcs W M d r circuit live few exist time time_low tokens tokens_low gcd is_time is_cards is_circuit =
    let some : 1 ≤ M = omega (arith, live arcs circuit, tokens) in
    let parts = part_some (M / d) d M (div-mul_cancel d gcd.1) some in
    let crossed = cross (W / d) (M / d) d W M (div-mul_cancel d gcd.0) (div-mul_cancel d gcd.1) in
    let has : HasRatio g (W / d) (M / d) arcs = record {
      circuit = circuit;
      some = omega (arith, live arcs circuit);
      ratio = rw (← time, ← tokens) crossed;
    } in
    record {
      some = omega (arith, is_cards, parts.0);
      lowest = rw (is_time, is_cards) (lowest W M d gcd parts.1);
      circuit = inl (rw (is_time, is_cards, is_circuit) has);
      time_small = omega (arith, is_time, div-le_self W d, time_low, few);
      cards_small = omega (arith, is_cards, div-le_self M d, tokens_low, few);
      few = rw is_circuit few;
      exist = rw is_circuit exist;
    }

-- ---- growth

-- a circuit that is heavier at a ratio has a greater one
greater : (time cards W M time' cards' : ℕ) → time * M < cards * W → W * cards' ≡ M * time' → 1 ≤ M → 1 ≤ cards' → time * cards' < cards * time'
greater time cards W M time' cards' heavy same tokens some =
    let wide : time * M * cards' < cards * W * cards' = omega (arith, mul-le-mul_left cards' heavy) in
    lt_of_mul-lt-mul_right M (omega (arith, wide, ap (λ x. cards * x) same))

room_falls_at : (d top time cards time' cards' : ℕ) → 1 ≤ cards → 1 ≤ cards' → cards * cards' ≤ d → time' ≤ top → time * cards' < cards * time' → top * d - time' * d / cards' < top * d - time * d / cards
room_falls_at d top time cards time' cards' some some' few low less =
    let q = time * d / cards in
    let q' = time' * d / cards' in
    let under : q * cards ≤ time * d = div-mul-le_self (time * d) cards in
    let wider : q * cards * cards' ≤ time * d * cards' = omega (arith, mul-le-mul_left cards' under) in
    let first : time * cards' + 1 ≤ cards * time' = omega arith in
    let next : d * (time * cards' + 1) ≤ d * (cards * time') = mul-le-mul_left d first in
    let crossed : (q + 1) * cards' * cards ≤ time' * d * cards = omega (arith, wider, next, few) in
    let fits : (q + 1) * cards' ≤ time' * d = le_of_mul-le-mul_right crossed some in
    let above : q + 1 ≤ q' = le-div (q + 1) (time' * d) cards' some' fits in
    let most : q' ≤ top * d = le_trans (div-le_self (time' * d) cards') (omega (arith, mul-le-mul_left d low)) in
    omega (arith, above, most)

-- how many ratios there are at most above this one: two that differ do so by at least one over the product of their
-- cards
pub room_above : ℕ → ℕ → ℕ
room_above time cards = 1_024_000_000_000 * (5_120_000 * 5_120_000) - time * (5_120_000 * 5_120_000) / cards

pub room_falls : (time cards time' cards' : ℕ) → 1 ≤ cards → 1 ≤ cards' → cards ≤ 5_120_000 → cards' ≤ 5_120_000 → time' ≤ 1_024_000_000_000 → time * cards' < cards * time' → room_above time' cards' < room_above time cards
unfolding room_above
room_falls time cards time' cards' some some' few few' low less =
    room_falls_at (5_120_000 * 5_120_000) 1_024_000_000_000 time cards time' cards' some some' (mul-le cards cards' 5_120_000 5_120_000 few few') low less

-- so each heavier circuit leaves less room
pub heavier_falls : (g : Parts) (old new : Ratio) (arcs : List ℕ) → IsRatio g old → IsRatio g new → IsHeavy g (AtRatio old.time old.cards) arcs → new.circuit.items ≡ arcs → room_above new.time new.cards < room_above old.time old.cards
heavier_falls g old new arcs h h' heavy is =
    elim h'.circuit [
      | inl has ↦
          let same = rw is at has.ratio in
          let tokens : 1 ≤ tokens_on g arcs = rw is at has.some in
          let more = rw (gains-ratio g old.time old.cards arcs, losses-ratio g old.time old.cards arcs) at heavy.heavier in
          room_falls old.time old.cards new.time new.cards h.some h'.some h.cards_small h'.cards_small h'.time_small
          (greater old.time old.cards (time_along g arcs) (tokens_on g arcs) new.time new.cards more same tokens h'.some)
      | inr without ↦ absurd (without.none arcs heavy.circuit)
    ]
