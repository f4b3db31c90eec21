-- Which worker has which station: station t belongs to worker w exactly where it stands from the first of w on and
-- before the first of w + 1.
use Rattle.std.proofs.Common.{◌≡◌, ℕ, ◌+◌, ◌-◌, ◌*◌, ◌/◌, ◌<◌, ◌≤◌, ap, arith, ⊎_elim}
use Rattle.std.proofs.Math.Nat.{mul-le-mul_left}
use Rattle.std.proofs.lemmas.Bool.{cases_lt}
use Rattle.line_worker.specs.Share.{worker_of, first_of}

-- ---- division up and down

le_of_up : (x n t : ℕ) → 1 ≤ n → (x + (n - 1)) / n ≤ t → x ≤ n * t
le_of_up x n t some low = omega (arith, mul-le-mul_left n low)

up_of_le : (x n t : ℕ) → 1 ≤ n → x ≤ n * t → (x + (n - 1)) / n ≤ t
up_of_le x n t some low =
    ⊎_elim
    (λ above. let more : t + 1 ≤ (x + (n - 1)) / n = omega arith in absurd (omega (arith, mul-le-mul_left n more)))
    (λ at_most. at_most)
    (cases_lt t ((x + (n - 1)) / n))

le_of_down : (x n t : ℕ) → 1 ≤ n → t ≤ x / n → n * t ≤ x
le_of_down x n t some low = omega (arith, mul-le-mul_left n low)

down_of_le : (x n t : ℕ) → 1 ≤ n → n * t ≤ x → t ≤ x / n
down_of_le x n t some low =
    ⊎_elim
    (λ below. let more : x / n + 1 ≤ t = omega arith in absurd (omega (arith, mul-le-mul_left n more)))
    (λ at_least. at_least)
    (cases_lt (x / n) t)

-- ---- shares

module _ (worker_count stations : ℕ) (some : 1 ≤ worker_count) (any : 1 ≤ stations) where
  worker_from_first : (w t : ℕ) → first_of worker_count stations w ≤ t → w ≤ worker_of worker_count stations t
  worker_from_first w t low =
      down_of_le (t * worker_count) stations w any (omega (arith, le_of_up (w * stations) worker_count t some low))

  first_from_worker : (w t : ℕ) → w ≤ worker_of worker_count stations t → first_of worker_count stations w ≤ t
  first_from_worker w t low =
      up_of_le (w * stations) worker_count t some (omega (arith, le_of_down (t * worker_count) stations w any low))

  -- the worker of a station has it
  pub first-le : (t : ℕ) → first_of worker_count stations (worker_of worker_count stations t) ≤ t
  first-le t = first_from_worker (worker_of worker_count stations t) t (omega arith)

  pub next-above : (t : ℕ) → t < first_of worker_count stations (worker_of worker_count stations t + 1)
  next-above t =
      let w = worker_of worker_count stations t in
      ⊎_elim
      (λ below. below)
      (λ past. let more = worker_from_first (w + 1) t past in absurd (omega arith))
      (cases_lt t (first_of worker_count stations (w + 1)))

  -- a station that a worker has is its
  pub worker_is : (w t : ℕ) → first_of worker_count stations w ≤ t → t < first_of worker_count stations (w + 1) → worker_of worker_count stations t ≡ w
  worker_is w t low high =
      let at_least = worker_from_first w t low in
      ⊎_elim
      (λ more. let past = first_from_worker (w + 1) t (omega arith) in absurd (omega arith))
      (λ same. omega arith)
      (cases_lt w (worker_of worker_count stations t))

  -- the first worker's first station is 0, and the workers have all stations
  pub first-zero : first_of worker_count stations 0 ≡ 0
  first-zero = omega (arith, first_from_worker 0 0 (omega arith))

  pub first-all : first_of worker_count stations worker_count ≡ stations
  first-all =
      let most : first_of worker_count stations worker_count ≤ stations = up_of_le (worker_count * stations) worker_count stations some (omega arith) in
      let least : worker_count * stations ≤ worker_count * first_of worker_count stations worker_count = le_of_up (worker_count * stations) worker_count (first_of worker_count stations worker_count) some (omega arith) in
      ⊎_elim
      (λ less. let more : first_of worker_count stations worker_count + 1 ≤ stations = omega arith in absurd (omega (arith, mul-le-mul_left worker_count more)))
      (λ at_least. omega arith)
      (cases_lt (first_of worker_count stations worker_count) stations)

  pub first-rises : (w v : ℕ) → w ≤ v → first_of worker_count stations w ≤ first_of worker_count stations v
  first-rises w v low =
      let at_v = worker_from_first v (first_of worker_count stations v) (omega arith) in
      first_from_worker w (first_of worker_count stations v) (omega arith)

  pub worker_number-below : (t : ℕ) → t < stations → worker_of worker_count stations t < worker_count
  worker_number-below t there =
      ⊎_elim
      (λ below. below)
      (λ past. let late = first_from_worker worker_count t past in absurd (omega (arith, first-all)))
      (cases_lt (worker_of worker_count stations t) worker_count)

  -- the first station of a worker that has one is its own, and the least of them
  pub first-own : (w t : ℕ) → worker_of worker_count stations t ≡ w → worker_of worker_count stations (first_of worker_count stations w) ≡ w
  first-own w t is =
      let low = first_from_worker w t (omega (arith, is)) in
      let high : first_of worker_count stations w < first_of worker_count stations (w + 1) =
      omega (arith, low, next-above t, ap (λ n. first_of worker_count stations (n + 1)) is) in
      worker_is w (first_of worker_count stations w) (omega arith) high

  pub first-least : (w t : ℕ) → worker_of worker_count stations t ≡ w → first_of worker_count stations w ≤ t
  first-least w t is = first_from_worker w t (omega (arith, is))
