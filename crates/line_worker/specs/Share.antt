-- Which stations each worker has: one run of stations after the other.
use Rattle.std.specs.Prelude.{ℕ, ◌+◌, ◌-◌, ◌*◌, ◌/◌}

-- the worker of station t
abbrev pub worker_of : ℕ → ℕ → ℕ → ℕ
worker_of worker_count stations t = t * worker_count / stations

-- the first station of worker w, which has those from it on that come before the first of worker w + 1
abbrev pub first_of : ℕ → ℕ → ℕ → ℕ
first_of worker_count stations w = (w * stations + (worker_count - 1)) / worker_count
