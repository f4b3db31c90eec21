use Rattle.std.proofs.Common.{◌≡◌, ℕ, ◌+◌, ◌<◌, ◌≤◌, length, get_or}
use Rattle.std.specs.Fork.{ChangesAt}
use Rattle.line_base.proofs.sharing.call_in_turn.Given as goal

abbrev pub invariant-loop-k : goal.invariant-loop-k
invariant-loop-k g l = record {
  number : length l.s ≡ length l.initial.s;
  ahead : (j : ℕ) (d : g.row.T.Denot) → l.k ≤ j → get_or l.s j d ≡ get_or l.initial.s j d;
  behind : (j : ℕ) (d : g.row.T.Denot) → j < l.k → ChangesAt g.F.Fn l.f (l.base + j) (get_or l.initial.s j d) (get_or l.s j d);
}
