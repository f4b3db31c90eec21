use Rattle.std.proofs.Common.{◌≡◌, ℕ, ◌+◌, ◌<◌, length, get_or, set, inl, inr, sym, subst, arith, ◌∙◌}
use Rattle.std.proofs.lemmas.Bool.{cases_lt}
use Rattle.std.proofs.lemmas.List.{get_or-set_same, get_or-set_other, get_or_default, length-set}
use Rattle.std.specs.Fork.{ChangesAt}
use Rattle.line_base.proofs.sharing.call_in_turn.Goals as goal

pub loop-k-preserved : goal.loop-k-preserved
loop-k-preserved g c =
    let k = c.loop-k.k in
    let xs = c.args.s.now in
    let ys = c.loop-k.s in
    let y = c.call_one.new.item in
    let inv = c.loop-k.invariant in
    let R : ℕ → g.row.T.Denot → g.row.T.Denot → Type 0 = λ j. ChangesAt g.F.Fn c.args.f.now (c.args.base + j) in
    let low : k < length ys = omega (arith, inv.number, c.loop-k-test.true) in
    record {
      number = length-set ys k y ∙ inv.number;
      ahead = λ j d later. get_or-set_other ys k j y d (λ e. omega (arith, e, later)) ∙ inv.ahead j d (omega (arith, later));
      behind = λ j d early.
          elim (cases_lt j k) [
            | inl before ↦
                subst (R j (get_or xs j d)) (sym (get_or-set_other ys k j y d (λ e. omega (arith, e, before)))) (inv.behind j d before)
            | inr after ↦
                let is : k ≡ j = omega (arith, early, after) in
                subst (λ n. R n (get_or xs n d) (get_or (set ys k y) n d)) is
                (subst (R k (get_or xs k d)) (sym (get_or-set_same ys k y d low))
                (subst (λ x. R k x y) (get_or_default ys k c.index-s-k.result d low ∙ inv.ahead k d (omega arith)) c.call_one.ensures))
          ];
    }
