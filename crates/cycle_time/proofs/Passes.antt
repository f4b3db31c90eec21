-- A pass over the stations: what holds once those of the first steps were looked at.
use Rattle.std.proofs.Common.{◌≡◌, ℕ, ◌+◌, ◌*◌, ◌<◌, ◌≤◌, Option, Some, None, length, get_or, set, refl, sym, ap, subst, inl, inr, arith}
use Rattle.std.specs.Prelude.{IfNone, IfSome}
use Rattle.std.proofs.Math.Nat.{le_trans}
use Rattle.std.proofs.lemmas.Bool.{cases_lt}
use Rattle.std.proofs.lemmas.List.{get_or-set_same}
use Rattle.std.proofs.lemmas.List.Elements.{All-set, All-weaker}
use Rattle.line_base.specs.declared.event.Parts.{Parts}
use Rattle.event_graph.specs.Network.{IsGraph, arc, arc_count, stations}
use Rattle.cycle_time.specs.declared.tree.Sweep.{Sweep}
use Rattle.cycle_time.specs.declared.tree.Sweep.TheVariants.{Up, Down}
use Rattle.cycle_time.specs.declared.weights.Weighing.{Weighing}
use Rattle.cycle_time.specs.Search.{gain, loss, most_gain, step_of, Potentials, IsGrown, IsRaisedAt, IsKeptAt, IsRaised, HasRisen, IsWithin}
use Rattle.cycle_time.proofs.GreaterPotentials.{grown_more, raised_up}

-- the stations of the first steps were looked at; last is the last of them that got more than it had
pub record IsPassed (g : Parts) (w : Weighing) (sweep : Sweep) (old new : Potentials) (step : ℕ) (last : Option ℕ) : Type 0 where
  pub grown : IsGrown g w new
  pub raised : IsRaised g old new
  pub covers : (a : ℕ) → a < arc_count g → step_of sweep (stations g) (arc g a).to < step →
      get_or old.potentials (arc g a).from 0 + gain g w a ≤ get_or new.potentials (arc g a).to 0 + loss g w a
  pub within : (most : ℕ) → IsWithin most old → IsWithin (most + step * most_gain) new
  pub rests : IfNone last (new ≡ old)
  pub risen : IfSome last (HasRisen g old new)

pub passed_none : (g : Parts) (w : Weighing) (sweep : Sweep) (p : Potentials) → IsGrown g w p → IsPassed g w sweep p p 0 None
passed_none g w sweep p grown = record {
  grown = grown;
  raised = λ t exists. omega arith;
  covers = λ a exists early. absurd (omega (arith, early));
  within = λ most all. All-weaker (λ v. v ≤ most) (λ v. v ≤ most + 0 * most_gain) (λ v h. omega (arith, h)) p.potentials all;
  rests = refl;
  risen = tt;
}

-- two stations at one step are one
at_one_step : (sweep : Sweep) (T t u : ℕ) → t < T → u < T → step_of sweep T t ≡ step_of sweep T u → t ≡ u
at_one_step Up T t u t_in u_in same = same
at_one_step Down T t u t_in u_in same = omega arith

pub passed_raised : (g : Parts) (w : Weighing) (sweep : Sweep) (old p new : Potentials) (step t : ℕ) (last : Option ℕ) → IsGraph g → ((a : ℕ) → gain g w a ≤ most_gain) → IsPassed g w sweep old p step last → t < stations g → step_of sweep (stations g) t ≡ step → IsRaisedAt g w p new t → IsPassed g w sweep old new (step + 1) (Some t)
passed_raised g w sweep old p new step t last graph small h there here at =
    let P = p.potentials in
    let v = at.potential in
    let a = at.entry in
    let best = at.best in
    let in_P : t < length P = omega (arith, h.grown.potential_for_each) in
    let own : get_or (set P t v) t 0 ≡ v = get_or-set_same P t v 0 in_P in
    let up = raised_up P t v in_P (omega (arith, best.more)) in
    subst (λ q. IsPassed g w sweep old q (step + 1) (Some t)) (sym at.got)
    (record {
      grown = grown_more g w p t a v graph h.grown there best;
      raised = λ u exists. le_trans (h.raised u exists) (up u);
      covers = λ b exists early.
          elim (cases_lt (step_of sweep (stations g) (arc g b).to) step) [
            | inl before ↦ omega (arith, h.covers b exists before, up (arc g b).to)
            | inr now ↦
                let is : (arc g b).to ≡ t = at_one_step sweep (stations g) (arc g b).to t (graph.ends_exist b exists) there (omega (arith, here, early)) in
                omega (arith, h.raised (arc g b).from (graph.starts_exist b exists), best.best b (exists, is), own, ap (λ u. get_or (set P t v) u 0) is)
          ];
      within = λ most all.
          (let before = h.within most all in
          let from : get_or P (arc g a).from 0 ≤ most + step * most_gain = before (arc g a).from 0 (omega (arith, h.grown.potential_for_each, graph.starts_exist a best.enters.0)) in
          let later : most + step * most_gain ≤ most + (step + 1) * most_gain = omega arith in
          All-set (λ x. x ≤ most + (step + 1) * most_gain) P t v (omega (arith, from, best.gives, small a))
          (All-weaker (λ x. x ≤ most + step * most_gain) (λ x. x ≤ most + (step + 1) * most_gain) (λ x fits. le_trans fits later) P before));
      rests = tt;
      risen = record { exists = there; more = omega (arith, h.raised t there, best.more, own) };
    })

pub passed_rest : (g : Parts) (w : Weighing) (sweep : Sweep) (old p new : Potentials) (step t : ℕ) (last : Option ℕ) → IsGraph g → IsPassed g w sweep old p step last → t < stations g → step_of sweep (stations g) t ≡ step → IsKeptAt g w p new t → IsPassed g w sweep old new (step + 1) last
passed_rest g w sweep old p new step t last graph h there here at =
    subst (λ q. IsPassed g w sweep old q (step + 1) last) (sym at.same)
    (record {
      grown = h.grown;
      raised = h.raised;
      covers = λ b exists early.
          elim (cases_lt (step_of sweep (stations g) (arc g b).to) step) [
            | inl before ↦ h.covers b exists before
            | inr now ↦
                let is : (arc g b).to ≡ t = at_one_step sweep (stations g) (arc g b).to t (graph.ends_exist b exists) there (omega (arith, here, early)) in
                omega (arith, h.raised (arc g b).from (graph.starts_exist b exists), at.settled b (exists, is), ap (λ u. get_or p.potentials u 0) is)
          ];
      within = λ most all. All-weaker (λ x. x ≤ most + step * most_gain) (λ x. x ≤ most + (step + 1) * most_gain) (λ x fits. omega (arith, fits)) p.potentials (h.within most all);
      rests = h.rests;
      risen = h.risen;
    })

-- each station has a step
pub step_within : (sweep : Sweep) (T t : ℕ) → t < T → step_of sweep T t < T
step_within Up T t there = there
step_within Down T t there = omega arith
