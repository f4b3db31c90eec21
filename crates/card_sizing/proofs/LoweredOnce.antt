-- Lowering one count after the other gives one result: there is one least count, and so one list after each step.
use Rattle.std.proofs.Common.{◌≡◌, ℕ, suc, ◌+◌, ◌-◌, ◌<◌, List, length, replicate, refl, sym, ap, ◌∙◌, subst, arith, ⊎_elim}
use Rattle.std.proofs.lemmas.Bool.{cases_lt}
use Rattle.plant_model.specs.declared.plant.Plant.{Plant}
use Rattle.card_sizing.specs.Counted.{ServeEach}
use Rattle.card_sizing.specs.Each.{AreLeastInOrder}
use Rattle.card_sizing.specs.Lowered.{with_count, IsLowered, AreLastLowered, none, more}
use Rattle.card_sizing.specs.Serving.{Serves}

-- of two counts that hold, and of which none below holds, each is the other
pub least_once : (P : ℕ → Type 0) (c d : ℕ) → P c → ((k : ℕ) → k < c → ¬ P k) → P d → ((k : ℕ) → k < d → ¬ P k) → c ≡ d
least_once P c d holds least also lowest =
    ⊎_elim
    (λ less. absurd (lowest c less holds))
    (λ ge. ⊎_elim (λ less. absurd (least d less also)) (λ le. omega arith) (cases_lt d c))
    (cases_lt c d)

module _ (P : List ℕ → Type 0) where
  -- one stage more is lowered
  pub lowered_more : (old now new : List ℕ) (n i : ℕ) → AreLastLowered P old n now → i ≡ length old - (n + 1) →
      IsLowered P now i new → AreLastLowered P old (n + 1) new
  lowered_more old now new n i before at lowered =
      let next : suc n ≡ n + 1 = omega arith in
      let place : i ≡ length old - suc n = omega (arith, at) in
      subst (λ (m : ℕ). AreLastLowered P old m new) next
      (more n now new before (subst (λ (k : ℕ). IsLowered P now k new) place lowered))

  step_once : (one other : List ℕ) (i j : ℕ) (new last : List ℕ) → one ≡ other → i ≡ j → IsLowered P one i new →
      IsLowered P other j last → new ≡ last
  step_once one other i j new last same at first second =
      let also : IsLowered P one i last =
      subst (λ (k : ℕ). IsLowered P one k last) (sym at) (subst (λ (cs : List ℕ). IsLowered P cs j last) (sym same) second) in
      let count =
      least_once (λ (c : ℕ). P (with_count one i c)) first.count also.count first.least.holds first.least.none
      also.least.holds also.least.none in
      first.lowered ∙ ap (with_count one i) count ∙ sym also.lowered

  lowered_once : (old : List ℕ) (n m : ℕ) (one other : List ℕ) → AreLastLowered P old n one →
      AreLastLowered P old m other → n ≡ m → one ≡ other
  lowered_once old n m one other none none same = refl
  lowered_once old n m one other none (more l was last before at) same = absurd (omega (arith, same))
  lowered_once old n m one other (more k now new before at) none same = absurd (omega (arith, same))
  lowered_once old n m one other (more k now new before at) (more l was last earlier there) same =
      let e : k ≡ l = omega (arith, same) in
      step_once now was (length old - suc k) (length old - suc l) new last
      (lowered_once old k l now was before earlier e)
      (ap (λ (i : ℕ). length old - suc i) e) at there

-- there is one list of counts that begins at the least single count and is lowered in order
pub each_once : (p : Plant) (may : ℕ) (one other : List ℕ) → AreLeastInOrder p may one → AreLeastInOrder p may other →
    one ≡ other
each_once p may one other first second =
    let n = length p.stages in
    let P = ServeEach p may in
    let start = least_once (Serves p may) first.start second.start first.serves first.least second.serves second.least in
    let from = replicate n first.start in
    let also : AreLastLowered P from (length from) other =
    subst (λ (c : ℕ). AreLastLowered P (replicate n c) (length (replicate n c)) other) (sym start) second.lowered in
    lowered_once P from (length from) (length from) one other first.lowered also refl
