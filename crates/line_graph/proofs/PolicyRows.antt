-- The rows of the plant's policy, policy by policy.
use Rattle.std.proofs.Common.{◌≡◌, ℕ, refl, sym, subst}
use Rattle.plant_model.specs.declared.plant.Policy.{Policy}
use Rattle.plant_model.specs.declared.plant.Policy.TheVariants.{Kanban, Conwip, BaseStock, Extended}
use Rattle.plant_model.specs.declared.plant.Plant.{Plant}
use Rattle.plant_model.specs.Graph.{policy_rows, kanban_rows, base_stock_rows, extended_rows, conwip_rows}

-- the plant with this policy in its place
abbrev with_policy : Policy → Plant → Plant
with_policy policy p = record p { policy = policy }

pub policy_rows-kanban : (p : Plant) → p.policy ≡ Kanban → policy_rows p ≡ kanban_rows p
policy_rows-kanban p is =
    subst (λ (q : Policy). policy_rows (with_policy q p) ≡ kanban_rows (with_policy q p)) (sym is) refl

pub policy_rows-base_stock : (p : Plant) → p.policy ≡ BaseStock → policy_rows p ≡ base_stock_rows p
policy_rows-base_stock p is =
    subst (λ (q : Policy). policy_rows (with_policy q p) ≡ base_stock_rows (with_policy q p)) (sym is) refl

pub policy_rows-extended : (p : Plant) → p.policy ≡ Extended → policy_rows p ≡ extended_rows p
policy_rows-extended p is =
    subst (λ (q : Policy). policy_rows (with_policy q p) ≡ extended_rows (with_policy q p)) (sym is) refl

pub policy_rows-conwip : (p : Plant) (cards : ℕ) → p.policy ≡ Conwip cards → policy_rows p ≡ conwip_rows p
policy_rows-conwip p cards is =
    subst (λ (q : Policy). policy_rows (with_policy q p) ≡ conwip_rows (with_policy q p)) (sym is) refl
