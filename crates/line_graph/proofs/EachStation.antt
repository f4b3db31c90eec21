-- The stations of a plant, one after the other: what holds of the feed, of each release and machine, and of the
-- delivery.
use Rattle.std.proofs.Common.{◌≡◌, ℕ, zero, suc, ◌+◌, ◌-◌, ◌<◌, ◌≤◌, length, sym, subst, inl, inr, arith}
use Rattle.std.proofs.lemmas.Bool.{cases_lt}
use Rattle.plant_model.specs.declared.plant.Plant.{Plant}
use Rattle.plant_model.specs.Line.{stage_at, release, machine_station, deliver, station_count}
use Rattle.plant_model.proofs.LayoutStations.{release-next, release-all}

module _ (p : Plant) (P : ℕ → Type 0) (feed : P 0) (at_release : (i : ℕ) → i < length p.stages → P (release p i)) (at_machine : (i j : ℕ) → i < length p.stages → j < length (stage_at p i).machines → P (machine_station p i j)) where
  -- a station before release n is the feed, or a release or a machine of one of the first n stages
  before_release : (n t : ℕ) → n ≤ length p.stages → t < release p n → P t
  before_release zero t few below = let e : 0 ≡ t = omega arith in subst P e feed
  before_release (suc n) t few below =
      elim (cases_lt t (release p n)) [
        | inl before ↦ before_release n t (omega arith) before
        | inr after ↦
            let e : n + 1 ≡ suc n = omega arith in
            let end = subst (λ m. t < release p m) (sym e) below in
            let ends = release-next p n (omega arith) in
            elim (cases_lt (release p n) t) [
              | inl machine ↦
                  let j = t - release p n - 1 in
                  let is : machine_station p n j ≡ t = omega arith in
                  subst P is (at_machine n j (omega arith) (omega arith))
              | inr release_n ↦
                  let is : release p n ≡ t = omega arith in
                  subst P is (at_release n (omega arith))
            ]
      ]

  pub each_station : P (deliver p) → (t : ℕ) → t < station_count p → P t
  each_station at_end t below =
      elim (cases_lt t (deliver p)) [
        | inl before ↦ before_release (length p.stages) t (omega arith) (rw release-all before)
        | inr after ↦ let is : deliver p ≡ t = omega arith in subst P is at_end
      ]
