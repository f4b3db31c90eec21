-- The onward arcs of a stage, and of the stages of a path, as they are written out.
use Rattle.std.proofs.Common.{◌≡◌, ℕ, ◌+◌, ◌*◌, ◌<◌, ◌==◌, true, false, List, [], ◌∷◌, ◌++◌, length, map, Option, Some, sym, ap, ◌∙◌, append_assoc, arith}
use Rattle.std.specs.Option.{option_map_or}
use Rattle.std.specs.List.{range_with_len}
use Rattle.std.proofs.lemmas.List.{append-nil}
use Rattle.std.proofs.lemmas.List.FromFn.{map-range_with_len_more}
use Rattle.plant_model.specs.declared.plant.Plant.{Plant}
use Rattle.plant_model.specs.Line.{next, path, up_to}
use Rattle.plant_model.specs.Sound.{IsSound}
use Rattle.plant_model.specs.ArcNumbers.{entry_arc, onward_arcs, onward_arcs_of}
use Rattle.plant_model.proofs.Soundness.{IsSound-FeedsLater}
use Rattle.circuit_sums.proofs.StageLines.{front-here, front-rest}

-- A walk down the path of stage `first` to stage `last`, which has not been met yet: these arcs were met, and the next
-- stage to meet is `next`.
pub record WalksOn (p : Plant) (first last : ℕ) (old arcs : List ℕ) (next : Option ℕ) : Type 0 where
  pub total :
      arcs ++ onward_arcs_of p (option_map_or (λ j. up_to last (path p j)) next []) ≡ old ++ onward_arcs_of p (up_to last (path p first))
  pub there : (j : ℕ) → next ≡ Some j → j < length p.stages

-- it ends behind the stage `last`
pub WalksOn-ends : (p : Plant) (first last : ℕ) (old arcs more : List ℕ) (o : Option ℕ) (i : ℕ) → IsSound p → WalksOn p first last old arcs o → o ≡ Some i → (i == last) ≡ true → more ≡ arcs ++ onward_arcs p i → more ≡ old ++ onward_arcs_of p (up_to last (path p first))
WalksOn-ends p first last old arcs more o i sound walk here is added =
    let below = walk.there i here in
    let front = front-here p (IsSound-FeedsLater sound) i last below is in
    let total = rw here at walk.total in
    added ∙ ap (λ xs. arcs ++ xs) (sym (ap (onward_arcs_of p) front ∙ append-nil (onward_arcs p i))) ∙ total

-- it goes on behind another stage
pub WalksOn-goes : (p : Plant) (first last : ℕ) (old arcs more : List ℕ) (o next_2 : Option ℕ) (i : ℕ) → IsSound p → WalksOn p first last old arcs o → o ≡ Some i → (i == last) ≡ false → more ≡ arcs ++ onward_arcs p i → next_2 ≡ next p i → WalksOn p first last old more next_2
WalksOn-goes p first last old arcs more o next_2 i sound walk here other added fed_is =
    let tree = IsSound-FeedsLater sound in
    let below = walk.there i here in
    let front = front-rest p tree i last below other in
    let total = rw here at walk.total in
    record {
      total =
          rw (added, fed_is, append_assoc) (ap (λ xs. arcs ++ xs) (sym (ap (onward_arcs_of p) front)) ∙ total);
      there = λ j fed. tree.exists i j below (sym fed_is ∙ fed);
    }

-- the first n onward arcs of a stage
abbrev pub onward_front : Plant → ℕ → ℕ → List ℕ
onward_front p i n = map (λ k. entry_arc p i + 3 * k) (range_with_len 0 n)

-- one onward arc more
pub onward-more : (p : Plant) (i n entry : ℕ) (old arcs more : List ℕ) → arcs ≡ old ++ onward_front p i n → entry ≡ entry_arc p i → more ≡ arcs ++ (entry + 3 * n) ∷ [] → more ≡ old ++ onward_front p i (n + 1)
onward-more p i n entry old arcs more is read added =
    added
    ∙ ap (λ xs. xs ++ (entry + 3 * n) ∷ []) is
    ∙ append_assoc old (onward_front p i n) ((entry + 3 * n) ∷ [])
    ∙ ap (λ e. old ++ (onward_front p i n ++ (e + 3 * n) ∷ [])) read
    ∙ ap (λ xs. old ++ xs) (sym (map-range_with_len_more (λ k. entry_arc p i + 3 * k) 0 n n (omega arith)))
