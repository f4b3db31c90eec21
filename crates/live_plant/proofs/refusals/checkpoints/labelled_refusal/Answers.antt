use Rattle.std.proofs.Common.{◌≡◌, ◌++◌, ◌∙◌, ap, subst, ℕ, List, Vec, Global, codes, IfOk}
use Rattle.live_plant.specs.declared.refusals.refusal.Refusal.TheVariants.{NotReached}
use Rattle.std.proofs.lemmas.Result.{err_from_is_err_and}
use Rattle.live_plant.proofs.refusals.checkpoints.labelled_refusal.Goals as goal

-- the bytes of a line that is another one
items_of : {line other : Vec ℕ Global} → line ≡ other → line.items ≡ other.items
items_of same = ap (λ (v : Vec ℕ Global). v.items) same

pub returns-in_err-line-in-Line : goal.returns-in_err-line-in-Line
returns-in_err-line-in-Line c = rw (err_from_is_err_and c.from_residual.result c.from_residual.ensures.1).1 tt

pub returns-in_err-count-in-Count : goal.returns-in_err-count-in-Count
returns-in_err-count-in-Count c = rw (err_from_is_err_and c.from_residual-in_err-count-in-Count.result c.from_residual-in_err-count-in-Count.ensures.1).1 tt

pub returns-in_err-line-in-Marking : goal.returns-in_err-line-in-Marking
returns-in_err-line-in-Marking c = rw (err_from_is_err_and c.from_residual-in_err-line-in-Marking.result c.from_residual-in_err-line-in-Marking.ensures.1).1 tt

pub returns-in_err-line-in-PlaceDate : goal.returns-in_err-line-in-PlaceDate
returns-in_err-line-in-PlaceDate c = rw (err_from_is_err_and c.from_residual-in_err-line-in-PlaceDate.result c.from_residual-in_err-line-in-PlaceDate.ensures.1).1 tt

pub returns-in_ok-line-in-Line : goal.returns-in_ok-line-in-Line
returns-in_ok-line-in-Line c =
    rw c.in-Line.is (c.not_reached.ensures ∙ ap NotReached (items_of c.into_bytes.ensures.value ∙ c.in_ok-line-in-Line.ensures.ok))

pub returns-in_ok-count-in-Count : goal.returns-in_ok-count-in-Count
returns-in_ok-count-in-Count c =
    let Says : List ℕ → Type 0 = λ what. IfOk c.station_line.result (λ refusal. refusal ≡ NotReached (codes "checkpoint: " ++ (c.label.result.now ++ what))) in
    rw (c.in-Count.is, ← c.label.ensures.text) (subst Says c.in_ok-count-in-Count.ensures.ok c.station_line.ensures)

pub returns-in-Date : goal.returns-in-Date
returns-in-Date c = rw (c.in-Date.is, ← c.label-in-Date.ensures.text) c.date_line.ensures

pub returns-in_ok-line-in-PlaceDate : goal.returns-in_ok-line-in-PlaceDate
returns-in_ok-line-in-PlaceDate c =
    rw c.in-PlaceDate.is (c.not_reached-in-PlaceDate.ensures ∙ ap NotReached (items_of c.into_bytes-in-PlaceDate.ensures.value ∙ c.in_ok-line-in-PlaceDate.ensures.ok))
