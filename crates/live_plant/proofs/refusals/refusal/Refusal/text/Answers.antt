use Rattle.std.proofs.Common.{◌≡◌, ◌∙◌, ap, subst, ℕ, List, Result, Ok, Err, Vec, Global, IfOk, OnErr}
use Rattle.std.proofs.lemmas.Result.{err_from_is_err_and}
use Rattle.std.specs.Cow.{cow_slice_items}
use Rattle.command_line.specs.Lines.{as_line}
use Rattle.live_plant.proofs.refusals.refusal.Refusal.text.Goals as goal
use Rattle.live_plant.proofs.refusals.refusal.Refusal.text.Goals.{in-Refused+in_ok-format-in-Refused, in-Dead+in_ok-line-in-Dead, in-StoreFault+in_ok-line-in-StoreFault, in-NotReached+in_ok-line-in-NotReached, in-Varying+in_ok-line-in-Varying, in-TooLong+in_ok-line-in-TooLong, in-NotFollowed+in_ok-line-in-NotFollowed, in-NoCount+in_ok-format-in-NoCount, in-NotEdited+in_ok-format-in-NotEdited, in-NoDate+in_ok-line-in-NoDate, in-Late+in_ok-format-in-Late, in-TooLarge+in_ok-format-in-TooLarge}

-- the bytes of a line that is another one
items_of : {line other : Vec ℕ Global} → line ≡ other → line.items ≡ other.items
items_of same = ap (λ (v : Vec ℕ Global). v.items) same

-- what is so without a condition is so where a result is an error
if_failed : {T E A : Type 0} (answer : Result T E) → A → OnErr answer A
if_failed (Ok value) a = tt
if_failed (Err error) a = a

pub returns-in_err-format-in-Refused-clause-text : goal.returns-in_err-format-in-Refused-clause-text
returns-in_err-format-in-Refused-clause-text c = rw (err_from_is_err_and c.from_residual.result c.from_residual.ensures.1).1 tt

pub returns-in_err-format-in-Refused-clause-memory : goal.returns-in_err-format-in-Refused-clause-memory
returns-in_err-format-in-Refused-clause-memory c = rw ((err_from_is_err_and c.from_residual.result c.from_residual.ensures.1).1, c.in-Refused.is) (λ fixed. fixed)

pub returns-in_err-line-in-Dead-clause-text : goal.returns-in_err-line-in-Dead-clause-text
returns-in_err-line-in-Dead-clause-text c = rw (err_from_is_err_and c.from_residual-in_err-line-in-Dead.result c.from_residual-in_err-line-in-Dead.ensures.1).1 tt

pub returns-in_err-line-in-Dead-clause-memory : goal.returns-in_err-line-in-Dead-clause-memory
returns-in_err-line-in-Dead-clause-memory c = rw ((err_from_is_err_and c.from_residual-in_err-line-in-Dead.result c.from_residual-in_err-line-in-Dead.ensures.1).1, c.in-Dead.is) (λ fixed. fixed)

pub returns-in_err-line-in-StoreFault-clause-text : goal.returns-in_err-line-in-StoreFault-clause-text
returns-in_err-line-in-StoreFault-clause-text c = rw (err_from_is_err_and c.from_residual-in_err-line-in-StoreFault.result c.from_residual-in_err-line-in-StoreFault.ensures.1).1 tt

pub returns-in_err-line-in-StoreFault-clause-memory : goal.returns-in_err-line-in-StoreFault-clause-memory
returns-in_err-line-in-StoreFault-clause-memory c = rw ((err_from_is_err_and c.from_residual-in_err-line-in-StoreFault.result c.from_residual-in_err-line-in-StoreFault.ensures.1).1, c.in-StoreFault.is) (λ fixed. fixed)

pub returns-in_err-line-in-NotReached-clause-text : goal.returns-in_err-line-in-NotReached-clause-text
returns-in_err-line-in-NotReached-clause-text c = rw (err_from_is_err_and c.from_residual-in_err-line-in-NotReached.result c.from_residual-in_err-line-in-NotReached.ensures.1).1 tt

pub returns-in_err-line-in-NotReached-clause-memory : goal.returns-in_err-line-in-NotReached-clause-memory
returns-in_err-line-in-NotReached-clause-memory c = rw ((err_from_is_err_and c.from_residual-in_err-line-in-NotReached.result c.from_residual-in_err-line-in-NotReached.ensures.1).1, c.in-NotReached.is) (λ fixed. fixed)

pub returns-in_err-line-in-Varying-clause-text : goal.returns-in_err-line-in-Varying-clause-text
returns-in_err-line-in-Varying-clause-text c = rw (err_from_is_err_and c.from_residual-in_err-line-in-Varying.result c.from_residual-in_err-line-in-Varying.ensures.1).1 tt

pub returns-in_err-line-in-Varying-clause-memory : goal.returns-in_err-line-in-Varying-clause-memory
returns-in_err-line-in-Varying-clause-memory c = rw ((err_from_is_err_and c.from_residual-in_err-line-in-Varying.result c.from_residual-in_err-line-in-Varying.ensures.1).1, c.in-Varying.is) (λ fixed. fixed)

pub returns-in_err-line-in-TooLong-clause-text : goal.returns-in_err-line-in-TooLong-clause-text
returns-in_err-line-in-TooLong-clause-text c = rw (err_from_is_err_and c.from_residual-in_err-line-in-TooLong.result c.from_residual-in_err-line-in-TooLong.ensures.1).1 tt

pub returns-in_err-line-in-TooLong-clause-memory : goal.returns-in_err-line-in-TooLong-clause-memory
returns-in_err-line-in-TooLong-clause-memory c = rw ((err_from_is_err_and c.from_residual-in_err-line-in-TooLong.result c.from_residual-in_err-line-in-TooLong.ensures.1).1, c.in-TooLong.is) (λ fixed. fixed)

pub returns-in_err-line-in-NotFollowed-clause-text : goal.returns-in_err-line-in-NotFollowed-clause-text
returns-in_err-line-in-NotFollowed-clause-text c = rw (err_from_is_err_and c.from_residual-in_err-line-in-NotFollowed.result c.from_residual-in_err-line-in-NotFollowed.ensures.1).1 tt

pub returns-in_err-line-in-NotFollowed-clause-memory : goal.returns-in_err-line-in-NotFollowed-clause-memory
returns-in_err-line-in-NotFollowed-clause-memory c = rw ((err_from_is_err_and c.from_residual-in_err-line-in-NotFollowed.result c.from_residual-in_err-line-in-NotFollowed.ensures.1).1, c.in-NotFollowed.is) (λ fixed. fixed)

pub returns-in_err-format-in-NoCount-clause-text : goal.returns-in_err-format-in-NoCount-clause-text
returns-in_err-format-in-NoCount-clause-text c = rw (err_from_is_err_and c.from_residual-in_err-format-in-NoCount.result c.from_residual-in_err-format-in-NoCount.ensures.1).1 tt

pub returns-in_err-format-in-NoCount-clause-memory : goal.returns-in_err-format-in-NoCount-clause-memory
returns-in_err-format-in-NoCount-clause-memory c = rw ((err_from_is_err_and c.from_residual-in_err-format-in-NoCount.result c.from_residual-in_err-format-in-NoCount.ensures.1).1, c.in-NoCount.is) (λ fixed. fixed)

pub returns-in_err-format-in-NotEdited-clause-text : goal.returns-in_err-format-in-NotEdited-clause-text
returns-in_err-format-in-NotEdited-clause-text c = rw (err_from_is_err_and c.from_residual-in_err-format-in-NotEdited.result c.from_residual-in_err-format-in-NotEdited.ensures.1).1 tt

pub returns-in_err-format-in-NotEdited-clause-memory : goal.returns-in_err-format-in-NotEdited-clause-memory
returns-in_err-format-in-NotEdited-clause-memory c = rw ((err_from_is_err_and c.from_residual-in_err-format-in-NotEdited.result c.from_residual-in_err-format-in-NotEdited.ensures.1).1, c.in-NotEdited.is) (λ fixed. fixed)

pub returns-in_err-line-in-NoDate-clause-text : goal.returns-in_err-line-in-NoDate-clause-text
returns-in_err-line-in-NoDate-clause-text c = rw (err_from_is_err_and c.from_residual-in_err-line-in-NoDate.result c.from_residual-in_err-line-in-NoDate.ensures.1).1 tt

pub returns-in_err-line-in-NoDate-clause-memory : goal.returns-in_err-line-in-NoDate-clause-memory
returns-in_err-line-in-NoDate-clause-memory c = rw ((err_from_is_err_and c.from_residual-in_err-line-in-NoDate.result c.from_residual-in_err-line-in-NoDate.ensures.1).1, c.in-NoDate.is) (λ fixed. fixed)

pub returns-in_err-format-in-Late-clause-text : goal.returns-in_err-format-in-Late-clause-text
returns-in_err-format-in-Late-clause-text c = rw (err_from_is_err_and c.from_residual-in_err-format-in-Late.result c.from_residual-in_err-format-in-Late.ensures.1).1 tt

pub returns-in_err-format-in-Late-clause-memory : goal.returns-in_err-format-in-Late-clause-memory
returns-in_err-format-in-Late-clause-memory c = rw ((err_from_is_err_and c.from_residual-in_err-format-in-Late.result c.from_residual-in_err-format-in-Late.ensures.1).1, c.in-Late.is) (λ fixed. fixed)

pub returns-in_err-format-in-TooLarge-clause-text : goal.returns-in_err-format-in-TooLarge-clause-text
returns-in_err-format-in-TooLarge-clause-text c = rw (err_from_is_err_and c.from_residual-in_err-format-in-TooLarge.result c.from_residual-in_err-format-in-TooLarge.ensures.1).1 tt

pub returns-in_err-format-in-TooLarge-clause-memory : goal.returns-in_err-format-in-TooLarge-clause-memory
returns-in_err-format-in-TooLarge-clause-memory c = rw ((err_from_is_err_and c.from_residual-in_err-format-in-TooLarge.result c.from_residual-in_err-format-in-TooLarge.ensures.1).1, c.in-TooLarge.is) (λ fixed. fixed)

pub returns-clause-text : goal.returns-clause-text
returns-clause-text c =
    let Says : List ℕ → Type 0 = λ line. IfOk c.with_end.result (λ text. cow_slice_items text ≡ as_line line) in
    elim c.match-self.branch [
      | in-Refused+in_ok-format-in-Refused w ↦ rw w.in-Refused.is (subst Says (items_of (w.line-is ∙ w.into_bytes-line.ensures.value) ∙ w.in_ok-format-in-Refused.ensures.ok) c.with_end.ensures)
      | in-Dead+in_ok-line-in-Dead w ↦ rw (w.in-Dead.is, ← w.as_slice.ensures) (subst Says (items_of w.line-is ∙ w.in_ok-line-in-Dead.ensures) c.with_end.ensures)
      | in-StoreFault+in_ok-line-in-StoreFault w ↦ rw (w.in-StoreFault.is, ← w.as_str-in-StoreFault.ensures, ← w.as_bytes.ensures.value) (subst Says (items_of w.line-is ∙ w.in_ok-line-in-StoreFault.ensures) c.with_end.ensures)
      | in-NotReached+in_ok-line-in-NotReached w ↦ rw (w.in-NotReached.is, ← w.as_slice-in-NotReached.ensures) (subst Says (items_of w.line-is ∙ w.in_ok-line-in-NotReached.ensures.items) c.with_end.ensures)
      | in-Varying+in_ok-line-in-Varying w ↦ rw (w.in-Varying.is, ← w.as_slice-in-Varying.ensures) (subst Says (items_of w.line-is ∙ w.in_ok-line-in-Varying.ensures) c.with_end.ensures)
      | in-TooLong+in_ok-line-in-TooLong w ↦ rw (w.in-TooLong.is, ← w.as_str-in-TooLong.ensures, ← w.as_bytes-in-TooLong.ensures.value) (subst Says (items_of w.line-is ∙ w.in_ok-line-in-TooLong.ensures) c.with_end.ensures)
      | in-NotFollowed+in_ok-line-in-NotFollowed w ↦ rw (w.in-NotFollowed.is, ← w.as_slice-in-NotFollowed.ensures) (subst Says (items_of w.line-is ∙ w.in_ok-line-in-NotFollowed.ensures.items) c.with_end.ensures)
      | in-NoCount+in_ok-format-in-NoCount w ↦ rw w.in-NoCount.is (subst Says (items_of (w.line-is ∙ w.into_bytes-line-in-NoCount.ensures.value) ∙ w.in_ok-format-in-NoCount.ensures.ok) c.with_end.ensures)
      | in-NotEdited+in_ok-format-in-NotEdited w ↦ rw w.in-NotEdited.is (subst Says (items_of (w.line-is ∙ w.into_bytes-line-in-NotEdited.ensures.value) ∙ w.in_ok-format-in-NotEdited.ensures.ok) c.with_end.ensures)
      | in-NoDate+in_ok-line-in-NoDate w ↦ rw (w.in-NoDate.is, ← w.as_str-in-NoDate.ensures) (subst Says (items_of w.line-is ∙ w.in_ok-line-in-NoDate.ensures) c.with_end.ensures)
      | in-Late+in_ok-format-in-Late w ↦ rw w.in-Late.is (subst Says (items_of (w.line-is ∙ w.into_bytes-line-in-Late.ensures.value) ∙ w.in_ok-format-in-Late.ensures.ok) c.with_end.ensures)
      | in-TooLarge+in_ok-format-in-TooLarge w ↦ rw w.in-TooLarge.is (subst Says (items_of (w.line-is ∙ w.into_bytes-line-in-TooLarge.ensures.value) ∙ w.in_ok-format-in-TooLarge.ensures.ok) c.with_end.ensures)
    ]

pub returns-clause-memory : goal.returns-clause-memory
returns-clause-memory c = elim c.match-self.branch [
  | in-Refused+in_ok-format-in-Refused w ↦ rw w.in-Refused.is (if_failed c.with_end.result (λ fixed. fixed))
  | in-Dead+in_ok-line-in-Dead w ↦ rw w.in-Dead.is (if_failed c.with_end.result (λ fixed. fixed))
  | in-StoreFault+in_ok-line-in-StoreFault w ↦ rw w.in-StoreFault.is (if_failed c.with_end.result (λ fixed. fixed))
  | in-NotReached+in_ok-line-in-NotReached w ↦ rw w.in-NotReached.is (if_failed c.with_end.result (λ fixed. fixed))
  | in-Varying+in_ok-line-in-Varying w ↦ rw w.in-Varying.is (if_failed c.with_end.result (λ fixed. fixed))
  | in-TooLong+in_ok-line-in-TooLong w ↦ rw w.in-TooLong.is (if_failed c.with_end.result (λ fixed. fixed))
  | in-NotFollowed+in_ok-line-in-NotFollowed w ↦ rw w.in-NotFollowed.is (if_failed c.with_end.result (λ fixed. fixed))
  | in-NoCount+in_ok-format-in-NoCount w ↦ rw w.in-NoCount.is (if_failed c.with_end.result (λ fixed. fixed))
  | in-NotEdited+in_ok-format-in-NotEdited w ↦ rw w.in-NotEdited.is (if_failed c.with_end.result (λ fixed. fixed))
  | in-NoDate+in_ok-line-in-NoDate w ↦ rw w.in-NoDate.is (if_failed c.with_end.result (λ fixed. fixed))
  | in-Late+in_ok-format-in-Late w ↦ rw w.in-Late.is (if_failed c.with_end.result (λ fixed. fixed))
  | in-TooLarge+in_ok-format-in-TooLarge w ↦ rw w.in-TooLarge.is (if_failed c.with_end.result (λ fixed. fixed))
]
