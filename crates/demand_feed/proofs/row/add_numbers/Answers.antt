use Rattle.std.proofs.Common.{◌∙◌, ◌≤◌, ◌++◌, ◌∷◌, ℕ, not, List, [], Option, refl, ap, append_assoc, sym}
use Rattle.std.specs.List.{All}
use Rattle.std.specs.Option.{is_none}
use Rattle.std.proofs.lemmas.Bool.{false≢true}
use Rattle.std.proofs.lemmas.List.{append-nil, take_all}
use Rattle.std.proofs.lemmas.List.Folds.{list_any_at}
use Rattle.csv.specs.Records.{fields_of}
use Rattle.demand_feed.specs.Rows.{lacks_number, number_at, numbers_of}
use Rattle.demand_feed.proofs.RowLemmas.{lacks_number-more, numbers_of-more}
use Rattle.demand_feed.proofs.row.add_numbers.Goals as goal

pub loop-column-init : goal.loop-column-init
loop-column-init c = record { whole = refl; added = sym (append-nil c.args.numbers.now.items) }

pub number_at-requires : goal.number_at-requires
number_at-requires c =
    let from_one : All (λ column. 1 ≤ column) c.args.used.now = c.requires in
    from_one c.loop-column.column-index 0 c.loop-column-test.true

pub returns-in_default-clause-good : goal.returns-in_default-clause-good
returns-in_default-clause-good c =
    let fields = fields_of c.args.row.now in
    let none = ap (λ (number : Option ℕ). is_none number) (sym c.number_at.ensures ∙ c.in_default.is) in
    sym (ap not (list_any_at (λ column. is_none (number_at c.args.most fields column)) c.args.used.now c.loop-column.column-index 0 c.loop-column-test.true none))

pub returns-in_default-clause-added : goal.returns-in_default-clause-added
returns-in_default-clause-added c = λ e. absurd (false≢true e)

pub loop-column-preserved : goal.loop-column-preserved
loop-column-preserved c =
    let found = sym c.number_at.ensures ∙ c.in-Some.is in
    let within = c.loop-column-test.true in
    record {
      whole = lacks_number-more c.args.used.now c.args.most (fields_of c.args.row.now) c.loop-column.column-index c.in-Some.number within found c.loop-column.invariant.whole;
      added =
          c.in_ok-push.ensures.items
          ∙ ap (λ (numbers : List ℕ). numbers ++ c.in-Some.number ∷ []) c.loop-column.invariant.added
          ∙ append_assoc c.args.numbers.now.items _ _
          ∙ ap (λ (numbers : List ℕ). c.args.numbers.now.items ++ numbers) (sym (numbers_of-more c.args.used.now c.args.most (fields_of c.args.row.now) c.loop-column.column-index c.in-Some.number within found));
    }

pub returns-clause-good : goal.returns-clause-good
returns-clause-good c =
    let all = take_all c.loop-column.column-index c.args.used.now c.loop-column-test.false in
    let whole = sym (ap (λ (used : List ℕ). lacks_number used c.args.most (fields_of c.args.row.now)) all) ∙ c.loop-column.invariant.whole in
    sym (ap not whole)

pub returns-clause-added : goal.returns-clause-added
returns-clause-added c =
    let all = take_all c.loop-column.column-index c.args.used.now c.loop-column-test.false in
    λ _. c.loop-column.invariant.added ∙ ap (λ (used : List ℕ). c.args.numbers.now.items ++ numbers_of used c.args.most (fields_of c.args.row.now)) all
