use Rattle.std.specs.Prelude.{◌++◌, codes}
use Rattle.plant_lint.specs.Headers.{list_head}
use Rattle.plant_lint.proofs.GatheredNotes.{then_more, then_two}
use Rattle.plant_lint.proofs.headers.add_list_question.Goals as goal

pub returns : goal.returns
returns c =
    let name = c.args.name.now in
    then_two _ _ _ _ _ (codes " is '") name (codes "' a list? write " ++ list_head name) c.in_ok-push_str.ensures.bytes c.in_ok-push_str-2.ensures.bytes
    (then_more _ _ _ _ (codes "' a list? write ") (list_head name) c.in_ok-push_str-3.ensures.bytes c.add_list_head.ensures)
