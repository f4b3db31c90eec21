use Rattle.std.proofs.Common.{◌≡◌, ◌++◌, ◌∙◌, ap, sym, ℕ, List, codes, decimal, append_assoc}
use Rattle.live_plant.specs.declared.refusals.refusal.Refusal.TheVariants.{NotFollowed}
use Rattle.live_plant.proofs.refusals.schedules.unfinished_line.Goals as goal

-- words behind others, put in brackets from the left
from_left : (start label made have rest jobs : List ℕ) → (start ++ label) ++ (made ++ (have ++ (rest ++ jobs))) ≡ start ++ label ++ made ++ have ++ rest ++ jobs
from_left start label made have rest jobs =
    sym (append_assoc (start ++ label ++ made ++ have) rest jobs
    ∙ append_assoc (start ++ label ++ made) have (rest ++ jobs)
    ∙ append_assoc (start ++ label) made (have ++ (rest ++ jobs)))

pub returns : goal.returns
returns c =
    let label = c.args.label.now in
    let fired = c.as_bytes.ensures.value ∙ c.in_ok-fired.ensures.ok in
    let started = c.in_ok-extend_from_slice.ensures.items ∙ ap (λ (text : List ℕ). text ++ label) c.in_ok-text.ensures.items in
    c.not_followed.ensures
    ∙ ap NotFollowed (c.in_ok-extend_from_slice-2.ensures.items
    ∙ ap (λ (text : List ℕ). text ++ c.as_bytes.result.now) started
    ∙ ap (λ (text : List ℕ). codes "replay: " ++ label ++ text) fired
    ∙ from_left (codes "replay: ") label (codes " made ") (decimal c.args.have) (codes " of ") (decimal c.args.jobs))
