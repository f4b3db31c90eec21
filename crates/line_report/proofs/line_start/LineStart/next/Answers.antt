use Rattle.std.proofs.Common.{◌≡◌, ◌+◌, ◌++◌, ◌∷◌, [], decimal, take, sym, ap, ◌∙◌, arith}
use Rattle.line_report.specs.Portions.{LineStart}
use Rattle.line_report.proofs.Starts.{kept_front}
use Rattle.line_report.proofs.line_start.LineStart.next.Goals as goal

-- the label stays
label_stays : (c : goal.After-self-2-1) → take c.self.inside.label c.write_next-self-inside.new.text ≡ take c.self.inside.label c.self.inside.text
label_stays c =
    let s = c.self.inside in
    kept_front s.text c.write_next-self-inside.new.text _ s.label (s.label + 1) c.write_next-self-inside.result (omega arith) (omega (arith, c.self.invariant.0, c.self.told)) c.write_next-self-inside.ensures.written

pub invariant_of-self : goal.invariant_of-self
invariant_of-self c =
    let s = c.self.inside in
    let holds = c.self.invariant in
    let next = c.write_next-self-inside in
    let front : take (s.label + 1) next.new.text ≡ take (s.label + 1) s.text =
    kept_front s.text next.new.text _ (s.label + 1) (s.label + 1) next.result (omega arith) (omega (arith, holds.0, c.self.told)) next.ensures.written
    in (
      holds.0,
      omega (arith, c.requires, ap (λ (s : LineStart). s.job) c.self.view_is),
      omega (arith, next.ensures.end, c.self.told),
      front ∙ holds.3 ∙ ap (λ l. l ++ 32 ∷ []) (sym (label_stays c)),
      next.ensures.written ∙ ap (λ l. l ++ (decimal (s.job + 1) ++ 32 ∷ [])) (sym front),
    )

pub returns : goal.returns
returns c =
    ap (λ l. record { label = l; job = c.self.inside.job + 1 }) (label_stays c) ∙ ap (λ (s : LineStart). record { label = s.label; job = s.job + 1 }) c.self.view_is
