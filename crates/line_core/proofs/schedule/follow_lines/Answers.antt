use Rattle.std.proofs.Common.{◌<◌, ◌+◌, sym, ap, ◌∙◌, arith, take, length}
use Rattle.std.specs.Str.Lines.{strip_carriage_return}
use Rattle.std.proofs.lemmas.Result.{err_from_is_err_and}
use Rattle.std.proofs.lemmas.List.{length-drop}
use Rattle.std.proofs.lemmas.List.Sums.{prefix_len-le-length}
use Rattle.line_base.specs.declared.event.Parts.{Parts}
use Rattle.line_core.specs.Refusals.{first_unfinished}
use Rattle.line_core.specs.Schedule.{lines_of, follow_line, follow_lines, end_at}
use Rattle.line_core.proofs.FollowedLines.{follow-more, follow-last, follow-refused}
use Rattle.line_core.proofs.schedule.follow_lines.Goals as goal

pub prefix-requires : goal.prefix-requires
prefix-requires c = omega (arith, c.end_before-end.ensures, prefix_len-le-length)

pub returns-in_err-follow_line-clause-refused : goal.returns-in_err-follow_line-clause-refused
returns-in_err-follow_line-clause-refused c =
    let p = err_from_is_err_and c.from_residual.result c.from_residual.ensures.1 in
    let g = c.args.state.now.graph in
    let s = c.loop-rest.state.state in
    let refused = ap (λ (h : Parts). follow_line h c.loop-rest.line (strip_carriage_return (take c.end_before-end.result c.loop-rest.rest.now)) s) (sym c.loop-rest.invariant.graph) ∙ ap (λ l. follow_line c.loop-rest.state.graph c.loop-rest.line l s) (sym (c.without_return-text.ensures ∙ ap strip_carriage_return c.prefix.ensures)) ∙ c.in_err-follow_line.ensures.refused in
    rw (p.1, p.2) (c.loop-rest.invariant.followed ∙ follow-refused g c.loop-rest.line c.loop-rest.rest.now s c.end_before-end.result c.end_before-end.ensures _ (omega (arith, c.end_before-end.ensures, prefix_len-le-length)) refused)

pub returns-then-end-rest-clause-followed : goal.returns-then-end-rest-clause-followed
returns-then-end-rest-clause-followed c =
    let g = c.args.state.now.graph in
    let s = c.loop-rest.state.state in
    let followed = ap (λ (h : Parts). follow_line h c.loop-rest.line (strip_carriage_return (take c.end_before-end.result c.loop-rest.rest.now)) s) (sym c.loop-rest.invariant.graph) ∙ ap (λ l. follow_line c.loop-rest.state.graph c.loop-rest.line l s) (sym (c.without_return-text.ensures ∙ ap strip_carriage_return c.prefix.ensures)) ∙ c.in_ok-follow_line.ensures.followed in
    c.loop-rest.invariant.followed ∙ follow-last g c.loop-rest.line c.loop-rest.rest.now s c.end_before-end.result c.end_before-end.ensures c.follow_line.new.state.state c.if-end-rest.true followed
    ∙ ap (λ (h : Parts). end_at c.follow_line.new.state.state (first_unfinished h c.follow_line.new.state.state)) (sym (c.in_ok-follow_line.ensures.graph ∙ c.loop-rest.invariant.graph))

pub loop-rest-preserved : goal.loop-rest-preserved
loop-rest-preserved c =
    let g = c.args.state.now.graph in
    let s = c.loop-rest.state.state in
    let rest = c.loop-rest.rest.now in
    let next = c.follow_line.new.state.state in
    let more : c.end_before-end.result < length rest = omega (arith, c.if-end-rest.false, c.end_before-end.ensures, prefix_len-le-length) in
    let followed = ap (λ (h : Parts). follow_line h c.loop-rest.line (strip_carriage_return (take c.end_before-end.result rest)) s) (sym c.loop-rest.invariant.graph) ∙ ap (λ l. follow_line c.loop-rest.state.graph c.loop-rest.line l s) (sym (c.without_return-text.ensures ∙ ap strip_carriage_return c.prefix.ensures)) ∙ c.in_ok-follow_line.ensures.followed in
    record {
      graph = c.in_ok-follow_line.ensures.graph ∙ c.loop-rest.invariant.graph;
      followed =
          c.loop-rest.invariant.followed
          ∙ follow-more g c.loop-rest.line rest s c.end_before-end.result c.end_before-end.ensures next more followed
          ∙ ap (λ l. follow_lines g (lines_of l) (c.loop-rest.line + 1) next) (sym c.behind-rest.ensures);
      counted = omega (arith, c.loop-rest.invariant.counted, ap length c.behind-rest.ensures, length-drop (c.end_before-end.result + 1) rest, more);
    }

pub behind-rest-requires : goal.behind-rest-requires
behind-rest-requires c = omega (arith, c.if-end-rest.false, c.end_before-end.ensures, prefix_len-le-length)

pub loop-rest-smaller : goal.loop-rest-smaller
loop-rest-smaller c =
    let more : c.end_before-end.result < length c.loop-rest.rest.now =
    omega (arith, c.if-end-rest.false, c.end_before-end.ensures, prefix_len-le-length) in
    omega (arith, more, ap length c.behind-rest.ensures, length-drop (c.end_before-end.result + 1) c.loop-rest.rest.now)

pub returns-in_err-follow_line-clause-followed : goal.returns-in_err-follow_line-clause-followed
returns-in_err-follow_line-clause-followed c =
    rw (err_from_is_err_and c.from_residual.result c.from_residual.ensures.1).1 tt

pub returns-in_err-follow_line-clause-graph : goal.returns-in_err-follow_line-clause-graph
returns-in_err-follow_line-clause-graph c = c.follow_line.ensures.graph ∙ c.loop-rest.invariant.graph
