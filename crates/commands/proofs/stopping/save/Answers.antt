use Rattle.std.proofs.Common.{subst}
use Rattle.std.specs.Prelude.{ℕ, List}
use Rattle.line_core.specs.Consistent.{firing_count}
use Rattle.line_runs.specs.Store.{text_of}
use Rattle.commands.specs.Saving.{AnswersWrite}
use Rattle.commands.proofs.Actions.{Saved, state_saved, saves_text}
use Rattle.commands.proofs.stopping.save.Goals as goal

pub returns : goal.returns
returns g c =
    let old = g.S.Store.shown c.args.store.now in
    let new = g.S.Store.shown c.save_state-saved.new.store in
    let e = c.save_state-saved.ensures in
    let state = c.args.state in
    let file = c.args.stop.save in
    let given = c.save_state-saved.result in
    let name = c.as_str.result.now in
    let saved =
    state_saved g.S.Store.tells old new name (text_of state) given e.tells e.written e.others_stay e.torn e.no_memory
    e.never_too_long e.cause e.read_faults_stay_or_rise e.write_faults_stay_or_rise in
    saves_text g.S.Store.tells old new file (text_of state) (firing_count state.state) given c.saved_answer.result
    (subst (λ (name : List ℕ). Saved g.S.Store.tells old new name (text_of state) given) c.as_str.ensures saved)
    (subst (λ (n : ℕ). AnswersWrite file n given c.saved_answer.result) c.fired-fired.ensures.fired
    c.saved_answer.ensures)
