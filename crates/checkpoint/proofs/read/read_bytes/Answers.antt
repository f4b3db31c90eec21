use Rattle.std.proofs.Common.{◌≡◌, List, ℕ, length, ap, ◌∙◌, sym, subst}
use Rattle.std.proofs.lemmas.List.{length-map}
use Rattle.std.proofs.lemmas.Result.{err_from_is_err_and}
use Rattle.line_base.specs.declared.event.Parts.{Parts}
use Rattle.event_graph.specs.Network.{stations}
use Rattle.line_core.specs.ArcTokens.{HasRoom}
use Rattle.checkpoint.specs.declared.error.CheckpointError.{CheckpointError}
use Rattle.checkpoint.specs.Reading.{Reading, IsReadOf}
use Rattle.checkpoint.specs.Answers.{Tells}
use Rattle.checkpoint.proofs.OneState.{tells_refusal}
use Rattle.checkpoint.proofs.read.read_bytes.Goals as goal
use Rattle.checkpoint.proofs.read.read_bytes.Goals.{In_ok-stations}

-- what is read, said of the graph and of the bytes that were handed in
read_here : (c : In_ok-stations) → IsReadOf c.args.live.now.graph c.args.bytes.now c.in_ok-stations.stations.logs c.in_ok-stations.stations.long c.in_ok-stations.places.marking c.in_ok-stations.places.wrong
read_here c =
    let lines = c.in_ok-stations.stations in
    let places = c.in_ok-stations.places in
    subst (λ (g : Parts). IsReadOf g c.args.bytes.now lines.logs lines.long places.marking places.wrong) c.requires.same
    (subst (λ (t : List ℕ). IsReadOf c.args.graph.now t lines.logs lines.long places.marking places.wrong) (ap (λ (r : Reading). r.text) c.new-reader.ensures) c.in_ok-stations.ensures.read)

-- what an error says of a graph and a text that are the same
tells_here : (g h : Parts) (text bytes : List ℕ) (error : CheckpointError) → text ≡ bytes → g ≡ h → Tells g text error → Tells h bytes error
tells_here g h text bytes error is same known = subst (λ k. Tells k bytes error) same (subst (λ t. Tells g t error) is known)

pub state_of-said-requires-clause-a_count_each : goal.state_of-said-requires-clause-a_count_each
state_of-said-requires-clause-a_count_each c =
    let read = read_here (goal.at.state_of-said-requires-clause-a_count_each c).In_ok-stations in
    sym (ap (λ (counts : List ℕ). length counts) read.counts)
    ∙ length-map read.parts.places (λ (tokens : List ℕ). length tokens)
    ∙ read.said.a_place_each

pub returns-in_err-said-clause-refused : goal.returns-in_err-said-clause-refused
returns-in_err-said-clause-refused c =
    let p = err_from_is_err_and c.from_residual-in_err-said.result c.from_residual-in_err-said.ensures.1 in
    let refused = c.in_err-said.ensures.refused c.args.bytes.now (read_here (goal.at.returns-in_err-said-clause-refused c).In_ok-stations) in
    rw (p.1, p.2) (tells_refusal c.args.live.now.graph c.args.bytes.now _ refused)

pub returns-clause-text : goal.returns-clause-text
returns-clause-text c =
    c.in_ok-said.ensures.text c.args.bytes.now (read_here (goal.at.returns-clause-text c).In_ok-stations)

pub state_of-said-requires-clause-a_log_each : goal.state_of-said-requires-clause-a_log_each
state_of-said-requires-clause-a_log_each c = c.in_ok-stations.ensures.a_log_each ∙ ap stations c.requires.same

pub state_of-said-requires-clause-given : goal.state_of-said-requires-clause-given
state_of-said-requires-clause-given c = c.in_ok-stations.ensures.given

pub state_of-said-requires-clause-room : goal.state_of-said-requires-clause-room
state_of-said-requires-clause-room c =
    subst (λ (g : Parts). HasRoom g c.in_ok-stations.stations.logs) c.requires.same c.in_ok-stations.ensures.room

pub returns-clause-made_for : goal.returns-clause-made_for
returns-clause-made_for c = c.in_ok-said.ensures.made_for

pub returns-clause-reached : goal.returns-clause-reached
returns-clause-reached c = c.in_ok-said.ensures.reached

pub returns-in_err-stations-clause-refused : goal.returns-in_err-stations-clause-refused
returns-in_err-stations-clause-refused c =
    let p = err_from_is_err_and c.from_residual.result c.from_residual.ensures.1 in
    let text = ap (λ (r : Reading). r.text) c.new-reader.ensures in
    rw (p.1, p.2) (tells_here c.args.graph.now c.args.live.now.graph _ c.args.bytes.now _ text c.requires.same c.in_err-stations.ensures.refused)
