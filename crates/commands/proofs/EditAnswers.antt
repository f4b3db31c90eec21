-- Dates that edits change, from the sheet of the least solution on.
use Rattle.std.proofs.Common.{◌≡◌, ◌⊎◌, ℕ, List, refl, ap, sym, subst, ◌∙◌, inl, inr}
use Rattle.std.specs.Prelude.{Result, Ok, Err, IfOk}
use Rattle.std.specs.declared.alloc.AllocError.{AllocError}
use Rattle.answers.specs.declared.answer.Answer.TheVariants.{Changed}
use Rattle.commands.proofs.OrNoMemory.{OrNoMemory, said}
use Rattle.commands.specs.Answers.{IsPageOf, IsRefusedLine, IsWhatIf}
use Rattle.commands.specs.Dated.{IsFirstSheet}
use Rattle.event_graph.specs.Least.{IsLeast}
use Rattle.event_graph.specs.Table.{date_in}
use Rattle.line_base.specs.declared.event.Parts.{Parts}
use Rattle.line_core.specs.Schedule.{lines_of}
use Rattle.live_check.specs.Order.{LiveGraph}
use Rattle.plant_model.specs.Graph.{graph}
use Rattle.plant_model.specs.declared.plant.Plant.{Plant}
use Rattle.live_plant.specs.Refusals.{edits_refusal}
use Rattle.live_plant.specs.declared.refusals.refusal.Refusal.{Refusal}
use Rattle.live_plant.specs.declared.refusals.refusal.Refusal.TheVariants.{NoMemory}
use Rattle.what_if.specs.Edited.{Inputs, inputs_of}
use Rattle.what_if.specs.Edits.{Stopped, EditsGive}
use Rattle.what_if.specs.Page.{Page}
use Rattle.what_if.specs.Settled.{IsSolved, KeepsDates, KeepsInputs}
use Rattle.what_if.specs.Sheet.{IsBegun}
use Rattle.what_if.specs.declared.edits.RefusedLine.{RefusedLine}

-- the sheet as it begins, of the table of a finished state
pub first_sheet : (live : LiveGraph) (rows : List (List ℕ)) (sheet : Result Page AllocError) →
    IfOk sheet (IsBegun live rows) → IsLeast live.graph (date_in rows) → IfOk sheet (IsFirstSheet live)
first_sheet live rows (Ok page) begins least =
    let first_are = sym begins.first_are in
    record {
      begun = subst (λ (first : List (List ℕ)). IsBegun live first page) first_are begins;
      least = subst (λ (first : List (List ℕ)). IsLeast live.graph (date_in first)) first_are least;
    }
first_sheet live rows (Err none) begins least = tt

-- edits, from the sheet as it begins
module _ (live : LiveGraph) (edits : List ℕ) (begun : Page) (begins : IsBegun live begun.first begun) where
  -- what the lines answer, they answer from the graph
  edits_of_graph : (end : Result Inputs Stopped) → EditsGive live.graph (lines_of edits) 1 begun.inputs end →
      EditsGive live.graph (lines_of edits) 1 (inputs_of live.graph) end
  edits_of_graph end answers =
      subst (λ (inputs : Inputs). EditsGive live.graph (lines_of edits) 1 inputs end) begins.inputs_are answers

  -- the sheet that was settled after them
  pub page_settled : (edited settled : Page) → IsLeast live.graph (date_in begun.first) → KeepsDates begun edited →
      EditsGive live.graph (lines_of edits) 1 begun.inputs (Ok edited.inputs) → IsSolved settled →
      KeepsInputs edited settled → IsPageOf live.graph edits settled
  page_settled edited settled least dates answers solved inputs = record {
    graph_is = ap (λ (l : LiveGraph). l.graph) (inputs.live ∙ dates.live ∙ begins.live_is);
    first = subst (λ (first : List (List ℕ)). IsLeast live.graph (date_in first)) (sym (inputs.first ∙ dates.first))
        least;
    edited = subst (λ (now : Inputs). EditsGive live.graph (lines_of edits) 1 (inputs_of live.graph) (Ok now))
        (sym inputs.inputs) (edits_of_graph (Ok edited.inputs) answers);
    solved = solved;
  }

  pub line_refused : (refused : RefusedLine) (left : Inputs) (refusal : Refusal) →
      EditsGive live.graph (lines_of edits) 1 begun.inputs (Err (record { line = refused.line; left = left })) →
      refusal ≡ edits_refusal refused → IsRefusedLine live.graph edits (said refusal)
  line_refused refused left refusal answers is = record {
    line = refused.line;
    left = left;
    refused = edits_of_graph (Err (record { line = refused.line; left = left })) answers;
    says = ap said is;
  }

-- edits of the graph of a plant
module _ (p : Plant) (g : Parts) (edits : List ℕ) (same : g ≡ graph p) where
  pub edits_followed : (settled page : Page) → IsPageOf g edits settled → page ≡ settled →
      OrNoMemory (IsWhatIf p edits) (Ok (Changed page))
  edits_followed settled page of is =
      inl (inl (record {
        page = page;
        edited = subst (λ (h : Parts). IsPageOf h edits page) same (subst (IsPageOf g edits) (sym is) of);
        written = refl;
      }))

  pub edits_refused : (refusal : Refusal) → IsRefusedLine g edits (said refusal) ⊎ (refusal ≡ NoMemory) →
      OrNoMemory (IsWhatIf p edits) (said refusal)
  edits_refused refusal (inl refused) =
      inl (inr (subst (λ (h : Parts). IsRefusedLine h edits (said refusal)) same refused))
  edits_refused refusal (inr none) = inr (ap said none)
