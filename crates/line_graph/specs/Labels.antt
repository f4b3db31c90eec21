-- The labels of a plant's stations.
use Rattle.std.specs.Prelude.{ℕ, List, IsTrue, All}
use Rattle.line_base.specs.declared.event.Parts.{Parts}
use Rattle.line_base.specs.Text.{is_label}

-- each of these texts is a label
abbrev pub AreLabels : List (List ℕ) → Type 0
AreLabels texts = All (λ text. IsTrue (is_label text)) texts

-- the label of each station is one
abbrev pub HasLabels : Parts → Type 0
HasLabels g = AreLabels g.labels
