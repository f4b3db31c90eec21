-- The lines of an edits file, and what following them gives.
use Rattle.std.specs.Prelude.{◌≡◌, ◌≢◌, ℕ, ◌+◌, ◌-◌, ◌≤◌, ◌&&◌, ◌⊎◌, Bool, List, [], ◌∷◌, ◌++◌, Option, Some, Result, Ok, Err, find, codes, decimal, ⊤}
use Rattle.std.specs.List.{list_any, range_with_len, All}
use Rattle.std.specs.Str.Lines.{strip_carriage_return}
use Rattle.line_base.specs.Limits.{longest_time, last_demand}
use Rattle.line_base.specs.declared.event.Parts.{Parts}
use Rattle.event_graph.specs.Network.{stations, jobs, arc, label, ins}
use Rattle.line_core.specs.Schedule.{is_label_of}
use Rattle.what_if.specs.declared.edit.Edit.{Edit}
use Rattle.what_if.specs.declared.edit.Edit.TheVariants.{Time, Demand}
use Rattle.what_if.specs.Edited.{Inputs, with_time, with_demand, FitsBetween}

-- station t has a worked arc in
abbrev pub is_machine : Parts → ℕ → Bool
is_machine g t = list_any (λ a. (arc g a).worked) (ins g t)

-- and has this label
abbrev pub is_machine_with : Parts → List ℕ → ℕ → Bool
is_machine_with g text t = is_label_of g text t && is_machine g t

-- the first machine with this label
abbrev pub machine_with : Parts → List ℕ → Option ℕ
machine_with g text = find (is_machine_with g text) (range_with_len 1 (stations g - 1))

-- a word, a space, and what follows
abbrev pub before_space : List ℕ → List ℕ → List ℕ
before_space word rest = word ++ 32 ∷ rest

-- the text of an edit
abbrev pub text_of : Parts → Edit → List ℕ
text_of g (Time t n time) = before_space (codes "time")
    (before_space (label g t) (before_space (decimal n) (decimal time)))
text_of g (Demand n date) = before_space (codes "demand") (before_space (decimal n) (decimal date))

-- there is no space: the text is one word
abbrev pub HasNoSpace : List ℕ → Type 0
HasNoSpace text = All (λ byte. byte ≢ 32) text

-- another time of a job at a machine, and another demand date of a job, within the limits
pub record IsTimeEdit (g : Parts) (t n time : ℕ) : Type 0 where
  pub word : HasNoSpace (label g t)
  pub machine : machine_with g (label g t) ≡ Some t
  pub from_one : 1 ≤ n
  pub job : n ≤ jobs g
  pub short : time ≤ longest_time

pub record IsDemandEdit (g : Parts) (n date : ℕ) : Type 0 where
  pub from_one : 1 ≤ n
  pub job : n ≤ jobs g
  pub early : date ≤ last_demand

abbrev pub IsEdit : Parts → Edit → Type 0
IsEdit g (Time t n time) = IsTimeEdit g t n time
IsEdit g (Demand n date) = IsDemandEdit g n date

-- the text is that of an edit
pub record Writes (g : Parts) (text : List ℕ) (edit : Edit) : Type 0 where
  pub valid : IsEdit g edit
  pub text_is : text ≡ text_of g edit

-- the edit that the text is of, if it is of one, was found
abbrev pub FindsEdit : Parts → List ℕ → Option Edit → Type 0
FindsEdit g text found = (edit : Edit) → Writes g text edit → found ≡ Some edit

-- what an edit leaves, and where it may be followed: demand dates stay in order
abbrev pub inputs_after : Inputs → Edit → Inputs
inputs_after inputs (Time t n time) = with_time inputs t n time
inputs_after inputs (Demand n date) = with_demand inputs n date

abbrev pub MayFollow : Inputs → Edit → Type 0
MayFollow inputs (Time t n time) = ⊤
MayFollow inputs (Demand n date) = FitsBetween inputs.demands n date

-- a line that isn't empty is followed where it writes an edit that may be
pub record IsFollowed (g : Parts) (text : List ℕ) (inputs next : Inputs) : Type 0 where
  pub edit : Edit
  pub written : Writes g text edit
  pub may : MayFollow inputs edit
  pub next_is : next ≡ inputs_after inputs edit

-- an empty line is passed over
pub record IsPassedOver (text : List ℕ) (inputs next : Inputs) : Type 0 where
  pub empty : text ≡ []
  pub same : next ≡ inputs

abbrev pub LeadsTo : Parts → List ℕ → Inputs → Inputs → Type 0
LeadsTo g text inputs next = IsPassedOver text inputs next ⊎ IsFollowed g text inputs next

-- every other line is refused
pub record IsRefused (g : Parts) (text : List ℕ) (inputs : Inputs) : Type 0 where
  pub not_empty : text ≢ []
  pub no_edit : (edit : Edit) → Writes g text edit → ¬ MayFollow inputs edit

-- where following lines stopped: the number of the line that was refused, and what the lines before it leave
pub record Stopped : Type 0 where
  pub line : ℕ
  pub left : Inputs

-- what following lines in order gives, where the first of them has number n: the job times and demand dates that they
-- leave, or the first line that is refused and what those before it leave
pub data EditsGive (g : Parts) : List (List ℕ) → ℕ → Inputs → Result Inputs Stopped → Type 0 where
  ends : (n : ℕ) (inputs : Inputs) → EditsGive g [] n inputs (Ok inputs)
  follows : (line : List ℕ) (lines : List (List ℕ)) (n : ℕ) (inputs next : Inputs)
      (end : Result Inputs Stopped) → LeadsTo g (strip_carriage_return line) inputs next
      → EditsGive g lines (n + 1) next end → EditsGive g (line ∷ lines) n inputs end
  refuses : (line : List ℕ) (lines : List (List ℕ)) (n : ℕ) (inputs : Inputs)
      → IsRefused g (strip_carriage_return line) inputs
      → EditsGive g (line ∷ lines) n inputs (Err (record { line = n; left = inputs }))

-- a word, a space, and the rest of a text
pub record IsSplit (text word rest : List ℕ) : Type 0 where
  pub whole : text ≡ before_space word rest
  pub no_space : HasNoSpace word
