-- What stands behind the text of a refusal: what is wanted there.
use Rattle.std.specs.Prelude.{ℕ, List, [], ◌++◌, codes, decimal}
use Rattle.plant_keys.specs.declared.fault.Wants.{Wants}
use Rattle.plant_keys.specs.declared.fault.Wants.TheVariants as wants

-- what stands behind the text of a refusal
abbrev pub wants_text : Wants → List ℕ
wants_text wants.Nothing = []
wants_text wants.AText = codes " wants a text"
wants_text wants.ANumber = codes " wants a whole number"
wants_text wants.ListOfNumbers = codes " wants a list of whole numbers"
wants_text wants.ListOfTables = codes " wants a list of tables"
wants_text (wants.Between least most) = codes " wants " ++ (decimal least ++ (codes " to " ++ decimal most))
wants_text wants.APolicy = codes " wants kanban, conwip, base-stock or extended"
wants_text wants.AnElement = codes " wants at least one"
wants_text wants.AName = codes " wants 1 to 24 of a-z 0-9 _ -, a letter first"
wants_text wants.FreeName = codes " is taken"
wants_text wants.AFileName = codes " is no file name"
wants_text (wants.LaterThan name) = codes " " ++ name
wants_text wants.ADate = codes " has no date"
wants_text (wants.NumberFor text) = codes " has \"" ++ (text ++ codes "\"")
wants_text (wants.AField column) = codes " has no column " ++ decimal column
