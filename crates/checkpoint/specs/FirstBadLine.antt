-- The first line of a file that is no line of a checkpoint. Lines count from 1.
use Rattle.std.specs.Prelude.{◌≡◌, ℕ, ◌-◌, ◌<◌, ◌≤◌, List, [], ◌++◌, length, take}
use Rattle.line_base.specs.declared.event.Parts.{Parts}
use Rattle.checkpoint.specs.declared.format.Format.{Format}
use Rattle.checkpoint.specs.Text.{lines, lines_text, IsReadFor}
use Rattle.checkpoint.specs.Given.{AreGiven}

-- the file begins with the first `number` lines of a checkpoint of this graph, whatever dates they give, and nothing
-- stands behind its last line
pub record BeginsWell (g : Parts) (bytes : List ℕ) (number : ℕ) : Type 0 where
  pub format : Format
  pub read : IsReadFor format g
  pub lists : List (List ℕ)
  pub given : AreGiven lists
  pub rest : List ℕ
  pub is : bytes ≡ lines_text format (take number (lines format g)) lists ++ rest
  pub ends : length (lines format g) < number → rest ≡ []

-- the file begins well up to this line, and with it no more
pub record IsFirstBadLine (g : Parts) (bytes : List ℕ) (number : ℕ) : Type 0 where
  pub from_one : 1 ≤ number
  pub good_before : BeginsWell g bytes (number - 1)
  pub bad : ¬ BeginsWell g bytes number
