-- What is answered of bytes that are TOML, or none.
use Rattle.std.proofs.Common.{◌≡◌, ℕ, List, [], None, Some, Result, Ok, Err, refl, arith}
use Rattle.std.specs.Prelude.{IfOk, drop, take}
use Rattle.std.specs.Str.{IsUtf8}
use Rattle.plant_file.specs.Reading.{draft_of, reading, tree_of, tree_reading}
use Rattle.plant_keys.specs.Walk.{tree_faults}
use Rattle.toml.specs.Data.{Data}
use Rattle.toml.specs.Errors.{IsWithin, span_start}
use Rattle.toml.specs.Parse.{parse_document}
use Rattle.toml.specs.declared.de.error.Error.{Error}
use Rattle.plant_file.proofs.Trees.{tree_of_refused}
use Rattle.plant_lint.specs.FileLints.{lint_of_tree, ReadsFile, ReadsTree}
use Rattle.plant_lint.specs.Headers.{no_toml_line}
use Rattle.plant_lint.specs.Remarks.{file_remark}
use Rattle.plant_lint.specs.Texts.{fault_lines}
use Rattle.plant_lint.specs.Unused.{unused_lines}
use Rattle.plant_lint.proofs.FaultLints.{wrong_faults}
use Rattle.plant_lint.specs.declared.file.FileLint.{FileLint}
use Rattle.plant_lint.specs.declared.file.FileLint.TheVariants as file
use Rattle.plant_lint.specs.declared.lint.Lint.TheVariants.{Sound}

pub lints_no_toml : {E M : Type 0} (bytes : List ℕ) (e : Error) (r : Result FileLint E) → IsWithin bytes e → IfOk r (λ lint. lint ≡ file.Refused (no_toml_line (take (span_start e) bytes) (drop (span_start e) bytes))) → IfOk r (λ _. M → ⊥) → ((M → ⊥) → IsUtf8 bytes → parse_document bytes ≡ None) → IfOk r (ReadsFile bytes)
lints_no_toml bytes e (Ok lint) within line memory refused =
    rw (line, tree_of_refused bytes (refused memory))
    (record { begins = span_start e; within = omega (arith, within.0, within.1); line = refl })
lints_no_toml bytes e (Err err) within line memory refused = line

-- what is answered of bytes that are TOML
pub lints_tree : {E : Type 0} (bytes : List ℕ) (top : Data) (r : Result FileLint E) → tree_of bytes ≡ Some top → IfOk r (ReadsTree top) → IfOk r (ReadsFile bytes)
unfolding reading
lints_tree bytes top (Ok (file.Refused lines)) is h = rw is (rw h refl)
lints_tree bytes top (Ok (file.Sound draft notes)) is h = (rw is (rw h.0 refl), rw is h.1)
lints_tree bytes top (Err e) is h = h

-- a tree with which nothing is wrong
pub sound_lint : (top : Data) → tree_faults top ≡ [] → lint_of_tree top ≡ Sound (unused_lines top)
sound_lint top none = rw none refl

pub sound_reading : (top : Data) → tree_faults top ≡ [] → tree_reading top ≡ Ok (draft_of top)
sound_reading top none = rw none refl

-- and one with which something is
pub wrong_tree : {E : Type 0} (top : Data) (r : Result FileLint E) → (tree_faults top ≡ [] → ⊥) → IfOk r (λ lint. lint ≡ file.Refused (fault_lines (file_remark top) (tree_faults top))) → IfOk r (ReadsTree top)
wrong_tree top (Ok lint) some is = rw is (wrong_faults (file_remark top) (tree_faults top) (unused_lines top) some)
wrong_tree top (Err e) some is = tt
