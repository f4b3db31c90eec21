use Rattle.std.proofs.Common.{◌≡◌, true, false, [], ◌∷◌, ◌∙◌, refl, sym}
use Rattle.line_base.specs.Text.{is_file_name}
use Rattle.command_line.specs.Options.{texts}
use Rattle.command_line.proofs.ReadCommands.{file_asked, lacks_for, reads, reads_none}
use Rattle.command_line.proofs.Texts.{one_text}
use Rattle.command_line.proofs.words.ask_file.Goals as goal

pub returns-then-not-is_file_name : goal.returns-then-not-is_file_name
returns-then-not-is_file_name c =
    let file = c.as_bytes.result.now in
    let word = one_text c.args.words.now c.file-item.result c.in-len1.len_at_least c.in-len1.len_below c.file-item.is in
    let alone : texts c.args.words.now ≡ file ∷ [] = rw c.as_bytes.ensures.value word in
    let is : is_file_name file ≡ false = sym c.is_file_name.ensures ∙ c.if-not-is_file_name.true in
    reads_none _ (rw (alone, is) refl)

pub returns-in_err-asking_of_file : goal.returns-in_err-asking_of_file
returns-in_err-asking_of_file c =
    let file = c.as_bytes.result.now in
    let word = one_text c.args.words.now c.file-item.result c.in-len1.len_at_least c.in-len1.len_below c.file-item.is in
    let alone : texts c.args.words.now ≡ file ∷ [] = rw c.as_bytes.ensures.value word in
    let is : is_file_name file ≡ true = sym c.is_file_name.ensures ∙ c.if-not-is_file_name.false in
    lacks_for c.from_residual.result _ _ c.from_residual.ensures.1 (file_asked c.args.question c.args.plant_file.now file _ alone is)

pub returns : goal.returns
returns c =
    let file = c.as_bytes.result.now in
    let word = one_text c.args.words.now c.file-item.result c.in-len1.len_at_least c.in-len1.len_below c.file-item.is in
    let alone : texts c.args.words.now ≡ file ∷ [] = rw c.as_bytes.ensures.value word in
    let is : is_file_name file ≡ true = sym c.is_file_name.ensures ∙ c.if-not-is_file_name.false in
    let made = c.in_ok-asking_of_file.ensures in
    let same : file ≡ c.as_str.result.now = c.as_bytes.ensures.value ∙ sym c.as_str.ensures.value in
    reads _ _ (cc (made, same)) (rw made c.requires)
