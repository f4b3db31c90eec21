-- Words beside their bytes.
use Rattle.std.proofs.Common.{◌≡◌, ℕ, ◌<◌, ◌≤◌, Bool, ◌||◌, List, [], ◌∷◌, length, get_or, refl, sym, ap, arith}
use Rattle.std.specs.Prelude.{String, string_bytes}
use Rattle.std.specs.List.{list_any}
use Rattle.std.specs.declared.alloc.Global.{Global}
use Rattle.command_line.specs.Options.{texts}

pub list_any_texts : (p : List ℕ → Bool) (words : List (String Global)) → list_any p (texts words) ≡ list_any (λ word. p (string_bytes word)) words
list_any_texts p [] = refl
list_any_texts p (word ∷ words) = ap (λ rest. p (string_bytes word) || rest) (list_any_texts p words)

-- a word that stands alone
pub one_text : (words : List (String Global)) (word : String Global) → 1 ≤ length words → length words < 2 → word ≡ get_or words 0 word → texts words ≡ string_bytes word ∷ []
one_text [] word some few is = absurd (omega arith)
one_text (first ∷ []) word some few is = ap (λ w. string_bytes w ∷ []) (sym is)
one_text (first ∷ (other ∷ rest)) word some few is = absurd (omega arith)

-- no word, and two words
pub no_text : (words : List (String Global)) → length words < 1 → texts words ≡ []
no_text [] none = refl
no_text (word ∷ words) none = absurd (omega arith)

pub two_texts : (words : List (String Global)) (one other : String Global) → 2 ≤ length words → length words < 3 → one ≡ get_or words 0 one → other ≡ get_or words 1 other → texts words ≡ string_bytes one ∷ (string_bytes other ∷ [])
two_texts [] one other some few is_one is_other = absurd (omega arith)
two_texts (a ∷ []) one other some few is_one is_other = absurd (omega arith)
two_texts (a ∷ (b ∷ [])) one other some few is_one is_other = cc
two_texts (a ∷ (b ∷ (c ∷ rest))) one other some few is_one is_other = absurd (omega arith)
