-- Whether a line of a text begins so, as its bytes are passed one by one.
use Rattle.std.proofs.Common.{◌≡◌, ℕ, ◌+◌, ◌<◌, ◌≤◌, true, false, ◌||◌, List, drop, length, get_or, sym, ap, ◌∙◌, drop-cons, add-one}
use Rattle.std.proofs.lemmas.List.{drop_all}
use Rattle.plant_lint.specs.Headers.{begins_line, has_line}

at_byte : (start text : List ℕ) (n : ℕ) → n < length text → has_line start (drop n text) ≡ (begins_line start (get_or text n 0) (drop (n + 1) text) || has_line start (drop (n + 1) text))
unfolding has_line
at_byte start text n low =
    ap (has_line start) (drop-cons text n 0 low)
    ∙ ap (λ k. begins_line start (get_or text n 0) (drop k text) || has_line start (drop k text)) (sym (add-one n))

pub line_here : (start text : List ℕ) (n : ℕ) → n < length text → begins_line start (get_or text n 0) (drop (n + 1) text) ≡ true → true ≡ has_line start (drop n text)
line_here start text n low begins =
    sym (at_byte start text n low ∙ ap (λ b. b || has_line start (drop (n + 1) text)) begins)

pub line_later : (start text : List ℕ) (n : ℕ) → n < length text → begins_line start (get_or text n 0) (drop (n + 1) text) ≡ false → has_line start (drop (n + 1) text) ≡ has_line start (drop n text)
line_later start text n low fails =
    sym (at_byte start text n low ∙ ap (λ b. b || has_line start (drop (n + 1) text)) fails)

pub line_past : (start text : List ℕ) (n : ℕ) → length text ≤ n → false ≡ has_line start (drop n text)
unfolding has_line
line_past start text n past = sym (ap (has_line start) (drop_all n text past))
