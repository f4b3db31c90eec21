-- How the start of a line is written: a label, the number of a job, and spaces.
use Rattle.std.proofs.Common.{◌≡◌, ℕ, ◌+◌, ◌-◌, ◌/◌, ◌%◌, ◌^◌, ◌<◌, ◌≤◌, List, [], ◌∷◌, ◌++◌, length, take, drop, set, inl, inr, decimal, refl, sym, ap, ◌∙◌, append_assoc, length-append, arith}
use Rattle.std.specs.Prelude.{IsTrue}
use Rattle.line_base.specs.Text.{is_label}
use Rattle.line_report.specs.Portions.{start_text}
use Rattle.std.proofs.lemmas.Bool.{cases_lt}
use Rattle.std.proofs.lemmas.Bool.Decides.{nat_tests}
use Rattle.std.proofs.lemmas.Fmt.{decimal_digit, decimal_step, length-decimal-le}
use Rattle.std.proofs.lemmas.List.{length-take, length-take-le, length-set, take-append-drop, set-append_left, set_at, take_at, take-take, take-append-le}

-- the texts of a number and of the next, where they differ in the last digit alone
record AreNext (n : ℕ) : Type 0 where
  front : List ℕ
  this : decimal n ≡ front ++ (48 + n % 10) ∷ []
  next : decimal (n + 1) ≡ front ++ (49 + n % 10) ∷ []

are_next : (n : ℕ) → n % 10 < 9 → n < 100_000 → AreNext n
are_next n low small = elim (cases_lt n 10) [
  | inl few ↦ record {
    front = [];
    this = decimal_digit n few ∙ ap (λ d. d ∷ []) (omega arith);
    next = decimal_digit (n + 1) (omega arith) ∙ ap (λ d. d ∷ []) (omega arith);
  }
  | inr more ↦
      let same : (n + 1) / 10 ≡ n / 10 = omega arith in
      let digit : 48 + (n + 1) % 10 ≡ 49 + n % 10 = omega arith in
      record {
        front = decimal (n / 10);
        this = decimal_step n (omega arith) (omega arith);
        next = decimal_step (n + 1) (omega arith) (omega arith) ∙ ap (λ m. decimal m ++ (48 + (n + 1) % 10) ∷ []) same ∙ ap (λ d. decimal (n / 10) ++ d ∷ []) digit;
      }
]

-- a byte written over the last but one of the first few
set-front : (xs head : List ℕ) (end i old new last : ℕ) → end ≤ length xs → take end xs ≡ head ++ old ∷ last ∷ [] → i ≡ end - 2 → take end (set xs i new) ≡ head ++ new ∷ last ∷ []
set-front xs head end i old new last within is at =
    let count : length (head ++ old ∷ last ∷ []) ≡ length head + 2 = length-append head _ in
    let long : length (take end xs) ≡ end = length-take-le end xs within in
    let size : length head + 2 ≡ end = sym count ∙ ap length (sym is) ∙ long in
    let here : length head ≡ i = omega arith in
    let inside : i < length (take end xs) = omega arith in
    ap (λ (l : List ℕ). take end (set l i new)) (sym (take-append-drop end xs))
    ∙ ap (take end) (set-append_left (take end xs) (drop end xs) i new inside)
    ∙ take_at (set (take end xs) i new) (drop end xs) end (length-set (take end xs) i new ∙ long)
    ∙ ap (λ (l : List ℕ). set l i new) is
    ∙ set_at head old (last ∷ []) new i here

pub raised : (text : List ℕ) (at end job : ℕ) → job < 100_000 → job % 10 < 9 → end ≤ length text → take end text ≡ take at text ++ (decimal job ++ 32 ∷ []) → take end (set text (end - 2) (49 + job % 10)) ≡ take at text ++ (decimal (job + 1) ++ 32 ∷ [])
raised text at end job small low within is =
    let n = are_next job low small in
    let split : take end text ≡ (take at text ++ n.front) ++ (48 + job % 10) ∷ 32 ∷ [] =
    is ∙ ap (λ d. take at text ++ (d ++ 32 ∷ [])) n.this ∙ ap (λ l. take at text ++ l) (append_assoc n.front _ _) ∙ sym (append_assoc (take at text) n.front _)
    in
    set-front text (take at text ++ n.front) end (end - 2) (48 + job % 10) (49 + job % 10) 32 within split refl
    ∙ append_assoc (take at text) n.front _ ∙ ap (λ l. take at text ++ l) (sym (append_assoc n.front _ _)) ∙ ap (λ d. take at text ++ (d ++ 32 ∷ [])) (sym n.next)

-- what ends with a number and a space has both
pub two_at_least : (text : List ℕ) (at end job : ℕ) → job < 100_000 → job % 10 < 9 → end ≤ length text → take end text ≡ take at text ++ (decimal job ++ 32 ∷ []) → 2 ≤ end
two_at_least text at end job small low within is =
    let n = are_next job low small in
    let long : length (take end text) ≡ end = length-take-le end text within in
    let size = ap length is ∙ length-append (take at text) _ in
    let digits = length-append (decimal job) (32 ∷ []) in
    let number = ap length n.this ∙ length-append n.front _ in
    omega arith

-- what stands before what is written stays
pub kept_front : (old new rest : List ℕ) (few at end : ℕ) → few ≤ at → at ≤ length old → take end new ≡ take at old ++ rest → take few new ≡ take few old
kept_front old new rest few at end low long is =
    let head : length (take at old) ≡ at = length-take-le at old long in
    let far : at ≤ end = omega (arith, head, length-append (take at old) rest, ap length is, length-take end new) in
    sym (take-take few end new (omega arith)) ∙ ap (take few) is ∙ take-append-le few (take at old) rest (omega arith) ∙ take-take few at old low

-- the first bytes of a text that is copied behind others, and those others
pub copied_front : (room text later : List ℕ) (at few : ℕ) → at ≤ length room → few ≤ length text → take (at + few) (take at room ++ (text ++ later)) ≡ take at room ++ take few text
copied_front room text later at few low short =
    let head = take at room in
    let split : head ++ (text ++ later) ≡ (head ++ take few text) ++ (drop few text ++ later) =
    ap (λ l. head ++ (l ++ later)) (sym (take-append-drop few text)) ∙ ap (λ l. head ++ l) (append_assoc (take few text) (drop few text) later) ∙ sym (append_assoc head (take few text) (drop few text ++ later))
    in
    let size : length (head ++ take few text) ≡ at + few = omega (arith, length-append head (take few text), length-take-le at room low, length-take-le few text short) in
    ap (take (at + few)) split ∙ take_at (head ++ take few text) (drop few text ++ later) (at + few) size

-- a label and a space, and then the number of a job and a space
pub start-parts : (text : List ℕ) (label end job : ℕ) → take (label + 1) text ≡ take label text ++ 32 ∷ [] → take end text ≡ take (label + 1) text ++ (decimal job ++ 32 ∷ []) → take end text ≡ start_text (record { label = take label text; job = job })
start-parts text label end job named whole =
    whole ∙ ap (λ l. l ++ (decimal job ++ 32 ∷ [])) named ∙ append_assoc (take label text) (32 ∷ []) (decimal job ++ 32 ∷ [])

-- a label fits
pub short_label : (text : List ℕ) → IsTrue (is_label text) → length text ≤ 49
short_label text rule = grind (arith, nat_tests)

-- how many digits a number has at most, and the number of a job
pub few_digits : (n : ℕ) → n < 2 ^ 64 → length (decimal n) ≤ 20
few_digits n small = length-decimal-le 20 n (omega arith) (omega arith) small

pub few_job_digits : (job : ℕ) → job ≤ 99_999 → length (decimal job) ≤ 5
few_job_digits job few = length-decimal-le 5 job (omega arith) (omega arith) (omega arith)
