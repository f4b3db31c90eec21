-- The name of the spare file beside a checkpoint.
use Rattle.std.proofs.Common.{◌≡◌, ℕ, ◌+◌, ◌-◌, ◌≤◌, List, ◌++◌, length, drop, Bool, true, false, refl, ap, sym, ◌∙◌, arith}
use Rattle.std.specs.Prelude.{◌&&◌, ◌||◌, not, nat_eq, bytes_eq, codes, IsTrue}
use Rattle.std.specs.List.{ends_with}
use Rattle.std.specs.Cmp.Lexicographic.{same_text}
use Rattle.std.proofs.lemmas.Bool.{false≢true}
use Rattle.std.proofs.lemmas.List.{drop-append-le, length-append}
use Rattle.line_base.specs.Text.{may_name_file, ends_in_ckpt, is_own_file, is_file_name, is_checkpoint_name}
use Rattle.outside_io.specs.RawFiles.{spare_of}

-- what is left of three tests of which the last fails, and the last of two that hold
not_all : (a b c : Bool) → c ≡ true → (a && b && not c) ≡ false
not_all true true c is = ap not is
not_all true false c is = refl
not_all false true c is = refl
not_all false false c is = refl

last_of : (a b : Bool) → IsTrue (a && b) → b ≡ true
last_of true true both = refl
last_of true false both = absurd (false≢true both)
last_of false b both = absurd (false≢true both)

-- a name that ends in `.ckpt` ends in `.ckpt.new` with `.new` behind it
ends_as_spare : (name : List ℕ) → ends_in_ckpt name ≡ true → ends_with nat_eq (spare_of name) (codes ".ckpt.new") ≡ true
ends_as_spare name is =
    let k = length name - 5 in
    let tail : drop k name ≡ codes ".ckpt" = sym (same_text (codes ".ckpt") (drop k name) (sym is)) in
    let starts : length (spare_of name) - 9 ≡ k = omega (arith, length-append name (codes ".new")) in
    ap (λ (j : ℕ). bytes_eq (codes ".ckpt.new") (drop j (spare_of name))) starts
    ∙ ap (λ (xs : List ℕ). bytes_eq (codes ".ckpt.new") xs) (drop-append-le k name (codes ".new") (omega arith) ∙ ap (λ (xs : List ℕ). xs ++ codes ".new") tail)

-- so it is no file's name
pub spare_is_no_file : (name : List ℕ) → IsTrue (is_checkpoint_name name) → is_file_name (spare_of name) ≡ false
spare_is_no_file name is =
    let spare = spare_of name in
    let own : is_own_file spare ≡ true = ap (λ (b : Bool). b || bytes_eq spare (codes "pull.slots") || ends_with nat_eq spare (codes "/pull.slots")) (ends_as_spare name (last_of (may_name_file name) (ends_in_ckpt name) is)) in
    not_all (may_name_file spare) (not (ends_in_ckpt spare)) (is_own_file spare) own
