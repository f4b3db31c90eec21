-- A name is a label, and so are two names with a dot between them.
use Rattle.std.proofs.Common.{◌≡◌, ℕ, ◌+◌, ◌<◌, ◌≤◌, true, leb, List, [], ◌∷◌, ◌++◌, length, get_or, take, map, codes, refl, sym, ap, ◌∙◌, arith, length-append}
use Rattle.std.specs.List.{list_all}
use Rattle.std.proofs.lemmas.Bool.{and_parts, and_from, leb-true, le-leb}
use Rattle.std.proofs.lemmas.Bool.Decides.{nat_tests}
use Rattle.std.proofs.lemmas.List.{append_assoc, map_more}
use Rattle.std.proofs.lemmas.List.Elements.{All-weaker}
use Rattle.std.proofs.lemmas.List.Sums.{AllPass-from_list_all, list_all-from_AllPass}
use Rattle.std.proofs.lemmas.List.Folds.{list_all-append}
use Rattle.line_base.specs.Text.{is_between, is_name_byte, is_name, is_label}

-- what a name has
record NameHas (text : List ℕ) : Type 0 where
  some : 1 ≤ length text
  short : length text ≤ 24
  prints : list_all (is_between 33 126) text ≡ true

prints-name_byte : (byte : ℕ) → is_name_byte byte ≡ true → is_between 33 126 byte ≡ true
prints-name_byte byte h = grind (arith, nat_tests)

NameHas-is_name : (text : List ℕ) → is_name text ≡ true → NameHas text
NameHas-is_name text h =
    let both = and_parts _ (list_all is_name_byte text) h in
    let size = and_parts (leb 1 (length text)) (leb (length text) 24) (and_parts (is_between 1 24 (length text)) _ both.0).0 in
    let each = AllPass-from_list_all is_name_byte text both.1 in
    record {
      some = leb-true 1 (length text) size.0;
      short = leb-true (length text) 24 size.1;
      prints = list_all-from_AllPass (is_between 33 126) text (All-weaker (λ b. is_name_byte b ≡ true) (λ b. is_between 33 126 b ≡ true) prints-name_byte text each);
    }

label_from : (text : List ℕ) → 1 ≤ length text → length text ≤ 49 → list_all (is_between 33 126) text ≡ true → is_label text ≡ true
label_from text some short prints =
    and_from (is_between 1 49 (length text)) (list_all (is_between 33 126) text) (and_from (leb 1 (length text)) (leb (length text) 49) (le-leb 1 (length text) some) (le-leb (length text) 49 short)) prints

pub is_label-name : (text : List ℕ) → is_name text ≡ true → is_label text ≡ true
is_label-name text h =
    let has = NameHas-is_name text h in
    label_from text has.some (omega (arith, has.short)) has.prints

pub is_label-machine : (stage machine : List ℕ) → is_name stage ≡ true → is_name machine ≡ true → is_label (stage ++ codes "." ++ machine) ≡ true
is_label-machine stage machine h k =
    let first = NameHas-is_name stage h in
    let second = NameHas-is_name machine k in
    let front = stage ++ codes "." in
    let size = length-append front machine in
    let size_2 = length-append stage (codes ".") in
    let dotted = list_all-append (is_between 33 126) stage (codes ".") ∙ and_from _ true first.prints refl in
    let prints = list_all-append (is_between 33 126) front machine ∙ and_from _ _ dotted second.prints in
    label_from (front ++ machine) (omega (arith, first.some)) (omega (arith, first.short, second.short)) prints

-- one label more behind others, of the next element of a list
pub labels_more : {M : Type 0} (front : List (List ℕ)) (first : List ℕ) (label : M → List ℕ) (ms : List M) (m : M) (i : ℕ) (all new : List (List ℕ)) → all ≡ front ++ (first ∷ map label (take i ms)) → i < length ms → m ≡ get_or ms i m → new ≡ all ++ label m ∷ [] → new ≡ front ++ (first ∷ map label (take (i + 1) ms))
labels_more front first label ms m i all new is below read at =
    let more = map_more label ms i m below ∙ ap (λ n. map label (take i ms) ++ label n ∷ []) (sym read) in
    at ∙ ap (λ xs. xs ++ label m ∷ []) is ∙ append_assoc front (first ∷ map label (take i ms)) (label m ∷ []) ∙ ap (λ xs. front ++ (first ∷ xs)) (sym more)
