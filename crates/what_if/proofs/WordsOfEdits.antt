-- What the words of a line say of the edit that it writes.
use Rattle.std.proofs.Common.{◌≡◌, ◌≢◌, ℕ, zero, suc, ◌+◌, ◌-◌, ◌<◌, ◌≤◌, ◌^◌, Bool, true, false, cond, eqb, List, [], ◌∷◌, ◌++◌, take, drop, length, get_or, refl, sym, ap, ◌∙◌, subst, arith}
use Rattle.std.specs.Prelude.{Option, None, Some, IfSome, codes, decimal, not, ◌&&◌, unwrap_or}
use Rattle.std.specs.List.{position_or_len, find, list_all, range_with_len}
use Rattle.std.proofs.lemmas.Bool.{eqb-true, eqb-false}
use Rattle.std.proofs.lemmas.List.{get_or_at, length-append, length-take, get_or-take, get_or_default}
use Rattle.std.proofs.lemmas.List.Elements.{All-head, All-tail}
use Rattle.std.proofs.lemmas.List.FromFn.{length-range_with_len, get_or-range_with_len}
use Rattle.std.proofs.lemmas.List.Sums.{split_at_first, fails_before_first, passes_at_first, prefix_len-le-length, AllPass-from_list_all}
use Rattle.std.proofs.lemmas.Fmt.{decimal_is_IsNumeral}
use Rattle.std.proofs.lemmas.Str.Parse.{digit_at}
use Rattle.line_base.specs.declared.event.Parts.{Parts}
use Rattle.event_graph.specs.Network.{stations, jobs, label}
use Rattle.line_core.proofs.Searches.{find-here, find-later}
use Rattle.what_if.specs.declared.edit.Edit.{Edit}
use Rattle.what_if.specs.declared.edit.Edit.TheVariants.{Time, Demand}
use Rattle.what_if.specs.Edits.{before_space, is_machine_with, HasNoSpace, IsTimeEdit, IsDemandEdit, Writes, IsSplit}

tail : List ℕ → List ℕ
tail [] = []
tail (x ∷ xs) = xs

-- a text with a space isn't one word
pub has_space : (word rest : List ℕ) → HasNoSpace (before_space word rest) → ⊥
has_space word rest none =
    none (length word) 0 (omega (arith, length-append word (32 ∷ rest))) (get_or_at word 32 rest 0 (length word) refl)

-- there is one way to split a text at its first space
pub split_once : (word rest other others : List ℕ) → HasNoSpace word → HasNoSpace other → before_space word rest ≡ before_space other others → (word ≡ other) × (rest ≡ others)
unfolding tail
split_once [] rest [] others none no_other same = (refl, ap tail same)
split_once [] rest (y ∷ ys) others none no_other same = absurd (All-head (λ b. b ≢ 32) y ys no_other (sym (ap (λ l. get_or l 0 0) same)))
split_once (x ∷ xs) rest [] others none no_other same = absurd (All-head (λ b. b ≢ 32) x xs none (ap (λ l. get_or l 0 0) same))
split_once (x ∷ xs) rest (y ∷ ys) others none no_other same =
    let later = split_once xs rest ys others (All-tail (λ b. b ≢ 32) x xs none) (All-tail (λ b. b ≢ 32) y ys no_other) (ap tail same) in
    (ap (λ b. b ∷ xs) (ap (λ l. get_or l 0 0) same) ∙ ap (λ l. y ∷ l) later.0, later.1)

-- the words of a text that is known
pub split_is : (text word rest other others : List ℕ) → IsSplit text word rest → HasNoSpace other → text ≡ before_space other others → (word ≡ other) × (rest ≡ others)
split_is text word rest other others split none is =
    split_once word rest other others split.no_space none (sym split.whole ∙ is)

-- a number is one word
pub decimal-no_space : (n : ℕ) → n < 2 ^ 64 → HasNoSpace (decimal n)
decimal-no_space n small k d low space =
    let digit = digit_at (decimal n) k (decimal_is_IsNumeral n small).0.1 low in
    omega (arith, digit.0, get_or_default (decimal n) k d 0 low, space)

-- ---- a split, as the code finds it

abbrev is_space : ℕ → Bool
is_space byte = eqb byte 32

before-space : (text : List ℕ) (k d : ℕ) → k < position_or_len is_space text → get_or text k d ≢ 32
before-space text k d low = eqb-false (get_or text k d) 32 (fails_before_first is_space text k d low)

pub no_space-at_end : (text : List ℕ) (end : ℕ) → end ≡ position_or_len is_space text → end ≡ length text → HasNoSpace text
no_space-at_end text end found all k d low = before-space text k d (omega (arith, found, all))

pub end-within : (text : List ℕ) → position_or_len is_space text ≤ length text
end-within text = prefix_len-le-length (λ byte. not (is_space byte)) text

pub split-at : (text : List ℕ) (end : ℕ) → end ≡ position_or_len is_space text → end < length text → IsSplit text (take end text) (drop (end + 1) text)
split-at text end found more =
    let at = position_or_len is_space text in
    let low : at < length text = omega (arith, found, more) in
    let space : get_or text at 0 ≡ 32 = eqb-true (get_or text at 0) 32 (passes_at_first is_space text 0 low) in
    subst (λ e. IsSplit text (take e text) (drop (e + 1) text)) (sym found) (record {
      whole = split_at_first is_space text 0 low ∙ ap (λ b. take at text ++ b ∷ drop (at + 1) text) space;
      no_space = λ k d below.
          let early : k < at = omega (arith, below, length-take at text) in
          λ e. before-space text k d early (sym (get_or-take at text k d early) ∙ e);
    })

-- ---- what each word says

-- a line that is one word writes no edit
pub one_word-no_edit : (g : Parts) (text : List ℕ) (edit : Edit) → HasNoSpace text → Writes g text edit → ⊥
one_word-no_edit g text (Time t n time) none writes = has_space (codes "time") (before_space (label g t) (before_space (decimal n) (decimal time))) (subst HasNoSpace writes.text_is none)
one_word-no_edit g text (Demand n date) none writes = has_space (codes "demand") (before_space (decimal n) (decimal date)) (subst HasNoSpace writes.text_is none)

-- a word that is known has no space where a look at each of its bytes finds none
no_space-looked : (word : List ℕ) → list_all (λ byte. not (is_space byte)) word ≡ true → HasNoSpace word
no_space-looked word looked k d low e =
    let passes = AllPass-from_list_all (λ byte. not (is_space byte)) word looked k d low in
    let none : ⊥ = cc (sym passes, ap (λ byte. not (is_space byte)) e) in
    none

time-no_space : HasNoSpace (codes "time")
time-no_space = no_space-looked (codes "time") refl

demand-no_space : HasNoSpace (codes "demand")
demand-no_space = no_space-looked (codes "demand") refl

-- behind `time` stand the label, the job and the time
pub time-writes : (g : Parts) (text : List ℕ) (edit : Edit) (P : Edit → Type 0) → Writes g (before_space (codes "time") text) edit → ((t n time : ℕ) → IsTimeEdit g t n time → text ≡ before_space (label g t) (before_space (decimal n) (decimal time)) → P (Time t n time)) → P edit
time-writes g text (Time t n time) P writes known =
    known t n time writes.valid (split_once (codes "time") text (codes "time") _ time-no_space time-no_space writes.text_is).1
time-writes g text (Demand n date) P writes known =
    absurd (omega (arith, ap length (split_once (codes "time") text (codes "demand") _ time-no_space demand-no_space writes.text_is).0))

-- behind `demand` stand the job and the date
pub demand-writes : (g : Parts) (text : List ℕ) (edit : Edit) (P : Edit → Type 0) → Writes g (before_space (codes "demand") text) edit → ((n date : ℕ) → IsDemandEdit g n date → text ≡ before_space (decimal n) (decimal date) → P (Demand n date)) → P edit
demand-writes g text (Demand n date) P writes known =
    known n date writes.valid (split_once (codes "demand") text (codes "demand") _ demand-no_space demand-no_space writes.text_is).1
demand-writes g text (Time t n time) P writes known =
    absurd (omega (arith, ap length (split_once (codes "demand") text (codes "time") _ demand-no_space time-no_space writes.text_is).0))

-- no other word begins an edit
pub other-no_edit : (g : Parts) (text word rest : List ℕ) (edit : Edit) → IsSplit text word rest → word ≢ codes "time" → word ≢ codes "demand" → Writes g text edit → ⊥
other-no_edit g text word rest (Time t n time) split no_time no_demand writes =
    no_time (split_is text word rest (codes "time") _ split time-no_space writes.text_is).0
other-no_edit g text word rest (Demand n date) split no_time no_demand writes =
    no_demand (split_is text word rest (codes "demand") _ split demand-no_space writes.text_is).0

-- ---- a test of two

pub and-true : (a b : Bool) → a ≡ true → b ≡ true → (a && b) ≡ true
and-true true b first second = second
and-true false b first second = first

pub and-first : (a b : Bool) → a ≡ false → (a && b) ≡ false
and-first true b first = cc
and-first false b first = refl

pub and-second : (a b : Bool) → b ≡ false → (a && b) ≡ false
and-second true b second = second
and-second false b second = refl

-- an answer of nothing isn't an answer
pub none-some : {X : Type 0} (o : Option X) (x : X) → o ≡ None → o ≡ Some x → ⊥
none-some o x none some = let both : None ≡ Some x = sym none ∙ some in cc

pub none-holds : {X : Type 0} (P : X → Type 0) (o : Option X) → o ≡ None → IfSome o P
none-holds P o none = subst (λ o. IfSome o P) (sym none) tt

pub nothing-is : {X : Type 0} (x : X) → None ≡ Some x → ⊥
nothing-is x same = none-some None x refl same

pub some-is : (x y : ℕ) → Some x ≡ Some y → x ≡ y
some-is x y same = ap (λ (o : Option ℕ). unwrap_or o x) same

-- ---- the words of an edit of a time, and of a demand date, as they were split

-- the text behind `time`, split once
pub time-split : (g : Parts) (text label_ rest : List ℕ) (edit : Edit) (P : Edit → Type 0) → IsSplit text label_ rest → Writes g (before_space (codes "time") text) edit → ((t n time : ℕ) → IsTimeEdit g t n time → label_ ≡ label g t → rest ≡ before_space (decimal n) (decimal time) → P (Time t n time)) → P edit
time-split g text label_ rest edit P split writes known =
    time-writes g text edit P writes (λ t n time valid is.
    let words = split_is text label_ rest (label g t) (before_space (decimal n) (decimal time)) split valid.word is in
    known t n time valid words.0 words.1)

-- and twice
pub time-parts : (g : Parts) (text label_ rest job last : List ℕ) (edit : Edit) (P : Edit → Type 0) → IsSplit text label_ rest → IsSplit rest job last → jobs g < 2 ^ 64 → Writes g (before_space (codes "time") text) edit → ((t n time : ℕ) → IsTimeEdit g t n time → label_ ≡ label g t → job ≡ decimal n → last ≡ decimal time → P (Time t n time)) → P edit
time-parts g text label_ rest job last edit P split further few writes known =
    time-split g text label_ rest edit P split writes (λ t n time valid named follows.
    let words = split_is rest job last (decimal n) (decimal time) further (decimal-no_space n (omega (arith, valid.job, few))) follows in
    known t n time valid named words.0 words.1)

-- the text behind `demand`, split
pub demand-parts : (g : Parts) (text job last : List ℕ) (edit : Edit) (P : Edit → Type 0) → IsSplit text job last → jobs g < 2 ^ 64 → Writes g (before_space (codes "demand") text) edit → ((n date : ℕ) → IsDemandEdit g n date → job ≡ decimal n → last ≡ decimal date → P (Demand n date)) → P edit
demand-parts g text job last edit P split few writes known =
    demand-writes g text edit P writes (λ n date valid is.
    let words = split_is text job last (decimal n) (decimal date) split (decimal-no_space n (omega (arith, valid.job, few))) is in
    known n date valid words.0 words.1)

-- what a search among numbers finds is one of them
picked : (b : Bool) (x t : ℕ) (rest : Option ℕ) (P : ℕ → Type 0) → cond b (Some x) rest ≡ Some t → P x → (rest ≡ Some t → P t) → P t
picked true x t rest P found here later = subst P (some-is x t found) here
picked false x t rest P found here later = later found

pub find-in_range : (p : ℕ → Bool) (a n t : ℕ) → find p (range_with_len a n) ≡ Some t → (a ≤ t) × (t < a + n)
find-in_range p a zero t found = absurd (nothing-is t found)
find-in_range p a (suc n) t found =
    let InRange : ℕ → Type 0 = λ u. (a ≤ u) × (u < a + suc n) in
    picked (p a) a t (find p (range_with_len (a + 1) n)) InRange found (omega arith, omega arith) (λ later.
    let rest = find-in_range p (a + 1) n t later in
    (omega (arith, rest.0), omega (arith, rest.1)))

-- a search among the numbers from 1 on, below n, goes on
module _ (p : ℕ → Bool) (n t : ℕ) (one : 1 ≤ t) (low : t < n) where
  number_at : get_or (range_with_len 1 (n - 1)) (t - 1) 0 ≡ t
  number_at = get_or-range_with_len 1 (n - 1) (t - 1) 0 (omega arith) ∙ omega arith

  there : t - 1 < length (range_with_len 1 (n - 1))
  there = omega (arith, one, low, length-range_with_len 1 (n - 1))

  pub find-from_one_here : p t ≡ true → Some t ≡ find p (drop (t - 1) (range_with_len 1 (n - 1)))
  find-from_one_here found =
      ap Some (sym number_at) ∙ sym (find-here p (range_with_len 1 (n - 1)) (t - 1) 0 there (ap p number_at ∙ found))

  pub find-from_one_later : p t ≡ false → find p (drop (t + 1 - 1) (range_with_len 1 (n - 1))) ≡ find p (drop (t - 1) (range_with_len 1 (n - 1)))
  find-from_one_later fails =
      let next : t + 1 - 1 ≡ t - 1 + 1 = omega (arith, one) in
      ap (λ k. find p (drop k (range_with_len 1 (n - 1)))) next
      ∙ find-later p (range_with_len 1 (n - 1)) (t - 1) 0 there (ap p number_at ∙ fails)

-- the station of an edit of a time isn't the feed, and is there
pub time_edit-station : (g : Parts) (t n time : ℕ) → IsTimeEdit g t n time → (1 ≤ t) × (t < stations g)
time_edit-station g t n time valid =
    let at = find-in_range (is_machine_with g (label g t)) 1 (stations g - 1) t valid.machine in
    (at.0, omega (arith, at.0, at.1))
