-- Words of dates that are kept from one text to the next.
use Rattle.std.proofs.Common.{◌≡◌, ℕ, zero, suc, ◌+◌, ◌<◌, ◌≤◌, List, [], ◌∷◌, ◌++◌, length, take, drop, get_or, set, refl, sym, ap, ◌∙◌, subst, arith, ⊎_elim, append_assoc, replicate}
use Rattle.std.specs.Prelude.{codes}
use Rattle.std.proofs.lemmas.Bool.{cases_eq}
use Rattle.std.proofs.lemmas.List.{get_or-set_same, get_or-set_other, length-set, length-take, take_all, length-replicate, get_or-replicate}
use Rattle.line_base.specs.declared.event.Parts.{Parts}
use Rattle.event_graph.specs.Network.{stations}
use Rattle.event_graph.specs.State.{State, log}
use Rattle.checkpoint.specs.declared.format.Format.TheVariants.{Differences}
use Rattle.checkpoint.specs.Kept.{KeptWords, Kept, no_words, words_at, AreFirstWords, AreFirstWordsOfEach, Follows}
use Rattle.checkpoint.specs.Text.{date_word, date_words}
use Rattle.checkpoint.specs.Writing.{words_from}

split_words : (before : ℕ) (dates : List ℕ) (k : ℕ) → k ≤ length dates → date_words Differences before (take k dates) ++ date_words Differences (get_or (before ∷ dates) k 0) (drop k dates) ≡ date_words Differences before dates
unfolding date_words
split_words before dates zero low = refl
split_words before [] (suc k) low = absurd (omega arith)
split_words before (date ∷ dates) (suc k) low =
    let word = date_word Differences before date in
    let first = date_words Differences date (take k dates) in
    let rest = date_words Differences (get_or (date ∷ dates) k 0) (drop k dates) in
    append_assoc (codes " ") (word ++ first) rest
    ∙ ap (λ l. codes " " ++ l) (append_assoc word first rest ∙ ap (λ l. word ++ l) (split_words date dates k (omega arith)))

-- the words of the first dates, and those of the others, are those of all
pub words-split : (dates : List ℕ) (k : ℕ) → k ≤ length dates → date_words Differences 0 (take k dates) ++ words_from dates k ≡ date_words Differences 0 dates
unfolding words_from
words-split dates k low = split_words 0 dates k low

-- words of the first dates, written out
pub words_behind : (dates words counted copied written : List ℕ) (k : ℕ) → k ≤ length dates → words ≡ date_words Differences 0 (take k dates) → copied ≡ counted ++ words → written ≡ copied ++ words_from dates k → written ≡ counted ++ date_words Differences 0 dates
words_behind dates words counted copied written k low are copy write =
    write
    ∙ ap (λ l. l ++ words_from dates k) (copy ∙ ap (λ l. counted ++ l) are)
    ∙ append_assoc counted (date_words Differences 0 (take k dates)) (words_from dates k)
    ∙ ap (λ l. counted ++ l) (words-split dates k low)

-- the words of all dates
pub all_words : (dates : List ℕ) (kept : KeptWords) (written : List ℕ) → AreFirstWords dates kept → written ≡ kept.words ++ words_from dates kept.count → AreFirstWords dates (record { count = length dates; words = written })
all_words dates kept written first write = record {
  few = omega arith;
  words =
      write
      ∙ ap (λ l. l ++ words_from dates kept.count) first.words
      ∙ words-split dates kept.count first.few
      ∙ sym (ap (date_words Differences 0) (take_all (length dates) dates (omega arith)));
}

-- a state whose logs begin with those of an earlier one follows where the earlier one does
pub Follows-grown : (g : Parts) (old new : State) (kept : Kept) → Follows g old kept → ((t : ℕ) → t < stations g → take (length (log old t)) (log new t) ≡ log old t) → Follows g new kept
Follows-grown g old new kept follows grow = record {
  a_log_each = follows.a_log_each;
  first_words = λ t there.
      let first = follows.first_words t there in
      let count = (words_at kept.logs t).count in
      let long = ap length (grow t there) in
      record {
        few = omega (arith, first.few, long, length-take (length (log old t)) (log new t));
        words =
            first.words
            ∙ ap (λ l. date_words Differences 0 (take count l)) (sym (grow t there))
            ∙ ap (date_words Differences 0) (take_less count (length (log old t)) (log new t) first.few);
      };
}
  where
    take_less : (n m : ℕ) (xs : List ℕ) → n ≤ m → take n (take m xs) ≡ take n xs
    take_less zero m xs low = refl
    take_less (suc n) zero xs low = absurd (omega arith)
    take_less (suc n) (suc m) [] low = refl
    take_less (suc n) (suc m) (x ∷ xs) low = ap (λ l. x ∷ l) (take_less n m xs (omega arith))

-- every state follows where there are no words
pub none_follows : (g : Parts) (s : State) (logs : List KeptWords) (count : ℕ) → count ≡ stations g → logs ≡ replicate count no_words → AreFirstWordsOfEach g s logs
unfolding date_words
none_follows g s logs count all none = record {
  a_log_each = ap length none ∙ length-replicate count no_words ∙ all;
  first_words = λ t there.
      let at = ap (λ l. words_at l t) none ∙ get_or-replicate count t no_words no_words (omega (arith, all)) in
      subst (AreFirstWords (log s t)) (sym at) (record { few = omega arith; words = refl });
}

-- ---- a log that has all its words

module _ (g : Parts) (s : State) (logs : List KeptWords) (t : ℕ) (new : KeptWords) (there : t < stations g) (first : AreFirstWordsOfEach g s logs) (words : AreFirstWords (log s t) new) where
  at_t : words_at (set logs t new) t ≡ new
  at_t = get_or-set_same logs t new no_words (omega (arith, first.a_log_each))

  pub first_words-set : AreFirstWordsOfEach g s (set logs t new)
  first_words-set = record {
    a_log_each = length-set logs t new ∙ first.a_log_each;
    first_words = λ k listed.
        ⊎_elim
        (λ same. subst (λ u. AreFirstWords (log s u) (words_at (set logs t new) u)) (sym same) (subst (AreFirstWords (log s t)) (sym at_t) words))
        (λ other. subst (AreFirstWords (log s k)) (sym (get_or-set_other logs t k new no_words other)) (first.first_words k listed))
        (cases_eq k t);
  }

  pub each_word-set : new.count ≡ length (log s t) → ((k : ℕ) → k < t → (words_at logs k).count ≡ length (log s k)) → (k : ℕ) → k < t + 1 → (words_at (set logs t new) k).count ≡ length (log s k)
  each_word-set all below k low =
      ⊎_elim
      (λ same. subst (λ u. (words_at (set logs t new) u).count ≡ length (log s u)) (sym same) (ap (λ (w : KeptWords). w.count) at_t ∙ all))
      (λ other. ap (λ (w : KeptWords). w.count) (get_or-set_other logs t k new no_words other) ∙ below k (omega (arith, other)))
      (cases_eq k t)
