-- From the records that a reader reached one by one to all the records of a text.
use Rattle.std.proofs.Common.{◌≡◌, ◌≤◌, ◌<◌, ◌+◌, ◌-◌, ℕ, zero, suc, List, [], ◌∷◌, ◌++◌, length, Bool, true, false, cond, Some, None, refl, sym, ap, ◌∙◌, ◌==◌, ◌||◌, subst, arith, inl, inr}
use Rattle.std.proofs.lemmas.Bool.{cases_Bool}
use Rattle.std.proofs.lemmas.List.{append-nil}
use Rattle.csv.specs.Machine.{Read, ends_at_end, fields_after, in_field, is_end, next_record, start_field, start_record, step}
use Rattle.csv.specs.Reading.{Reached, default_config, records, records_from}
use Rattle.csv.specs.declared.parser.State.{State}
use Rattle.csv.specs.declared.parser.State.TheVariants as st
use Rattle.csv.specs.declared.parser.Action.{Action}
use Rattle.csv.specs.declared.parser.Action.TheVariants as act

-- where a byte ends a record, no record is begun after it
record Ended (p : State × Action) : Type 0 where
  between : is_end p.1 ≡ true → ends_at_end p.0 ≡ false

Ended-cond : (b : Bool) (p q : State × Action) → Ended p → Ended q → Ended (cond b p q)
Ended-cond true p q h k = h
Ended-cond false p q h k = k

Ended-other : (s : State) (a : Action) → is_end a ≡ false → Ended (s, a)
Ended-other s a other = record { between = λ e. cc (sym other ∙ e) }

Ended-after_end : (b d : Bool) → Ended (cond b (cond d st.AfterCr st.StartRecord, act.EndRecord) (st.InField, act.Copy))
Ended-after_end true true = record { between = λ e. refl }
Ended-after_end true false = record { between = λ e. refl }
Ended-after_end false d = Ended-other st.InField act.Copy refl

Ended-in_field : (c : ℕ) → Ended (in_field default_config c)
Ended-in_field c = Ended-cond (c == 44) _ _ (Ended-other st.StartField act.EndField refl) (Ended-after_end ((c == 13) || (c == 10)) (c == 13))

Ended-start_field : (c : ℕ) → Ended (start_field default_config c)
Ended-start_field c = Ended-cond (c == 34) _ _ (Ended-other st.InQuoted act.Skip refl) (Ended-in_field c)

Ended-start_record : (c : ℕ) → Ended (start_record default_config c)
Ended-start_record c = Ended-cond ((c == 13) || (c == 10)) _ _ (Ended-other st.StartRecord act.Skip refl) (Ended-start_field c)

Ended-step : (s : State) (c : ℕ) → Ended (step default_config s c)
Ended-step st.StartRecord c = Ended-start_record c
Ended-step st.StartField c = Ended-start_field c
Ended-step st.InField c = Ended-in_field c
Ended-step st.InQuoted c = Ended-cond (c == 34) _ _ (Ended-other st.AfterQuote act.Skip refl) (Ended-other st.InQuoted act.Copy refl)
Ended-step st.AfterQuote c = Ended-cond (c == 34) _ _ (Ended-other st.InQuoted act.Copy refl) (Ended-in_field c)
Ended-step st.InEscape c = Ended-other st.InQuoted act.Copy refl
Ended-step st.InComment c = Ended-cond (c == 10) _ _ (Ended-other st.StartRecord act.Skip refl) (Ended-other st.InComment act.Skip refl)
Ended-step st.AfterCr c = Ended-cond (c == 10) _ _ (Ended-other st.StartRecord act.Skip refl) (Ended-start_record c)

-- what a record that was read leaves: no record is begun, and there is less of the text
pub record Leaves (xs : List ℕ) (p : Read) : Type 0 where
  pub between : ends_at_end p.1 ≡ false
  pub less : length p.2 ≤ length xs - 1

-- the end of the text ends a record, or nothing
Leaves-end : (b : Bool) (r : Read) (p : Read) → ends_at_end r.1 ≡ false → r.2 ≡ [] → (xs : List ℕ) → cond b (Some r) None ≡ Some p → Leaves xs p
Leaves-end true r p between none xs e = let same : r ≡ p = cc e in subst (Leaves xs) same (record { between = between; less = rw none (omega arith) })
Leaves-end false r p between none xs e = cc e

Leaves-next : (s : State) (fields : List (List ℕ)) (field xs : List ℕ) (p : Read) → next_record default_config s fields field xs ≡ Some p → Leaves xs p
unfolding next_record
Leaves-next s fields field [] p e = Leaves-end (ends_at_end s) _ p refl refl [] e
Leaves-next s fields field (c ∷ rest) p e = elim (cases_Bool (is_end (step default_config s c).1)) [
  | inl ends ↦
      let same : (fields_after (step default_config s c).1 fields field, (step default_config s c).0, rest) ≡ p = cc (rw ends at e) in
      subst (Leaves (c ∷ rest)) same (record { between = (Ended-step s c).between ends; less = omega arith })
  | inr goes ↦
      let after = Leaves-next (step default_config s c).0 _ _ rest p (rw goes at e) in
      record { between = after.between; less = omega arith }
]

-- between two records, the end of the text gives none
next_record-end : (s : State) (p : Read) → ends_at_end s ≡ false → next_record default_config s [] [] [] ≡ Some p → ⊥
unfolding next_record
next_record-end s p between e = cc (rw between at e)

-- each record takes a byte at least
taken : (s : State) (xs : List ℕ) (p : Read) → ends_at_end s ≡ false → next_record default_config s [] [] xs ≡ Some p → length p.2 < length xs
taken s [] p between e = absurd (next_record-end s p between e)
taken s (c ∷ rest) p between e = let left = (Leaves-next s [] [] (c ∷ rest) p e).less in omega arith

-- where a reader stands between two records: they and the bytes left are no more than the text
pub record Between (xs : List ℕ) (rows : List (List (List ℕ))) (s : State) (ys : List ℕ) : Type 0 where
  pub ended : ends_at_end s ≡ false
  pub room : length rows + length ys ≤ length xs

pub Between-reached : (s s2 : State) (xs ys : List ℕ) (rows : List (List (List ℕ))) → ends_at_end s ≡ false → Reached default_config s xs rows s2 ys → Between xs rows s2 ys
unfolding Reached
Between-reached s s2 xs ys [] between h = record { ended = rw (← h.0) between; room = rw (← h.1) (omega arith) }
Between-reached s s2 xs ys (r ∷ rows) between (p, e, same, more) =
    let left = Leaves-next s [] [] xs p e in
    let rest = Between-reached p.1 s2 p.2 ys rows left.between more in
    let fewer = taken s xs p between e in
    record { ended = rest.ended; room = omega (arith, rest.room) }

-- all the records, from those reached on
records_from-reached : (s s2 : State) (xs ys : List ℕ) (rows : List (List (List ℕ))) (m n : ℕ) → m ≡ length rows + n → Reached default_config s xs rows s2 ys
    → records_from default_config m s xs ≡ rows ++ records_from default_config n s2 ys
unfolding Reached records_from
records_from-reached s s2 xs ys [] m n size h =
    let same : m ≡ n = omega arith in
    rw (h.0, h.1, same) refl
records_from-reached s s2 xs ys (r ∷ rows) zero n size h = absurd (omega arith)
records_from-reached s s2 xs ys (r ∷ rows) (suc m) n size (p, e, same, more) =
    rw (e, same) (ap (λ (rest : List (List (List ℕ))). p.0 ∷ rest) (records_from-reached p.1 s2 p.2 ys rows m n (omega arith) more))

-- where there is no record more there is none of any number
records_from-none : (n : ℕ) (s : State) (ys : List ℕ) → next_record default_config s [] [] ys ≡ None → records_from default_config n s ys ≡ []
unfolding records_from
records_from-none zero s ys e = refl
records_from-none (suc n) s ys e = rw e refl

-- the records of a text begin with those that a reader reached
pub records-reached : (s2 : State) (xs ys : List ℕ) (rows : List (List (List ℕ))) → Reached default_config st.StartRecord xs rows s2 ys
    → records default_config xs ≡ rows ++ records_from default_config (length xs + 1 - length rows) s2 ys
records-reached s2 xs ys rows h =
    let room = (Between-reached st.StartRecord s2 xs ys rows refl h).room in
    records_from-reached st.StartRecord s2 xs ys rows (length xs + 1) _ (omega arith) h

-- and are no more than those where there is none after them
pub records-all : (s2 : State) (xs ys : List ℕ) (rows : List (List (List ℕ))) → Reached default_config st.StartRecord xs rows s2 ys
    → next_record default_config s2 [] [] ys ≡ None → records default_config xs ≡ rows
records-all s2 xs ys rows h none = rw (records-reached s2 xs ys rows h, records_from-none _ s2 ys none) (append-nil rows)
