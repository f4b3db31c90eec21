use Rattle.std.proofs.Common.{◌≡◌, ◌∙◌, ℕ, true, false, List, [], ◌∷◌, refl, sym, ap}
use Rattle.std.specs.Prelude.{Option, Some, None, option_map, option_and_then}
use Rattle.command_line.specs.Options.{Given, seen_options, takes_no_value, with_flag, with_value, options_after}
use Rattle.command_line.specs.declared.options.Options.{Options}
use Rattle.command_line.proofs.options.+options_after.Goals as goal

-- an option that takes no value, before other words
flag_before : (given : Given) (name : List ℕ) (words : List (List ℕ)) (more : Option Given) → takes_no_value name ≡ true → more ≡ with_flag given name → option_and_then (λ m. options_after m words) more ≡ options_after given (name ∷ words)
unfolding options_after
flag_before given name words more alone is = rw (is, alone) refl

-- an option with its value, before other words, and one whose value is missing
value_before : (given : Given) (name word : List ℕ) (words : List (List ℕ)) (more : Option Given) → takes_no_value name ≡ false → more ≡ with_value given name word → option_and_then (λ m. options_after m words) more ≡ options_after given (name ∷ (word ∷ words))
unfolding options_after
value_before given name word words more valued is = rw (is, valued) refl

value_missing : (given : Given) (name : List ℕ) → takes_no_value name ≡ false → None ≡ options_after given (name ∷ [])
unfolding options_after
value_missing given name valued = rw valued refl

-- what the code gives, as it is seen, by what it is
seen_as : (found other : Option Options) (given : Option Given) → found ≡ other → option_map seen_options found ≡ given → option_map seen_options other ≡ given
seen_as found other given is seen = sym (ap (λ o. option_map seen_options o) is) ∙ seen

pub returns-clause-given : goal.returns-clause-given
returns-clause-given t c =
    let valued = sym c.takes_no_value.ensures ∙ c.if-takes_no_value.false in
    let more = seen_as _ _ _ c.in_ok-with_value.was c.with_value.ensures.given in
    c.options_after-2.ensures.given
    ∙ rw (c.in-Some.ensures.parts, c.in_ok-word.ensures.parts) (value_before _ _ _ _ _ valued more)

pub returns-then-takes_no_value-clause-given : goal.returns-then-takes_no_value-clause-given
returns-then-takes_no_value-clause-given t c =
    let alone = sym c.takes_no_value.ensures ∙ c.if-takes_no_value.true in
    let more = seen_as _ _ _ c.in_ok-with_flag.was c.with_flag.ensures.given in
    c.options_after.ensures.given ∙ rw c.in-Some.ensures.parts (flag_before _ _ _ _ alone more)

pub returns-in_err-with_flag-clause-given : goal.returns-in_err-with_flag-clause-given
returns-in_err-with_flag-clause-given t c =
    let alone = sym c.takes_no_value.ensures ∙ c.if-takes_no_value.true in
    let none = seen_as _ _ _ c.in_err-with_flag.was c.with_flag.ensures.given in
    rw (c.from_residual.ensures, c.in-Some.ensures.parts) (flag_before _ _ _ _ alone none)

pub returns-in_err-word-clause-given : goal.returns-in_err-word-clause-given
returns-in_err-word-clause-given t c =
    rw (c.from_residual-in_err-word.ensures, c.in-Some.ensures.parts, c.in_err-word.ensures.parts)
    (value_missing _ _ (sym c.takes_no_value.ensures ∙ c.if-takes_no_value.false))

pub returns-in_err-with_value-clause-given : goal.returns-in_err-with_value-clause-given
returns-in_err-with_value-clause-given t c =
    let valued = sym c.takes_no_value.ensures ∙ c.if-takes_no_value.false in
    let none = seen_as _ _ _ c.in_err-with_value.was c.with_value.ensures.given in
    rw (c.from_residual-in_err-with_value.ensures, c.in-Some.ensures.parts, c.in_ok-word.ensures.parts)
    (value_before _ _ _ _ _ valued none)
