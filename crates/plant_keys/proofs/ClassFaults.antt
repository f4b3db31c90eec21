-- The faults of a value: that it doesn't pass its class, and else the numbers of a list.
use Rattle.std.proofs.Common.{◌≡◌, ℕ, Bool, true, false, not, ◌||◌, List, [], ◌∷◌, refl}
use Rattle.std.specs.Prelude.{if◌then◌else◌}
use Rattle.plant_model.specs.declared.error.PlantError.{PlantError}
use Rattle.plant_model.specs.declared.error.PlantError.TheVariants.{OutOfRange}
use Rattle.plant_model.specs.Refusals.{refuse_if}
use Rattle.toml.specs.Data.{Data}
use Rattle.plant_keys.specs.declared.keys.Kind.{Kind}
use Rattle.plant_keys.specs.declared.keys.Kind.TheVariants.{PolicyWord, StageName, MachineName, FileName, StageReference, Number, Numbers, Tables}
use Rattle.plant_keys.specs.declared.keys.Class.{Class}
use Rattle.plant_keys.specs.declared.keys.Class.TheVariants.{UnknownKeys, MissingKeys, WrongTypes, BadNames, OutOfRanges}
use Rattle.plant_keys.specs.Code.{refusal}
use Rattle.plant_keys.specs.Readers.{is_filled, elements_of}
use Rattle.plant_keys.specs.Rules.{element_out, list_out}
use Rattle.plant_keys.specs.declared.fault.Wants.{Wants}
use Rattle.plant_keys.specs.declared.fault.Wants.TheVariants.{Between, AnElement}
use Rattle.plant_keys.specs.Faults.{wanting, all_of, wants_of, wanted_range}
use Rattle.plant_keys.specs.Classes.{is_in_range, passes, number_faults, limit_faults}
use Rattle.plant_keys.specs.Walk.{value_faults}
use Rattle.plant_keys.proofs.FaultLists.{wanting-each}

-- one fault or none
one_if : (what : Wants) (test : Bool) (e : PlantError) → test ≡ false → wanting what (refuse_if (not test) e) ≡ wanting what (e ∷ [])
one_if what test e h = rw h refl

none_if : (what : Wants) (test : Bool) (e : PlantError) → test ≡ true → wanting what (refuse_if (not test) e) ≡ []
none_if what test e h = rw h refl

-- a list without an element, where it needs one
empty_list : (most : ℕ) (may_be_empty : Bool) (place : List ℕ) (vs : List Data) → (may_be_empty || is_filled vs) ≡ false → wanting (if is_filled vs then Between 0 most else AnElement) (list_out most may_be_empty place vs) ≡ wanting (if is_filled vs then Between 0 most else AnElement) (OutOfRange place ∷ [])
empty_list most true place vs h = absurd (cc h)
empty_list most false place [] h = refl
empty_list most false place (v ∷ vs) h = absurd (cc h)

-- another list
other_list : (most : ℕ) (may_be_empty : Bool) (place : List ℕ) (vs : List Data) → (may_be_empty || is_filled vs) ≡ true → wanting (if is_filled vs then Between 0 most else AnElement) (list_out most may_be_empty place vs) ≡ all_of (number_faults most place) vs
other_list most true place [] h = refl
other_list most true place (v ∷ vs) h = wanting-each (Between 0 most) (element_out most place) (v ∷ vs)
other_list most false place [] h = absurd (cc h)
other_list most false place (v ∷ vs) h = wanting-each (Between 0 most) (element_out most place) (v ∷ vs)

refused_range : (kind : Kind) (place : List ℕ) (v : Data) → is_in_range kind v ≡ false → value_faults OutOfRanges kind place v ≡ wanting (wanted_range kind v) (OutOfRange place ∷ [])
refused_range PolicyWord place v h = one_if _ _ _ h
refused_range StageName place v h = absurd (cc h)
refused_range MachineName place v h = absurd (cc h)
refused_range FileName place v h = absurd (cc h)
refused_range StageReference place v h = absurd (cc h)
refused_range (Number least most) place v h = one_if _ _ _ h
refused_range (Numbers most may_be_empty) place v h = empty_list most may_be_empty place (elements_of v) h
refused_range (Tables may_be_empty) place v h = one_if _ _ _ h

passed_range : (kind : Kind) (place : List ℕ) (v : Data) → is_in_range kind v ≡ true → value_faults OutOfRanges kind place v ≡ limit_faults OutOfRanges kind place v
passed_range PolicyWord place v h = none_if _ _ _ h
passed_range StageName place v h = refl
passed_range MachineName place v h = refl
passed_range FileName place v h = refl
passed_range StageReference place v h = refl
passed_range (Number least most) place v h = none_if _ _ _ h
passed_range (Numbers most may_be_empty) place v h = other_list most may_be_empty place (elements_of v) h
passed_range (Tables may_be_empty) place v h = none_if _ _ _ h

-- a value that doesn't pass
pub refused_value : (class : Class) (kind : Kind) (place : List ℕ) (v : Data) → passes class kind v ≡ false → value_faults class kind place v ≡ wanting (wants_of class kind v) (refusal class place ∷ [])
refused_value UnknownKeys kind place v h = absurd (cc h)
refused_value MissingKeys kind place v h = absurd (cc h)
refused_value WrongTypes kind place v h = one_if _ _ _ h
refused_value BadNames kind place v h = one_if _ _ _ h
refused_value OutOfRanges kind place v h = refused_range kind place v h

-- and one that does
pub passed_value : (class : Class) (kind : Kind) (place : List ℕ) (v : Data) → passes class kind v ≡ true → value_faults class kind place v ≡ limit_faults class kind place v
passed_value UnknownKeys kind place v h = refl
passed_value MissingKeys kind place v h = refl
passed_value WrongTypes kind place v h = none_if _ _ _ h
passed_value BadNames kind place v h = none_if _ _ _ h
passed_value OutOfRanges kind place v h = passed_range kind place v h
