-- The definitions at small files, against lines that were written by hand.
use Rattle.std.specs.Prelude.{◌≡◌, ℕ, pos, List, [], ◌++◌, codes, refl}
use Rattle.std.specs.Fmt.{digits}
use Rattle.toml.specs.Data.{Data, string, integer, array, table, no_items, item, no_members, member}
use Rattle.plant_lint.specs.FileLints.{lint_of_tree}
use Rattle.plant_lint.specs.declared.lint.Lint.TheVariants.{Refused, Sound}
use Rattle.plant_lint.specs.Headers.{has_line, no_toml_line}
use Rattle.plant_lint.specs.Positions.{position_line}
use Rattle.plant_lint.specs.Paths.{row_of}
use Rattle.plant_lint.specs.Texts.{fault_lines}
use Rattle.plant_keys.specs.Walk.{walk_faults, tree_faults}
use Rattle.plant_lint.specs.Unused.{unused_lines}

-- a machine with its time at this key
abbrev machine : List ℕ → List ℕ → ℕ → Data
machine name key time = table (member (codes "name") (string name) (member key (integer (pos time)) no_members))

-- `cut` with `saw` feeds `weld` with `torch`: the cards of `cut`, and the key at which the time of `torch` stands
abbrev plant_a : List ℕ → ℕ → List ℕ → Data
plant_a policy cards key =
    table
    (member (codes "demands") (array (item (integer (pos 0)) (item (integer (pos 2)) no_items)))
    (member (codes "policy") (string policy)
    (member (codes "stage")
    (array
    (item
    (table
    (member (codes "cards") (integer (pos cards))
    (member (codes "feeds") (string (codes "weld"))
    (member (codes "machine") (array (item (machine (codes "saw") (codes "time") 3) no_items))
    (member (codes "name") (string (codes "cut")) no_members)))))
    (item
    (table
    (member (codes "cards") (integer (pos 1))
    (member (codes "machine") (array (item (machine (codes "torch") key 5) no_items))
    (member (codes "name") (string (codes "weld")) no_members))))
    no_items)))
    no_members)))

-- nothing is wrong, and each key is used
sound_file : lint_of_tree (plant_a (codes "kanban") 1 (codes "time")) ≡ Sound []
unfolding tree_faults walk_faults unused_lines digits
sound_file = refl

-- three faults, class by class
three_faults :
    lint_of_tree (plant_a (codes "kanban") 99999 (codes "tim"))
    ≡ Refused
    (codes "plant: unknown key: stage[2].machine[1].tim (weld.torch)\n"
    ++ (codes "plant: missing: stage[2].machine[1].time (weld.torch)\n"
    ++ codes "plant: out of range: stage[1].cards (cut) wants 0 to 10000\n"))
unfolding tree_faults walk_faults row_of fault_lines digits
three_faults = refl

-- under base stock no stage has cards of its own
unused_cards :
    lint_of_tree (plant_a (codes "base-stock") 1 (codes "time"))
    ≡ Sound (codes "note: stage[1].cards is not used\nnote: stage[2].cards is not used\n")
unfolding tree_faults walk_faults unused_lines digits
unused_cards = refl

-- an error at the tenth character of the first line, and at the second of the next
first_line : position_line (codes "policy = ") ≡ codes "line 1 column 10: not toml"
unfolding digits
first_line = refl

next_line : position_line (codes "a = 1\nb") ≡ codes "line 2 column 2: not toml"
unfolding digits
next_line = refl

-- the head of a table that stands twice, and one that doesn't
twice :
    no_toml_line (codes "[stage]\na = 1\n") (codes "[stage]\na = 2\n")
    ≡ codes "line 3 column 1: not toml is 'stage' a list? write [[stage]]\n"
unfolding digits has_line
twice = refl

once : no_toml_line (codes "[[stage]]\n") (codes "[stage]\n") ≡ codes "line 2 column 1: not toml\n"
unfolding digits has_line
once = refl
