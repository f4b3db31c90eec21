-- The views of a ring's seats, and what each kind of step does to the view of the seat that makes it.
use Rattle.std.specs.Prelude.{◌≡◌, ℕ, ◌+◌, ◌⊎◌, true, false, List, [], ◌∷◌, ◌++◌, length, None, Some, option_to_list}
use Rattle.room_ring.specs.declared.view.View.{View}
use Rattle.room_ring.specs.declared.view.Role.{Role}
use Rattle.room_ring.specs.declared.view.Role.TheVariants.{Putter, Taker, Note, Spent}

-- a view of this role that knows of nothing
abbrev pub blank : Role → ℕ → View
blank role room = record {
  role = role;
  list = [];
  seen = 0;
  loads = 0;
  stored = None;
  is_split = false;
  is_loaded = false;
  heard = [];
  count = 0;
  room = room;
}

-- the putter at the start: it has put nothing
abbrev pub first_putter : ℕ → View
first_putter room = blank Putter room

-- the taker at the start: it has taken nothing
abbrev pub first_taker : ℕ → View
first_taker room = blank Taker room

-- a note of these tokens, of which this many were taken
abbrev pub note : List ℕ → ℕ → View
note tokens count = record (blank Note 0) { list = tokens; count = count }

-- how many of this many tokens in its list a seat of this role took
abbrev pub took : Role → ℕ → ℕ
took Putter count = 0
took Taker count = count
took Note count = 0
took Spent count = 0

-- the note that a seat leaves: its list, and how many of it were taken
abbrev pub note_of : View → View
note_of v = note v.list (took v.role (length v.list))

-- the putter between two puts, once it was split
pub record IsPutter (v : View) : Type 0 where
  pub role : v.role ≡ Putter
  pub stored : v.stored ≡ None
  pub split : v.is_split ≡ true

-- the taker between two takes, which knows the room
pub record IsTaker (room : ℕ) (v : View) : Type 0 where
  pub role : v.role ≡ Taker
  pub free : v.is_loaded ≡ false
  pub room_is : v.room ≡ room

-- the putter and the taker may leave a note
abbrev pub MayNote : View → Type 0
MayNote v = IsPutter v ⊎ IsTaker v.room v

-- the putter and the taker may read one
abbrev pub MayHear : View → Type 0
MayHear v = (v.role ≡ Putter) ⊎ (v.role ≡ Taker)

-- a seat that was joined into another
abbrev pub spent_view : View
spent_view = blank Spent 0

-- store cell, of the putter: the date stands in its cell
abbrev pub cell_stored : ℕ → View → View
cell_stored date v = record v { stored = Some date }

-- store tail, of the putter: the stored date is put
abbrev pub tail_stored : View → View
tail_stored v = record v { list = v.list ++ option_to_list v.stored; stored = None }

-- load head, of the putter, and load tail, of the taker: this number was found
abbrev pub other_seen : ℕ → View → View
other_seen found v = record v { seen = found; loads = v.loads + 1 }

-- load cell, of the taker: this token is taken
abbrev pub cell_loaded : ℕ → View → View
cell_loaded date v = record v { list = v.list ++ date ∷ []; is_loaded = true }

-- store head, of the taker: the cell is given back
abbrev pub head_stored : View → View
head_stored v = record v { is_loaded = false }

-- split seat, of the putter, for the first time
abbrev pub split_view : View → View
split_view v = record v { is_split = true }

-- join seat: the note is known
abbrev pub joined_view : View → View → View
joined_view v w = record v { heard = w.list; count = w.count }
