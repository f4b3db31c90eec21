-- The rule of a ring's table: six sentences on its words and on the views of its seats.
use Rattle.std.specs.Prelude.{◌≡◌, ◌≢◌, ℕ, ◌+◌, ◌%◌, ◌<◌, ◌≤◌, Bool, true, false, List, [], ◌∷◌, length, slice_index, Some, option_to_list}
use mathlib.Core.Option.{some}
use mathlib.Core.List.{IsPrefix}
use lib.ListN.{get_elem?}
use Rattle.atomic_table.specs.Table.{State}
use Rattle.room_ring.specs.declared.view.View.{View}
use Rattle.room_ring.specs.declared.view.Role.{Role}
use Rattle.room_ring.specs.declared.view.Role.TheVariants.{Putter, Taker, Note, Spent}

-- the word of the head, and the first cell: the tail, the head and the cells stand a cache line apart, since each is
-- written by a thread while another reads its neighbours
abbrev pub head_word : ℕ
head_word = 8

abbrev pub first_cell : ℕ
first_cell = 16

-- the tail, word 0: how many tokens were put
abbrev pub tail : List ℕ → ℕ
tail words = slice_index words 0

-- the head: how many cells the taker has given back
abbrev pub head : List ℕ → ℕ
head words = slice_index words head_word

-- the number of the word in which token i stands, counted from 0
abbrev pub cell_of : ℕ → ℕ → ℕ
cell_of room i = i % room + first_cell

-- what stands where token i stands or stood
abbrev pub cell : ℕ → List ℕ → ℕ → ℕ
cell room words i = slice_index words (cell_of room i)

-- 1 for true, 0 for false
abbrev pub number : Bool → ℕ
number true = 1
number false = 0

abbrev pub is_taker : Role → Bool
is_taker Putter = false
is_taker Taker = true
is_taker Note = false
is_taker Spent = false

-- how many of these views are of a taker
abbrev pub takers : List View → ℕ
takers [] = 0
takers (v ∷ views) = number (is_taker v.role) + takers views

-- a fact of each of these views
abbrev pub Each : (View → Type 0) → List View → Type 0
Each P views = (k : ℕ) (v : View) → get_elem? views k ≡ some v → P v

-- a taker's list is as long as the head, or by one longer between the load of a cell and the store of the head
abbrev pub IsCounted : ℕ → View → Type 0
IsCounted given v = v.role ≡ Taker → length v.list ≡ given + number v.is_loaded

-- a taker has seen no more than was put, and has taken no more than it has seen
abbrev pub IsSeen : ℕ → View → Type 0
IsSeen put v = v.role ≡ Taker → (v.seen ≤ put) × (length v.list ≤ v.seen)

-- a taker knows the room
abbrev pub IsRoomy : ℕ → View → Type 0
IsRoomy room v = v.role ≡ Taker → v.room ≡ room

-- what a seat has, or has heard, begins what was put, and no more was taken than it has heard
pub record IsTrueOf (tokens : List ℕ) (given : ℕ) (v : View) : Type 0 where
  pub list : IsPrefix v.list tokens
  pub heard : IsPrefix v.heard tokens
  pub count : v.count ≤ given

-- 1. There is one putter, which is the first seat, and at most one taker. Every other view is of a note or spent.
-- While the putter wasn't split, there is no other view. The putter and the taker know the room.
pub record HasSeats (size : ℕ) (p : View) (others : List View) : Type 0 where
  pub putter : p.role ≡ Putter
  pub room : p.room ≡ size
  pub one_putter : Each (λ v. v.role ≢ Putter) others
  pub one_taker : takers others ≤ 1
  pub taker_room : Each (IsRoomy size) others
  pub alone : p.is_split ≡ false → others ≡ []

-- 2. The tail is the length of what was put. The head is the length of what was taken, or one less between the load of
-- a cell and the store of the head. While there is no taker, the head is 0.
pub record HasCounts (row : List ℕ) (p : View) (others : List View) : Type 0 where
  pub put : tail row ≡ length p.list
  pub taken : Each (IsCounted (head row)) others
  pub untaken : takers others ≡ 0 → head row ≡ 0

-- 3. The head that the putter has seen is at most the head, and the length of what was put is at most that head plus
-- the room, strictly less where a date is stored and not published.
pub record HasRoom (size : ℕ) (row : List ℕ) (p : View) : Type 0 where
  pub seen : p.seen ≤ head row
  pub room : length p.list + length (option_to_list p.stored) ≤ p.seen + size

-- 4. The tail that the taker has seen is at most the tail, and the length of what was taken is at most that tail.
abbrev pub HasTaken : List ℕ → List View → Type 0
HasTaken row others = Each (IsSeen (tail row)) others

-- 5. Token i stands in its cell, for each i from the head on and below the tail. A date that is stored stands in the
-- cell that comes next.
pub record HasCells (size : ℕ) (row : List ℕ) (p : View) : Type 0 where
  pub published : (i : ℕ) → head row ≤ i → i < tail row → cell size row i ≡ slice_index p.list i
  pub stored : (date : ℕ) → p.stored ≡ Some date → cell size row (tail row) ≡ date

-- 6. What was taken, and every list of a note or heard from one, is a prefix of what was put. Every count of a note, or
-- heard from one, is at most the head.
pub record HasTruth (row : List ℕ) (p : View) (others : List View) : Type 0 where
  pub heard : IsPrefix p.heard p.list
  pub count : p.count ≤ head row
  pub each : Each (IsTrueOf p.list (head row)) others

-- the six sentences
pub record Keeps (size : ℕ) (row : List ℕ) (p : View) (others : List View) : Type 0 where
  pub words : length row ≡ size + first_cell
  pub seats : HasSeats size p others
  pub counts : HasCounts row p others
  pub room : HasRoom size row p
  pub taken : HasTaken row others
  pub cells : HasCells size row p
  pub truth : HasTruth row p others

-- the views are those of the putter, which is the first seat, and of others, and the six sentences hold of them
abbrev pub KeepsViews : ℕ → List ℕ → List View → Type 0
KeepsViews size row [] = ⊥
KeepsViews size row (p ∷ others) = Keeps size row p others

-- the rule of the table of a ring with this room
abbrev pub KeepsRule : ℕ → State (Unit {0}) View → Type 0
KeepsRule size s = KeepsViews size s.words s.views
