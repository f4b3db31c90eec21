-- Counts, one for each stage, that are lowered one after the other, from that of the last stage back to that of the
-- first: each to the least with which P holds, the others as they stand. P says what the counts are to be enough for.
use Rattle.std.specs.Prelude.{◌≡◌, ℕ, suc, ◌-◌, ◌<◌, List, length, slice_set}

-- the counts with c at stage i, the others as they stand
abbrev pub with_count : List ℕ → ℕ → ℕ → List ℕ
with_count counts i c = slice_set counts i c

-- c is the least count of stage i with which P holds, the others as they stand
pub record IsLeastCount (P : List ℕ → Type 0) (counts : List ℕ) (i c : ℕ) : Type 0 where
  pub holds : P (with_count counts i c)
  pub none : (d : ℕ) → d < c → ¬ P (with_count counts i d)

-- the counts with that of stage i lowered to the least with which P holds, the others as they stood
pub record IsLowered (P : List ℕ → Type 0) (old : List ℕ) (i : ℕ) (new : List ℕ) : Type 0 where
  pub count : ℕ
  pub least : IsLeastCount P old i count
  pub lowered : new ≡ with_count old i count

-- the counts with those of the last n stages lowered one after the other, from the last stage back
pub data AreLastLowered (P : List ℕ → Type 0) (old : List ℕ) : ℕ → List ℕ → Type 0 where
  none : AreLastLowered P old 0 old
  more : (n : ℕ) (now new : List ℕ) → AreLastLowered P old n now → IsLowered P now (length old - suc n) new →
      AreLastLowered P old (suc n) new

-- the counts with each lowered, from that of the last stage back to that of the first
abbrev pub AreLowered : (List ℕ → Type 0) → List ℕ → List ℕ → Type 0
AreLowered P old new = AreLastLowered P old (length old) new
