-- What the numbers of a line know of its plant: how many stages and stations there are, and each number in its list.
use Rattle.std.proofs.Common.{◌≡◌, ℕ, ◌+◌, ◌*◌, ◌<◌, ◌≤◌, List, [], ◌∷◌, ◌++◌, length, get_or, map, sym, ap, ◌∙◌, arith}
use Rattle.std.specs.Prelude.{Vec, vec_len}
use Rattle.std.specs.Global.{Global}
use Rattle.std.specs.List.{range_with_len}
use Rattle.std.proofs.lemmas.List.{get_or_default}
use Rattle.std.proofs.lemmas.List.FromFn.{length-map-range_with_len, get_or-map-range_with_len, map-range_with_len_more}
use Rattle.plant_model.specs.Stages.{Stage}
use Rattle.plant_model.specs.declared.plant.Plant.{Plant}
use Rattle.plant_model.specs.Line.{no_stage, stage_at, release, last_machine, deliver}
use Rattle.plant_model.specs.ArcNumbers.{entry_arc, delivery_arc}
use Rattle.plant_model.specs.Layout.{releases, entries}
use Rattle.plant_model.specs.Sound.{IsSound}
use Rattle.plant_model.proofs.SoundPlants.{HasSoundSizes-sound}
use Rattle.plant_model.proofs.LayoutStations.{release-next, last_machine-below}
use Rattle.plant_model.proofs.LayoutArcs.{arcs_in-le, entry_arc-next, entry_arc-le}

pub few_stages : (p : Plant) → IsSound p → (1 ≤ length p.stages) × (length p.stages ≤ 64)
few_stages p sound = let sizes = HasSoundSizes-sound p sound in (sizes.some_stage, sizes.few_stages)

pub few_stations : (p : Plant) → IsSound p → deliver p + 1 ≤ 512
few_stations p sound = (HasSoundSizes-sound p sound).few_stations

-- the last machine of a stage has a number below 511
pub small_last_machine : (p : Plant) (i : ℕ) → IsSound p → i < length p.stages → last_machine p i < 511
small_last_machine p i sound below = omega (arith, few_stations p sound, last_machine-below p i below)

-- every number of a stage's arcs is small
pub small_arcs : (p : Plant) → IsSound p → delivery_arc p ≤ 1536
small_arcs p sound = omega (arith, arcs_in-le p.stages, few_stations p sound)

pub small_entry : (p : Plant) (i : ℕ) → IsSound p → i < length p.stages → entry_arc p i + 1 + 3 * length (stage_at p i).machines ≤ 1536
small_entry p i sound below = omega (arith, entry_arc-next p i below, entry_arc-le p (i + 1), small_arcs p sound)

-- a number for each stage, and one for what follows the last
abbrev pub numbered : (Plant → ℕ → ℕ) → Plant → List ℕ
numbered f p = map (f p) (range_with_len 0 (length p.stages + 1))

-- such a list has one number more than there are stages
pub length-numbered : (f : Plant → ℕ → ℕ) (p q : Plant) (list : List ℕ) → q ≡ p → list ≡ numbered f q → length list ≡ length p.stages + 1
length-numbered f p q list same is =
    ap length (is ∙ ap (numbered f) same) ∙ length-map-range_with_len (f p) 0 (length p.stages + 1)

pub numbered-inside : (f : Plant → ℕ → ℕ) (p q : Plant) (list : Vec ℕ Global) (i : ℕ) → q ≡ p → list.items ≡ numbered f q → i ≤ length p.stages → i < vec_len list
numbered-inside f p q list i same is below = omega (arith, list.ok.0, length-numbered f p q list.items same is)

-- what it has at i is the number of stage i, or of what follows the last
pub numbered-read : (f : Plant → ℕ → ℕ) (p q : Plant) (list : List ℕ) (i x : ℕ) → q ≡ p → list ≡ numbered f q → i ≤ length p.stages → x ≡ get_or list i x → x ≡ f p i
numbered-read f p q list i x same is below read =
    read ∙ rw (is ∙ ap (numbered f) same) (get_or-map-range_with_len (f p) 0 (length p.stages + 1) i i x (omega arith) (omega arith))

-- the lists that are made stage by stage, after i stages, with the next number of each
pub record NumberedTo (p : Plant) (i station arc : ℕ) (stations arcs : List ℕ) : Type 0 where
  pub station_is : station ≡ release p i
  pub arc_is : arc ≡ entry_arc p i
  pub stations_are : stations ≡ map (release p) (range_with_len 0 i)
  pub arcs_are : arcs ≡ map (entry_arc p) (range_with_len 0 i)

-- a list with one number more
more : (f : ℕ → ℕ) (list : List ℕ) (i x : ℕ) → list ≡ map f (range_with_len 0 i) → x ≡ f i → list ++ x ∷ [] ≡ map f (range_with_len 0 (i + 1))
more f list i x is at = rw (is, at) (sym (map-range_with_len_more f 0 i i (omega arith)))

-- the next numbers, which are small
pub NumberedTo-next : (p : Plant) (i station arc machines : ℕ) (stations arcs : List ℕ) (d s : Stage) → IsSound p → NumberedTo p i station arc stations arcs → i < length p.stages → s ≡ get_or p.stages i d → machines ≡ length s.machines → (station + (1 + machines) ≡ release p (i + 1)) × (station + (1 + machines) < 512) × (arc + (1 + 3 * machines) ≡ entry_arc p (i + 1)) × (arc + (1 + 3 * machines) ≤ 1536)
NumberedTo-next p i station arc machines stations arcs d s sound so_far below is count =
    let same = ap (λ (t : Stage). length t.machines) (is ∙ get_or_default p.stages i d no_stage below) in
    let next = release-next p i below in
    let small = small_last_machine p i sound below in
    let next_arc = entry_arc-next p i below in
    let small_2 = small_entry p i sound below in
    (omega arith, omega arith, omega arith, omega arith)

-- one stage more
pub NumberedTo-more : (p : Plant) (i station arc station_2 arc_2 : ℕ) (stations arcs stations_2 arcs_2 : List ℕ) → NumberedTo p i station arc stations arcs → station_2 ≡ release p (i + 1) → arc_2 ≡ entry_arc p (i + 1) → stations_2 ≡ stations ++ station ∷ [] → arcs_2 ≡ arcs ++ arc ∷ [] → NumberedTo p (i + 1) station_2 arc_2 stations_2 arcs_2
NumberedTo-more p i station arc station_2 arc_2 stations arcs stations_2 arcs_2 so_far station_is arc_is pushed pushed_2 =
    record {
      station_is = station_is;
      arc_is = arc_is;
      stations_are = pushed ∙ more (release p) stations i station so_far.stations_are so_far.station_is;
      arcs_are = pushed_2 ∙ more (entry_arc p) arcs i arc so_far.arcs_are so_far.arc_is;
    }

-- after all stages, with the last number of each list
pub NumberedTo-all : (p : Plant) (i station arc : ℕ) (stations arcs stations_2 arcs_2 : List ℕ) → NumberedTo p i station arc stations arcs → i ≡ length p.stages → stations_2 ≡ stations ++ station ∷ [] → arcs_2 ≡ arcs ++ arc ∷ [] → (stations_2 ≡ releases p) × (arcs_2 ≡ entries p)
NumberedTo-all p i station arc stations arcs stations_2 arcs_2 so_far all pushed pushed_2 = (
  pushed ∙ more (release p) stations i station so_far.stations_are so_far.station_is ∙ ap (λ n. map (release p) (range_with_len 0 (n + 1))) all,
  pushed_2 ∙ more (entry_arc p) arcs i arc so_far.arcs_are so_far.arc_is ∙ ap (λ n. map (entry_arc p) (range_with_len 0 (n + 1))) all,
)
