-- Rows that are put one after another.
use Rattle.std.proofs.Common.{◌≡◌, ℕ, ◌+◌, ◌<◌, ◌≤◌, List, [], ◌∷◌, ◌++◌, length, get_or, Option, None, Some, IfSome, refl, sym, ap, ◌∙◌, subst, append_assoc, append-nil, arith}
use Rattle.std.proofs.lemmas.List.{length-append}
use Rattle.plant_model.specs.declared.plant.Plant.{Plant}
use Rattle.outside_io.specs.Faults.{Rose}
use Rattle.outside_io.specs.SinkView.{SinkView, PutsAll, PutsPrefix}
use Rattle.outside_io.proofs.OutgoingLemmas.{rose_after}
use Rattle.outside_io.proofs.WrittenLemmas.{puts_none, puts_all_after, puts_prefix_after}
use Rattle.line_summary.specs.Curve.{HavePoints, PutsRows, PutsPrefixOfRows, EndsEarly}
use Rattle.line_summary.specs.CurveText.{row_of, rows_from}
use Rattle.line_summary.specs.Points.{IsPoint, ArePoints}
use Rattle.line_summary.specs.declared.curve.CurveError.{CurveError}
use Rattle.line_summary.specs.declared.curve.CurveError.TheVariants.{NoMemory, Failed}
use Rattle.line_summary.specs.declared.point.Point.{Point}

-- the points of some counts, and of those that follow
points-append : (p : Plant) (c d : ℕ) (xs ys : List Point) → c + length xs ≡ d → ArePoints p c xs → ArePoints p d ys → ArePoints p c (xs ++ ys)
points-append p c d [] ys at first later = subst (λ n. ArePoints p n ys) (omega arith) later
points-append p c d (x ∷ xs) ys at first later = (first.0, points-append p (c + 1) d xs ys (omega arith) first.1 later)

-- their rows
rows_from-append : (c d : ℕ) (xs ys : List Point) → c + length xs ≡ d → rows_from c (xs ++ ys) ≡ rows_from c xs ++ rows_from d ys
rows_from-append c d [] ys at = ap (λ n. rows_from n ys) (omega arith)
rows_from-append c d (x ∷ xs) ys at =
    ap (λ l. row_of c x ++ l) (rows_from-append (c + 1) d xs ys (omega arith)) ∙ sym (append_assoc (row_of c x) (rows_from (c + 1) xs) (rows_from d ys))

-- no row was put
pub no_rows : (p : Plant) (c n : ℕ) (v : SinkView) → n ≡ 0 → PutsRows p c n v v
no_rows p c n v none = record {
  points = [];
  number = sym none;
  each = tt;
  puts = puts_none v.written;
  faults_stay_or_rise = omega arith;
}

-- and memory ran out
pub none_put : (p : Plant) (c count : ℕ) (v : SinkView) → 0 < count → EndsEarly p c count v v NoMemory
none_put p c count v some = record { done = 0; fewer = some; rows = no_rows p c 0 v refl }

-- one row was put
pub one_row : (p : Plant) (c : ℕ) (point : Point) (old new : SinkView) → IsPoint p c point → PutsAll old new (row_of c point) → old.faults ≤ new.faults → PutsRows p c 1 old new
one_row p c point old new is puts stay = record {
  points = point ∷ [];
  number = refl;
  each = (is, tt);
  puts = rw append-nil puts;
  faults_stay_or_rise = stay;
}

-- rows after rows
pub rows_after : (p : Plant) (c d n m all : ℕ) (old between new : SinkView) → c + n ≡ d → n + m ≡ all → PutsRows p c n old between → PutsRows p d m between new → PutsRows p c all old new
rows_after p c d n m all old between new at sum first later =
    let here : c + length first.points ≡ d = omega (arith, first.number) in
    record {
      points = first.points ++ later.points;
      number = omega (arith, length-append first.points later.points, first.number, later.number);
      each = points-append p c d first.points later.points here first.each later.each;
      puts = rw (rows_from-append c d first.points later.points here)
          (puts_all_after old.written between.written new.written (rows_from c first.points) (rows_from d later.points) first.puts later.puts);
      faults_stay_or_rise = omega (arith, first.faults_stay_or_rise, later.faults_stay_or_rise);
    }

-- a prefix of one row was put
pub one_cut : (p : Plant) (c : ℕ) (point : Point) (old new : SinkView) → IsPoint p c point → PutsPrefix old new (row_of c point) → Rose old.faults new.faults → PutsPrefixOfRows p c 1 old new
one_cut p c point old new is front rose = record {
  points = point ∷ [];
  few = omega arith;
  each = (is, tt);
  puts = rw append-nil front;
  cause = rose;
}

-- rows that end early, after rows
pub early_after : (p : Plant) (c d n m all : ℕ) (old between new : SinkView) (error : CurveError) → c + n ≡ d → n + m ≤ all → PutsRows p c n old between → EndsEarly p d m between new error → EndsEarly p c all old new error
early_after p c d n m all old between new NoMemory at few first early = record {
  done = n + early.done;
  fewer = omega (arith, early.fewer);
  rows = rows_after p c d n early.done (n + early.done) old between new at refl first early.rows;
}
early_after p c d n m all old between new Failed at few first early =
    let here : c + length first.points ≡ d = omega (arith, first.number) in
    let points = first.points ++ early.points in
    let most : length points ≤ all = omega (arith, length-append first.points early.points, first.number, early.few) in
    let rose = rose_after old.faults between.faults new.faults first.faults_stay_or_rise early.cause in
    record {
      points = points;
      few = most;
      each = points-append p c d first.points early.points here first.each early.each;
      puts = rw (rows_from-append c d first.points early.points here)
          (puts_prefix_after old.written between.written new.written (rows_from c first.points) (rows_from d early.points) first.puts early.puts);
      cause = rose;
    }

-- what was found of a count is its point
pub point_read : (p : Plant) (c i : ℕ) (found : List (Option Point)) (point : Point) → HavePoints p c found → i < length found → get_or found i None ≡ Some point → IsPoint p (c + i) point
point_read p c i found point have low is =
    subst (λ (q : Option Point). IfSome q (IsPoint p (c + i))) is (have i low)
