-- Texts that are made of one line after another.
use Rattle.std.proofs.Common.{◌≡◌, ℕ, ◌+◌, ◌<◌, Bool, true, false, List, [], ◌∷◌, ◌++◌, length, get_or, take, drop, sym, ap, ◌∙◌, refl, ◌≤◌, map-id, arith}
use Rattle.std.specs.List.{flat_map, range_with_len}
use Rattle.std.specs.Prelude.{codes, decimal, nat_lt, if◌then◌else◌}
use Rattle.std.proofs.lemmas.Bool.{lt-ltb, le-ltb}
use Rattle.std.proofs.lemmas.List.{flat_map_more, get_or_read, take-append-le, take_all}
use Rattle.std.proofs.lemmas.List.FromFn.{map-range_with_len_more}
use Rattle.plant_model.specs.declared.plant.Plant.{Plant}
use Rattle.plant_model.specs.Stages.{Stage}
use Rattle.plant_model.specs.Line.{stage_at, no_stage}
use Rattle.event_graph.specs.Table.{Table}
use Rattle.outside_io.specs.Outgoing.{Stream, Pushed}
pub use Rattle.outside_io.proofs.OutgoingLemmas.{text_written}
use Rattle.line_stats.specs.Counts.{in_process, in_move, in_stock}
use Rattle.line_report.specs.ReportText.{line, stage_line}

-- the lines of the first few numbers are written
abbrev pub AreWritten : (ℕ → List ℕ) → ℕ → Stream → Stream → Type 0
AreWritten line count old new = Pushed old new (flat_map line (range_with_len 0 count))

-- the lines of numbers from a on, and the next line
pub lines_more : (f : ℕ → List ℕ) (a n j : ℕ) → a + n ≡ j → flat_map f (range_with_len a (n + 1)) ≡ flat_map f (range_with_len a n) ++ f j
lines_more f a n j at =
    ap (flat_map f) (sym (map-id _) ∙ map-range_with_len_more (λ k. k) a n j at ∙ ap (λ l. l ++ j ∷ []) (map-id _))
    ∙ sym (flat_map_more f [] (range_with_len a n) j)

-- as many values as were lent take their place
pub given_back : {X : Type 0} (count : ℕ) (new lent : List X) → length new ≡ count → take count (new ++ drop (length new) lent) ≡ new
given_back count new lent same =
    take-append-le count new (drop (length new) lent) (omega (arith, same)) ∙ take_all count new (omega (arith, same))

-- the element that was read at a number
pub stage_read : (p : Plant) (i : ℕ) (stages : List Stage) (s : Stage) → stages ≡ p.stages → i < length p.stages → s ≡ get_or stages i s → s ≡ stage_at p i
stage_read p i stages s same h is = get_or_read p.stages i s h (rw same at is) no_stage

-- what the line of a stage says of the parts on their way, where the way takes time
abbrev pub move_words : ℕ → ℕ → List ℕ
move_words travel moving = if nat_lt 0 travel then codes " move " ++ decimal moving else []

pub move_words-moving : (travel moving : ℕ) → 0 < travel → move_words travel moving ≡ codes " move " ++ decimal moving
move_words-moving travel moving moves = rw (lt-ltb 0 travel moves) refl

pub move_words-still : (travel moving : ℕ) → travel ≤ 0 → move_words travel moving ≡ []
move_words-still travel moving still = rw (le-ltb 0 travel still) refl

-- the line by its parts, whether the way takes time or not
line-parts : (moves : Bool) (at name process move stock : List ℕ) → (if moves then line (codes "at" ∷ at ∷ name ∷ codes "process" ∷ process ∷ codes "move" ∷ move ∷ codes "stock" ∷ stock ∷ []) else line (codes "at" ∷ at ∷ name ∷ codes "process" ∷ process ∷ codes "stock" ∷ stock ∷ [])) ≡ codes "at " ++ (at ++ (codes " " ++ (name ++ (codes " process " ++ (process ++ ((if moves then codes " move " ++ move else []) ++ (codes " stock " ++ (stock ++ codes "\n"))))))))
line-parts true at name process move stock = refl
line-parts false at name process move stock = refl

-- the line of a stage
pub stage_line-parts : (p : Plant) (x : Table) (v i : ℕ) (s : Stage) → s ≡ stage_at p i → stage_line p x v i ≡ codes "at " ++ (decimal v ++ (codes " " ++ (s.name ++ (codes " process " ++ (decimal (in_process p x i v) ++ (move_words s.travel (in_move p x i v) ++ (codes " stock " ++ (decimal (in_stock p x i v) ++ codes "\n"))))))))
unfolding stage_line
stage_line-parts p x v i s is =
    rw (← is) (line-parts (nat_lt 0 s.travel) (decimal v) s.name (decimal (in_process p x i v)) (decimal (in_move p x i v)) (decimal (in_stock p x i v)))
