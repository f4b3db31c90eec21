-- Texts of lines that are filled with lists of dates.
use Rattle.std.proofs.Common.{◌≡◌, ℕ, suc, List, [], ◌∷◌, ◌++◌, length, map, sym, ap, ◌∙◌, refl, append_assoc, append-nil, arith}
use Rattle.std.specs.Prelude.{codes}
use Rattle.std.specs.List.{range_with_len}
use Rattle.std.proofs.lemmas.List.FromFn.{length-range_with_len}
use Rattle.line_base.specs.declared.event.Parts.{Parts}
use Rattle.event_graph.specs.Network.{stations, arc_count}
use Rattle.checkpoint.specs.declared.format.Format.{Format}
use Rattle.checkpoint.specs.declared.format.Format.TheVariants.{Dates, Differences}
use Rattle.checkpoint.specs.Reading.{dated_line_count}
use Rattle.checkpoint.specs.Text.{dates_text, Line, Fixed, Dated, lines_text, lines, head_lines, delays_line, station_words, place_words, station_lines, place_lines}

-- lines that are filled one after the other
pub filled-append : (format : Format) (xs ys : List Line) (ls ms : List (List ℕ)) → dated_line_count xs ≡ length ls → lines_text format (xs ++ ys) (ls ++ ms) ≡ lines_text format xs ls ++ lines_text format ys ms
unfolding lines_text
filled-append format [] ys [] ms same = refl
filled-append format [] ys (l ∷ ls) ms same = cc
filled-append format (Fixed text ∷ xs) ys ls ms same =
    ap (λ r. text ++ r) (filled-append format xs ys ls ms same) ∙ sym (append_assoc text (lines_text format xs ls) (lines_text format ys ms))
filled-append format (Dated words ∷ xs) ys [] ms same = cc
filled-append format (Dated words ∷ xs) ys (l ∷ ls) ms same =
    ap (λ r. words ++ (dates_text format l ++ r)) (filled-append format xs ys ls ms (omega (arith, same)))
    ∙ ap (λ r. words ++ r) (sym (append_assoc (dates_text format l) (lines_text format xs ls) (lines_text format ys ms)))
    ∙ sym (append_assoc words (dates_text format l ++ lines_text format xs ls) (lines_text format ys ms))

dated-map : (f : ℕ → List ℕ) (xs : List ℕ) → dated_line_count (map (λ k. Dated (f k)) xs) ≡ length xs
dated-map f [] = refl
dated-map f (x ∷ xs) = ap suc (dated-map f xs)

pub dated-station_lines : (g : Parts) → dated_line_count (station_lines g) ≡ stations g
unfolding station_lines
dated-station_lines g = dated-map (station_words g) (range_with_len 0 (stations g)) ∙ length-range_with_len 0 (stations g)

pub dated-place_lines : (g : Parts) → dated_line_count (place_lines g) ≡ arc_count g
unfolding place_lines
dated-place_lines g = dated-map place_words (range_with_len 0 (arc_count g)) ∙ length-range_with_len 0 (arc_count g)

-- the text of a whole file, part by part
pub filled-lines : (format : Format) (g : Parts) (logs places : List (List ℕ)) → length logs ≡ stations g → length places ≡ arc_count g → lines_text format (lines format g) (logs ++ places) ≡ lines_text format (head_lines format g) [] ++ (lines_text format (station_lines g) logs ++ (lines_text format (place_lines g) places ++ codes "end\n"))
unfolding lines lines_text
filled-lines format g logs places a_log a_place =
    filled-append format (head_lines format g) _ [] (logs ++ places) (no_dates format)
    ∙ ap (λ l. lines_text format (head_lines format g) [] ++ l)
    (filled-append format (station_lines g) _ logs places (dated-station_lines g ∙ sym a_log)
    ∙ ap (λ l. lines_text format (station_lines g) logs ++ l)
    (ap (lines_text format (place_lines g ++ Fixed (codes "end\n") ∷ [])) (sym (append-nil places))
    ∙ filled-append format (place_lines g) (Fixed (codes "end\n") ∷ []) places [] (dated-place_lines g ∙ sym a_place)
    ∙ ap (λ l. lines_text format (place_lines g) places ++ l) (append-nil (codes "end\n"))))
  where
    no_dates : (f : Format) → dated_line_count (head_lines f g) ≡ 0
    no_dates Dates = refl
    no_dates Differences = refl

-- the parts of a written text
pub text_written : (g : Parts) (logs places : List (List ℕ)) (head stations_ whole : List ℕ) → length logs ≡ stations g → length places ≡ arc_count g → head ≡ lines_text Differences (head_lines Differences g) [] → stations_ ≡ head ++ lines_text Differences (station_lines g) logs → whole ≡ stations_ ++ (lines_text Differences (place_lines g) places ++ codes "end\n") → whole ≡ lines_text Differences (lines Differences g) (logs ++ places)
text_written g logs places head stations_ whole a_log a_place is_head is_stations is_whole =
    let head_text = lines_text Differences (head_lines Differences g) [] in
    let station_text = lines_text Differences (station_lines g) logs in
    let rest = lines_text Differences (place_lines g) places ++ codes "end\n" in
    is_whole
    ∙ ap (λ l. l ++ rest) (is_stations ∙ ap (λ l. l ++ station_text) is_head)
    ∙ append_assoc head_text station_text rest
    ∙ sym (filled-lines Differences g logs places a_log a_place)

-- the first lines, written
pub head_written : (g : Parts) (start titled delays : List ℕ) → titled ≡ start ++ codes "pull-checkpoint 2\n" → delays ≡ titled ++ delays_line g → delays ≡ start ++ lines_text Differences (head_lines Differences g) []
unfolding lines_text
head_written g start titled delays title is =
    is
    ∙ ap (λ l. l ++ delays_line g) title
    ∙ append_assoc start (codes "pull-checkpoint 2\n") (delays_line g)
    ∙ ap (λ l. start ++ (codes "pull-checkpoint 2\n" ++ l)) (sym (append-nil (delays_line g)))

-- the lines of the arcs, and the end
pub rest_written : (start lines_ tail : List ℕ) → lines_ ≡ start ++ tail → lines_ ++ codes "end\n" ≡ start ++ (tail ++ codes "end\n")
rest_written start lines_ tail is = ap (λ l. l ++ codes "end\n") is ∙ append_assoc start tail (codes "end\n")
