-- What is left of texts and numbers, written one after another.
use Rattle.std.proofs.Common.{◌≡◌, ℕ, suc, ◌+◌, ◌<◌, ◌≤◌, List, [], length, get_or, drop, drop-cons, drop_of_length-le, Bor, arith}
use Rattle.outside_io.specs.Outgoing.{Stream, Pushed}
use Rattle.outside_io.proofs.OutgoingLemmas.{◌⨟◌}
use Rattle.line_chart.specs.ChartText.{with_number}
use Rattle.line_chart.specs.Interleaved.{interleave}

-- a text and a number, and what is left behind them
pub pushed_interleaved : {a b c : Stream} (texts : List (Bor (List ℕ))) (numbers : List ℕ) (i : ℕ) (d : Bor (List ℕ)) → length texts ≡ length numbers + 1 → i < length numbers → Pushed a b (with_number (get_or texts i d).now (get_or numbers i 0)) → Pushed b c (interleave (drop (i + 1) texts) (drop (i + 1) numbers)) → Pushed a c (interleave (drop i texts) (drop i numbers))
pushed_interleaved texts numbers i d long below now later =
    let in_texts : i < length texts = omega arith in
    let e : i + 1 ≡ suc i = omega arith in
    let after = rw e at later in
    rw (drop-cons texts i d in_texts, drop-cons numbers i 0 below) (now ⨟ after)

-- the last text
pub pushed_last_text : {a b : Stream} (texts : List (Bor (List ℕ))) (numbers : List ℕ) (i : ℕ) (d : Bor (List ℕ)) → length texts ≡ length numbers + 1 → length numbers ≤ i → i ≤ length numbers → Pushed a b (get_or texts (length numbers) d).now → Pushed a b (interleave (drop i texts) (drop i numbers))
pushed_last_text texts numbers i d long low high now =
    let e : i ≡ length numbers = omega arith in
    let in_texts : length numbers < length texts = omega arith in
    let none : drop (length numbers) numbers ≡ [] = drop_of_length-le numbers (omega arith) in
    rw (e, drop-cons texts (length numbers) d in_texts, none) now
