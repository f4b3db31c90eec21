-- Bytes that are given to a sink and the buffer before it, one part after another.
use Rattle.std.proofs.Common.{◌≡◌, ◌+◌, ◌<◌, ◌≤◌, ℕ, List, [], ◌∷◌, ◌++◌, length, take, get_or, Bool, true, false, Result, Ok, Err, OnOk, OnErr, is_err, refl, sym, ap, ◌∙◌, append_assoc, append-nil, map-id, arith}
use Rattle.std.specs.List.{flat_map, range_with_len}
use Rattle.std.proofs.lemmas.Bool.{false≢true}
use Rattle.std.proofs.lemmas.List.{take_more}
use Rattle.std.proofs.lemmas.List.Concat.{flat_map-append}
use Rattle.std.proofs.lemmas.List.FromFn.{map-range_with_len_more}
use Rattle.outside_io.specs.SinkView.{SinkView, PutsAll, PutsPrefix, WritesText}
use Rattle.outside_io.specs.Faults.{Rose}
use Rattle.outside_io.specs.Outgoing.{Pending, Stream, Pushed, stream, nothing_waiting}
use Rattle.outside_io.proofs.WrittenLemmas.{puts_none, puts_all_after}

-- a count that rose stays risen
pub rose_then : (a b c : ℕ) → Rose a b → b ≤ c → Rose a c
rose_then a b c rose later = omega arith

-- a count that didn't fall before it rose
pub rose_after : (a b c : ℕ) → a ≤ b → Rose b c → Rose a c
rose_after a b c earlier rose = omega arith

-- a part after a part, where the sink had not failed between them
pushed_after_well : {a b c : Stream} {xs ys : List ℕ} → Pushed a b xs → Pushed b c ys → b.failed ≡ false → Pushed a c (xs ++ ys)
pushed_after_well {a} {b} {c} {xs} {ys} p q well = record {
  sent = p.sent ++ q.sent;
  rest = q.rest;
  split = λ ok.
      let first : a.pending ++ xs ≡ p.sent ++ b.pending = p.split ok ∙ ap (λ r. p.sent ++ r) (sym (p.waits well)) in
      sym (append_assoc a.pending xs ys) ∙ ap (λ l. l ++ ys) first ∙ append_assoc p.sent b.pending ys ∙ ap (λ l. p.sent ++ l) (q.split well) ∙ sym (append_assoc p.sent q.sent q.rest);
  puts = puts_all_after a.sink.written b.sink.written c.sink.written p.sent q.sent p.puts q.puts;
  waits = q.waits;
  cause = λ ok bad. rose_after a.sink.faults b.sink.faults c.sink.faults p.faults_stay_or_rise (q.cause well bad);
  latched = λ bad. absurd (false≢true (sym well ∙ (p.latched bad).0));
  faults_stay_or_rise = omega arith;
}

-- and where it had
pushed_after_fault : {a b c : Stream} {xs ys : List ℕ} → Pushed a b xs → Pushed b c ys → b.failed ≡ true → Pushed a c (xs ++ ys)
pushed_after_fault {a} {b} {c} {xs} {ys} p q bad =
    let none : q.sent ≡ [] = (q.latched bad).1 in
    let same : p.sent ++ q.sent ≡ p.sent = ap (λ l. p.sent ++ l) none ∙ append-nil p.sent in
    record {
      sent = p.sent ++ q.sent;
      rest = p.rest ++ ys;
      split = λ ok. rw same (sym (append_assoc a.pending xs ys) ∙ ap (λ l. l ++ ys) (p.split ok) ∙ append_assoc p.sent p.rest ys);
      puts = puts_all_after a.sink.written b.sink.written c.sink.written p.sent q.sent p.puts q.puts;
      waits = λ ok. absurd (false≢true (sym ok ∙ (q.latched bad).0));
      cause = λ ok _. rose_then a.sink.faults b.sink.faults c.sink.faults (p.cause ok bad) q.faults_stay_or_rise;
      latched = λ before. ((q.latched bad).0, same ∙ (p.latched before).1);
      faults_stay_or_rise = omega arith;
    }

-- one part after another
pub pushed_after : {a b c : Stream} {xs ys : List ℕ} → Pushed a b xs → Pushed b c ys → Pushed a c (xs ++ ys)
pushed_after {a} {b} {c} {xs} {ys} p q =
    let by_case : (v : Bool) → b.failed ≡ v → Pushed a c (xs ++ ys) = λ v. elim v as (λ w. b.failed ≡ w → Pushed a c (xs ++ ys)) [ true ↦ pushed_after_fault p q | false ↦ pushed_after_well p q ] in
    by_case b.failed refl

infixr 10 ◌⨟◌
-- parts one after another, as they are given
pub ◌⨟◌ : {a b c : Stream} {xs ys : List ℕ} → Pushed a b xs → Pushed b c ys → Pushed a c (xs ++ ys)
p ⨟ q = pushed_after p q

-- nothing was given, and nothing happened
pub pushed_none : (a : Stream) → Pushed a a []
pushed_none a = record {
  sent = [];
  rest = a.pending;
  split = λ _. append-nil a.pending;
  puts = puts_none a.sink.written;
  waits = λ _. refl;
  cause = λ ok bad. absurd (false≢true (sym ok ∙ bad));
  latched = λ bad. (bad, refl);
  faults_stay_or_rise = omega arith;
}

-- a stream that has failed drops what waits
pub pushed_dropped : (sink : SinkView) (pending later : List ℕ) → Pushed (record { sink = sink; pending = pending; failed = true }) (record { sink = sink; pending = later; failed = true }) []
pushed_dropped sink pending later = record {
  sent = [];
  rest = [];
  split = λ ok. absurd (false≢true (sym ok));
  puts = puts_none sink.written;
  waits = λ ok. absurd (false≢true (sym ok));
  cause = λ ok _. absurd (false≢true (sym ok));
  latched = λ _. (refl, refl);
  faults_stay_or_rise = omega arith;
}

-- a prefix of what waits is sent, and the sink answers
pub pushed_sent : {T E : Type 0} (old new : SinkView) (pending prefix rest : List ℕ) (r : Result T E) → pending ≡ prefix ++ rest → OnOk r (PutsAll old new prefix) → OnErr r (PutsPrefix old new prefix) → OnErr r (Rose old.faults new.faults) → old.faults ≤ new.faults → Pushed (record { sink = old; pending = pending; failed = false }) (record { sink = new; pending = rest; failed = is_err r }) []
pushed_sent old new pending prefix rest (Ok x) split all some cause later = record {
  sent = prefix;
  rest = rest;
  split = λ _. append-nil pending ∙ split;
  puts = all;
  waits = λ _. refl;
  cause = λ _ bad. absurd (false≢true bad);
  latched = λ bad. absurd (false≢true bad);
  faults_stay_or_rise = later;
}
pushed_sent old new pending prefix rest (Err e) split all some cause later = record {
  sent = some.0;
  rest = some.1 ++ rest;
  split = λ _. append-nil pending ∙ split ∙ ap (λ l. l ++ rest) some.2 ∙ append_assoc some.0 some.1 rest;
  puts = some.3;
  waits = λ ok. absurd (false≢true (sym ok));
  cause = λ _ _. cause;
  latched = λ bad. absurd (false≢true bad);
  faults_stay_or_rise = later;
}

-- a part is held, and the sink has no part in it
pub pushed_held : (sink : SinkView) (pending part : List ℕ) (failed : Bool) → Pushed (record { sink = sink; pending = pending; failed = failed }) (record { sink = sink; pending = pending ++ part; failed = failed }) part
pushed_held sink pending part failed = record {
  sent = [];
  rest = pending ++ part;
  split = λ _. refl;
  puts = puts_none sink.written;
  waits = λ _. refl;
  cause = λ ok bad. absurd (false≢true (sym ok ∙ bad));
  latched = λ bad. (bad, refl);
  faults_stay_or_rise = omega arith;
}

-- what waits is sent after a text
pub pushed_then_none : {a b c : Stream} {text : List ℕ} → Pushed a b text → Pushed b c [] → Pushed a c text
pushed_then_none {text = text} p q = rw append-nil at (pushed_after p q)

-- From here on a stream began with nothing waiting and no fault, took a text, and ended by `finish`, which
-- answered r. At `Ok` the whole text was written
pub put_on_ok : {T E : Type 0} {a b : Stream} {text : List ℕ} (new : SinkView) (r : Result T E) → a.pending ≡ [] → a.failed ≡ false → Pushed a b text → Pushed b (record { sink = new; pending = []; failed = is_err r }) [] → OnOk r (PutsAll a.sink new text)
put_on_ok {text = text} new (Ok x) none well p q =
    let end = pushed_then_none p q in
    let split : text ≡ end.sent ++ end.rest = ap (λ l. l ++ text) (sym none) ∙ end.split well in
    let whole : text ≡ end.sent = split ∙ ap (λ l. end.sent ++ l) (sym (end.waits refl)) ∙ append-nil end.sent in
    rw whole end.puts
put_on_ok new (Err e) none well p q = tt

-- at `Err` a prefix of it
pub prefix_on_err : {T E : Type 0} {a b : Stream} {text : List ℕ} (new : SinkView) (r : Result T E) → a.pending ≡ [] → a.failed ≡ false → Pushed a b text → Pushed b (record { sink = new; pending = []; failed = is_err r }) [] → OnErr r (PutsPrefix a.sink new text)
prefix_on_err new (Ok x) none well p q = tt
prefix_on_err {text = text} new (Err e) none well p q =
    let end = pushed_then_none p q in
    let split : text ≡ end.sent ++ end.rest = ap (λ l. l ++ text) (sym none) ∙ end.split well in
    (end.sent, end.rest, split, end.puts)

-- and the sink's count of faults rose
pub cause_on_err : {T E : Type 0} {a b : Stream} {text : List ℕ} (new : SinkView) (r : Result T E) → a.failed ≡ false → Pushed a b text → Pushed b (record { sink = new; pending = []; failed = is_err r }) [] → OnErr r (Rose a.sink.faults new.faults)
cause_on_err new (Ok x) well p q = tt
cause_on_err new (Err e) well p q = (pushed_then_none p q).cause well refl

-- so the text is written, or a prefix of it
pub writes_text : {T E : Type 0} {a b : Stream} {text : List ℕ} (new : SinkView) (r : Result T E) → a.pending ≡ [] → a.failed ≡ false → Pushed a b text → Pushed b (record { sink = new; pending = []; failed = is_err r }) [] → WritesText a.sink new text r
writes_text new r none well p q = record {
  written = put_on_ok new r none well p q;
  prefix = prefix_on_err new r none well p q;
  cause = cause_on_err new r well p q;
  faults_stay_or_rise = (pushed_then_none p q).faults_stay_or_rise;
}

-- a part is held, and then pieces that are full are sent
pub pushed_part : {c : Stream} (sink : SinkView) (pending part held : List ℕ) (failed : Bool) → held ≡ pending ++ part → Pushed (record { sink = sink; pending = held; failed = failed }) c [] → Pushed (record { sink = sink; pending = pending; failed = failed }) c part
pushed_part {c} sink pending part held failed is sent =
    let between : Stream = record { sink = sink; pending = held; failed = failed } in
    let holds : Pushed (record { sink = sink; pending = pending; failed = failed }) between part =
    rw is (pushed_held sink pending part failed)
    in
    pushed_then_none {b = between} holds sent

-- the part of each number from a on up to j, and that of j
parts_more : (f : ℕ → List ℕ) (a n j : ℕ) → a + n ≡ j → flat_map f (range_with_len a (n + 1)) ≡ flat_map f (range_with_len a n) ++ f j
parts_more f a n j at =
    ap (flat_map f) (sym (map-id _) ∙ map-range_with_len_more (λ k. k) a n j at ∙ ap (λ l. l ++ j ∷ []) (map-id _))
    ∙ flat_map-append f (range_with_len a n) (j ∷ [])
    ∙ ap (λ l. flat_map f (range_with_len a n) ++ l) (append-nil (f j))

pub pushed_next : {a b c : Stream} (f : ℕ → List ℕ) (from n j : ℕ) → from + n ≡ j → Pushed a b (flat_map f (range_with_len from n)) → Pushed b c (f j) → Pushed a c (flat_map f (range_with_len from (n + 1)))
pushed_next f from n j at before now = rw (parts_more f from n j at) (before ⨟ now)

-- the part of each of a list's first elements, and that of the next one
pub pushed_element : {X : Type 0} {a b c : Stream} (f : X → List ℕ) (xs : List X) (i : ℕ) (d : X) → i < length xs → Pushed a b (flat_map f (take i xs)) → Pushed b c (f (get_or xs i d)) → Pushed a c (flat_map f (take (i + 1) xs))
pushed_element f xs i d below before now =
    let x = get_or xs i d in
    let more : flat_map f (take (i + 1) xs) ≡ flat_map f (take i xs) ++ f x =
    ap (flat_map f) (take_more xs i d below) ∙ flat_map-append f (take i xs) (x ∷ []) ∙ ap (λ l. flat_map f (take i xs) ++ l) (append-nil (f x)) in
    rw more (before ⨟ now)

-- a text is written, where nothing waited before it and all that waits is sent after it
pub text_written : {T E : Type 0} {out : Pending} {old : SinkView} {b : Stream} {text : List ℕ} (new : SinkView) (r : Result T E) → out ≡ nothing_waiting false → Pushed (stream old out) b text → Pushed b (stream new (nothing_waiting (is_err r))) [] → WritesText old new text r
text_written new r empty pushed sent =
    writes_text new r (ap (λ (o : Pending). o.bytes) empty) (ap (λ (o : Pending). o.failed) empty) pushed sent
