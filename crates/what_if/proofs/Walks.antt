-- What walks over the arcs of a station give.
use Rattle.std.proofs.Common.{◌≡◌, ℕ, ◌+◌, ◌<◌, ◌≤◌, List, length, get_or, drop, refl, sym, ap, ◌∙◌, drop-cons, add-one}
use Rattle.std.specs.List.{fold}
use Rattle.std.proofs.lemmas.List.{drop_all}
use Rattle.event_graph.specs.Table.{date_in}
use Rattle.event_graph.specs.Term.{term}
use Rattle.what_if.specs.Page.{Page, graph_of}

pub fold-next : {A B : Type 0} (f : B → A → B) (b : B) (xs : List A) (i : ℕ) (d : A) → i < length xs → fold f (f b (get_or xs i d)) (drop (i + 1) xs) ≡ fold f b (drop i xs)
fold-next f b xs i d low =
    ap (λ n. fold f (f b (get_or xs i d)) (drop n xs)) (add-one i) ∙ sym (ap (fold f b) (drop-cons xs i d low))

pub fold-past : {A B : Type 0} (f : B → A → B) (b : B) (xs : List A) (i : ℕ) → length xs ≤ i → fold f b (drop i xs) ≡ b
fold-past f b xs i past = ap (fold f b) (drop_all i xs past)

-- what arc a asks of job n over the present dates
unfoldable pub asks : Page → ℕ → ℕ → ℕ
asks p n a = term (graph_of p) (date_in p.dates) a n

pub asks-is : (p : Page) (n a : ℕ) → asks p n a ≡ term (graph_of p) (date_in p.dates) a n
unfolding asks
asks-is p n a = refl
