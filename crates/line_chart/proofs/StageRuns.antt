-- What writing a stage reads of the run: the stock on its path, and its machines.
use Rattle.std.proofs.Common.{◌≡◌, ℕ, ◌+◌, ◌<◌, List, [], ◌∷◌, ◌++◌, length, map, get_or, sym, ap, ◌∙◌, arith}
use Rattle.std.specs.Prelude.{Vec, vec_len}
use Rattle.std.specs.Global.{Global}
use Rattle.std.specs.List.{range_with_len}
use Rattle.std.proofs.lemmas.List.FromFn.{length-map-range_with_len, get_or-map-range_with_len, map-range_with_len_more}
use Rattle.plant_model.specs.declared.plant.Plant.{Plant}
use Rattle.plant_model.specs.Line.{path_stock}
use Rattle.line_chart.specs.DateTable.{path_stocks}

-- the stock of a stage is there, and is what is read
pub stocks-inside : (p : Plant) (stocks : Vec ℕ Global) (i : ℕ) → stocks.items ≡ path_stocks p → i < length p.stages → i < vec_len stocks
stocks-inside p stocks i are below =
    omega (arith, stocks.ok.0, ap length are, length-map-range_with_len (path_stock p) 0 (length p.stages))

pub stock-read : (p : Plant) (stocks : List ℕ) (i x : ℕ) → stocks ≡ path_stocks p → i < length p.stages → x ≡ get_or stocks i x → x ≡ path_stock p i
stock-read p stocks i x are below read =
    read ∙ ap (λ l. get_or l i x) are ∙ get_or-map-range_with_len (path_stock p) 0 (length p.stages) i i x below (omega arith)

-- one stock more
pub stocks-more : (p : Plant) (n : ℕ) (stocks more : List ℕ) (x : ℕ) → stocks ≡ map (path_stock p) (range_with_len 0 n) → more ≡ stocks ++ x ∷ [] → x ≡ path_stock p n → more ≡ map (path_stock p) (range_with_len 0 (n + 1))
stocks-more p n stocks more x are added is =
    added ∙ ap (λ l. l ++ x ∷ []) are ∙ ap (λ y. map (path_stock p) (range_with_len 0 n) ++ y ∷ []) is ∙ sym (map-range_with_len_more (path_stock p) 0 n n (omega arith))
