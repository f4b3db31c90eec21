-- The texts of small answers, against texts that were written by hand.
use Rattle.std.specs.Prelude.{◌≡◌, ℕ, [], ◌∷◌, codes, pos, true, false, refl}
use Rattle.std.specs.Fmt.{digits}
use Rattle.line_base.specs.declared.times.Times.TheVariants.{Fixed}
use Rattle.line_base.specs.declared.event.Arc.{Arc}
use Rattle.line_base.specs.declared.event.Parts.{Parts}
use Rattle.event_graph.specs.Network.{delay, time}
use Rattle.event_graph.specs.Term.{work}
use Rattle.cycle_time.specs.declared.certificate.Certificate.{Certificate}
use Rattle.card_sizing.specs.declared.sizing.Below.TheVariants.{Lowest, Job, Dead}
use Rattle.what_if.specs.Page.{Page}
use Rattle.answers.specs.Answer.{answer_bytes}
use Rattle.answers.specs.declared.answer.Answer.TheVariants.{Stopped}
use Rattle.answers.specs.CycleText.{cycle_text}
use Rattle.card_sizing.specs.declared.each.EachSizing.{EachSizing}
use Rattle.answers.specs.EachCardsText.{each_cards_text}
use Rattle.answers.specs.CardsText.{cards_text}
use Rattle.answers.specs.ChangesText.{lines_of_date, lines_of_station, change_lines, changes_text}

-- an arc without a delay
abbrev arc_of : ℕ → ℕ → ℕ → Arc
arc_of from to tokens = record { from = from; to = to; tokens = tokens; worked = false }

abbrev worked : ℕ → ℕ → ℕ → Arc
worked from to tokens = record { from = from; to = to; tokens = tokens; worked = true }

-- a cell with the machines a, of time 3, and b, of time 4 with 2 servers, and two cards
abbrev cell : Parts
cell = record {
  labels = codes "feed" ∷ codes "cell" ∷ codes "cell.a" ∷ codes "cell.b" ∷ codes "deliver" ∷ [];
  times = Fixed 0 ∷ Fixed 0 ∷ Fixed 3 ∷ Fixed 4 ∷ Fixed 0 ∷ [];
  dates = 0 ∷ [];
  arcs =
      worked 1 2 0
      ∷ worked 2 2 1 ∷ arc_of 2 2 1 ∷ worked 2 3 0
      ∷ worked 3 3 2 ∷ arc_of 3 3 1 ∷ arc_of 3 4 2
      ∷ arc_of 0 4 0 ∷ arc_of 4 1 0
      ∷ [];
  delays = 0 ∷ 0 ∷ 0 ∷ 0 ∷ 0 ∷ 0 ∷ 0 ∷ 0 ∷ 0 ∷ [];
}

-- its certificate, whose circuit was found from its last station on
abbrev certificate : Certificate
certificate = record {
  time = 7;
  cards = 2;
  circuit = 8 ∷ 0 ∷ 3 ∷ 6 ∷ [];
  potentials = pos 0 ∷ pos 0 ∷ pos 6 ∷ pos 14 ∷ pos 0 ∷ [];
}

cell_text : cycle_text cell certificate (1 ∷ 2 ∷ 3 ∷ 4 ∷ []) ≡ codes "cycle 7/2\ncircuit cell cell.a cell.b deliver time 7 cards 2\npotential feed 0\npotential cell 0\npotential cell.a 6\npotential cell.b 14\npotential deliver 0\n"
unfolding digits delay time work
cell_text = refl

waits_text : cards_text (record { cards = 3; below = Job 3 1; tries = 14 }) ≡ codes "cards 3\nbelow job 3 waits 1\n"
unfolding digits
waits_text = refl

lowest_text : cards_text (record { cards = 1; below = Lowest; tries = 15 }) ≡ codes "cards 1\nbelow none\n"
unfolding digits
lowest_text = refl

dead_text : cards_text (record { cards = 1; below = Dead (codes "cut" ∷ codes "cut.saw" ∷ codes "weld" ∷ []); tries = 15 }) ≡ codes "cards 1\nbelow dead cut cut.saw weld\n"
unfolding digits
dead_text = refl

-- a line of two stations and three jobs; after an edit two dates of the second differ
abbrev page : Page
page = record {
  live = record { graph = record cell { labels = codes "feed" ∷ codes "weld.torch" ∷ []; dates = 0 ∷ 2 ∷ 4 ∷ [] }; ranks = 0 ∷ 1 ∷ [] };
  inputs = record { times = []; demands = 0 ∷ 2 ∷ 4 ∷ [] };
  first = (0 ∷ 2 ∷ 4 ∷ []) ∷ (5 ∷ 10 ∷ 15 ∷ []) ∷ [];
  dates = (0 ∷ 2 ∷ 4 ∷ []) ∷ (5 ∷ 13 ∷ 18 ∷ []) ∷ [];
  marks = [];
  evaluations = 2;
}

edited_text : changes_text page ≡ codes "weld.torch 2 10 13\nweld.torch 3 15 18\nchanged 2\n"
unfolding changes_text change_lines lines_of_station lines_of_date digits
edited_text = refl

unchanged_text : changes_text (record page { dates = page.first }) ≡ codes "changed 0\n"
unfolding changes_text change_lines lines_of_station lines_of_date digits
unchanged_text = refl

-- a run that stopped
stopped_line : answer_bytes (Stopped 96) ≡ codes "stopped 96\n"
unfolding digits
stopped_line = refl

-- what `cards --each` writes of two stages
abbrev two_stages : EachSizing
two_stages =
    record {
      stages =
          record { stage = codes "cut"; cards = 1; below = Dead (codes "cut" ∷ codes "cut.saw" ∷ codes "weld" ∷ []) }
          ∷ record { stage = codes "weld"; cards = 2; below = Job 3 6 }
          ∷ [];
      total = 3;
      tries = 20;
    }

each_stage_text : each_cards_text two_stages ≡ codes "cards cut 1 below dead cut cut.saw weld\ncards weld 2 below job 3 waits 6\ntotal 3\n"
unfolding digits
each_stage_text = refl
