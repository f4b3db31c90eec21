-- Texts by the definitions, compared with texts that were written by hand.
use Rattle.std.proofs.Common.{◌≡◌, [], ◌∷◌, refl, true, false}
use Rattle.std.specs.Prelude.{codes}
use Rattle.std.specs.Fmt.{digits}
use Rattle.line_base.specs.declared.event.Parts.{Parts}
use Rattle.line_base.specs.declared.times.Times.TheVariants.{Fixed as FixedTime}
use Rattle.event_graph.specs.Network.{delay}
use Rattle.event_graph.specs.State.{State}
use Rattle.checkpoint.specs.declared.format.Format.TheVariants.{Dates, Differences}
use Rattle.checkpoint.specs.Text.{date_words, dates_text, delayed_arcs, delays_line, station_words, place_words, station_lines, place_lines, lines, lines_text, text}

three_dates : dates_text Differences (0 ∷ 5 ∷ 10 ∷ []) ≡ codes "3 0 5 5\n"
unfolding dates_text date_words digits
three_dates = refl

three_dates_as_they_are : dates_text Dates (0 ∷ 5 ∷ 10 ∷ []) ≡ codes "3 0 5 10\n"
unfolding dates_text date_words digits
three_dates_as_they_are = refl

an_earlier_date : dates_text Differences (7 ∷ 3 ∷ 3 ∷ []) ≡ codes "3 7 -4 0\n"
unfolding dates_text date_words digits
an_earlier_date = refl

no_date : dates_text Differences [] ≡ codes "0\n"
unfolding dates_text date_words digits
no_date = refl

-- a feed and a station `cut`, with three arcs, two of which have a delay
sample : Parts
sample = record {
  labels = codes "feed" ∷ codes "cut" ∷ [];
  times = FixedTime 0 ∷ FixedTime 3 ∷ [];
  dates = 0 ∷ 2 ∷ [];
  arcs =
      record { from = 0; to = 1; tokens = 0; worked = true }
      ∷ record { from = 1; to = 1; tokens = 1; worked = true }
      ∷ record { from = 1; to = 1; tokens = 2; worked = false }
      ∷ [];
  delays = 4 ∷ 0 ∷ 1 ∷ [];
}

-- the feed has fired twice, and `cut` once
some_firings : State
some_firings = record {
  logs = (0 ∷ 2 ∷ []) ∷ (7 ∷ []) ∷ [];
  places = (6 ∷ []) ∷ (7 ∷ []) ∷ (0 ∷ 8 ∷ []) ∷ [];
}

a_whole_text : text Differences sample some_firings ≡ codes "pull-checkpoint 2\ndelays 2 0 4 2 1\nstation feed 2 0 2\nstation cut 1 7\nplace 0 1 6\nplace 1 1 7\nplace 2 2 0 8\nend\n"
unfolding sample some_firings lines_text lines station_lines place_lines station_words place_words delays_line delayed_arcs delay dates_text date_words digits
a_whole_text = refl

a_whole_text_as_it_is : text Dates sample some_firings ≡ codes "pull-checkpoint 1\nstation feed 2 0 2\nstation cut 1 7\nplace 0 1 6\nplace 1 1 7\nplace 2 2 0 8\nend\n"
unfolding sample some_firings lines_text lines station_lines place_lines station_words place_words dates_text date_words digits
a_whole_text_as_it_is = refl
