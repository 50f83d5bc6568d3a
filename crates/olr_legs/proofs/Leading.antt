-- Walks that lead on from a place to where the walks of a search end.
use Rattle.std.proofs.Common.{ℕ, ◌+◌, ◌≤◌, List, ◌∷◌, arith}
use Rattle.std.proofs.lemmas.List.Elements.{All-cons}
use Rattle.olr_road.specs.declared.place.Place.{Place}
use Rattle.olr_route.specs.Steps.{rest_of_line}
use Rattle.olr_route.specs.Turn.{IsOpen, IsTurn}
use Rattle.olr_route.specs.Walk.{pieces_of, start_of}
use Rattle.olr_legs.specs.Avoiding.{IsClearOf}
use Rattle.olr_legs.specs.Search.{LeadsOn, piece_to_end}
use Rattle.olr_legs.specs.declared.search.Search.{Search}
use Rattle.olr_legs.proofs.Walks.{lead_more, rest_more}

-- over the rest of a line, and then by a walk from the start of one that may follow
pub leads_from : (search : Search) (place : Place) (line long : ℕ) (rest : List ℕ)
    → LeadsOn search (start_of line) long rest → IsTurn search.map.now place.line line
    → IsOpen search.map.now search.reach.now.class place.line
    → IsClearOf search.shut.now (piece_to_end search.map.now place.line place.at)
    → rest_of_line search.map.now place + long ≤ search.bound
    → LeadsOn search place (rest_of_line search.map.now place + long) (line ∷ rest)
leads_from search place line long rest leads turn opened clear within = record {
  on = lead_more place opened turn leads.on;
  clear = All-cons (IsClearOf search.shut.now) (piece_to_end search.map.now place.line place.at)
      (pieces_of search.map.now (start_of line) search.to rest) clear leads.clear;
  long = omega (arith, rest_more search.map.now place search.to line rest, leads.long);
  within = within;
}
