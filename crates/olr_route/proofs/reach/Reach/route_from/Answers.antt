use Rattle.olr_route.proofs.Common.{Search, None, ap, sym, ◌∙◌}
use Rattle.olr_route.proofs.SharedRoutes.{route_followed}
use Rattle.olr_route.proofs.reach.Reach.route_from.Goals as goal

pub lines_on_shortest_paths-requires-clause-within : goal.lines_on_shortest_paths-requires-clause-within
lines_on_shortest_paths-requires-clause-within c =
    rw c.search-search.ensures (λ line length known.
    (c.requires.held.sound line length (sym (ap (λ t. t line) (c.starts.ensures c.args.map.now))
    ∙ known)).0)

pub follow-requires-clause-groups : goal.follow-requires-clause-groups
follow-requires-clause-groups c =
    let paths = rw (c.search-search.ensures, c.starts.ensures c.args.map.now) at
    c.in_ok-groups.ensures in
    rw c.search-search.ensures (λ node len line among.
    let on = paths.only node len line among in (on.0, (c.requires.held.sound line len on.1.0).0))

pub returns : goal.returns
returns c =
    let self = c.args.self.now in
    let ask : Search = record {
      map = c.args.map;
      class = self.class;
      from = self.from;
      limit =
          self.limit;
      goals = None;
    } in
    route_followed ask _ _ c.sound.ensures c.requires.held.from_map c.requires.from
    c.requires.serves
    (λ same less. absurd (cc (c.is_ahead.ensures.1 (same, less), c.if-is_ahead.false))) _
    (c.requires.held.each c.args.to.line c.requires.covers)
    (c.requires.held.walks c.args.to.line c.requires.covers)
    _ c.in-Some.ensures _ (rw (c.search-search.ensures, c.starts.ensures c.args.map.now) at
    c.in_ok-groups.ensures)
    _ (rw c.search-search.ensures at c.in_ok-pieces.ensures)
