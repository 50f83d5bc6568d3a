use Rattle.olr_route.proofs.Common.{IsLeastLength, Search, None, subst, sym, ap, ◌∙◌, arith, ◌+◌, ◌-◌}
use Rattle.olr_route.proofs.SharedRoutes.{along, least_within, none_through, least_moved, none_moved}
use Rattle.olr_route.proofs.reach.Reach.length_from.Goals as goal

pub returns-then-not-is_open_up_to : goal.returns-then-not-is_open_up_to
returns-then-not-is_open_up_to c =
    none_through _ _ _ _ _ (λ is. absurd
    (cc (
      (rw c.search-search.ensures at c.is_open_up_to.ensures).1 is,
      c.if-not-is_open_up_to.true,
    )))

pub returns-then-is_ahead : goal.returns-then-is_ahead
returns-then-is_ahead c =
    let self = c.args.self.now in
    let ahead = c.is_ahead.ensures.0 c.if-is_ahead.true in
    least_within _ _ _ _ _ (0 + (c.args.to.at - c.args.from.at))
    (subst (λ n. IsLeastLength c.args.map.now self.class c.args.from c.args.to n) (omega arith)
    (along _ _ _ _ self.limit ahead.0 ahead.1 c.requires.on_map
    ((rw c.search-search.ensures at c.is_open_up_to.ensures).0 c.if-not-is_open_up_to.false)))
    _ (rw (c.from.ensures, c.search-search.ensures) at c.sum_within.ensures)

pub returns-in_default : goal.returns-in_default
returns-in_default c =
    let self = c.args.self.now in
    let ask : Search = record {
      map = c.args.map;
      class = self.class;
      from = self.from;
      limit =
          self.limit;
      goals = None;
    } in
    none_moved ask _ _ c.sound.ensures c.requires.held.from_map c.requires.from c.requires.serves
    (λ same less. absurd (cc (c.is_ahead.ensures.1 (same, less), c.if-is_ahead.false)))
    (rw (sym (c.length_to.ensures ∙ ap (λ t. t c.args.to.line) (c.starts.ensures c.args.map.now))
    ∙ c.in_default.is)
    at (c.requires.held.each c.args.to.line c.requires.covers))

pub returns : goal.returns
returns c =
    let self = c.args.self.now in
    let ask : Search = record {
      map = c.args.map;
      class = self.class;
      from = self.from;
      limit =
          self.limit;
      goals = None;
    } in
    least_within _ _ _ _ _ _
    (least_moved ask _ _ c.sound.ensures c.requires.held.from_map c.requires.from c.requires.serves
    (λ same less. absurd (cc (c.is_ahead.ensures.1 (same, less), c.if-is_ahead.false)))
    ((rw c.search-search.ensures at c.is_open_up_to.ensures).0 c.if-not-is_open_up_to.false) _
    (rw (sym (c.length_to.ensures ∙ ap (λ t. t c.args.to.line) (c.starts.ensures c.args.map.now))
    ∙ c.in-Some.is)
    at (c.requires.held.each c.args.to.line c.requires.covers)).0)
    _ (rw (
      c.from-2.ensures,
      c.from-3.ensures,
      c.rest_of_line.ensures,
      c.rest_of_line-2.ensures,
      c.search-search.ensures,
    ) at c.sum_within-2.ensures)
