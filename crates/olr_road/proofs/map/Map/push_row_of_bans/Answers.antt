use Rattle.olr_road.proofs.Common.{ban_of, ban_fields, ◌-◌, get_or, arith, codes, string_bytes, slice_get-get_or}
use Rattle.olr_road.proofs.CanonicalRows.{row_added}
use Rattle.olr_road.proofs.map.Map.push_row_of_bans.Goals as goal

pub returns-in_ok-push_ban : goal.returns-in_ok-push_ban
returns-in_ok-push_ban c =
    let road = c.args.self.now in
    let place = c.args.number - 1 in
    row_added (ban_fields road.lines) (codes "bans") road.bans c.args.number
    (get_or road.bans place (ban_of 0 0)) (string_bytes c.args.text.now) (λ none. omega arith)
    (slice_get-get_or road.bans place (ban_of 0 0) (omega arith))
    (cc (c.in_ok-push_ban.ensures, c.bans-bans.ensures.bans))
