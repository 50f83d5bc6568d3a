-- A ban is among those of a map where its key is.
use Rattle.olr_road.proofs.Common.{Ban, RoadLine, ban_key, ban_keys, IsAdjacent, AreSoundBans, ◌≡◌, Bool, ℕ, ◌<◌, List, length, get_or, Option, Some, None, sym, ◌∙◌, arith, MatchBool, MatchOption, is_some, slice_get, Contains, length-map, get_or-map, All-get_or, Contains-get_or, get_or_from_slice_get, slice_get_within}

-- two bans of one key are one
key_once : (a b : Ban) → a.to < 4294967296 → b.to < 4294967296 → ban_key a ≡ ban_key b → a ≡ b
key_once a b few other same = grind arith

-- a ban that is there
pub has_key : (bans : List Ban) (ban : Ban) → Contains bans ban
    → Contains (ban_keys bans) (ban_key ban)
has_key bans ban contains = grind (arith, get_or-map, Contains-get_or, length-map)

-- a ban whose key is there
pub has_ban : (lines : List RoadLine) (bans : List Ban) (ban : Ban) (rank : ℕ)
    → AreSoundBans lines bans → length lines < 4294967296 → ban.to < 4294967296
    → slice_get (ban_keys bans) rank ≡ Some (ban_key ban) → Contains bans ban
has_ban lines bans ban rank sound few to there =
    let keys = ban_keys bans in
    let size = length-map bans ban_key in
    let inside : rank < length bans =
    omega (arith, slice_get_within keys rank (ban_key ban) there) in
    let found = get_or bans rank ban in
    let meets = All-get_or (IsAdjacent lines) _ _ ban inside sound.each in
    rw (← (key_once _ _ (omega (arith, slice_get_within lines found.to meets.second meets.to)) to
    (sym (get_or-map ban_key _ _ ban 0 inside) ∙ get_or_from_slice_get keys rank _ 0 there)))
    (Contains-get_or _ _ _ inside)

-- whether a ban is there, by a search for its key
pub is_there : (lines : List RoadLine) (bans : List Ban) (ban : Ban) (found : Option ℕ)
    → AreSoundBans lines bans → length lines < 4294967296 → ban.to < 4294967296
    → MatchOption found (Contains (ban_keys bans) (ban_key ban) → ⊥)
    (λ rank. slice_get (ban_keys bans) rank ≡ Some (ban_key ban))
    → MatchOption found (Contains bans ban → ⊥) (λ _. Contains bans ban)
is_there lines bans ban None sound few to none = λ contains. none (has_key _ _ contains)
is_there lines bans ban (Some rank) sound few to there = has_ban _ _ _ _ sound few to there

pub answered : (P : Type 0) (found : Option ℕ) {answer : Bool} → answer ≡ is_some found
    → MatchOption found (P → ⊥) (λ _. P) → MatchBool answer P (P → ⊥)
answered P None is none = rw is none
answered P (Some rank) is there = rw is there
