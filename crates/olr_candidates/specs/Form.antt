-- What a line adds to the penalty where its form of way isn't the point's. The numbers are this
-- project's choice.
use Rattle.std.specs.Prelude.{ℕ, Bool, ◌&&◌, ◌||◌, ◌==◌, if◌then◌else◌}

-- two forms that are easily taken for each other, in this order: a motorway for a road of several
-- carriageways, this for one of a single carriageway, this for a slip road, and a roundabout for a
-- traffic square
abbrev pub is_like : ℕ → ℕ → Bool
is_like a b = a == 1 && b == 2 || a == 2 && b == 3 || a == 3 && b == 6 || a == 4 && b == 5

-- nothing where they are the same, 10 where one is undefined, 15 where they are like each other,
-- else 30
abbrev pub form_penalty : ℕ → ℕ → ℕ
form_penalty a b =
    if a == b then 0 else
    if a == 0 || b == 0 then 10 else
    if is_like a b || is_like b a then 15 else 30
